-- The list of a root's edges, as the public call leaves it: it is not refused, and what it holds.
-- Assumes nothing.
use Rattle.std.specs.Prelude.{Ok, Err, Result}
use Prim.Native.Nat.{ℕ, ◌+◌, ◌*◌, ◌/◌, ◌%◌, ◌≤◌, ◌<◌}
use mathlib.Core.Bool.{Bool}
use mathlib.Core.Path.{◌≡◌, sym, ap, ◌∙◌}
use mathlib.Core.List.{List, map}
use native.Mathlib.Omega.{arith}
use borrow.Author.Tests.{le-leb, eq-eqb}
use lib.ListN.{length}
use lib.Seq.{sets}
use Rattle.def.proofs.Sizes.{sized}
use Rattle.def.specs.Answers.{after_checks}
use Rattle.def.specs.Picture.{roots_along, root_count}
use Rattle.def.specs.declared.Refusal.{Refusal}
use Rattle.def.proofs.Answers.{number_some}
use Rattle.laws.specs.Call.{Gives}
use Rattle.laws.specs.Orders.{each}
use Rattle.split.specs.Edges.{Pass, edges_of, edge_numbers}
use Rattle.split.specs.Edges as edges
use Rattle.split.specs.Picture.{root_leaves}
use Rattle.split.specs.LeavesCall as leaves-call
use Rattle.split.specs.RootCall as root-call
use Rattle.split.proofs.Callers.{index_back, leaves_given}
use Rattle.split.proofs.Demand3.{edges_twice}
use Rattle.split.proofs.Roots.{root_column, root_row}
use Rattle.split.specs.Accepted.{Accepted}
use Rattle.df.specs.Plan.{edges_from, ListedRoot}
use Rattle.split.specs.RootCall.{leaf_down}
use Rattle.edges.specs.Put.{Put}
use Rattle.df.proofs.Plans.{list_long, read_back, read_units}
use Rattle.df.proofs.Room.{few_edges, edge_in}

module _ {w h : ℕ} {s : List ℕ} (a : Accepted w h s) (i : ℕ) (early : i < root_count w h) (hor halved : Bool) (top : ℕ) (high : top + h / 4 ≤ 1024) (out : List ℕ) (long : length out ≡ 512)
    (list : List ℕ) (r : Result ℕ Refusal) where
  -- the call for root i
  abbrev root_in : root-call.Input
  root_in = record { w = w; h = h; splits = s; x = 64 * (i % roots_along w); y = 64 * (i / roots_along w); horizontal = hor; halved = halved; top = top; out = out }

  passes : root-call.check root_in ≡ Ok tt
  unfolding root-call.check_of
  passes =
      let z = sized w h a.size in
      rw (a.size, le-leb (top + h / 4) 1024 high, eq-eqb (length out) 512 long)
      (leaves_given w h s _ _ a.size a.long a.walked (omega arith) (omega arith) (root_column z i early) (root_row z i early))

  module _ (g : Gives root-call.outcome root_in (leaves-call.after r list)) where
    given : leaves-call.after r list ≡ root-call.done root_in
    unfolding root-call.outcome
    given = g ∙ ap (after_checks (root-call.refused root_in) (root-call.done root_in)) passes

    pub list_met : (q : Refusal) → r ≡ Err q → ⊥
    list_met q e =
        let f : leaves-call.after (Err q) list ≡ root-call.done root_in = ap (λ (k : Result ℕ Refusal). leaves-call.after k list) (sym e) ∙ given in
        omega (arith, number_some q, ap (λ (p : leaves-call.Outcome). p.reading.number) f)

    pub listed_root : (d : Pass) (n : ℕ) → edges.pass_of hor ≡ d → r ≡ Ok n → ListedRoot w h s d halved top i list n
    listed_root d n e c =
        let f : leaves-call.after (Ok n) list ≡ root-call.done root_in = ap (λ (k : Result ℕ Refusal). leaves-call.after k list) (sym c) ∙ given in
        let es = edges_of d halved (map (leaf_down top) (root_leaves s (w / 4) (h / 4) i)) in
        let same : root-call.edges_at root_in ≡ es = (λ j. edges_of (e j) halved (map (leaf_down top) (root_leaves s (w / 4) (h / 4) (index_back w i j)))) in
        let counted : n ≡ length es = ap (λ (p : leaves-call.Outcome). p.reading.count) f ∙ ap length same in
        let held : list ≡ sets out 0 (each edge_numbers es) = ap (λ (p : leaves-call.Outcome). p.out) f ∙ ap (λ (l : List edges.Edge). sets out 0 (each edge_numbers l)) same in
        let q : Put (each edge_numbers es) out 0 list (2 * n) = record { count = omega (arith, edges_twice es, counted); put = held } in
        let half : 2 * n / 2 ≡ n = omega arith in
        let few = few_edges w h s a i early d halved top in
        record {
          long = list_long es few long q;
          few = omega (arith, counted, few);
          same = ap (edges_from list) (sym half) ∙ read_back es few long q;
          units = λ k g. read_units es few long q d (w / 4) top (top + h / 4) (edge_in w h s a i early d halved top) k (omega (arith, half));
        }
