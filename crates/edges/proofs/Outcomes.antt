-- The outcome of `list_edges`, by what its checks find.
-- Assumes nothing.
use Rattle.std.specs.Prelude.{Ok, Err}
use mathlib.Core.Bool.{true}
use mathlib.Core.List.{List, [], ◌∷◌}
use mathlib.Core.Path.{◌≡◌}
use Prim.Native.Nat.{ℕ, ◌*◌, ◌/◌}
use native.Mathlib.Omega.{arith}
use borrow.Author.Tests.{eqb-true}
use lib.Dec.{eqb}
use lib.ListN.{length}
use Rattle.def.specs.Picture.{size_ok, root_count, unit_count}
use Rattle.def.specs.Answers.{Answer}
use Rattle.def.specs.declared.Refusal.{Refusal}
use Rattle.def.specs.declared.Refusal.TheVariants.{Size, Length, Setting}
use Rattle.def.proofs.Answers.{on_refusal, on_done}
use Rattle.laws.specs.Call.{unless}
use Rattle.laws.specs.Orders.{each}
use Rattle.laws.proofs.Calls.{all_at}
use Rattle.split.specs.Accepted.{Accepted}
use Rattle.split.specs.Edges.{Edge, vertical, horizontal, edge_numbers}
use Rattle.split.specs.ListCall as list-call
use Rattle.split.specs.Picture.{picture_walk}
use Rattle.split.proofs.Demand3.{edges_twice}
use Rattle.split.proofs.Outcomes.{past}
use Rattle.edges.specs.Put.{Put}

pub list_lengths_told : (w h splits m n : ℕ) → list-call.lengths_ok w h splits m n ≡ true
    → (splits ≡ 1024 * root_count w h) × (m ≡ 2 * unit_count w h) × (n ≡ 2 * unit_count w h)
unfolding list-call.lengths_ok
list_lengths_told w h splits m n e =
    let l = eqb splits (1024 * root_count w h) ∷ eqb m (2 * unit_count w h) ∷ eqb n (2 * unit_count w h) ∷ [] in
    (eqb-true _ _ (all_at l 0 e), eqb-true _ _ (all_at l 1 e), eqb-true _ _ (all_at l 2 e))

-- where the checks pass
pub record Passed (w h : ℕ) (s : List ℕ) (limit m n : ℕ) : Type 0 where
  pub accepted : Accepted w h s
  pub vertical : m ≡ 2 * unit_count w h
  pub horizontal : n ≡ 2 * unit_count w h

pub list_passed : (w h : ℕ) (s : List ℕ) (limit m n : ℕ) → list-call.check_of w h s limit m n ≡ Ok tt → Passed w h s limit m n
unfolding list-call.check_of
list_passed w h s limit m n e =
    let t = list-call.lengths_ok w h (length s) m n in
    let k = (picture_walk s (w / 4) (h / 4)).answer in
    let rest = unless (list-call.limit_ok limit) (Err Setting) k in
    let a = past (size_ok w h) Size (unless t (Err Length) rest) e in
    let b = past t Length rest a.1 in
    let c = past (list-call.limit_ok limit) Setting k b.1 in
    let l = list_lengths_told w h (length s) m n b.0 in
    record { accepted = record { size = a.0; long = l.0; walked = c.1 }; vertical = l.1; horizontal = l.2 }

-- a list's end in its buffer is twice its count
counted_half : (l : List Edge) {out out₁ : List ℕ} {k : ℕ} → Put (each edge_numbers l) out 0 out₁ k → k / 2 ≡ length l
counted_half l p = omega (arith, p.count, edges_twice l)

pub list_refused : (i : list-call.Input) (a : Answer) (r : Refusal) → a ≡ list-call.check i → a ≡ Err r → list-call.after (Err r) i.vertical i.horizontal ≡ list-call.outcome i
unfolding list-call.outcome
list_refused i a r e q = on_refusal (list-call.refused i) (list-call.done i) a (list-call.check i) r e q

pub list_done : (i : list-call.Input) (a : Answer) (m n : List ℕ) (u v : ℕ) → a ≡ list-call.check i → a ≡ Ok tt
    → Put (each edge_numbers (list-call.pass_edges vertical i)) i.vertical 0 m u → Put (each edge_numbers (list-call.pass_edges horizontal i)) i.horizontal 0 n v
    → list-call.after (Ok (record { vertical = u / 2; horizontal = v / 2 })) m n ≡ list-call.outcome i
unfolding list-call.outcome
list_done i a m n u v e q p o =
    on_done (list-call.refused i) (list-call.done i) a (list-call.check i) _ e q
    (rw (counted_half (list-call.pass_edges vertical i) p, counted_half (list-call.pass_edges horizontal i) o, p.put, o.put))
