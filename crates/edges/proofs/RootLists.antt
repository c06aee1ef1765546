-- The outcome of `root_list`, by what its checks and the call for the leaves find; and the room that a root's edges take.
-- Assumes nothing.
use Rattle.std.specs.Prelude.{Ok, Err, Result}
use Prim.Native.Nat.{ℕ, ◌+◌, ◌*◌, ◌/◌, ◌^◌, ◌≤◌, ◌<◌, zero-le}
use mathlib.Core.Bool.{true, false}
use mathlib.Core.List.{List, ◌++◌, map, Memᴰ}
use mathlib.Core.Path.{◌≡◌, refl, sym, ap, ◌∙◌, subst}
use native.Mathlib.Nat.{two-pow-succ}
use native.Mathlib.Omega.{arith}
use borrow.Author.Tests.{le-leb, lt-leb, eq-eqb, ne_eqb}
use lib.ListN.{length, get_or}
use lib.Seq.{sets}
use Rattle.def.specs.Answers.{after_checks}
use Rattle.def.specs.Picture.{size_ok}
use Rattle.def.specs.Answers.{Answer}
use Rattle.def.specs.declared.Refusal.{Refusal}
use Rattle.def.specs.declared.Refusal.TheVariants.{Size, Length}
use Rattle.def.proofs.Answers.{number_some}
use Rattle.laws.specs.Call.{Gives}
use Rattle.laws.specs.Orders.{each}
use Rattle.split.specs.Edges.{Edge, edges_of, edge_numbers, pass_of}
use Rattle.split.specs.LeavesCall as leaves-call
use Rattle.split.specs.Picture.{root_bytes, root_x, root_y}
use Rattle.split.specs.RootCall as root-call
use Rattle.split.specs.RootCall.{leaf_down}
use Rattle.split.specs.Stored.{area, leaf_from, leaves_from, Ready}
use Rattle.split.specs.Walk.{Leaf, walk}
use Rattle.split.proofs.Area.{area_append}
use Rattle.split.proofs.Callers.{Told, leaves_told, from_in}
use Rattle.split.proofs.Demand3.{edges_twice}
use Rattle.split.proofs.Induct.{Cases, walk_ind}
use Rattle.split.proofs.Tiling.{sound}
use Rattle.edges.specs.Put.{Put, ReadyAt}

pub ready_zero : {list : List ℕ} {n : ℕ} → Ready list n → ReadyAt 0 list n
ready_zero r =
    record {
      long = r.long;
      leaves = λ j h. let l = r.leaves j h in record { column = l.column; row = omega (arith, l.row); units = l.units; some = l.some; right = l.right; bottom = omega (arith, l.bottom) };
    }

-- ---- the units of a block's leaves

module _ (s : List ℕ) (w h : ℕ) where
  abbrev Few : ℕ → ℕ → ℕ → List Leaf → Type 0
  Few k x y l = area l ≤ 2 ^ k * 2 ^ k

  four : (n a b c d e m : ℕ) → m ≡ n + n → e ≡ a + (b + (c + d)) → a ≤ n * n → b ≤ n * n → c ≤ n * n → d ≤ n * n → e ≤ m * m
  four n a b c d e m p q f g i j = let r : m * m ≡ (n + n) * (n + n) = ap (λ (k : ℕ). k * k) p in omega arith

  few_cases : Cases s w h Few
  few_cases = record {
    skip = λ k x y o. zero-le;
    unit = λ x y f g. omega arith;
    whole = λ k x y z f g. omega arith;
    cut = λ k x y l₀ l₁ l₂ l₃ z c₀ c₁ c₂ c₃. four (2 ^ k) (area l₀) (area l₁) (area l₂) (area l₃) _ _ (two-pow-succ k)
        (omega (arith, area_append l₀ (l₁ ++ (l₂ ++ l₃)), area_append l₁ (l₂ ++ l₃), area_append l₂ l₃)) c₀ c₁ c₂ c₃;
  }

  pub block_few : (k x y : ℕ) → (walk s w h k x y).answer ≡ Ok tt → area (walk s w h k x y).list ≤ 2 ^ k * 2 ^ k
  block_few = walk_ind s w h Few few_cases

-- ---- the outcome

-- the call for the root's leaves, which fills a list of 768
abbrev pub leaves_input : root-call.Input → List ℕ → leaves-call.Input
leaves_input i list = record { w = i.w; h = i.h; splits = i.splits; x = i.x; y = i.y; out = list }

-- the checks before that call passed
pub record Early (i : root-call.Input) : Type 0 where
  pub size : size_ok i.w i.h ≡ true
  pub high : i.top + i.h / 4 ≤ 1024
  pub long : length i.out ≡ 512

module _ (i : root-call.Input) where
  pub size_refused : size_ok i.w i.h ≡ false → Gives root-call.outcome i (leaves-call.after (Err Size) i.out)
  unfolding root-call.outcome root-call.check_of
  size_refused e = rw e

  pub top_refused : size_ok i.w i.h ≡ true → 1024 < i.top + i.h / 4 → Gives root-call.outcome i (leaves-call.after (Err Size) i.out)
  unfolding root-call.outcome root-call.check_of
  top_refused e g = rw (e, lt-leb (i.top + i.h / 4) 1024 g)

  pub long_refused : size_ok i.w i.h ≡ true → i.top + i.h / 4 ≤ 1024 → (length i.out ≡ 512 → ⊥) → Gives root-call.outcome i (leaves-call.after (Err Length) i.out)
  unfolding root-call.outcome root-call.check_of
  long_refused e g n = rw (e, le-leb (i.top + i.h / 4) 1024 g, ne_eqb (length i.out) 512 n)

  module _ (early : Early i) where
    check_is : root-call.check i ≡ leaves-call.check_of i.w i.h i.splits i.x i.y 768
    unfolding root-call.check_of
    check_is = rw (early.size, le-leb (i.top + i.h / 4) 1024 early.high, eq-eqb (length i.out) 512 early.long)

    refused_as : (k : Answer) (q : Refusal) (j : leaves-call.Input) (o : List ℕ) → leaves-call.after (Err q) o ≡ after_checks (leaves-call.refused j) (leaves-call.done j) k
        → leaves-call.after (Err q) i.out ≡ after_checks (root-call.refused i) (root-call.done i) k
    refused_as (Ok _) q j o e = absurd (omega (arith, number_some q, ap (λ (p : leaves-call.Outcome). p.reading.number) e))
    refused_as (Err r) q j o e = ap (λ (p : leaves-call.Outcome). record { reading = p.reading; out = i.out }) e

    done_as : (k : Answer) (j : leaves-call.Input) (n : ℕ) (o : List ℕ) → leaves-call.after (Ok n) o ≡ after_checks (leaves-call.refused j) (leaves-call.done j) k → k ≡ Ok tt
    done_as (Ok _) j n o e = refl
    done_as (Err r) j n o e = absurd (omega (arith, number_some r, ap (λ (p : leaves-call.Outcome). p.reading.number) e))

    pub leaves_refused : (list o : List ℕ) (r : Result ℕ Refusal) (q : Refusal) → length list ≡ 768 → Gives leaves-call.outcome (leaves_input i list) (leaves-call.after r o) → r ≡ Err q
        → Gives root-call.outcome i (leaves-call.after (Err q) i.out)
    unfolding root-call.outcome leaves-call.outcome
    leaves_refused list o r q room g e =
        refused_as (leaves-call.check_of i.w i.h i.splits i.x i.y 768) q (leaves_input i list) o
        (ap (λ (a : Result ℕ Refusal). leaves-call.after a o) (sym e) ∙ g
        ∙ ap (λ (n : ℕ). after_checks (leaves-call.refused (leaves_input i list)) (leaves-call.done (leaves_input i list))
        (leaves-call.check_of i.w i.h i.splits i.x i.y n)) room)
        ∙ ap (after_checks (root-call.refused i) (root-call.done i)) (sym check_is)

    module _ (list o : List ℕ) (r : Result ℕ Refusal) (n : ℕ) (room : length list ≡ 768) (g : Gives leaves-call.outcome (leaves_input i list) (leaves-call.after r o)) (e : r ≡ Ok n) where
      abbrev t : Told (leaves_input i list) o n
      t = leaves_told (leaves_input i list) o n (ap (λ (a : Result ℕ Refusal). leaves-call.after a o) (sym e) ∙ g)

      abbrev at : ℕ
      at = leaves-call.root_index i.w i.x i.y

      -- a leaf's rows lie in the picture
      lower : (j : ℕ) → j < n → get_or o (3 * j + 1) 0 + 4 * i.top + get_or o (3 * j + 2) 0 ≤ 4096
      lower j h =
          let l = t.leaves.leaves j h in
          let m = subst (Memᴰ (leaf_from o j)) t.back (from_in o n j h) in
          let d = sound (root_bytes i.splits at) (i.w / 4) (i.h / 4) 4 (root_x (i.w / 4) at) (root_y (i.w / 4) at) t.passed.walked (leaf_from o j) m in
          omega (arith, l.row, l.units, d.rows, early.high)

      -- what writing the edges asks
      pub root_ready : ReadyAt i.top o n × (0 + 2 * area (leaves_from o n) ≤ length i.out)
      root_ready = (
        record {
          long = t.leaves.long;
          leaves = λ j h. let l = t.leaves.leaves j h in record { column = l.column; row = omega (arith, l.row); units = l.units; some = l.some; right = l.right; bottom = lower j h };
        },
        omega (arith, early.long, ap area t.back, block_few (root_bytes i.splits at) (i.w / 4) (i.h / 4) 4 (root_x (i.w / 4) at) (root_y (i.w / 4) at) t.passed.walked),
      )

      fine : leaves-call.check_of i.w i.h i.splits i.x i.y 768 ≡ Ok tt
      unfolding leaves-call.outcome
      fine = done_as _ (leaves_input i list) n o (ap (λ (a : Result ℕ Refusal). leaves-call.after a o) (sym e) ∙ g
          ∙ ap (λ (b : ℕ). after_checks (leaves-call.refused (leaves_input i list)) (leaves-call.done (leaves_input i list))
          (leaves-call.check_of i.w i.h i.splits i.x i.y b)) room)

      pub root_done : (out : List ℕ) (k : ℕ) → Put (each edge_numbers (edges_of (pass_of i.horizontal) i.halved (map (leaf_down i.top) (leaves_from o n)))) i.out 0 out k
          → Gives root-call.outcome i (leaves-call.after (Ok (k / 2)) out)
      unfolding root-call.outcome
      root_done out k z =
          let es = edges_of (pass_of i.horizontal) i.halved (map (leaf_down i.top) (leaves_from o n)) in
          let half : k / 2 ≡ length es = omega (arith, z.count, edges_twice es) in
          let same : es ≡ root-call.edges_at i = ap (λ (l : List Leaf). edges_of (pass_of i.horizontal) i.halved (map (leaf_down i.top) l)) t.back in
          (λ j. leaves-call.after (Ok (half j)) (z.put j)) ∙ ap (λ (l : List Edge). leaves-call.after (Ok (length l)) (sets i.out 0 (each edge_numbers l))) same
          ∙ ap (after_checks (root-call.refused i) (root-call.done i)) (sym (check_is ∙ fine))
