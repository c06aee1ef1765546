-- The loop over a block's four parts: what is stored after i of them, and what the next one asks.
-- Assumes nothing.
use Rattle.std.specs.Prelude.{Ok, Err, Result}
use mathlib.Core.List.{List}
use mathlib.Core.Path.{◌≡◌, refl, sym, ap, ◌∙◌, subst}
use Prim.Native.Nat.{ℕ, suc, ◌+◌, ◌-◌, ◌*◌, ◌/◌, ◌%◌, ◌≤◌, ◌<◌}
use native.Mathlib.Nat.{mul-le-mul_right}
use native.Mathlib.Numerals.{add-one}
use native.Mathlib.Omega.{arith}
use Rattle.def.specs.declared.Refusal.{Refusal}
use Rattle.split.specs.Stored.{Block, Stored}
use Rattle.split.specs.Walk.{in_turn, walk}
use Rattle.split.proofs.Blocks.{part_of, Cut}
use Rattle.split.proofs.Stores.{stored_nothing, stored_as, stored_then, stored_done, stored_stop}
use Rattle.split.proofs.Walks.{turn_none, turn_more, turn_stop}

-- i parts are stored
pub record Turned (s : List ℕ) (w h x y level : ℕ) (out₀ : List ℕ) (n : ℕ) (out : List ℕ) (i count : ℕ) : Type 0 where
  pub stored : Stored (in_turn (part_of s w h x y level) i) out₀ n out (Ok count)

pub no_part : (s : List ℕ) (w h x y level : ℕ) (out : List ℕ) (n : ℕ) → Turned s w h x y level out n out 0 n
no_part s w h x y level out n = record { stored = stored_as (turn_none (part_of s w h x y level)) (stored_nothing out n) }

module _ {s : List ℕ} {w h x y side level half : ℕ} (k : Cut s w h x y side level half) where
  pub part_block : (i px py : ℕ) → i < 4 → px ≡ x + i % 2 * half → py ≡ y + i / 2 * half → Block w h px py half (level + 1)
  part_block i px py l e f = rw (e, f) (k.block i l)

  module _ {out₀ : List ℕ} {n : ℕ} {out : List ℕ} {i count : ℕ} (d : Turned s w h x y level out₀ n out i count) where
    pub part_room : (m : ℕ) → i < 4 → 3 * (n + side / 4 * (side / 4)) ≤ m → 3 * (count + half / 4 * (half / 4)) ≤ m
    part_room m l r =
        omega (arith, (stored_done d.stored count refl).1, k.few i, k.quarter, mul-le-mul_right {m = i + 1} {n = 4} (half / 4 * (half / 4)) (omega arith))

    -- one more
    module _ (px py : ℕ) (e : px ≡ x + i % 2 * half) (f : py ≡ y + i / 2 * half) (out₁ : List ℕ) (r : Result ℕ Refusal)
        (g : Stored (walk s (w / 4) (h / 4) (4 - (level + 1)) (px / 4) (py / 4)) out count out₁ r) where
      next : Stored (in_turn (part_of s w h x y level) (suc i)) out₀ n out₁ r
      next =
          let a : walk s (w / 4) (h / 4) (4 - (level + 1)) (px / 4) (py / 4) ≡ part_of s w h x y level i = rw (e, f) (k.same i) in
          stored_as (turn_more (part_of s w h x y level) i) (stored_then d.stored (stored_as (sym a) g))

      pub part_more : (m : ℕ) → r ≡ Ok m → Turned s w h x y level out₀ n out₁ (i + 1) m
      part_more m q = record { stored = rw (add-one i) (subst (Stored (in_turn (part_of s w h x y level) (suc i)) out₀ n out₁) q next) }

      -- a part that is refused ends the block
      pub part_refused : (q : Refusal) → i < 4 → r ≡ Err q → Stored (walk s (w / 4) (h / 4) (4 - level) (x / 4) (y / 4)) out₀ n out₁ (Err q)
      part_refused q l z =
          let j : suc i + (3 - i) ≡ 4 = omega arith in
          let a = turn_stop (part_of s w h x y level) (suc i) (3 - i) q (stored_stop next q z) in
          stored_as (k.parts ∙ ap (in_turn (part_of s w h x y level)) (sym j) ∙ a) (subst (Stored (in_turn (part_of s w h x y level) (suc i)) out₀ n out₁) z next)

    -- all four
    pub whole : 4 ≤ i → i ≤ 4 → Stored (walk s (w / 4) (h / 4) (4 - level) (x / 4) (y / 4)) out₀ n out (Ok count)
    whole a b = let e : 4 ≡ i = omega arith in stored_as (k.parts ∙ ap (in_turn (part_of s w h x y level)) e) d.stored
