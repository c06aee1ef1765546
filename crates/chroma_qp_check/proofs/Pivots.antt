-- Pivots as the code holds them.
--     Held, held_first, in_next, held_next     a pivot's in, held as 12 more, and its out, held as 140 more, which may be out of range
--     pivot_test, tested     the code's test of them
-- Assumes nothing.
use mathlib.Core.Path.{◌≡◌, sym, ap, ◌∙◌}
use mathlib.Core.Bool.{true, ◌&&◌}
use mathlib.Core.List.{[], ◌∷◌}
use Prim.Native.Nat.{ℕ, suc, ◌+◌, ◌-◌, ◌≤◌}
use native.Mathlib.Omega.{arith}
use borrow.Author.Tests.{leb-true, le-leb}
use lib.Dec.{leb}
use lib.IntN.{ℤ, pos, ◌+ℤ◌, ◌-ℤ◌, +ℤ_assoc}
use Rattle.laws.proofs.Calls.{all_at}
use Rattle.laws.proofs.Differences.{diff_add, diff_le, leb_alike}
use Rattle.chroma_qp_check.specs.Check.{pivot_ok}
use Rattle.chroma_qp_check.specs.Pivots.{Points, a_at, b_at, entry_qp, in_of, out_of}
use Rattle.chroma_qp_check.proofs.Offsets.{qp_add, qp_of_lem}

module _ (s : ℤ) (p : Points) where
  pub record Held (j i q : ℕ) : Type 0 where
    pub in_is : in_of s p j ≡ entry_qp i
    pub out_is : out_of s p j ≡ pos q -ℤ pos 140

  pub held_first : (k x y : ℕ) → s ≡ entry_qp k → a_at p 0 ≡ pos x → b_at p 0 ≡ pos y -ℤ pos 128 → Held 0 (k + x) (k + x + y)
  unfolding in_of out_of entry_qp
  held_first k x y e f g =
      let h : s +ℤ a_at p 0 ≡ entry_qp (k + x) = ap (λ (z : ℤ). z +ℤ a_at p 0) e ∙ ap (λ (z : ℤ). entry_qp k +ℤ z) f ∙ qp_add k x in
      record { in_is = h; out_is = ap (λ (z : ℤ). z +ℤ b_at p 0) h ∙ ap (λ (z : ℤ). entry_qp (k + x) +ℤ z) g ∙ diff_add (k + x) 12 y 128 }

  module _ (j i x : ℕ) (at_in : in_of s p j ≡ entry_qp i) (at_a : a_at p (suc j) ≡ pos x) where
    pub in_next : in_of s p (suc j) ≡ entry_qp (i + (x + 1))
    unfolding in_of
    in_next = ap (λ (z : ℤ). z +ℤ (a_at p (suc j) +ℤ pos 1)) at_in ∙ ap (λ (z : ℤ). entry_qp i +ℤ (z +ℤ pos 1)) at_a ∙ qp_add i (x + 1)

    pub held_next : (o y : ℕ) → out_of s p j ≡ entry_qp o → b_at p (suc j) ≡ pos y -ℤ pos 128 → Held (suc j) (i + (x + 1)) (o + (x + 1) + y)
    unfolding out_of entry_qp
    held_next o y at_out g =
        record {
          in_is = in_next;
          out_is =
              ap (λ (z : ℤ). z +ℤ (a_at p (suc j) +ℤ pos 1 +ℤ b_at p (suc j))) at_out
              ∙ ap (λ (z : ℤ). entry_qp o +ℤ (z +ℤ pos 1 +ℤ b_at p (suc j))) at_a
              ∙ ap (λ (z : ℤ). entry_qp o +ℤ (pos (x + 1) +ℤ z)) g
              ∙ sym (+ℤ_assoc (entry_qp o) (pos (x + 1)) (pos y -ℤ pos 128))
              ∙ ap (λ (z : ℤ). z +ℤ (pos y -ℤ pos 128)) (qp_add o (x + 1))
              ∙ diff_add (o + (x + 1)) 12 y 128;
        }

  -- the code's test of a pivot
  pub pivot_test : (j i q : ℕ) → Held j i q → (leb i 69 && leb 128 q && leb q 197) ≡ pivot_ok s p j
  unfolding pivot_ok entry_qp
  pivot_test j i q h =
      rw (
        h.in_is,
        h.out_is,
        diff_le 0 12 i 12,
        diff_le i 12 69 12,
        diff_le 0 12 q 140,
        diff_le q 140 69 12,
        le-leb 12 (i + 12) (omega arith),
        leb_alike (i + 12) 81 i 69 (λ r. (omega arith)) (λ r. (omega arith)),
        leb_alike 140 (q + 12) 128 q (λ r. (omega arith)) (λ r. (omega arith)),
        leb_alike (q + 12) 209 q 197 (λ r. (omega arith)) (λ r. (omega arith)),
      )

  -- what a pivot that passes is
  pub record Tested (j i q : ℕ) : Type 0 where
    pub in_most : i ≤ 69
    pub out_least : 128 ≤ q
    pub out_most : q ≤ 197
    pub out_is : out_of s p j ≡ entry_qp (q - 128)

  pub tested : (j i q : ℕ) → Held j i q → pivot_ok s p j ≡ true → Tested j i q
  tested j i q h e =
      let tests = leb i 69 ∷ leb 128 q ∷ leb q 197 ∷ [] in
      let all : (leb i 69 && leb 128 q && leb q 197) ≡ true = pivot_test j i q h ∙ e in
      let low : 128 ≤ q = leb-true 128 q (all_at tests 1 all) in
      record {
        in_most = leb-true i 69 (all_at tests 0 all);
        out_least = low;
        out_most = leb-true q 197 (all_at tests 2 all);
        out_is = h.out_is ∙ qp_of_lem q low;
      }
