-- A chroma QP as the code finds it: the comparisons are the clips, and the sums fit.
--     offset_fits, sum_fits, machine_terms, machine_sum    the sum of a QP and an offset, in 16 bits
--     index_low, index_high, index_within    its clip: a sum below -12, over 57, and between
--     index_plain, index_short    the last without a sign, and below 0
--     mapped_most, qps_most    a mapped QP is at most 51
-- Assumes nothing.
use Prim.Native.Nat.{ℕ, suc, ◌+◌, ◌-◌, ◌≤◌, ◌<◌}
use mathlib.Core.Path.{◌≡◌, refl, ap, ◌∙◌}
use mathlib.Core.Bool.{Bool, true, false, cond}
use mathlib.Core.List.{List}
use native.Mathlib.Decide.{dec_lt}
use native.Mathlib.Omega.{arith}
use borrow.Author.Tests.{ltb-true, ltb-false, le-ltb}
use lib.IntN.{ℤ, pos, negsuc, nat_abs, ◌+ℤ◌}
use lib.ListN.{length, get_or, get_or-eq_default}
use lib.Signed.{lt_z, mag}
use mir.Syntax.{w8, w16}
use mir.Val.{SFits, to_z, of_z}
use Rattle.laws.specs.Clip.{max_z, min_z, clip_z, held_to}
use Rattle.laws.proofs.Held.{held_low, held_high, held_within}
use Rattle.laws.proofs.Signs.{by_lt}
use Rattle.laws.proofs.Tabulate.{length_tabulate, get_d_tabulate}
use Rattle.laws.proofs.Widths.{mag_add, sfits, back}
use Rattle.strength.specs.ChromaQp.{mapped_z, mapped, mapped_qps}

-- ---- the sum of a QP and an offset

module _ (qp : ℕ) (offset : ℤ) (few : qp ≤ 255) (byte : SFits w8 offset) where
  small : mag offset ≤ 127
  small = let h : mag offset < 128 = byte.sfits in omega arith

  -- the offset as it is read from its byte
  pub offset_fits : SFits w16 (to_z w8 (of_z w8 offset))
  offset_fits = rw (back w8 offset byte) (sfits w16 127 small tt)

  pub sum_fits : SFits w16 (pos qp +ℤ offset)
  sum_fits = sfits w16 383 (let s = small in omega (arith, mag_add (pos qp) offset)) tt

  -- the terms, and the sum, as the machine reads them
  pub machine_terms : to_z w16 qp +ℤ to_z w16 (of_z w16 (to_z w8 (of_z w8 offset))) ≡ pos qp +ℤ offset
  machine_terms = rw (back w8 offset byte, back w16 offset (sfits w16 127 small tt), back w16 (pos qp) (sfits w16 255 few tt))

  pub machine_sum : to_z w16 (of_z w16 (to_z w16 qp +ℤ to_z w16 (of_z w16 (to_z w8 (of_z w8 offset))))) ≡ pos qp +ℤ offset
  machine_sum = ap (λ (z : ℤ). to_z w16 (of_z w16 z)) machine_terms ∙ back w16 (pos qp +ℤ offset) sum_fits

-- ---- the sum held within -12..57, counted from -12

abbrev pub held_from : ℤ → ℕ
held_from z = nat_abs (pos 12 +ℤ clip_z (negsuc 11) (pos 57) z)

pub index_low : (z : ℤ) → lt_z z (negsuc 11) ≡ true → 0 ≡ held_from z
unfolding clip_z max_z min_z
index_low (pos n) e = cc
index_low (negsuc n) e = let p : 11 < n = ltb-true 11 n e in rw (le-ltb n 11 (omega arith))

pub index_high : (z : ℤ) → lt_z (pos 57) z ≡ true → 69 ≡ held_from z
unfolding clip_z max_z min_z
index_high (pos n) e = rw e
index_high (negsuc n) e = cc

pub index_plain : (n : ℕ) → lt_z (pos 57) (pos n) ≡ false → n + 12 ≡ held_from (pos n)
unfolding clip_z max_z min_z
index_plain n b = rw b (omega arith)

pub index_short : (n : ℕ) → n ≤ 11 → 12 - suc n ≡ held_from (negsuc n)
unfolding clip_z max_z min_z
index_short n p =
    by_lt (λ t. 12 - suc n ≡ nat_abs (pos 12 +ℤ cond t (negsuc n) (negsuc 11))) n 11
    (λ h. rw (le-ltb 12 (suc n) (omega arith))) (λ h. (omega arith))

-- a sum that is held as it is
pub record Between (z : ℤ) : Type 0 where
  pub n : ℕ
  pub more : z +ℤ pos 12 ≡ pos n
  pub few : n ≤ 69
  pub same : n ≡ held_from z

pub index_within : (z : ℤ) → lt_z z (negsuc 11) ≡ false → lt_z (pos 57) z ≡ false → Between z
index_within (pos n) a b = record { n = n + 12; more = refl; few = omega (arith, ltb-false 57 n b); same = index_plain n b }
index_within (negsuc n) a b =
    let p : n ≤ 11 = ltb-false 11 n a in
    record { n = 12 - suc n; more = rw (le-ltb 12 (suc n) (omega arith)); few = omega arith; same = index_short n p }

-- ---- a mapped QP

held_most : (z : ℤ) (a b : Bool) → lt_z z (pos 0) ≡ a → lt_z (pos 51) z ≡ b → held_to 51 z ≤ 51
held_most z true b p q = omega (arith, held_low 51 z p)
held_most z false true p q = omega (arith, held_high 51 z q)
held_most z false false p q = let h = held_within 51 z p q in omega arith

pub mapped_most : (table : List ℤ) (offset : ℤ) (qp : ℕ) → mapped table offset qp ≤ 51
mapped_most table offset qp = held_most (mapped_z table offset qp) _ _ refl refl

pub qps_most : (table : List ℤ) (offset : ℤ) (qp : ℕ) → get_or (mapped_qps table offset) qp 0 ≤ 51
qps_most table offset qp = at (dec_lt qp 52) where
  at : Dec (qp < 52) → get_or (mapped_qps table offset) qp 0 ≤ 51
  at (yes h) = rw (get_d_tabulate (mapped table offset) 52 qp 0 h) (mapped_most table offset qp)
  at (no h) =
      let past : length (mapped_qps table offset) ≤ qp = omega (arith, length_tabulate (mapped table offset) 52) in
      rw (get_or-eq_default (mapped_qps table offset) 0 past) (omega arith)
