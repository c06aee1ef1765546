-- Laws of the unit word: what a writer puts is read back, and every other field is as it was.
-- Assumes nothing.
use Prim.Native.Nat.{ℕ, ◌+◌, ◌%◌, ◌≤◌, ◌<◌}
use mathlib.Core.Path.{◌≡◌, refl, ap, ◌∙◌}
use mathlib.Core.Bool.{Bool, true, false}
use native.Mathlib.Omega.{arith}
use lib.Dec.{eqb}
use Rattle.laws.specs.Bits.{field_of, with_field}
use Rattle.laws.proofs.Bits.{field_same, field_below}
use Rattle.def.specs.Word.{flag_at, intra_of, qp_of, coded_of, done_of, with_done, without_done, bit, leaf_word}

bit_small : (b : Bool) → bit b < 2
bit_small true = omega arith
bit_small false = omega arith

bit_read : (b : Bool) → eqb (bit b) 1 ≡ b
bit_read true = refl
bit_read false = refl

flag_of_lem : (p w : ℕ) (b : Bool) → field_of p 1 w ≡ bit b → flag_at p w ≡ b
unfolding flag_at
flag_of_lem p w b e = ap (λ (k : ℕ). eqb k 1) e ∙ bit_read b

-- ---- done, set and cleared

pub done_set : (w : ℕ) → done_of (with_done w) ≡ true
done_set w = flag_of_lem 31 (with_done w) true (field_same 31 1 1 w (omega arith))

pub done_cleared : (w : ℕ) → done_of (without_done w) ≡ false
done_cleared w = flag_of_lem 31 (without_done w) false (field_same 31 1 0 w (omega arith))

-- every field that lies below bit 31
pub set_keeps : (w q m : ℕ) → q + m ≤ 31 → field_of q m (with_done w) ≡ field_of q m w
set_keeps w q m h = field_below 31 1 1 w q m h

pub cleared_keeps : (w q m : ℕ) → q + m ≤ 31 → field_of q m (without_done w) ≡ field_of q m w
cleared_keeps w q m h = field_below 31 1 0 w q m h

-- two words whose intra, QP and luma-coded fields are the same
pub record Alike (v w : ℕ) : Type 0 where
  pub intra : intra_of v ≡ intra_of w
  pub qp : qp_of v ≡ qp_of w
  pub coded : coded_of v ≡ coded_of w

pub set_alike : (w : ℕ) → Alike (with_done w) w
unfolding flag_at
set_alike w =
    record {
      intra = ap (λ (k : ℕ). eqb k 1) (set_keeps w 15 1 (omega arith));
      qp = set_keeps w 16 7 (omega arith);
      coded = ap (λ (k : ℕ). eqb k 1) (set_keeps w 24 1 (omega arith));
    }

pub cleared_alike : (w : ℕ) → Alike (without_done w) w
unfolding flag_at
cleared_alike w =
    record {
      intra = ap (λ (k : ℕ). eqb k 1) (cleared_keeps w 15 1 (omega arith));
      qp = cleared_keeps w 16 7 (omega arith);
      coded = ap (λ (k : ℕ). eqb k 1) (cleared_keeps w 24 1 (omega arith));
    }

-- ---- the word of a leaf

pub record OfLeaf (intra : Bool) (qp : ℕ) (coded : Bool) (w : ℕ) : Type 0 where
  pub intra_bit : intra_of w ≡ intra
  pub qp_bits : qp_of w ≡ qp % 128
  pub coded_bit : coded_of w ≡ coded
  pub done_bit : done_of w ≡ true

pub leaf_word_lem : (intra : Bool) (qp : ℕ) (coded : Bool) → OfLeaf intra qp coded (leaf_word intra qp coded)
unfolding leaf_word
leaf_word_lem intra qp coded =
    record {
      intra_bit =
          flag_of_lem 15 _ intra
          (set_keeps c 15 1 (omega arith) ∙ field_below 24 1 (bit coded) q 15 1 (omega arith)
          ∙ field_below 16 7 (qp % 128) i 15 1 (omega arith) ∙ field_same 15 1 (bit intra) 0 (bit_small intra));
      qp_bits = set_keeps c 16 7 (omega arith) ∙ field_below 24 1 (bit coded) q 16 7 (omega arith) ∙ field_same 16 7 (qp % 128) i (omega arith);
      coded_bit = flag_of_lem 24 _ coded (set_keeps c 24 1 (omega arith) ∙ field_same 24 1 (bit coded) q (bit_small coded));
      done_bit = done_set c;
    } where
      i : ℕ
      i = with_field 15 1 (bit intra) 0

      q : ℕ
      q = with_field 16 7 (qp % 128) i

      c : ℕ
      c = with_field 24 1 (bit coded) q
