-- `def::leaf_word` meets its contract: four fields that do not overlap, in a word that was 0. Assumes nothing.
use Prim.Native.Nat.{ℕ, ◌+◌, ◌*◌, ◌%◌, ◌^◌, ◌≤◌, ◌<◌}
use mathlib.Core.Path.{◌≡◌, sym, ap, ◌∙◌}
use native.Mathlib.Omega.{arith}
use borrow.Author.Rules.{rules}
use Rattle.laws.specs.Bits.{with_field}
use Rattle.laws.proofs.Bits.{field_fresh}
use Rattle.def.specs.Word.{leaf_word}
use Rattle.def.proofs.leaf_word.Statement.{statement}
use Rattle.def.proofs.leaf_word.Tie as tie

-- the fields over a word of 0, i and k being flags
fields : (i q k : ℕ) → i ≤ 1 → k ≤ 1 → 2147483648 + k * 16777216 + q % 128 * 65536 + i * 32768 ≡ with_field 31 1 1 (with_field 24 1 k (with_field 16 7 (q % 128) (with_field 15 1 i 0)))
fields i q k hi hk =
    let a : i * 2 ^ 15 + 0 < 2 ^ 16 = omega arith in
    let b : q % 128 * 2 ^ 16 + (i * 2 ^ 15 + 0) < 2 ^ 24 = omega arith in
    let d : k * 2 ^ 24 + (q % 128 * 2 ^ 16 + (i * 2 ^ 15 + 0)) < 2 ^ 31 = omega arith in
    let e : 2147483648 + k * 16777216 + q % 128 * 65536 + i * 32768 ≡ 1 * 2 ^ 31 + (k * 2 ^ 24 + (q % 128 * 2 ^ 16 + (i * 2 ^ 15 + 0))) = omega arith in
    e ∙ sym
    (ap (λ (z : ℕ). with_field 31 1 1 (with_field 24 1 k (with_field 16 7 (q % 128) z))) (field_fresh 15 1 i 0 (omega arith))
    ∙ ap (λ (z : ℕ). with_field 31 1 1 (with_field 24 1 k z)) (field_fresh 16 7 (q % 128) (i * 2 ^ 15 + 0) a)
    ∙ ap (with_field 31 1 1) (field_fresh 24 1 k (q % 128 * 2 ^ 16 + (i * 2 ^ 15 + 0)) b)
    ∙ field_fresh 31 1 1 (k * 2 ^ 24 + (q % 128 * 2 ^ 16 + (i * 2 ^ 15 + 0))) d)

returns : tie.Need-returns
unfolding leaf_word
returns c =
    fields _ _ _ c.flag-2.ensures.1 c.flag.ensures.1
    ∙ cc (c.flag-2.ensures.0, c.flag.ensures.0)

pub leaf_word_spec : {M : Type 1} → statement M
leaf_word_spec =
    tie.close
    (tie.spec (λ c κs. search rules) (λ c. search rules) (λ c. search rules) (λ c. search rules) (λ c. search rules)
    (λ c. search rules) (λ c κs. search rules) (λ c. search rules) (λ c. search rules) returns)
