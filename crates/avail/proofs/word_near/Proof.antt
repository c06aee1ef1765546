-- `avail::word_near` meets its contract: four returns with no unit, and one with the unit's word. Assumes nothing.
use Prim.Native.Nat.{ℕ, ◌+◌, ◌-◌, ◌*◌, ◌/◌, ◌<◌}
use mathlib.Core.Path.{◌≡◌, ap, ◌∙◌}
use native.Mathlib.Omega.{arith}
use borrow.Author.Rules.{rules}
use lib.ListN.{length}
use Rattle.avail.specs.Around.{word_at}
use Rattle.avail.proofs.Near.{counted_in, counted_zero, counted_past, none_down, none_across, found, found_below}
use Rattle.avail.proofs.word_near.Statement.{statement}
use Rattle.avail.proofs.word_near.Tie as tie

returns : tie.Need-returns-then-v-eq0
returns c = none_down _ _ _ _ _ _ _ (counted_zero _ _ (omega arith))

returns-2 : tie.Need-returns-then-h-v
returns-2 c = none_down _ _ _ _ _ _ _ (counted_past _ _ (omega arith))

returns-3 : tie.Need-returns-then-u-eq0
returns-3 c = none_across _ _ _ _ _ _ _ (counted_in _ _ (omega arith) (omega arith)) (counted_zero _ _ (omega arith))

returns-4 : tie.Need-returns-then-w-u
returns-4 c = none_across _ _ _ _ _ _ _ (counted_in _ _ (omega arith) (omega arith)) (counted_past _ _ (omega arith))

-- past the four tests the place is within the words
place : (c : tie.Else-w-u) → let a = c.args in
    (c.pel2scu-2.result.0 + a.b - 1) * (a.w / 4) + (c.pel2scu.result.0 + a.a - 1) < length a.words.now
place c = found_below _ _ _ _ _ (omega arith) (omega arith) (omega arith) (omega arith) c.requires.long

mul_at : tie.Need-overflow_mul-at
mul_at c = omega (arith, place c)

add_at : tie.Need-overflow_add-at
add_at c = omega (arith, place c)

mul_result : tie.Need-offset_bounds-words-at
mul_result c = omega (arith, place c)

shared_slice_read_result : tie.Need-bounds-words-at
shared_slice_read_result c = place c.before

returns-5 : tie.Need-returns
returns-5 c =
    let a = c.args in
    let p : c.pel2scu.result.0 ≡ a.x.0 / 4 = omega arith in
    let q : c.pel2scu-2.result.0 ≡ a.y.0 / 4 = omega arith in
    ap (λ (k : ℕ). word_at a.w a.words.now (k + a.a - 1) (c.pel2scu-2.result.0 + a.b - 1)) p
    ∙ ap (λ (k : ℕ). word_at a.w a.words.now (a.x.0 / 4 + a.a - 1) (k + a.b - 1)) q
    ∙ found _ _ _ _ _ _ _ (counted_in _ _ (omega arith) (omega arith)) (counted_in _ _ (omega arith) (omega arith))

pub word_near_spec : {M : Type 1} → statement M
word_near_spec =
    tie.close
    (tie.spec
    (λ c κs. search rules)
    (λ c. search rules)
    (λ c κs. search rules)
    (λ c. search rules)
    returns
    returns-2
    returns-3
    returns-4
    (λ c. search rules)
    mul_at
    (λ c. search rules)
    add_at
    mul_result
    shared_slice_read_result
    returns-5)
