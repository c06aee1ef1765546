-- `nbr::present` meets its contract: no such unit in the picture, or what its word says. Assumes nothing.
use Prim.Native.Nat.{◌+◌, ◌*◌, ◌<◌}
use native.Mathlib.Omega.{arith}
use borrow.Author.Rules.{rules}
use borrow.Author.Tests.{le-ltb, lt-ltb}
use lib.ListN.{length}
use Rattle.nbr.specs.Arms.{present_in}
use Rattle.nbr.proofs.present.Statement.{statement}
use Rattle.nbr.proofs.present.Tie as tie

-- the unit's word is within the words
here : (c : tie.Else-arm-i) → let a = c.args in a.arm.word + a.i * a.arm.next < length a.words.now
here c = c.requires (omega arith)

returns : tie.Need-returns-then-arm-i
unfolding present_in
returns c = rw (le-ltb c.args.i c.args.arm.there c.if-arm-i.true)

mul_at : tie.Need-overflow_mul-at
mul_at c = omega (arith, here c.before)

add_at : tie.Need-overflow_add-at
add_at c = omega (arith, here c.before.before)

mul_word : tie.Need-offset_bounds-words-at
mul_word c = omega (arith, here c.before.before)

shared_slice_read_word : tie.Need-bounds-words-at
shared_slice_read_word c = here c.before.before.before

returns-2 : tie.Need-returns
unfolding present_in
returns-2 c =
    let a = c.args in
    rw (lt-ltb a.i a.arm.there (omega arith), c.get_cod.ensures, c.get_if.ensures)

pub present_spec : {M : Type 1} → statement M
present_spec =
    tie.close
    (tie.spec
    returns
    mul_at
    add_at
    mul_word
    shared_slice_read_word
    (λ c κs. search rules)
    (λ c κs. search rules)
    returns-2)
