-- `mpm::mode_at` meets its contract: the unit's place is within both maps. Assumes nothing.
use Prim.Native.Nat.{◌+◌, ◌*◌, ◌/◌, ◌<◌}
use mathlib.Core.Path.{◌≡◌, sym, ◌∙◌}
use mathlib.Core.Bool.{◌&&◌}
use native.Mathlib.Omega.{arith}
use borrow.Author.Rules.{rules}
use lib.ListN.{length}
use Rattle.def.specs.Word.{intra_of, done_of}
use Rattle.def.specs.Units.{unit_at}
use Rattle.def.proofs.Units.{unit_below}
use Rattle.mpm.proofs.mode_at.Statement.{statement}
use Rattle.mpm.proofs.mode_at.Tie as tie

in_words : (c : tie.Start) → let a = c.args in a.v * (a.w / 4) + a.u < length a.words.now
in_words c = unit_below _ _ _ _ _ c.requires.column c.requires.row c.requires.words_long

in_modes : (c : tie.Start) → let a = c.args in a.v * (a.w / 4) + a.u < length a.modes.now
in_modes c = unit_below _ _ _ _ _ c.requires.column c.requires.row c.requires.modes_long

mul_at : tie.Need-overflow_mul-at
mul_at c = omega (arith, in_words c.before.before)

add_at : tie.Need-overflow_add-at
add_at c = omega (arith, in_words c.before.before)

mul_word : tie.Need-offset_bounds-words-at
mul_word c = omega (arith, in_words c.before.before)

shared_slice_read_word : tie.Need-bounds-words-at
shared_slice_read_word c = in_words c.before.before.before

-- the flags of the unit's word
flags : (c : tie.After-get_cod) → let a = c.args in
    let word = unit_at a.w a.words.now a.u a.v in (c.get_if.result && c.get_cod.result) ≡ (intra_of word && done_of word)
flags c = rw (c.get_if.ensures, c.get_cod.ensures)

shared_slice_read_result : tie.Need-bounds-modes-at
shared_slice_read_result c = in_modes c.before.before.before.before.before.before.before

returns : tie.Need-returns-then-get_if-get_cod
returns c = rw (sym (flags c.before.before) ∙ c.if-get_if-get_cod.true)

returns-2 : tie.Need-returns
returns-2 c = rw (sym (flags c.before) ∙ c.if-get_if-get_cod.false)

pub mode_at_spec : {M : Type 1} → statement M
mode_at_spec =
    tie.close
    (tie.spec
    mul_at
    add_at
    mul_word
    shared_slice_read_word
    (λ c κs. search rules)
    (λ c κs. search rules)
    shared_slice_read_result
    returns
    returns-2)
