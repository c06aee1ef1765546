-- `mpm::checked` meets its contract: a row of checks. `past1` to `past3` are what a check, passed, leaves of the row. Assumes nothing.
use Rattle.std.specs.Prelude.{Ok, Err}
use mathlib.Core.Path.{◌≡◌, refl, sym, ◌∙◌}
use borrow.Author.Rules.{rules}
use lib.ListN.{length}
use Rattle.laws.specs.Call.{unless}
use Rattle.laws.proofs.Calls.{stops, goes_on}
use Rattle.def.specs.Blocks.{unit_ok}
use Rattle.def.specs.declared.Refusal.TheVariants.{Length, Block, Mode}
use Rattle.def.specs.Answers.{Answer}
use Rattle.def.proofs.Sizes.{sized}
use Rattle.def.proofs.Blocks.{placed}
use Rattle.mpm.specs.Ranks.{Input, lengths_ok, modes_ok, check}
use Rattle.mpm.proofs.Modes.{unit_of_lem}
use Rattle.mpm.proofs.checked.Statement.{statement}
use Rattle.mpm.proofs.checked.Tie as tie

-- the input of a call
abbrev of : tie.Start → Input
of s = let a = s.args in record { w = a.w; h = a.h; words = a.words.now; modes = a.modes.now; table = a.table.now; x = a.x.0; y = a.y.0 }

-- the row past its first check, its second and its third
abbrev rest3 : Input → Answer
rest3 i = unless (modes_ok i.w i.words i.modes i.x i.y) (Err Mode) (Ok tt)

abbrev rest2 : Input → Answer
rest2 i = unless (unit_ok i.w i.h i.x i.y) (Err Block) (rest3 i)

abbrev rest1 : Input → Answer
rest1 i = unless (lengths_ok i.w i.h (length i.words) (length i.modes) (length i.table)) (Err Length) (rest2 i)

past1 : (c : tie.Else-not-size_ok) (r : Answer) → let i = of c.before.before.before.before.before in r ≡ rest1 i → r ≡ check i
unfolding check
past1 c r p = goes_on _ _ _ _ r c.size_ok.ensures c.if-not-size_ok.false-raw p

past2 : (c : tie.Else-not-lengths_ok) (r : Answer) → let i = of c.before.before.before.before.before.before.before in r ≡ rest2 i → r ≡ check i
past2 c r p = past1 c.before.before r (goes_on _ _ _ _ r c.lengths_ok.ensures c.if-not-lengths_ok.false-raw p)

past3 : (c : tie.Else-not-unit_ok) (r : Answer) → let i = of c.before.before.before.before.before.before.before.before.before in r ≡ rest3 i → r ≡ check i
past3 c r p = past2 c.before.before r (goes_on _ _ _ _ r c.unit_ok.ensures c.if-not-unit_ok.false-raw p)

returns : tie.Need-returns-then-not-size_ok
unfolding check
returns c = stops _ _ _ _ c.size_ok.ensures c.if-not-size_ok.true-raw

lengths_ok_requires : tie.Need-lengths_ok-requires
lengths_ok_requires c κs =
    let s = sized _ _ (sym c.size_ok.ensures ∙ c.if-not-size_ok.false) in
    (s.wide, s.high)

returns-2 : tie.Need-returns-then-not-lengths_ok
returns-2 c = past1 c.before.before _ (stops _ _ _ _ c.lengths_ok.ensures c.if-not-lengths_ok.true-raw)

returns-3 : tie.Need-returns-then-not-unit_ok
returns-3 c = past2 c.before.before _ (stops _ _ _ _ c.unit_ok.ensures c.if-not-unit_ok.true-raw)

modes_ok_requires : tie.Need-modes_ok-requires
modes_ok_requires c κs =
    let k = placed _ _ _ _ (sym c.unit_ok.ensures ∙ c.if-not-unit_ok.false) in
    unit_of_lem _ _ _ _ _ _ _ (sym c.lengths_ok.ensures ∙ c.if-not-lengths_ok.false) k.column k.row

returns-4 : tie.Need-returns-then-not-modes_ok
returns-4 c = past3 c.before.before _ (stops _ _ _ _ c.modes_ok.ensures c.if-not-modes_ok.true-raw)

returns-5 : tie.Need-returns
returns-5 c = past3 c.before.before _ (goes_on _ _ _ _ _ c.modes_ok.ensures c.if-not-modes_ok.false-raw refl)

pub checked_spec : {M : Type 1} → statement M
checked_spec =
    tie.close
    (tie.spec
    (λ c κs. search rules)
    returns
    lengths_ok_requires
    returns-2
    (λ c κs. search rules)
    returns-3
    modes_ok_requires
    returns-4
    returns-5)
