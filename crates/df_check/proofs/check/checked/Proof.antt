-- `df_check::check::checked` meets its contract: the size, and then what comes from the lengths on. Assumes nothing.
use mathlib.Core.Bool.{true}
use mathlib.Core.Path.{◌≡◌, sym, ◌∙◌}
use native.Mathlib.Omega.{arith}
use borrow.Author.Rules.{rules}
use Rattle.laws.proofs.Calls.{stops, goes_on}
use Rattle.def.specs.Picture.{size_ok}
use Rattle.df_check.specs.Checks.{check_of}
use Rattle.df_check.proofs.check.checked.Statement.{statement}
use Rattle.df_check.proofs.check.checked.Tie as tie

size : (c : tie.Else-not-size_ok) → let a = c.args in size_ok a.w a.h ≡ true
size c = sym c.size_ok.ensures ∙ c.if-not-size_ok.false

returns : tie.Need-returns-then-not-size_ok
unfolding check_of
returns c = stops _ _ _ _ c.size_ok.ensures c.if-not-size_ok.true-raw

from_lengths_requires : tie.Need-from_lengths-requires
from_lengths_requires c κs = (size c, size c, omega arith)

returns-2 : tie.Need-returns
unfolding check_of
returns-2 c = goes_on _ _ _ _ _ c.size_ok.ensures c.if-not-size_ok.false-raw c.from_lengths.ensures

pub checked_spec : {M : Type 1} → statement M
checked_spec = tie.close (tie.spec (λ c κs. search rules) returns from_lengths_requires returns-2)
