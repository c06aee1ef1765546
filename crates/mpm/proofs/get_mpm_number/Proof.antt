-- `mpm::get_mpm_number` meets its contract: the answer is what the checks find. Assumes nothing.
use mathlib.Core.Path.{ap}
use borrow.Author.Rules.{rules}
use Rattle.def.specs.Answers.{answer_number}
use Rattle.def.specs.Answers.{Answer}
use Rattle.mpm.specs.Ranks.{Outcome, number_outcome}
use Rattle.mpm.proofs.get_mpm_number.Statement.{statement}
use Rattle.mpm.proofs.get_mpm_number.Tie as tie

-- the outcome of an answer
abbrev read : Answer → Outcome
read a = record { number = answer_number a }

returns : tie.Need-returns
unfolding number_outcome
returns c = ap read c.checked.ensures

pub get_mpm_number_spec : {M : Type 1} → statement M
get_mpm_number_spec = tie.close (tie.spec (λ c κs. search rules) returns)
