-- `def::get_qp` meets its contract: the 7 bits from place 16. Assumes nothing.
use mathlib.Core.Path.{refl}
use native.Mathlib.Omega.{arith}
use borrow.Author.Rules.{rules}
use Rattle.laws.specs.Bits.{field_of}
use Rattle.def.proofs.get_qp.Statement.{statement}
use Rattle.def.proofs.get_qp.Tie as tie

returns : tie.Need-returns
unfolding field_of
returns c = (refl, omega arith)

pub get_qp_spec : {M : Type 1} → statement M
get_qp_spec = tie.close (tie.spec (λ c. search rules) returns)
