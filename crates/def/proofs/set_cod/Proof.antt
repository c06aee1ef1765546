-- `def::set_cod` meets its contract: a word has no bit above 31, which is set. Assumes nothing.
use native.Mathlib.Omega.{arith}
use borrow.Author.Rules.{rules}
use Rattle.laws.specs.Bits.{with_field}
use Rattle.def.proofs.set_cod.Statement.{statement}
use Rattle.def.proofs.set_cod.Tie as tie

returns : tie.Need-returns
unfolding with_field
returns c = omega arith

pub set_cod_spec : {M : Type 1} → statement M
set_cod_spec = tie.close (tie.spec (λ c. search rules) returns)
