-- `def::clr_cod` meets its contract: a word has no bit above 31, which is cleared. Assumes nothing.
use native.Mathlib.Omega.{arith}
use Rattle.laws.specs.Bits.{with_field}
use Rattle.def.proofs.clr_cod.Statement.{statement}
use Rattle.def.proofs.clr_cod.Tie as tie

returns : tie.Need-returns
unfolding with_field
returns c = omega arith

pub clr_cod_spec : {M : Type 1} → statement M
clr_cod_spec = tie.close (tie.spec returns)
