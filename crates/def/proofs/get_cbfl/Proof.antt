-- `def::get_cbfl` meets its contract: the flag at its place. Assumes nothing.
use mathlib.Core.Path.{refl}
use Rattle.def.specs.Word.{flag_at}
use Rattle.laws.specs.Bits.{field_of}
use Rattle.def.proofs.get_cbfl.Statement.{statement}
use Rattle.def.proofs.get_cbfl.Tie as tie

returns : tie.Need-returns
unfolding flag_at field_of
returns c = refl

pub get_cbfl_spec : {M : Type 1} → statement M
get_cbfl_spec = tie.close (tie.spec returns)
