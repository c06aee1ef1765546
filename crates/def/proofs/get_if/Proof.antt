-- `def::get_if` meets its contract: the flag at its place. Assumes nothing.
use mathlib.Core.Path.{refl}
use Rattle.def.specs.Word.{flag_at}
use Rattle.laws.specs.Bits.{field_of}
use Rattle.def.proofs.get_if.Statement.{statement}
use Rattle.def.proofs.get_if.Tie as tie

returns : tie.Need-returns
unfolding flag_at field_of
returns c = refl

pub get_if_spec : {M : Type 1} → statement M
get_if_spec = tie.close (tie.spec returns)
