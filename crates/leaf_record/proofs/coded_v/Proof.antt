-- `leaf_record::coded_v` meets its contract: the flag at its place. Assumes nothing.
use mathlib.Core.Path.{refl}
use Rattle.laws.specs.Bits.{field_of}
use Rattle.def.specs.Word.{flag_at}
use Rattle.leaf_record.proofs.coded_v.Statement.{statement}
use Rattle.leaf_record.proofs.coded_v.Tie as tie

returns : tie.Need-returns
unfolding flag_at field_of
returns c = refl

pub coded_v_spec : {M : Type 1} → statement M
coded_v_spec = tie.close (tie.spec returns)
