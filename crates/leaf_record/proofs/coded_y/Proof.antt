-- `leaf_record::coded_y` meets its contract: the flag at its place. Assumes nothing.
use Prim.Native.Nat.{ℕ, ◌%◌}
use mathlib.Core.Path.{sym, ap}
use native.Mathlib.Nat.{div-one}
use lib.Dec.{eqb}
use Rattle.laws.specs.Bits.{field_of}
use Rattle.def.specs.Word.{flag_at}
use Rattle.leaf_record.proofs.coded_y.Statement.{statement}
use Rattle.leaf_record.proofs.coded_y.Tie as tie

returns : tie.Need-returns
unfolding flag_at field_of
returns c = ap (λ (n : ℕ). eqb (n % 2) 1) (sym (div-one c.args.mask))

pub coded_y_spec : {M : Type 1} → statement M
coded_y_spec = tie.close (tie.spec returns)
