-- `rows::run::same_flags` meets its contract: two comparisons of bits. Assumes nothing.
use mathlib.Core.Path.{refl}
use Rattle.laws.specs.Bits.{field_of}
use Rattle.rows_rules.specs.Runs.{same_flags}
use Rattle.rows.proofs.run.same_flags.Statement.{statement}
use Rattle.rows.proofs.run.same_flags.Tie as tie

returns : tie.Need-returns
unfolding same_flags field_of
returns c = refl

pub same_flags_spec : {M : Type 1} → statement M
same_flags_spec = tie.close (tie.spec returns)
