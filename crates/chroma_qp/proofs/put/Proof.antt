-- `chroma_qp::put` meets its contract: what an entry is held as, less 12, is a byte. Assumes nothing.
use borrow.Author.Rules.{rules}
use mathlib.Core.Path.{◌≡◌}
use Prim.Native.Nat.{ℕ, ◌≤◌}
use mir.Syntax.{w8}
use mir.Val.{to_z}
use lib.IntN.{pos}
use Rattle.laws.proofs.Widths.{sfits, back}
use Rattle.chroma_qp_check.specs.Pivots.{entry_qp}
use Rattle.chroma_qp.proofs.Bytes.{entry_fits}
use Rattle.chroma_qp.proofs.put.Statement.{statement}
use Rattle.chroma_qp.proofs.put.Tie as tie

plain : (v : ℕ) → v ≤ 103 → to_z w8 v ≡ pos v
plain v h = back w8 (pos v) (sfits w8 103 h tt)

sub_t : tie.Need-overflow_sub-t
unfolding entry_qp
sub_t c = rw (plain c.args.v c.requires.1) (entry_fits c.args.v c.requires.1)

returns : tie.Need-returns
unfolding entry_qp
returns c = rw (plain c.args.v c.requires.1, back w8 _ (entry_fits c.args.v c.requires.1))

pub put_spec : {M : Type 1} → statement M
put_spec = tie.close (tie.spec (λ c. search rules) sub_t (λ c. search rules) (λ c. search rules) returns)
