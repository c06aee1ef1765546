-- `unit_edits::edge_row` meets its contract: no unit there, or the row of the two. Assumes nothing.
use Prim.Native.Nat.{ℕ, ◌-◌}
use mathlib.Core.Path.{sym, ap, ◌∙◌}
use native.Mathlib.Omega.{arith}
use borrow.Author.Rules.{rules}
use Rattle.rows_rules.proofs.Sides.{before, no_edge, some_edge}
use Rattle.unit_edits.specs.Sides.{pass_of}
use Rattle.unit_edits.proofs.edge_row.Statement.{statement}
use Rattle.unit_edits.proofs.edge_row.Tie as tie

returns : tie.Need-returns-then-not-there
returns c = (no_edge _ _ _ _ _ _ _ c.requires.2 c.if-not-there.true-raw, omega arith)

sub_p : tie.Need-overflow_sub-p
sub_p c =
    let there = sym c.requires.2 ∙ c.if-not-there.false in
    omega (arith, c.step_back.ensures, before (pass_of c.args.side) c.args.columns c.args.k there)

returns-2 : tie.Need-returns
returns-2 c =
    let p = c.requires in (
      some_edge p.0 _ _ _ _ _ p.1 p.2 c.if-not-there.false-raw (ap (λ (s : ℕ). c.args.k - s) c.step_back.ensures) c.row_at.ensures.0,
      c.row_at.ensures.1,
    )

pub edge_row_spec : {M : Type 1} → statement M
edge_row_spec = tie.close (tie.spec returns (λ c κs. search rules) sub_p (λ c κs. search rules) (λ c. search rules) returns-2)
