-- A leaf inside the picture, or one that reaches past it. Assumes nothing.
use mathlib.Core.Path.{sym, ap}
use Rattle.split.proofs.Blocks.{past_x, past_y, inside}
use Rattle.split.specs.Walk.{Walk}
use Rattle.marks.specs.Stored.{counted}
use Rattle.marks.proofs.leaf.Goals as goal

pub returns-then-w-x-clause-count : goal.returns-then-w-x-clause-count
returns-then-w-x-clause-count c = ap (λ (v : Walk). counted c.args.n v.answer) (sym (past_x c.requires c.if-w-x.true))

pub returns-then-h-y-clause-count : goal.returns-then-h-y-clause-count
returns-then-h-y-clause-count c =
    ap (λ (v : Walk). counted c.args.n v.answer) (sym (past_y c.requires c.if-w-x.false c.if-h-y.true))

pub returns-clause-count : goal.returns-clause-count
returns-clause-count c =
    ap (λ (v : Walk). counted c.args.n v.answer) (sym (inside c.requires c.if-w-x.false c.if-h-y.false))
