-- `line::any_far` meets its contract: the code is the list of tests. Assumes nothing.
use mathlib.Core.Path.{◌∙◌}
use mathlib.Core.Bool.{◌||◌}
use borrow.Author.Rules.{rules}
use Rattle.line.specs.Row.{far, counted_as, any_far}
use Rattle.line.proofs.Rows.{read}
use Rattle.line.proofs.any_far.Statement.{statement}
use Rattle.line.proofs.any_far.Tie as tie

returns : tie.Need-returns
unfolding any_far
returns c =
    let f = c.struct_told-1.given in
    let g = c.struct_told-3-1.given in
    let q = read c.args.q f.0.1 f.1.0.1 f.1.1.0.1 f.1.1.1.0.1 f.1.1.1.1.0.1 f.1.1.1.1.1.0.1 in
    let p = read c.args.p g.0.1 g.1.0.1 g.1.1.0.1 g.1.1.1.0.1 g.1.1.1.1.0.1 g.1.1.1.1.1.0.1 in
    (λ i.
    (c.counted_far.ensures
    ∙ (λ j. far (counted_as (q.refi0 j) (q.x0 j)) (counted_as (p.refi0 j) (p.x0 j)))) i
    || (c.counted_far-2.ensures ∙ (λ j. far (counted_as (q.refi0 j) (q.y0 j)) (counted_as (p.refi0 j) (p.y0 j)))) i
    || (c.counted_far-3.ensures ∙ (λ j. far (counted_as (q.refi1 j) (q.x1 j)) (counted_as (p.refi1 j) (p.x1 j)))) i
    || (c.counted_far-4.ensures ∙ (λ j. far (counted_as (q.refi1 j) (q.y1 j)) (counted_as (p.refi1 j) (p.y1 j)))) i)

pub any_far_spec : {M : Type 1} → statement M
any_far_spec = tie.close (tie.spec (λ c κs. search rules) (λ c κs. search rules) (λ c κs. search rules) (λ c κs. search rules) returns)
