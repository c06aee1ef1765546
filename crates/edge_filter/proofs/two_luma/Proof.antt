-- `edge_filter::two_luma` meets its contract: nothing is done where edge j does not follow, and else what `window` does. Assumes nothing.
use mathlib.Core.Path.{refl}
use borrow.Author.Rules.{rules}
use Rattle.def.specs.declared.Component.TheVariants.{Luma}
use Rattle.edge_filter.specs.Edges.{pass_of}
use Rattle.edge_filter.proofs.Turns.{neither_not, pair_none, pair_tried}
use Rattle.edge_filter.proofs.two_luma.Statement.{statement}
use Rattle.edge_filter.proofs.two_luma.Tie as tie

returns : tie.Need-returns-then-loud-follows
returns c =
    let a = c.args in
    pair_none Luma (pass_of a.pass) _ _ a.i a.j a.p a.s0 a.s1 a.y.now a.loud

returns-2 : tie.Need-returns
returns-2 c =
    let a = c.args in
    let h = neither_not _ _ c.if-loud-follows.false in
    let w = c.window_luma_two.ensures in
    let f = c.follows.ensures h.1 in
    pair_tried Luma (pass_of a.pass) _ _ a.i a.j a.p a.s0 a.s1 a.y.now a.loud h.0 f _ refl _ w.0 _ w.1

pub two_luma_spec : {M : Type 1} → statement M
two_luma_spec = tie.close (tie.spec (λ c κs. search rules) returns (λ c κs. search rules) (λ c. search rules) returns-2)
