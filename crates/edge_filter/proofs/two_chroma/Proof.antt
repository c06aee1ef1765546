-- `edge_filter::two_chroma` meets its contract: nothing is done where edge j does not follow, and else what `window` does. Assumes nothing.
use native.Mathlib.Omega.{arith}
use borrow.Author.Rules.{rules}
use Rattle.def.specs.declared.Component.TheVariants.{Chroma}
use Rattle.edge_filter.specs.Edges.{pass_of}
use Rattle.edge_filter.proofs.Turns.{neither_not, pair_none, pair_tried}
use Rattle.edge_filter.proofs.two_chroma.Statement.{statement}
use Rattle.edge_filter.proofs.two_chroma.Tie as tie

returns : tie.Need-returns-then-loud-follows
returns c =
    let a = c.args in (
      pair_none Chroma (pass_of a.pass) _ _ a.i a.j a.p a.u0 a.u1 a.u.now a.loud,
      pair_none Chroma (pass_of a.pass) _ _ a.i a.j a.p a.v0 a.v1 a.v.now a.loud,
    )

returns-2 : tie.Need-returns
returns-2 c =
    let a = c.args in
    let e = c.requires.2 in
    let h = neither_not _ _ c.if-loud-follows.false in
    let f = c.follows.ensures h.1 in
    let w = c.window_chroma_two.ensures in (
      pair_tried Chroma (pass_of a.pass) _ _ a.i a.j a.p a.u0 a.u1 a.u.now a.loud h.0 f _ (omega (arith, e)) _ w.0 _ w.1,
      pair_tried Chroma (pass_of a.pass) _ _ a.i a.j a.p a.v0 a.v1 a.v.now a.loud h.0 f _ (omega (arith, e)) _ w.0 _ w.2,
    )

pub two_chroma_spec : {M : Type 1} → statement M
two_chroma_spec = tie.close (tie.spec (λ c κs. search rules) returns (λ c κs. search rules) (λ c. search rules) (λ c. search rules) returns-2)
