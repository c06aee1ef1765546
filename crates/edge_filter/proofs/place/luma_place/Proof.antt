-- `edge_filter::place::luma_place` meets its contract: at the edge's two numbers. Assumes nothing.
use Prim.Native.Nat.{◌*◌}
use mathlib.Core.Path.{◌∙◌}
use native.Mathlib.Omega.{arith}
use borrow.Author.Rules.{rules}
use Rattle.edge_filter.specs.Edges.{pass_of, lines_place}
use Rattle.edge_filter.proofs.place.luma_place.Statement.{statement}
use Rattle.edge_filter.proofs.place.luma_place.Tie as tie

place_requires : tie.Need-place-requires
place_requires c κs = (omega (arith, c.requires.0), omega (arith, c.cross_at.ensures.1), omega (arith, c.along_at.ensures.1))

returns : tie.Need-returns
returns c =
    let a = c.args in
    let x = c.cross_at.ensures.0 in
    let z = c.along_at.ensures.0 in
    c.place.ensures ∙ (λ k. lines_place (pass_of a.pass) (4 * a.columns) (x k) (z k))

pub luma_place_spec : {M : Type 1} → statement M
luma_place_spec =
    tie.close
    (tie.spec
    (λ c. search rules) (λ c κs. search rules) (λ c κs. search rules) place_requires returns)
