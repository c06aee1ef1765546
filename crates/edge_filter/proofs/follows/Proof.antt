-- `edge_filter::follows` meets its contract: each of its four tests holds. Assumes nothing.
use Prim.Native.Nat.{◌+◌}
use mathlib.Core.Bool.{◌&&◌}
use mathlib.Core.Path.{sym, ◌∙◌}
use borrow.Author.Rules.{rules}
use borrow.Author.Tests.{eqb-true}
use lib.Dec.{eqb}
use lib.ListN.{get_or}
use Rattle.split.proofs.Sides.{and-true}
use Rattle.edge_filter.proofs.follows.Statement.{statement}
use Rattle.edge_filter.proofs.follows.Tie as tie

returns : tie.Need-returns
returns c =
    λ t.
    let a = c.args in
    let x₁ = c.cross_at in
    let x₀ = c.cross_at-2 in
    let z₁ = c.along_at in
    let z₀ = c.along_at-2 in
    let m = eqb (get_or a.marks.now a.i 0) 0 in
    let n = eqb (get_or a.marks.now a.j 0) 0 in
    let f = and-true ((m && n) && eqb x₁.result x₀.result) (eqb z₁.result (z₀.result + 4)) t in
    let g = and-true (m && n) (eqb x₁.result x₀.result) f.0 in
    let h = and-true m n g.0 in
    record {
      unmarked = eqb-true _ _ h.0;
      next_unmarked = eqb-true _ _ h.1;
      across = sym x₁.ensures.0 ∙ eqb-true _ _ g.1 ∙ x₀.ensures.0;
      along = sym z₁.ensures.0 ∙ eqb-true _ _ f.1 ∙ (λ k. z₀.ensures.0 k + 4);
    }

pub follows_spec : {M : Type 1} → statement M
follows_spec =
    tie.close
    (tie.spec
    (λ c. search rules) (λ c. search rules) (λ c κs. search rules) (λ c κs. search rules) (λ c κs. search rules) (λ c κs. search rules)
    (λ c. search rules) returns)
