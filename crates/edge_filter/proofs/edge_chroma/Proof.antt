-- `edge_filter::edge_chroma` meets its contract: the two planes are of one length; by its marks the lines are written whole, or beside a kept unit. Assumes nothing.
use native.Mathlib.Omega.{arith}
use borrow.Author.Rules.{rules}
use Rattle.def.specs.declared.Component.TheVariants.{Chroma}
use Rattle.edge_filter.proofs.Turns.{edge_bare, edge_kept}
use Rattle.edge_filter.proofs.edge_chroma.Statement.{statement}
use Rattle.edge_filter.proofs.edge_chroma.Tie as tie

returns : tie.Need-returns-then-marks-eq0
returns c =
    let e = c.requires in
    let r = c.window_chroma.ensures in
    let k = c.if-marks-eq0.true in
    (edge_bare Chroma _ _ _ _ _ _ k (omega (arith, e)) r.0, edge_bare Chroma _ _ _ _ _ _ k (omega (arith, e)) r.1)

returns-2 : tie.Need-returns
returns-2 c =
    let m = c.mask_by-inner.ensures in
    let e = c.if-marks-eq0.false in
    (edge_kept Chroma _ _ _ _ _ _ e m c.window_kept.ensures, edge_kept Chroma _ _ _ _ _ _ e m c.window_kept-2.ensures)

pub edge_chroma_spec : {M : Type 1} → statement M
edge_chroma_spec =
    tie.close
    (tie.spec
    (λ c κs. search rules) (λ c. search rules) (λ c. search rules) returns (λ c κs. search rules) (λ c κs. search rules) (λ c κs. search rules)
    (λ c. search rules) (λ c. search rules) returns-2)
