-- `edge_filter::edge_luma` meets its contract: by its marks the lines are written whole, or beside a kept unit. Assumes nothing.
use mathlib.Core.Path.{refl}
use borrow.Author.Rules.{rules}
use Rattle.def.specs.declared.Component.TheVariants.{Luma}
use Rattle.edge_filter.proofs.Turns.{edge_bare, edge_kept}
use Rattle.edge_filter.proofs.edge_luma.Statement.{statement}
use Rattle.edge_filter.proofs.edge_luma.Tie as tie

returns : tie.Need-returns-then-marks-eq0
returns c = edge_bare Luma _ _ _ _ _ _ c.if-marks-eq0.true refl c.window_luma.ensures

returns-2 : tie.Need-returns
returns-2 c = edge_kept Luma _ _ _ _ _ _ c.if-marks-eq0.false c.mask_by-mask.ensures c.window_kept.ensures

pub edge_luma_spec : {M : Type 1} → statement M
edge_luma_spec =
    tie.close
    (tie.spec
    (λ c κs. search rules) (λ c. search rules) returns (λ c κs. search rules) (λ c κs. search rules) (λ c. search rules) returns-2)
