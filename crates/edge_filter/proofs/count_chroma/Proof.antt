-- `edge_filter::count_chroma` meets its contract: by the format, and by the lengths. Assumes nothing.
use native.Mathlib.Omega.{arith}
use borrow.Author.Rules.{rules}
use Rattle.edge_filter.proofs.Turns.{count_grey, count_colour, count_unlike}
use Rattle.edge_filter.proofs.count_chroma.Statement.{statement}
use Rattle.edge_filter.proofs.count_chroma.Tie as tie

returns : tie.Need-returns-in-Grey
returns c = (count_grey _ _ _ _ _ c.in-Grey.is, omega arith, λ h. omega arith)

returns-2 : tie.Need-returns-then-long_u-long_v
returns-2 c = let r = c.count_luma.ensures in (count_colour _ _ _ _ _ _ c.in-Colour.is c.if-long_u-long_v.true r.0, r.1, λ h. (r.2 h, c.if-long_u-long_v.true))

returns-3 : tie.Need-returns-else-long_u-long_v
returns-3 c = (count_unlike _ _ _ _ _ c.in-Colour.is c.if-long_u-long_v.false, omega arith, λ h. omega arith)

pub count_chroma_spec : {M : Type 1} → statement M
count_chroma_spec =
    tie.close
    (tie.spec
    (λ c. search rules) (λ c. search rules) (λ c κs. search rules) returns returns-2 returns-3)
