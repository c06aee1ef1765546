-- `ipred::ipred_dc_b` meets its contract: the mean of the two arms, all over the block. Assumes nothing.
use mathlib.Core.Path.{◌∙◌}
use native.Mathlib.Omega.{arith}
use borrow.Author.Rules.{rules}
use Rattle.ipred.proofs.Dc.{quotient_below, dc_block}
use Rattle.ipred.proofs.ipred_dc_b.Statement.{statement}
use Rattle.ipred.proofs.ipred_dc_b.Tie as tie

cast_fill_row : tie.Need-overflow_cast-sum
cast_fill_row c = record { fits = quotient_below _ _ _ (omega arith) (omega arith) }

returns : tie.Need-returns
returns c =
    let pre = c.requires in
    c.fill_row.ensures ∙ dc_block _ _ _ _ _ pre.1 pre.0.block_long c.sum_of.ensures.0 c.sum_of-2.ensures.0

pub ipred_dc_b_spec : {M : Type 1} → statement M
ipred_dc_b_spec =
    tie.close
    (tie.spec (λ c. search rules) (λ c κs. search rules) (λ c. search rules) (λ c. search rules) (λ c κs. search rules)
    (λ c. search rules) (λ c. search rules) (λ c. search rules) (λ c. search rules) (λ c. search rules) cast_fill_row
    (λ c κs. search rules) (λ c. search rules) returns)
