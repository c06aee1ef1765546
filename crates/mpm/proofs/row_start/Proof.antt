-- `mpm::row_start` meets its contract: both modes pass, so that each index is at most 5. Assumes nothing.
use mathlib.Core.Path.{ap, ◌∙◌}
use native.Mathlib.Omega.{arith}
use borrow.Author.Rules.{rules}
use Rattle.mpm.specs.Ranks.{mode_ok, mode_index, row_start}
use Rattle.mpm.proofs.Modes.{left_ok, up_ok}
use Rattle.mpm.proofs.row_start.Statement.{statement}
use Rattle.mpm.proofs.row_start.Tie as tie

mode_index_requires : tie.Need-mode_index-l-requires
mode_index_requires c κs = ap mode_ok c.left_mode.ensures ∙ left_ok _ _ _ _ _ c.requires.1

mode_index_requires_2 : tie.Need-mode_index-u-requires
mode_index_requires_2 c κs = ap mode_ok c.up_mode.ensures ∙ up_ok _ _ _ _ _ c.requires.1

returns : tie.Need-returns
unfolding row_start
returns c =
    (rw (c.mode_index-l.ensures.0 ∙ ap mode_index c.left_mode.ensures, c.mode_index-u.ensures.0 ∙ ap mode_index c.up_mode.ensures), omega arith)

pub row_start_spec : {M : Type 1} → statement M
row_start_spec =
    tie.close
    (tie.spec
    (λ c κs. search rules)
    mode_index_requires
    (λ c κs. search rules)
    mode_index_requires_2
    (λ c. search rules)
    (λ c. search rules)
    (λ c. search rules)
    returns)
