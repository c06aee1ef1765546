-- `mpm::modes_ok` meets its contract: both modes that are consulted pass. Assumes nothing.
use borrow.Author.Rules.{rules}
use Rattle.mpm.specs.Ranks.{modes_ok}
use Rattle.mpm.proofs.modes_ok.Statement.{statement}
use Rattle.mpm.proofs.modes_ok.Tie as tie

returns : tie.Need-returns
unfolding modes_ok
returns c =
    rw (c.mode_ok.ensures, c.left_mode.ensures, c.mode_ok-2.ensures, c.up_mode.ensures)

pub modes_ok_spec : {M : Type 1} → statement M
modes_ok_spec =
    tie.close (tie.spec (λ c κs. search rules) (λ c κs. search rules) (λ c κs. search rules) (λ c κs. search rules) returns)
