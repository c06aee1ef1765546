-- `mpm::mode_index` meets its contract: 0 of none, and else one more. Assumes nothing.
use native.Mathlib.Omega.{arith}
use borrow.Author.Rules.{rules}
use borrow.Author.Tests.{eq-eqb, ne_eqb}
use Rattle.mpm.proofs.Modes.{mode_small}
use Rattle.mpm.proofs.mode_index.Statement.{statement}
use Rattle.mpm.proofs.mode_index.Tie as tie

returns : tie.Need-returns-then-mode-eq255
returns c = (rw (eq-eqb _ _ c.if-mode-eq255.true), omega arith)

returns-2 : tie.Need-returns
returns-2 c =
    let f = ne_eqb _ _ c.if-mode-eq255.false in
    (rw f, omega (arith, mode_small c.args.mode f c.requires))

pub mode_index_spec : {M : Type 1} → statement M
mode_index_spec = tie.close (tie.spec returns (λ c. search rules) returns-2)
