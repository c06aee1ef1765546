-- `nbr::put_run` meets its contract: what is written of the three arms is the run, in either branch. Assumes nothing.
use mathlib.Core.Path.{◌∙◌}
use borrow.Author.Rules.{rules}
use Rattle.nbr.proofs.Borders.{border_long, border_run}
use Rattle.nbr.proofs.put_run.Statement.{statement}
use Rattle.nbr.proofs.put_run.Tie as tie

put_few_requires : tie.Need-put_few-requires
put_few_requires c κs =
    (c.requires.2, border_long c.args.block _ c.requires.0 c.requires.1 c.args.run.now c.requires.3, c.if-units-eq2.true)

put_all_requires : tie.Need-put_all-requires
put_all_requires c κs =
    (c.requires.2, border_long c.args.block _ c.requires.0 c.requires.1 c.args.run.now c.requires.3)

returns : tie.Need-returns-then-units-eq2
returns c =
    c.put_few.ensures ∙ border_run c.args.block _ c.requires.0 c.requires.1 _ c.requires.3 _ _ _

returns-2 : tie.Need-returns-else-units-eq2
returns-2 c =
    c.put_all.ensures ∙ border_run c.args.block _ c.requires.0 c.requires.1 _ c.requires.3 _ _ _

pub put_run_spec : {M : Type 1} → statement M
put_run_spec = tie.close (tie.spec put_few_requires put_all_requires (λ c. search rules) returns (λ c. search rules) returns-2)
