-- `nbr::gather` meets its contract: whether its samples pass tells whether the run is written. Assumes nothing.
use borrow.Author.Rules.{rules}
use Rattle.nbr.proofs.Borders.{reads_of}
use Rattle.nbr.proofs.Gathered.{samples_refused, samples_passed}
use Rattle.nbr.proofs.gather.Statement.{statement}
use Rattle.nbr.proofs.gather.Tie as tie

samples_pass_requires : tie.Need-samples_pass-requires
samples_pass_requires c κs =
    (c.requires.0, c.border_of-border.ensures, reads_of _ _ _ _ c.requires.0 c.requires.1 c.border_of-border.ensures)

put_run_requires : tie.Need-put_run-requires
put_run_requires c κs =
    let o = c.border_of-border.ensures in
    (c.requires.0, o, reads_of _ _ _ _ c.requires.0 c.requires.1 o, c.requires.2)

returns : tie.Need-returns-then-not-samples_pass
returns c = let e = c.samples_pass in samples_refused _ e.result e.ensures c.if-not-samples_pass.true

returns-2 : tie.Need-returns
returns-2 c =
    let e = c.samples_pass in
    samples_passed _ e.result _ e.ensures c.if-not-samples_pass.false c.put_run.ensures

pub gather_spec : {M : Type 1} → statement M
gather_spec = tie.close (tie.spec (λ c κs. search rules) samples_pass_requires returns put_run_requires (λ c. search rules) returns-2)
