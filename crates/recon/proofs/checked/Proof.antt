-- `recon::checked` meets its contract: a row of checks. `past-K` is what check K, passed, leaves of the row. Assumes nothing.
use Rattle.std.specs.Prelude.{Ok, Err}
use mathlib.Core.Path.{◌≡◌, refl, sym, ◌∙◌}
use borrow.Author.Rules.{rules}
use lib.ListN.{length}
use Rattle.laws.specs.Call.{unless}
use Rattle.laws.proofs.Calls.{stops, goes_on}
use Rattle.def.specs.Answers.{Answer}
use Rattle.def.specs.declared.Refusal.TheVariants.{Length, Sample}
use Rattle.def.proofs.Sides.{component_side}
use Rattle.samples.specs.Samples.{samples_ok}
use Rattle.recon.specs.Recon.{lengths_ok, block_check}
use Rattle.recon.proofs.checked.Statement.{statement}
use Rattle.recon.proofs.checked.Tie as tie

past1 : (c : tie.Else-not-component_side_ok) (x : Answer) → let a = c.args in
    x ≡ unless (lengths_ok a.side (length a.pred.now) a.coef a.rec) (Err Length)
    (unless (samples_ok a.pred.now) (Err Sample) (Ok tt)) → x ≡ block_check a.side a.pred.now a.coef a.rec
unfolding block_check
past1 c x p = goes_on _ _ _ _ x c.component_side_ok.ensures c.if-not-component_side_ok.false-raw p

past2 : (c : tie.Else-not-lengths_ok) (x : Answer) → let a = c.args in
    x ≡ unless (samples_ok a.pred.now) (Err Sample) (Ok tt) → x ≡ block_check a.side a.pred.now a.coef a.rec
past2 c x p = past1 c.before.before x (goes_on _ _ _ _ x c.lengths_ok.ensures c.if-not-lengths_ok.false-raw p)

returns : tie.Need-returns-then-not-component_side_ok
unfolding block_check
returns c = stops _ _ _ _ c.component_side_ok.ensures c.if-not-component_side_ok.true-raw

lengths_ok_requires : tie.Need-lengths_ok-requires
lengths_ok_requires c κs = (component_side _ (sym c.component_side_ok.ensures ∙ c.if-not-component_side_ok.false)).most

returns-2 : tie.Need-returns-then-not-lengths_ok
returns-2 c = past1 c.before.before _ (stops _ _ _ _ c.lengths_ok.ensures c.if-not-lengths_ok.true-raw)

returns-3 : tie.Need-returns-then-not-samples_ok
returns-3 c = past2 c.before.before _ (stops _ _ _ _ c.samples_ok.ensures c.if-not-samples_ok.true-raw)

returns-4 : tie.Need-returns
returns-4 c = past2 c.before.before _ (goes_on _ _ _ _ _ c.samples_ok.ensures c.if-not-samples_ok.false-raw refl)

pub checked_spec : {M : Type 1} → statement M
checked_spec =
    tie.close
    (tie.spec (λ c κs. search rules) returns lengths_ok_requires returns-2 (λ c κs. search rules) returns-3 returns-4)
