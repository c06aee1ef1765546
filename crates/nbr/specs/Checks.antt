-- Gathering's checks in the order in which the code can make them: those of the form before the first sample is read, and that of the samples after the last.
-- Assumes nothing: these are definitions.
use Rattle.std.specs.Prelude.{ℕ, Ok}
use Rattle.def.specs.Answers.{after_checks}
use Rattle.def.specs.declared.Component.{Component}
use Rattle.def.specs.Answers.{Answer}
use Rattle.nbr.specs.Gather.{Input, Outcome, form_then, samples_check, refused, done}

-- all but the samples
unfoldable pub form_of : Component → (w h x y side plane words run : ℕ) → Answer
form_of c w h x y side plane words run = form_then c w h x y side plane words run (Ok tt)

-- the outcome of a call whose form passes
unfoldable pub gathered : Input → Outcome
gathered i = after_checks (refused i) (done i) (samples_check i.around)
