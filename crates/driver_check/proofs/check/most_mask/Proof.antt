-- `driver_check::check::most_mask` meets its contract: an arm for each format. Assumes nothing.
use mathlib.Core.Path.{refl}
use borrow.Author.Rules.{rules}
use Rattle.driver_check.proofs.check.most_mask.Statement.{statement}
use Rattle.driver_check.proofs.check.most_mask.Tie as tie

returns : tie.Need-returns-in-Grey
returns c = rw c.in-Grey.is refl

returns-2 : tie.Need-returns-in-Colour
returns-2 c = rw c.in-Colour.is refl

pub most_mask_spec : {M : Type 1} → statement M
most_mask_spec = tie.close (tie.spec (λ c. search rules) (λ c. search rules) returns returns-2)
