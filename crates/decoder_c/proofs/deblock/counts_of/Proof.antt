-- `decoder_c::deblock::counts_of` meets its contract: an arm for each answer. Assumes nothing.
use mathlib.Core.Path.{refl}
use borrow.Author.Rules.{rules}
use Rattle.decoder_c.proofs.deblock.counts_of.Statement.{statement}
use Rattle.decoder_c.proofs.deblock.counts_of.Tie as tie

returns-2 : tie.Need-returns-in-Err
returns-2 c = rw c.in-Err.is (c.refusal_number.ensures, refl, refl)

pub counts_of_spec : {M : Type 1} → statement M
counts_of_spec = tie.close (tie.spec (λ c. search rules) (λ c. search rules) (λ c κs. search rules) (λ c. search rules) returns-2)
