-- `avail::done_near` meets its contract: the flag of the word that is read. Assumes nothing.
use mathlib.Core.Path.{ap, ◌∙◌}
use borrow.Author.Rules.{rules}
use Rattle.def.specs.Word.{done_of}
use Rattle.avail.proofs.done_near.Statement.{statement}
use Rattle.avail.proofs.done_near.Tie as tie

returns : tie.Need-returns
returns c = c.get_cod.ensures ∙ ap done_of c.word_near.ensures

pub done_near_spec : {M : Type 1} → statement M
done_near_spec = tie.close (tie.spec (λ c κs. search rules) (λ c κs. search rules) returns)
