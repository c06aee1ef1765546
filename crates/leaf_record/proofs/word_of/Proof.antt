-- `leaf_record::word_of` meets its contract: the flags are the record's. Assumes nothing.
use mathlib.Core.Path.{◌∙◌}
use borrow.Author.Rules.{rules}
use Rattle.leaf_record.proofs.word_of.Statement.{statement}
use Rattle.leaf_record.proofs.word_of.Tie as tie

returns : tie.Need-returns
returns c = c.leaf_word.ensures ∙ rw c.coded_y.ensures

pub word_of_spec : {M : Type 1} → statement M
word_of_spec = tie.close (tie.spec (λ c κs. search rules) (λ c κs. search rules) returns)
