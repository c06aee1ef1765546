-- `df_check::check::least_offset` meets its contract: by the format. Assumes nothing.
use borrow.Author.Rules.{rules}
use Rattle.df_check.proofs.check.least_offset.Statement.{statement}
use Rattle.df_check.proofs.check.least_offset.Tie as tie

returns : tie.Need-returns-in-Grey
returns c = rw c.in-Grey.is

returns-2 : tie.Need-returns-in-Colour
returns-2 c = rw c.in-Colour.is

pub least_offset_spec : {M : Type 1} → statement M
least_offset_spec = tie.close (tie.spec (λ c. search rules) (λ c. search rules) returns returns-2)
