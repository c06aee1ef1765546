-- `line::mask_of` meets its contract: an arm for each component. Assumes nothing.
use borrow.Author.Rules.{rules}
use Rattle.line.proofs.mask_of.Statement.{statement}
use Rattle.line.proofs.mask_of.Tie as tie

returns : tie.Need-returns-in-Luma
returns c = rw c.in-Luma.is

returns-2 : tie.Need-returns-in-Chroma
returns-2 c = rw c.in-Chroma.is

pub mask_of_spec : {M : Type 1} → statement M
mask_of_spec = tie.close (tie.spec (λ c. search rules) (λ c. search rules) returns returns-2)
