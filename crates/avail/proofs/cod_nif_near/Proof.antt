-- `avail::cod_nif_near` meets its contract: both flags of the word that is read. Assumes nothing.
use mathlib.Core.Path.{ap}
use borrow.Author.Rules.{rules}
use Rattle.avail.specs.Around.{done_not_intra}
use Rattle.avail.proofs.cod_nif_near.Statement.{statement}
use Rattle.avail.proofs.cod_nif_near.Tie as tie

returns : tie.Need-returns
returns c = rw (c.get_cod.ensures, c.get_if.ensures) (ap done_not_intra c.word_near-word.ensures)

pub cod_nif_near_spec : {M : Type 1} → statement M
cod_nif_near_spec =
    tie.close (tie.spec (λ c κs. search rules) (λ c κs. search rules) (λ c κs. search rules) returns)
