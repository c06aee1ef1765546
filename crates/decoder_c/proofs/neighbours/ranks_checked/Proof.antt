-- `decoder_c::neighbours::ranks_checked` meets its contract: 1, the length of five, and then what the lookup finds. Assumes nothing.
use borrow.Author.Rules.{rules}
use borrow.Author.Tests.{eq-eqb, ne_eqb}
use Rattle.laws.proofs.Calls.{stops, goes_on, at_refusal, past_refusal}
use Rattle.decoder_c.specs.Ranks.{check_of}
use Rattle.decoder_c.proofs.Ranks.{found}
use Rattle.decoder_c.proofs.neighbours.ranks_checked.Statement.{statement}
use Rattle.decoder_c.proofs.neighbours.ranks_checked.Tie as tie

returns : tie.Need-returns-then-not-size_ok
unfolding check_of
returns c = stops _ _ _ _ c.size_ok.ensures c.if-not-size_ok.true-raw

returns-2 : tie.Need-returns-then-ranks-ne5
unfolding check_of
returns-2 c =
    goes_on _ _ _ _ _ c.size_ok.ensures c.if-not-size_ok.false-raw (at_refusal _ _ _ (ne_eqb _ _ c.if-ranks-ne5.true))

returns-3 : tie.Need-returns
unfolding check_of
returns-3 c =
    goes_on _ _ _ _ _ c.size_ok.ensures c.if-not-size_ok.false-raw
    (past_refusal _ _ _ _ (eq-eqb _ _ c.if-ranks-ne5.false) (found _ _ c.get_mpm_number.ensures))

pub ranks_checked_spec : {M : Type 1} → statement M
ranks_checked_spec = tie.close (tie.spec (λ c κs. search rules) returns returns-2 (λ c κs. search rules) returns-3)
