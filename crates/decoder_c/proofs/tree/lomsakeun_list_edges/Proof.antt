-- `decoder_c::tree::lomsakeun_list_edges` meets its contract: that of the call it makes, whose answer it reads as numbers. Assumes nothing.
use borrow.Author.Rules.{rules}
use Rattle.decoder_c.proofs.tree.lomsakeun_list_edges.Statement.{statement}
use Rattle.decoder_c.proofs.tree.lomsakeun_list_edges.Tie as tie

returns : tie.Need-returns
returns c = let e = c.list_numbers-seen.ensures in rw (e.0, e.1, e.2) c.list_edges.ensures

pub lomsakeun_list_edges_spec : {M : Type 1} → statement M
lomsakeun_list_edges_spec = tie.close (tie.spec (λ c κs. search rules) (λ c κs. search rules) (λ c. search rules) (λ c. search rules) returns)
