-- `decoder_c::chroma::lomsakeun_derived_chroma_qp_mapping_tables` meets its contract: that of the call it makes, whose answer it reads as a number. Assumes nothing.
use borrow.Author.Rules.{rules}
use Rattle.decoder_c.proofs.chroma.lomsakeun_derived_chroma_qp_mapping_tables.Statement.{statement}
use Rattle.decoder_c.proofs.chroma.lomsakeun_derived_chroma_qp_mapping_tables.Tie as tie

returns : tie.Need-returns
returns c = rw c.answer_number.ensures c.derived_chroma_qp_mapping_tables.ensures

pub lomsakeun_derived_chroma_qp_mapping_tables_spec : {M : Type 1} → statement M
lomsakeun_derived_chroma_qp_mapping_tables_spec = tie.close (tie.spec (λ c κs. search rules) (λ c κs. search rules) (λ c. search rules) (λ c. search rules) returns)
