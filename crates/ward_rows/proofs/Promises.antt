-- What is promised of the call: over its contract as the checker reads it from the source, the arguments determine the answer and the row's buffer.
--     put_row_once
-- Assumes nothing.
use Rattle.std.proofs.Common.{[], ◌∷◌, sym, ap, ◌∙◌, ap₂}
use Rattle.decoder.specs.Promise.{ended, Sole}
use Rattle.ward_rows.proofs.put_row.Kinds as put-row-kinds
use Rattle.ward_rows.proofs.put_row.Reads as put-row-reads

pub put_row_once : Sole 2 put-row-kinds.ps put-row-kinds.r put-row-reads.Post (λ κs r x. ended r (x.1.1.1.1.1.1.1.0.now ∷ []))
put_row_once κs a r r' x x' p q = ap₂ ended (p.0 ∙ sym q.0) (ap (λ l. l ∷ []) (p.1 ∙ sym q.1))
