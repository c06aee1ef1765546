-- The text that is written lies in the buffer.
use Rattle.std.proofs.Common.{rules, sym, ◌≡◌, Ok}
use lib.Seq.{length-take-le}
use Rattle.sheet.proofs.Outcomes.{text_fits}
use Rattle.sheet_out.proofs.print.Goals as goal

was_ok : (c : goal.In_ok-n) → c.listing.result ≡ Ok c.in_ok-n.n
was_ok c = search rules

pub slice_bounds-write_all-end : goal.slice_bounds-write_all-end
slice_bounds-write_all-end c = text_fits _ _ _ _ _ c.listing.auto.out c.listing.ensures (was_ok c)

pub slice_bounds-write_all-end-2 : goal.slice_bounds-write_all-end-2
slice_bounds-write_all-end-2 c = sym (length-take-le _ _ (text_fits _ _ _ _ _ c.listing.auto.out c.listing.ensures (was_ok c)))
