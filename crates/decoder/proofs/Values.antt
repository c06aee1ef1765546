-- The public calls that answer a value and refuse nothing: what is shared, the numbers of chroma points, what a leaf record says, the maps of the units, the line filter and its rows.
--     NAME-once    over the contract as the checker reads it from the source: the arguments determine the answer
-- Assumes nothing.
use Prim.Native.Nat.{ℕ}
use mathlib.Core.Bool.{Bool}
use mathlib.Core.Path.{◌≡◌, sym, ap, ◌∙◌}
use mathlib.Core.List.{List, [], ◌∷◌}
use lib.IntN.{nat_abs}
use Rattle.chroma_qp_check.proofs.Offsets.{qp_apart}
use Rattle.line.specs.declared.Mask.{Mask}
use Rattle.window.specs.declared.Place.{Place}
use Rattle.window.specs.Window.{window_of}
use Rattle.edge_filter.proofs.Passes.{pass_apart}
use Rattle.unit_maps.specs.Maps.{maps_of}
use Rattle.edge_place.specs.Plans.{lists_of}
use Rattle.decoder.specs.Promise.{ended, Sole}
use Rattle.decoder.proofs.pel2scu.Kinds as pel2scu-kinds
use Rattle.decoder.proofs.pel2scu.Reads as pel2scu-reads
use Rattle.decoder.proofs.in_component.Kinds as in-component-kinds
use Rattle.decoder.proofs.in_component.Reads as in-component-reads
use Rattle.decoder.proofs.get_if.Kinds as get-if-kinds
use Rattle.decoder.proofs.get_if.Reads as get-if-reads
use Rattle.decoder.proofs.get_qp.Kinds as get-qp-kinds
use Rattle.decoder.proofs.get_qp.Reads as get-qp-reads
use Rattle.decoder.proofs.get_cbfl.Kinds as get-cbfl-kinds
use Rattle.decoder.proofs.get_cbfl.Reads as get-cbfl-reads
use Rattle.decoder.proofs.get_cod.Kinds as get-cod-kinds
use Rattle.decoder.proofs.get_cod.Reads as get-cod-reads
use Rattle.decoder.proofs.set_cod.Kinds as set-cod-kinds
use Rattle.decoder.proofs.set_cod.Reads as set-cod-reads
use Rattle.decoder.proofs.clr_cod.Kinds as clr-cod-kinds
use Rattle.decoder.proofs.clr_cod.Reads as clr-cod-reads
use Rattle.decoder.proofs.leaf_word.Kinds as leaf-word-kinds
use Rattle.decoder.proofs.leaf_word.Reads as leaf-word-reads
use Rattle.decoder.proofs.size_ok.Kinds as size-ok-kinds
use Rattle.decoder.proofs.size_ok.Reads as size-ok-reads
use Rattle.decoder.proofs.block_side_ok.Kinds as block-side-ok-kinds
use Rattle.decoder.proofs.block_side_ok.Reads as block-side-ok-reads
use Rattle.decoder.proofs.component_side_ok.Kinds as component-side-ok-kinds
use Rattle.decoder.proofs.component_side_ok.Reads as component-side-ok-reads
use Rattle.decoder.proofs.block_ok.Kinds as block-ok-kinds
use Rattle.decoder.proofs.block_ok.Reads as block-ok-reads
use Rattle.decoder.proofs.unit_ok.Kinds as unit-ok-kinds
use Rattle.decoder.proofs.unit_ok.Reads as unit-ok-reads
use Rattle.decoder.proofs.refusal_number.Kinds as refusal-number-kinds
use Rattle.decoder.proofs.refusal_number.Reads as refusal-number-reads
use Rattle.decoder.proofs.answer_number.Kinds as answer-number-kinds
use Rattle.decoder.proofs.answer_number.Reads as answer-number-reads
use Rattle.decoder.proofs.all_between.Kinds as all-between-kinds
use Rattle.decoder.proofs.all_between.Reads as all-between-reads
use Rattle.decoder.proofs.number_in.Kinds as number-in-kinds
use Rattle.decoder.proofs.number_in.Reads as number-in-reads
use Rattle.decoder.proofs.samples_ok.Kinds as samples-ok-kinds
use Rattle.decoder.proofs.samples_ok.Reads as samples-ok-reads
use Rattle.decoder.proofs.get_bit.Kinds as get-bit-kinds
use Rattle.decoder.proofs.get_bit.Reads as get-bit-reads
use Rattle.decoder.proofs.bits_in.Kinds as bits-in-kinds
use Rattle.decoder.proofs.bits_in.Reads as bits-in-reads
use Rattle.decoder.proofs.mark_place.Kinds as mark-place-kinds
use Rattle.decoder.proofs.mark_place.Reads as mark-place-reads
use Rattle.decoder.proofs.mark_byte.Kinds as mark-byte-kinds
use Rattle.decoder.proofs.mark_byte.Reads as mark-byte-reads
use Rattle.decoder.proofs.root_count.Kinds as root-count-kinds
use Rattle.decoder.proofs.root_count.Reads as root-count-reads
use Rattle.decoder.proofs.put_bit.Kinds as put-bit-kinds
use Rattle.decoder.proofs.put_bit.Reads as put-bit-reads
use Rattle.decoder.proofs.start_qp.Kinds as start-qp-kinds
use Rattle.decoder.proofs.start_qp.Reads as start-qp-reads
use Rattle.decoder.proofs.delta_in.Kinds as delta-in-kinds
use Rattle.decoder.proofs.delta_in.Reads as delta-in-reads
use Rattle.decoder.proofs.delta_out.Kinds as delta-out-kinds
use Rattle.decoder.proofs.delta_out.Reads as delta-out-reads
use Rattle.decoder.proofs.coded_y.Kinds as coded-y-kinds
use Rattle.decoder.proofs.coded_y.Reads as coded-y-reads
use Rattle.decoder.proofs.coded_u.Kinds as coded-u-kinds
use Rattle.decoder.proofs.coded_u.Reads as coded-u-reads
use Rattle.decoder.proofs.coded_v.Kinds as coded-v-kinds
use Rattle.decoder.proofs.coded_v.Reads as coded-v-reads
use Rattle.decoder.proofs.mode_of.Kinds as mode-of-kinds
use Rattle.decoder.proofs.mode_of.Reads as mode-of-reads
use Rattle.decoder.proofs.word_of.Kinds as word-of-kinds
use Rattle.decoder.proofs.word_of.Reads as word-of-reads
use Rattle.decoder.proofs.clear_words.Kinds as clear-words-kinds
use Rattle.decoder.proofs.clear_words.Reads as clear-words-reads
use Rattle.decoder.proofs.tell_units.Kinds as tell-units-kinds
use Rattle.decoder.proofs.tell_units.Reads as tell-units-reads
use Rattle.df.proofs.band.Bands.first.Kinds as first-kinds
use Rattle.df.proofs.band.Bands.first.Reads as first_reads
use Rattle.decoder.proofs.band_rows.Kinds as band-rows-kinds
use Rattle.decoder.proofs.band_rows.Reads as band-rows-reads
use Rattle.decoder.proofs.in_format.Kinds as in-format-kinds
use Rattle.decoder.proofs.in_format.Reads as in-format-reads
use Rattle.decoder.proofs.roots_along.Kinds as roots-along-kinds
use Rattle.decoder.proofs.roots_along.Reads as roots-along-reads
use Rattle.decoder.proofs.rows_above.Kinds as rows-above-kinds
use Rattle.decoder.proofs.rows_above.Reads as rows-above-reads
use Rattle.decoder.proofs.band_ok.Kinds as band-ok-kinds
use Rattle.decoder.proofs.band_ok.Reads as band-ok-reads
use Rattle.decoder.proofs.lent_rows.Kinds as lent-rows-kinds
use Rattle.decoder.proofs.lent_rows.Reads as lent-rows-reads
use Rattle.decoder.proofs.mask_of.Kinds as mask-of-kinds
use Rattle.decoder.proofs.mask_of.Reads as mask-of-reads
use Rattle.decoder.proofs.line.Kinds as line-kinds
use Rattle.decoder.proofs.line.Reads as line_reads_lem
use Rattle.decoder.proofs.entries.Kinds as entries-kinds
use Rattle.decoder.proofs.entries.Reads as entries-reads
use Rattle.decoder.proofs.lanes.Kinds as lanes-kinds
use Rattle.decoder.proofs.lanes.Reads as lanes-reads
use Rattle.decoder.proofs.lanes_by_halves.Kinds as lanes-by-halves-kinds
use Rattle.decoder.proofs.lanes_by_halves.Reads as lanes-by-halves-reads
use Rattle.decoder.proofs.window_luma.Kinds as window-luma-kinds
use Rattle.decoder.proofs.window_luma.Reads as window-luma-reads
use Rattle.decoder.proofs.window_luma_two.Kinds as window-luma-two-kinds
use Rattle.decoder.proofs.window_luma_two.Reads as window-luma-two-reads
use Rattle.decoder.proofs.window_kept.Kinds as window-kept-kinds
use Rattle.decoder.proofs.window_kept.Reads as window-kept-reads
use Rattle.decoder.proofs.window_chroma.Kinds as window-chroma-kinds
use Rattle.decoder.proofs.window_chroma.Reads as window-chroma-reads
use Rattle.decoder.proofs.window_chroma_two.Kinds as window-chroma-two-kinds
use Rattle.decoder.proofs.window_chroma_two.Reads as window-chroma-two-reads
use Rattle.decoder.proofs.motion_row.Kinds as motion-row-kinds
use Rattle.decoder.proofs.motion_row.Reads as motion-row-reads
use Rattle.decoder.proofs.plan_edges.Kinds as plan-edges-kinds
use Rattle.decoder.proofs.plan_edges.Reads as plan-edges-reads
use Rattle.decoder.proofs.is_horizontal.Kinds as is-horizontal-kinds
use Rattle.decoder.proofs.is_horizontal.Reads as is-horizontal-reads
use Rattle.decoder.proofs.filter_luma.Kinds as filter-luma-kinds
use Rattle.decoder.proofs.filter_luma.Reads as filter-luma-reads
use Rattle.decoder.proofs.filter_chroma.Kinds as filter-chroma-kinds
use Rattle.decoder.proofs.filter_chroma.Reads as filter-chroma-reads
use Rattle.decoder.proofs.row_at.Kinds as row-at-kinds
use Rattle.decoder.proofs.row_at.Reads as row-at-reads
use Rattle.decoder.proofs.rows_at.Kinds as rows-at-kinds
use Rattle.decoder.proofs.rows_at.Reads as rows-at-reads
use Rattle.decoder.proofs.rows_right.Kinds as rows-right-kinds
use Rattle.decoder.proofs.rows_right.Reads as rows-right-reads

pub pel2scu_once : Sole 0 pel2scu-kinds.ps pel2scu-kinds.r pel2scu-reads.Post (λ κs r x. r)
pel2scu_once κs a r r' x x' p q = ap (λ (n : ℕ). record { 0 = n }) (p ∙ sym q)

pub in_component_once : Sole 0 in-component-kinds.ps in-component-kinds.r in-component-reads.Post (λ κs r x. r)
in_component_once κs a r r' x x' p q = p ∙ sym q

pub get_if_once : Sole 0 get-if-kinds.ps get-if-kinds.r get-if-reads.Post (λ κs r x. r)
get_if_once κs a r r' x x' p q = p ∙ sym q

pub get_qp_once : Sole 0 get-qp-kinds.ps get-qp-kinds.r get-qp-reads.Post (λ κs r x. r)
get_qp_once κs a r r' x x' p q = p.0 ∙ sym q.0

pub get_cbfl_once : Sole 0 get-cbfl-kinds.ps get-cbfl-kinds.r get-cbfl-reads.Post (λ κs r x. r)
get_cbfl_once κs a r r' x x' p q = p ∙ sym q

pub get_cod_once : Sole 0 get-cod-kinds.ps get-cod-kinds.r get-cod-reads.Post (λ κs r x. r)
get_cod_once κs a r r' x x' p q = p ∙ sym q

pub set_cod_once : Sole 0 set-cod-kinds.ps set-cod-kinds.r set-cod-reads.Post (λ κs r x. r)
set_cod_once κs a r r' x x' p q = p ∙ sym q

pub clr_cod_once : Sole 0 clr-cod-kinds.ps clr-cod-kinds.r clr-cod-reads.Post (λ κs r x. r)
clr_cod_once κs a r r' x x' p q = p ∙ sym q

pub leaf_word_once : Sole 0 leaf-word-kinds.ps leaf-word-kinds.r leaf-word-reads.Post (λ κs r x. r)
leaf_word_once κs a r r' x x' p q = p ∙ sym q

pub size_ok_once : Sole 0 size-ok-kinds.ps size-ok-kinds.r size-ok-reads.Post (λ κs r x. r)
size_ok_once κs a r r' x x' p q = p ∙ sym q

pub block_side_ok_once : Sole 0 block-side-ok-kinds.ps block-side-ok-kinds.r block-side-ok-reads.Post (λ κs r x. r)
block_side_ok_once κs a r r' x x' p q = p ∙ sym q

pub component_side_ok_once : Sole 0 component-side-ok-kinds.ps component-side-ok-kinds.r component-side-ok-reads.Post (λ κs r x. r)
component_side_ok_once κs a r r' x x' p q = p ∙ sym q

pub block_ok_once : Sole 0 block-ok-kinds.ps block-ok-kinds.r block-ok-reads.Post (λ κs r x. r)
block_ok_once κs a r r' x x' p q = p ∙ sym q

pub unit_ok_once : Sole 0 unit-ok-kinds.ps unit-ok-kinds.r unit-ok-reads.Post (λ κs r x. r)
unit_ok_once κs a r r' x x' p q = p ∙ sym q

pub refusal_number_once : Sole 0 refusal-number-kinds.ps refusal-number-kinds.r refusal-number-reads.Post (λ κs r x. r)
refusal_number_once κs a r r' x x' p q = p ∙ sym q

pub answer_number_once : Sole 0 answer-number-kinds.ps answer-number-kinds.r answer-number-reads.Post (λ κs r x. r)
answer_number_once κs a r r' x x' p q = p ∙ sym q

pub samples_ok_once : Sole 1 samples-ok-kinds.ps samples-ok-kinds.r samples-ok-reads.Post (λ κs r x. r)
samples_ok_once κs a r r' x x' p q = p ∙ sym q

pub all_between_once : Sole 1 all-between-kinds.ps all-between-kinds.r all-between-reads.Post (λ κs r x. r)
all_between_once κs a r r' x x' p q = p ∙ sym q

pub number_in_once : Sole 1 number-in-kinds.ps number-in-kinds.r number-in-reads.Post (λ κs r x. r)
number_in_once κs a r r' x x' p q = p ∙ sym q

pub start_qp_once : Sole 0 start-qp-kinds.ps start-qp-kinds.r start-qp-reads.Post (λ κs r x. r)
start_qp_once κs a r r' x x' p q = qp_apart r r' (p.0 ∙ sym q.0)

pub delta_in_once : Sole 0 delta-in-kinds.ps delta-in-kinds.r delta-in-reads.Post (λ κs r x. r)
delta_in_once κs a r r' x x' p q = ap nat_abs (p.0 ∙ sym q.0)

pub delta_out_once : Sole 0 delta-out-kinds.ps delta-out-kinds.r delta-out-reads.Post (λ κs r x. r)
delta_out_once κs a r r' x x' p q = ap nat_abs (p.0 ∙ sym q.0)

pub coded_y_once : Sole 0 coded-y-kinds.ps coded-y-kinds.r coded-y-reads.Post (λ κs r x. r)
coded_y_once κs a r r' x x' p q = p ∙ sym q

pub coded_u_once : Sole 0 coded-u-kinds.ps coded-u-kinds.r coded-u-reads.Post (λ κs r x. r)
coded_u_once κs a r r' x x' p q = p ∙ sym q

pub coded_v_once : Sole 0 coded-v-kinds.ps coded-v-kinds.r coded-v-reads.Post (λ κs r x. r)
coded_v_once κs a r r' x x' p q = p ∙ sym q

pub mode_of_once : Sole 0 mode-of-kinds.ps mode-of-kinds.r mode-of-reads.Post (λ κs r x. r)
mode_of_once κs a r r' x x' p q = p ∙ sym q

pub word_of_once : Sole 0 word-of-kinds.ps word-of-kinds.r word-of-reads.Post (λ κs r x. r)
word_of_once κs a r r' x x' p q = p ∙ sym q

-- the two that follow answer nothing, and the maps are determined
pub clear_words_once : Sole 1 clear-words-kinds.ps clear-words-kinds.r clear-words-reads.Post (λ κs r x. x.0.now)
clear_words_once κs a r r' x x' p q = p ∙ sym q

pub tell_units_once : Sole 3 tell-units-kinds.ps tell-units-kinds.r tell-units-reads.Post (λ κs r x. maps_of x.0.now x.1.0.now x.1.1.0.now)
tell_units_once κs a r r' x x' p q = p ∙ sym q

pub first_once : Sole 0 first-kinds.ps first-kinds.r first_reads.Post (λ κs r x. r)
first_once κs a r r' x x' p q = λ i. record { next = (p ∙ sym q) i }

pub band_rows_once : Sole 0 band-rows-kinds.ps band-rows-kinds.r band-rows-reads.Post (λ κs r x. r)
band_rows_once κs a r r' x x' p q = p ∙ sym q

pub in_format_once : Sole 0 in-format-kinds.ps in-format-kinds.r in-format-reads.Post (λ κs r x. r)
in_format_once κs a r r' x x' p q = p ∙ sym q

pub roots_along_once : Sole 0 roots-along-kinds.ps roots-along-kinds.r roots-along-reads.Post (λ κs r x. r)
roots_along_once κs a r r' x x' p q = p ∙ sym q

pub rows_above_once : Sole 0 rows-above-kinds.ps rows-above-kinds.r rows-above-reads.Post (λ κs r x. r)
rows_above_once κs a r r' x x' p q = p ∙ sym q

pub band_ok_once : Sole 0 band-ok-kinds.ps band-ok-kinds.r band-ok-reads.Post (λ κs r x. r)
band_ok_once κs a r r' x x' p q = p ∙ sym q

pub lent_rows_once : Sole 0 lent-rows-kinds.ps lent-rows-kinds.r lent-rows-reads.Post (λ κs r x. r)
lent_rows_once κs a r r' x x' p q = p ∙ sym q

pub mask_of_once : Sole 0 mask-of-kinds.ps mask-of-kinds.r mask-of-reads.Post (λ κs r x. r)
mask_of_once κs a r r' x x' p q = p ∙ sym q

pub line_once : Sole 0 line-kinds.ps line-kinds.r line_reads_lem.Post (λ κs r x. r)
line_once κs a r r' x x' p q = p ∙ sym q

pub lanes_once : Sole 0 lanes-kinds.ps lanes-kinds.r lanes-reads.Post (λ κs r x. r)
lanes_once κs a r r' x x' p q = p ∙ sym q

pub lanes_by_halves_once : Sole 0 lanes-by-halves-kinds.ps lanes-by-halves-kinds.r lanes-by-halves-reads.Post (λ κs r x. r)
lanes_by_halves_once κs a r r' x x' p q = p ∙ sym q

-- the lines of an edge: they answer nothing, and the planes are determined
-- what is left of a plane, by the answer
window_same : {r r' : Bool} → r ≡ r' → (m : Mask) (st : ℕ → ℕ) (p : Place) (n : ℕ) (xs ys ys' : List ℕ) → ys ≡ window_of r m st p n xs → ys' ≡ window_of r' m st p n xs → ys ≡ ys'
window_same e m st p n xs ys ys' f g = f ∙ (λ i. window_of (e i) m st p n xs) ∙ sym g

pub window_luma_once : Sole 1 window-luma-kinds.ps window-luma-kinds.r window-luma-reads.Post (λ κs r x. x.0.now)
window_luma_once κs a r r' x x' p q = p ∙ sym q

pub window_luma_two_once : Sole 1 window-luma-two-kinds.ps window-luma-two-kinds.r window-luma-two-reads.Post {O = Bool × List ℕ} (λ κs r x. (r, x.0.now))
window_luma_two_once κs a r r' x x' p q =
    let e = p.0 ∙ sym q.0 in
    λ i. (e i, window_same e _ _ _ _ _ _ _ p.1 q.1 i)

pub window_kept_once : Sole 1 window-kept-kinds.ps window-kept-kinds.r window-kept-reads.Post (λ κs r x. x.0.now)
window_kept_once κs a r r' x x' p q = p ∙ sym q

pub window_chroma_once : Sole 2 window-chroma-kinds.ps window-chroma-kinds.r window-chroma-reads.Post (λ κs r x. x.0.now ∷ x.1.0.now ∷ [])
window_chroma_once κs a r r' x x' p q = λ i. (p.0 ∙ sym q.0) i ∷ (p.1 ∙ sym q.1) i ∷ []

pub window_chroma_two_once : Sole 2 window-chroma-two-kinds.ps window-chroma-two-kinds.r window-chroma-two-reads.Post {O = Bool × List (List ℕ)} (λ κs r x. (r, x.0.now ∷ x.1.0.now ∷ []))
window_chroma_two_once κs a r r' x x' p q =
    let e = p.0 ∙ sym q.0 in
    λ i. (e i, window_same e _ _ _ _ _ _ _ p.1 q.1 i ∷ window_same e _ _ _ _ _ _ _ p.2 q.2 i ∷ [])

pub entries_once : Sole 3 entries-kinds.ps entries-kinds.r entries-reads.Post (λ κs r x. r)
entries_once κs a r r' x x' p q = p ∙ sym q

pub motion_row_once : Sole 0 motion-row-kinds.ps motion-row-kinds.r motion-row-reads.Post (λ κs r x. r)
motion_row_once κs a r r' x x' p q = p.0 ∙ sym q.0

pub plan_edges_once : Sole 8 plan-edges-kinds.ps plan-edges-kinds.r plan-edges-reads.Post
    (λ κs r x. lists_of x.1.1.1.1.1.1.1.1.1.0.now x.1.1.1.1.1.1.1.1.1.1.0.now)
plan_edges_once κs a r r' x x' p q = p ∙ sym q

-- a list's edges: the calls that filter them answer nothing, and the planes are determined
pub is_horizontal_once : Sole 0 is-horizontal-kinds.ps is-horizontal-kinds.r is-horizontal-reads.Post (λ κs r x. r)
is_horizontal_once κs a r r' x x' p q = pass_apart r r' (p ∙ sym q)

pub filter_luma_once : Sole 5 filter-luma-kinds.ps filter-luma-kinds.r filter-luma-reads.Post (λ κs r x. x.1.1.0.now)
filter_luma_once κs a r r' x x' p q = p ∙ sym q

pub filter_chroma_once : Sole 6 filter-chroma-kinds.ps filter-chroma-kinds.r filter-chroma-reads.Post (λ κs r x. x.1.1.1.0.now ∷ x.1.1.1.1.0.now ∷ [])
filter_chroma_once κs a r r' x x' p q = λ i. (p.0 ∙ sym q.0) i ∷ (p.1 ∙ sym q.1) i ∷ []

pub row_at_once : Sole 3 row-at-kinds.ps row-at-kinds.r row-at-reads.Post (λ κs r x. r)
row_at_once κs a r r' x x' p q = p.0 ∙ sym q.0

pub rows_at_once : Sole 4 rows-at-kinds.ps rows-at-kinds.r rows-at-reads.Post (λ κs r x. ended r (x.1.1.1.1.1.1.0.now ∷ []))
rows_at_once κs a r r' x x' p q = λ i. ended ((p.0 ∙ sym q.0) i) ((p.1 ∙ sym q.1) i ∷ [])

pub rows_right_once : Sole 4 rows-right-kinds.ps rows-right-kinds.r rows-right-reads.Post (λ κs r x. r)
rows_right_once κs a r r' x x' p q = p ∙ sym q

-- ---- bits and marks

pub get_bit_once : Sole 1 get-bit-kinds.ps get-bit-kinds.r get-bit-reads.Post (λ κs r x. r)
get_bit_once κs a r r' x x' p q = p ∙ sym q

pub bits_in_once : Sole 0 bits-in-kinds.ps bits-in-kinds.r bits-in-reads.Post (λ κs r x. r)
bits_in_once κs a r r' x x' p q = p.0 ∙ sym q.0

pub mark_place_once : Sole 0 mark-place-kinds.ps mark-place-kinds.r mark-place-reads.Post (λ κs r x. r)
mark_place_once κs a r r' x x' p q = p ∙ sym q

pub mark_byte_once : Sole 0 mark-byte-kinds.ps mark-byte-kinds.r mark-byte-reads.Post (λ κs r x. r)
mark_byte_once κs a r r' x x' p q = p ∙ sym q

pub root_count_once : Sole 0 root-count-kinds.ps root-count-kinds.r root-count-reads.Post (λ κs r x. r)
root_count_once κs a r r' x x' p q = p ∙ sym q

-- it answers nothing, and the slice is determined
pub put_bit_once : Sole 1 put-bit-kinds.ps put-bit-kinds.r put-bit-reads.Post (λ κs r x. x.0.now)
put_bit_once κs a r r' x x' p q = p ∙ sym q
