-- Every public call that may refuse, in one place, but those of edge rows (`Rows`) and of streams (`Streams`); `Values` has those that refuse nothing.
--     NAME-once        over the contract as the checker reads it from the source: the arguments determine the answer and every slice that the call may write
--     NAME-refusals    the refusals that the call gives, in the order of its ladder, each with an input that meets it and, where one input can, what every later
--                      rung refuses too, so that in another order another number would come out; of a call that gives none, nothing
-- The answer is determined, and not its reading alone, because each reading tells all answers apart: `answer_apart`, `number_apart` (def), `reading_apart`
-- (avail, df_laws, sheet_lines, sheet), `banded_apart` (df_laws), `rank_apart` (rank), `leaves_apart`, `list_apart` (split), `marks_apart` (marks),
-- `placed_apart` (pack) and `mended_apart` (mend).
-- Assumes nothing.
use Rattle.std.specs.Prelude.{Ok, Err}
use Prim.Native.Nat.{ℕ, ◌+◌, ◌-◌, ◌*◌, ◌/◌}
use mathlib.Core.Logic.{inl, inr}
use mathlib.Core.Path.{◌≡◌, refl, sym, ◌∙◌}
use mathlib.Core.Bool.{Bool, true, false, not, ◌||◌}
use mathlib.Core.List.{List, [], ◌∷◌, ◌++◌, map}
use denote.Ref.{Bor, MutBor}
use lib.Dec.{ltb, leb, eqb}
use lib.IntN.{ℤ, pos, negsuc}
use lib.ListN.{length, set, replicate, take, drop}
use Rattle.laws.proofs.Calls.{one_outcome}
use Rattle.laws.specs.Bits.{field_of, with_field}
use Rattle.laws.specs.Call.{unless, all_of}
use Rattle.laws.specs.Index.{tabulate_from}
use Rattle.laws.specs.Orders.{run}
use Rattle.laws.specs.Scan.{all_below}
use Rattle.def.specs.Answers.{answer_number, after_checks}
use Rattle.def.specs.Blocks.{block_side_ok, component_side_ok, block_ok, unit_ok}
use Rattle.def.specs.Components.{scale_of, plane_length}
use Rattle.def.specs.Picture.{size_ok, unit_count, root_count}
use Rattle.def.specs.Refusals.{number_of}
use Rattle.def.specs.Word.{flag_at}
use Rattle.def.specs.declared.Format.{Format}
use Rattle.def.specs.declared.Format.TheVariants.{Grey, Colour}
use Rattle.def.specs.Answers.{Answer}
use Rattle.def.specs.declared.Refusal.{Refusal}
use Rattle.def.specs.declared.Refusal.TheVariants.{Size, Length, Setting, Split, Leaf, Keep, Qp, Sample, Block, Mode, Points as BadPoints, Pivot, Sheet, Record, Band, Bits, Rows, Old}
use Rattle.def.specs.declared.Component.TheVariants.{Luma}
use Rattle.def.specs.declared.Format.{Format}
use Rattle.def.specs.declared.Format.TheVariants.{Grey, Colour}
use Rattle.def.proofs.Answers.{answer_apart}
use Rattle.samples.specs.Samples.{samples_ok}
use Rattle.chroma_qp_check.specs.Check as points-check
use Rattle.chroma_qp_check.specs.Pivots.{Points, in_of, out_of}
use Rattle.chroma_qp.specs.Derived as derived
use Rattle.avail.specs.Around as around
use Rattle.avail.specs.Calls as avail
use Rattle.avail.specs.Inter.{inter_neighbours}
use Rattle.avail.specs.Intra.{intra_neighbours}
use Rattle.avail.specs.declared.Neighbours.{Neighbours}
use Rattle.avail.proofs.Readings.{reading_apart}
use Rattle.nbr.specs.Gather as gather
use Rattle.mpm.specs.Ranks as ranks
use Rattle.ipred.specs.Predict as predict
use Rattle.recon.specs.Plane as plane
use Rattle.recon.specs.Recon as recon
use Rattle.driver_rules.specs.Call as driver
use Rattle.driver_rules.specs.Records.{bytes_ok, first, passed}
use Rattle.rank.specs.RankCall as rank
use Rattle.rank.specs.Ranks.{rank as visitingRank}
use Rattle.rank.proofs.Ranks.{rank_apart}
use Rattle.split.specs.CheckCall as check
use Rattle.split.specs.LeavesCall as leaves
use Rattle.split.specs.ListCall as list
use Rattle.split.specs.Picture.{leaves_of}
use Rattle.split.specs.RootCall as root-list
use Rattle.split.specs.RootLeavesCall as root-leaves
use Rattle.split.specs.Walk.{onward, in_turn, leaf_walk, by_byte, walk}
use Rattle.split.proofs.Apart.{leaves_apart, list_apart}
use Rattle.df_check.specs.BandCheck as band-checks
use Rattle.bits.specs.Bits.{bit_at, bits_from}
use Rattle.marks.specs.ListCall as marked
use Rattle.marks.specs.TakeCall as marked_by
use Rattle.marks.proofs.Apart.{marks_apart}
use Rattle.marks_rules.specs.Descent.{descend_on, descents as descentsBy, descend as descendBy}
use Rattle.marks_rules.specs.Marks.{marks, digits}
use Rattle.marks_rules.specs.Pictures.{joined}
use Rattle.mend.proofs.Apart.{mended_apart}
use Rattle.mend.specs.MendCall as mend
use Rattle.pack.proofs.Apart.{placed_apart}
use Rattle.pack_parts.proofs.Apart.{Wrote, write_sole, Read, read_sole}
use Rattle.pack_parts.specs.declared.Reader.{Reader}
use Rattle.pack_parts.specs.declared.Writer.{Writer}
use Rattle.pack_rules.specs.Form as compact
use Rattle.pack_rules.specs.GetCall as get-map
use Rattle.pack_rules.specs.PutCall as put_map
use Rattle.pack_rules.specs.TakeCall as take-map
use Rattle.df_check.specs.Checks as checks
use Rattle.band_rows.specs.Rows.{band_rows, band_ok}
use Rattle.df.specs.Band as band
use Rattle.by_rows_check.specs.Checks as rows-checks
use Rattle.df.specs.ByRows as by_rows_lem
use Rattle.df.specs.Deblock as deblock
use Rattle.rows_rules.specs.Checks.{lengths_ok, check_maps, right_ok}
use Rattle.rows_rules.specs.Rule.{edge_row, rule_byte, right_bytes}
use Rattle.df_laws.proofs.Apart.{reading_apart as deblocked-apart, banded_apart}
use Rattle.sheet_lines.specs.Lines.{start_of, line_of, starts_with, is_number, number_line, edge_line, old_edge, same_line, splits_line, number_after, value_from, line_ok, first_bad}
use Rattle.sheet_lines.specs.Lines.{width_of, height_of, limit_of, old_of, digits_of}
use Rattle.sheet_lines.specs.ReadCall as sheet
use Rattle.sheet_lines.specs.Words.{width_key, height_key, limit_key, own_edge, source_edge, splits_key}
use Rattle.sheet_lines.proofs.Answers.{reading_apart as sheet-apart}
use Rattle.sheet.specs.Listing as listing
use Rattle.sheet.specs.Text.{sides_ok, found_by, found_of, found_in}
use Rattle.sheet.specs.Words.{newline}
use Rattle.sheet.proofs.Outcomes.{reading_apart as printed-apart}
use Rattle.decoder.specs.Promise.{ended, Sole, Refuses, refusal_in}
use Rattle.decoder.proofs.Settled.{told, settled}
use Rattle.decoder.proofs.Refusing.{Stops, zeroth, longer, last, rung, again, walk_rung, by_checks, root_stops, picture_stops, line_said, sheet_rung}
use Rattle.decoder.proofs.Taking.{bits_rung, root_takes, picture_takes, digits_said}
use Rattle.decoder.proofs.checked_points.Kinds as checked-points-kinds
use Rattle.decoder.proofs.checked_points.Reads as checked-points-reads
use Rattle.decoder.proofs.derived_chroma_qp_mapping_tables.Kinds as tables-kinds
use Rattle.decoder.proofs.derived_chroma_qp_mapping_tables.Reads as tables-reads
use Rattle.decoder.proofs.get_avail_intra.Kinds as get-avail-intra-kinds
use Rattle.decoder.proofs.get_avail_intra.Reads as get-avail-intra-reads
use Rattle.decoder.proofs.get_avail_inter.Kinds as get-avail-inter-kinds
use Rattle.decoder.proofs.get_avail_inter.Reads as get-avail-inter-reads
use Rattle.decoder.proofs.get_mpm.Kinds as get-mpm-kinds
use Rattle.decoder.proofs.get_mpm.Reads as get-mpm-reads
use Rattle.decoder.proofs.get_mpm_number.Kinds as get-mpm-number-kinds
use Rattle.decoder.proofs.get_mpm_number.Reads as get-mpm-number-reads
use Rattle.decoder.proofs.get_nbr.Kinds as get-nbr-kinds
use Rattle.decoder.proofs.get_nbr.Reads as get-nbr-reads
use Rattle.decoder.proofs.ipred_b.Kinds as ipred-b-kinds
use Rattle.decoder.proofs.ipred_b.Reads as ipred-b-reads
use Rattle.decoder.proofs.recon.Kinds as recon-kinds
use Rattle.decoder.proofs.recon.Reads as recon-reads
use Rattle.decoder.proofs.recon_plane.Kinds as recon-plane-kinds
use Rattle.decoder.proofs.recon_plane.Reads as recon-plane-reads
use Rattle.decoder.proofs.reconstruct.Kinds as reconstruct-kinds
use Rattle.decoder.proofs.reconstruct.Reads as reconstruct-reads
use Rattle.decoder.proofs.leaves.Kinds as leaves-kinds
use Rattle.decoder.proofs.leaves.Reads as leaves-reads
use Rattle.decoder.proofs.root_leaves.Kinds as root-leaves-kinds
use Rattle.decoder.proofs.root_leaves.Reads as root-leaves-reads
use Rattle.decoder.proofs.check.Kinds as check-kinds
use Rattle.decoder.proofs.check.Reads as check-reads
use Rattle.decoder.proofs.visiting_rank.Kinds as visiting-rank-kinds
use Rattle.decoder.proofs.visiting_rank.Reads as visiting-rank-reads
use Rattle.decoder.proofs.list_edges.Kinds as list-edges-kinds
use Rattle.decoder.proofs.list_edges.Reads as list-edges-reads
use Rattle.decoder.proofs.root_list.Kinds as root-list-kinds
use Rattle.decoder.proofs.root_list.Reads as root-list-reads
use Rattle.df.proofs.band.Bands.deblock_band.Kinds as deblock-band-kinds
use Rattle.df.proofs.band.Bands.deblock_band.Reads as deblock-band-reads
use Rattle.decoder.proofs.checked_band.Kinds as checked-band-kinds
use Rattle.decoder.proofs.checked_band.Reads as checked-band-reads
use Rattle.decoder.proofs.list_marks.Kinds as list-marks-kinds
use Rattle.decoder.proofs.list_marks.Reads as list-marks-reads
use Rattle.decoder.proofs.take_marks.Kinds as take-marks-kinds
use Rattle.decoder.proofs.take_marks.Reads as take-marks-reads
use Rattle.decoder.proofs.put_map.Kinds as put-map-kinds
use Rattle.decoder.proofs.put_map.Reads as put-map-reads
use Rattle.decoder.proofs.get_map.Kinds as get-map-kinds
use Rattle.decoder.proofs.get_map.Reads as get-map-reads
use Rattle.decoder.proofs.take_map.Kinds as take-map-kinds
use Rattle.decoder.proofs.take_map.Reads as take-map-reads
use Rattle.decoder.proofs.mend.Kinds as mend-kinds
use Rattle.decoder.proofs.mend.Reads as mend-reads
use Rattle.decoder.proofs.checked_by_rows.Kinds as checked-by-rows-kinds
use Rattle.decoder.proofs.checked_by_rows.Reads as checked-by-rows-reads
use Rattle.decoder.proofs.deblock_by_rows.Kinds as by-rows-kinds
use Rattle.decoder.proofs.deblock_by_rows.Reads as by-rows-reads
use Rattle.decoder.proofs.deblock.Kinds as deblock-kinds
use Rattle.decoder.proofs.deblock.Reads as deblock-reads
use Rattle.decoder.proofs.checked_leaves.Kinds as checked-leaves-kinds
use Rattle.decoder.proofs.checked_leaves.Reads as checked-leaves-reads
use Rattle.decoder.proofs.checked.Kinds as checked-kinds
use Rattle.decoder.proofs.checked.Reads as checked-reads
use Rattle.decoder.proofs.read.Kinds as read-kinds
use Rattle.decoder.proofs.read.Reads as read-reads
use Rattle.decoder.proofs.listing.Kinds as listing-kinds
use Rattle.decoder.proofs.listing.Reads as listing-reads

-- ---- chroma QP

pub derived_chroma_qp_mapping_tables_once : Sole 6 tables-kinds.ps tables-kinds.r tables-reads.Post
    (λ κs r x. ended r (x.1.1.1.1.1.1.1.1.0.now ∷ x.1.1.1.1.1.1.1.1.1.0.now ∷ []))
derived_chroma_qp_mapping_tables_once κs a r r' x x' p q = settled derived.outcome (λ o. o.number) (λ o. o.t0 ∷ o.t1 ∷ []) p q (answer_apart r r')

pub checked_points_once : Sole 4 checked-points-kinds.ps checked-points-kinds.r checked-points-reads.Post (λ κs r x. r)
checked_points_once κs a r r' x x' p q = one_outcome points-check.check _ _ _ p q

-- 58 points that have one a, of which some count; a table; and a call with them
abbrev points : ℕ → ℤ → Points
points n a = record { count = n; a = replicate 58 a; b = replicate 58 (pos 0) }

abbrev chroma_table : List ℤ
chroma_table = replicate 70 (pos 0)

abbrev pointed : List ℤ → Points → Points → derived.Input
pointed t p q = record { global_offset = false; same_table = false; first = p; second = q; t0 = t; t1 = t }

-- an input for each rung. An a of -1 is 10, and its pivot 11; one of 70 is 11 alone
abbrev pointings : List derived.Input
pointings =
    pointed [] (points 1 (negsuc 0)) (points 1 (negsuc 0))
    ∷ pointed chroma_table (points 1 (negsuc 0)) (points 1 (negsuc 0))
    ∷ pointed chroma_table (points 1 (pos 70)) (points 1 (negsuc 0))
    ∷ pointed chroma_table (points 1 (pos 70)) (points 1 (pos 70))
    ∷ pointed chroma_table (points 1 (pos 0)) (points 1 (pos 70))
    ∷ []

abbrev by_points : List Refusal
by_points = Length ∷ BadPoints ∷ BadPoints ∷ Pivot ∷ Pivot ∷ []

points_stop : (i : points-check.Input) → Stops by_points (points-check.check i)
unfolding points-check.check
points_stop i =
    rung (points-check.input_lengths_ok i) Length _
    (rung (points-check.points_ok i.first.count i.first.a) BadPoints _
    (rung (i.same_table || points-check.points_ok i.second.count i.second.a) BadPoints _
    (rung (points-check.pivots_ok (points-check.input_start i) i.first) Pivot _
    (rung (i.same_table || points-check.pivots_ok (points-check.input_start i) i.second) Pivot _ last))))

pub derived_chroma_qp_mapping_tables_refusals : Refuses derived.outcome (λ o. o.number) by_points
unfolding derived.outcome points-check.check points-check.lengths_ok points-check.points_ok points-check.pivots_ok points-check.pivot_ok in_of out_of all_below
derived_chroma_qp_mapping_tables_refusals =
    record {
      only = λ i. by_checks (λ o. o.number) (derived.refused i) (derived.done i) by_points (derived.check i) (λ r. refl) refl (points_stop (derived.checked i));
      shown = pointings;
      given = refl;
    }

pub checked_points_refusals : Refuses points-check.check answer_number by_points
unfolding points-check.check points-check.lengths_ok points-check.points_ok points-check.pivots_ok points-check.pivot_ok in_of out_of all_below
checked_points_refusals = record { only = λ i. (points_stop i).by; shown = map derived.checked pointings; given = refl }

-- ---- availability

pub get_avail_intra_once : Sole 1 get-avail-intra-kinds.ps get-avail-intra-kinds.r get-avail-intra-reads.Post (λ κs r x. r)
get_avail_intra_once κs a r r' x x' p q = told avail.intra_outcome (λ o. o.reading) p q (reading_apart r r')

pub get_avail_inter_once : Sole 1 get-avail-inter-kinds.ps get-avail-inter-kinds.r get-avail-inter-reads.Post (λ κs r x. r)
get_avail_inter_once κs a r r' x x' p q = told avail.inter_outcome (λ o. o.reading) p q (reading_apart r r')

-- a block of some side at the start of a picture w wide and 4 high
abbrev unit : ℕ → List ℕ → ℕ → around.Input
unit w words side = record { w = w; h = 4; words = words; x = 0; y = 0; side = side }

-- whatever the neighbours are
availability_refuses : (f : around.Input → Neighbours)
    → Refuses (λ (i : around.Input). after_checks avail.refused (avail.done (f i)) (avail.check i)) (λ o. o.reading.number) (Size ∷ Length ∷ Block ∷ [])
unfolding avail.check_of size_ok block_ok block_side_ok
availability_refuses f =
    record {
      only = λ i.
          by_checks (λ o. o.reading.number) avail.refused (avail.done (f i)) (Size ∷ Length ∷ Block ∷ []) (avail.check i) (λ r. refl) refl
          (rung (size_ok i.w i.h) Size _
          (rung (eqb (length i.words) (unit_count i.w i.h)) Length _
          (rung (block_ok i.w i.h i.x i.y i.side) Block _ last)));
      shown = unit 0 (0 ∷ []) 0 ∷ unit 4 [] 0 ∷ unit 4 (0 ∷ []) 0 ∷ [];
      given = refl;
    }

pub get_avail_intra_refusals : Refuses avail.intra_outcome (λ o. o.reading.number) (Size ∷ Length ∷ Block ∷ [])
unfolding avail.intra_outcome
get_avail_intra_refusals = availability_refuses intra_neighbours

pub get_avail_inter_refusals : Refuses avail.inter_outcome (λ o. o.reading.number) (Size ∷ Length ∷ Block ∷ [])
unfolding avail.inter_outcome
get_avail_inter_refusals = availability_refuses inter_neighbours

-- ---- mode ranks: the part itself, by the memory that it lies in, its start and its bytes

pub get_mpm_once : Sole 3 get-mpm-kinds.ps get-mpm-kinds.r get-mpm-reads.Post {O = ranks.Part} (λ κs r x. record { memory = r.ref_ptr.0; start = r.ref_ptr.1; bytes = r.now })
get_mpm_once κs a r r' x x' p q = one_outcome ranks.part_outcome _ _ _ p q

pub get_mpm_number_once : Sole 3 get-mpm-number-kinds.ps get-mpm-number-kinds.r get-mpm-number-reads.Post (λ κs r x. r)
get_mpm_number_once κs a r r' x x' p q = told ranks.number_outcome (λ o. o.number) p q (answer_apart r r')

-- a unit right of the first or the second of two, which are intra, done and of mode 7
abbrev right : ℕ → List ℕ → ℕ → ranks.Input
right w table x = record { w = w; h = 4; words = replicate 2 2147516416; modes = replicate 2 7; table = table; x = x; y = 0 }

-- where it gives a number, `get_mpm` answers the empty part
pub get_mpm_number_refusals : Refuses ranks.number_outcome (λ o. o.number) (Size ∷ Length ∷ Block ∷ Mode ∷ [])
unfolding ranks.number_outcome ranks.check ranks.lengths_ok ranks.modes_ok size_ok unit_ok flag_at field_of
get_mpm_number_refusals =
    record {
      only = λ i.
          (rung (size_ok i.w i.h) Size _
          (rung (ranks.lengths_ok i.w i.h (length i.words) (length i.modes) (length i.table)) Length _
          (rung (unit_ok i.w i.h i.x i.y) Block _
          (rung (ranks.modes_ok i.w i.words i.modes i.x i.y) Mode _ last)))).by;
      shown = right 0 [] 2 ∷ right 8 [] 2 ∷ right 8 (replicate 180 0) 2 ∷ right 8 (replicate 180 0) 1 ∷ [];
      given = refl;
    }

-- ---- gathering

pub get_nbr_once : Sole 3 get-nbr-kinds.ps get-nbr-kinds.r get-nbr-reads.Post (λ κs r x. ended r (x.1.1.1.1.1.1.1.1.1.0.now ∷ []))
get_nbr_once κs a r r' x x' p q = settled gather.outcome (λ o. o.number) (λ o. o.run ∷ []) p q (answer_apart r r')

-- around the second of two units side by side, the first done, of n samples that are all 1024. A block of 8 cannot stand there
abbrev gathered : ℕ → ℕ → ℕ → List ℕ → gather.Input
gathered h n side run =
    record {
      around = record { component = Luma; w = 8; h = h; plane = replicate n 1024; words = 2147483648 ∷ 0 ∷ []; x = 4; y = 0; side = side; constrained = false };
      run = run;
    }

pub get_nbr_refusals : Refuses gather.outcome (λ o. o.number) (Size ∷ Length ∷ Block ∷ Length ∷ Sample ∷ [])
unfolding gather.outcome gather.check_of gather.lengths_ok gather.samples_ok gather.run_at gather.near_at size_ok block_ok block_side_ok flag_at field_of all_below
get_nbr_refusals =
    record {
      only = λ i.
          by_checks (λ o. o.number) (gather.refused i) (gather.done i) (Size ∷ Length ∷ Block ∷ Length ∷ Sample ∷ []) (gather.check i) (λ r. refl) refl
          (rung (size_ok i.around.w i.around.h) Size _
          (rung (gather.lengths_ok i.around.component i.around.w i.around.h (length i.around.plane) (length i.around.words)) Length _
          (rung (block_ok i.around.w i.around.h i.around.x i.around.y i.around.side) Block _
          (rung (eqb (length i.run) (gather.run_length i.around.component i.around.side)) Length _
          (rung (gather.samples_ok i.around) Sample _ last)))));
      shown =
          gathered 5 31 8 []
          ∷ gathered 4 31 8 []
          ∷ gathered 4 32 8 []
          ∷ gathered 4 32 4 []
          ∷ gathered 4 32 4 (replicate 17 0)
          ∷ [];
      given = refl;
    }

-- ---- the five modes

pub ipred_b_once : Sole 2 ipred-b-kinds.ps ipred-b-kinds.r ipred-b-reads.Post (λ κs r x. ended r (x.1.1.1.0.now ∷ []))
ipred_b_once κs a r r' x x' p q = settled predict.outcome (λ o. o.number) (λ o. o.block ∷ []) p q (answer_apart r r')

abbrev predicting : ℕ → ℕ → List ℕ → predict.Input
predicting mode side run = record { mode = mode; side = side; run = run; block = replicate 4 0 }

pub ipred_b_refusals : Refuses predict.outcome (λ o. o.number) (Block ∷ Length ∷ Mode ∷ Sample ∷ [])
unfolding predict.outcome predict.lengths_ok component_side_ok samples_ok all_below
ipred_b_refusals =
    record {
      only = λ i.
          by_checks (λ o. o.number) (predict.refused i) (predict.done i) (Block ∷ Length ∷ Mode ∷ Sample ∷ []) (predict.check i) (λ r. refl) refl
          (rung (component_side_ok i.side) Block _
          (rung (predict.lengths_ok i.side (length i.run) (length i.block)) Length _
          (rung (predict.mode_ok i.mode) Mode _
          (rung (samples_ok i.run) Sample _ last))));
      shown =
          predicting 5 3 (replicate 8 1024)
          ∷ predicting 5 2 (replicate 8 1024)
          ∷ predicting 5 2 (replicate 9 1024)
          ∷ predicting 0 2 (replicate 9 1024)
          ∷ [];
      given = refl;
    }

-- ---- residual addition

pub recon_once : Sole 3 recon-kinds.ps recon-kinds.r recon-reads.Post (λ κs r x. ended r (x.1.1.1.1.0.now ∷ []))
recon_once κs a r r' x x' p q = settled recon.outcome (λ o. o.number) (λ o. o.rec ∷ []) p q (answer_apart r r')

pub recon_plane_once : Sole 3 recon-plane-kinds.ps recon-plane-kinds.r recon-plane-reads.Post (λ κs r x. ended r (x.1.1.1.1.1.1.1.1.1.0.now ∷ []))
recon_plane_once κs a r r' x x' p q = settled plane.outcome (λ o. o.number) (λ o. o.rec ∷ []) p q (answer_apart r r')

abbrev adding : ℕ → List ℕ → recon.Input
adding side pred = record { coded = true; side = side; pred = pred; coef = replicate 4 (pos 0); rec = replicate 4 0 }

pub recon_refusals : Refuses recon.outcome (λ o. o.number) (Block ∷ Length ∷ Sample ∷ [])
unfolding recon.outcome recon.block_check recon.lengths_ok component_side_ok samples_ok all_below
recon_refusals =
    record {
      only = λ i.
          by_checks (λ o. o.number) (recon.refused i) (recon.done i) (Block ∷ Length ∷ Sample ∷ []) (recon.check i) (λ r. refl) refl
          (rung (component_side_ok i.side) Block _
          (rung (recon.lengths_ok i.side (length i.pred) (length i.coef) (length i.rec)) Length _
          (rung (samples_ok i.pred) Sample _ last)));
      shown = adding 3 (replicate 5 1024) ∷ adding 2 (replicate 5 1024) ∷ adding 2 (replicate 4 1024) ∷ [];
      given = refl;
    }

-- into a luma plane w wide and 4 high, in which no block of 8 fits
abbrev adding_at : ℕ → ℕ → List ℕ → List ℕ → plane.Input
adding_at w side pred rec =
    record { component = Luma; w = w; h = 4; x = 0; y = 0; side = side; coded = true; pred = pred; coef = replicate 16 (pos 0); rec = rec }

pub recon_plane_refusals : Refuses plane.outcome (λ o. o.number) (Size ∷ Length ∷ Block ∷ Length ∷ Sample ∷ [])
unfolding plane.outcome plane.plane_check plane.block_lengths_ok size_ok block_ok block_side_ok samples_ok all_below
recon_plane_refusals =
    record {
      only = λ i.
          by_checks (λ o. o.number) (plane.refused i) (plane.done i) (Size ∷ Length ∷ Block ∷ Length ∷ Sample ∷ []) (plane.check i) (λ r. refl) refl
          (rung (size_ok i.w i.h) Size _
          (rung (eqb (length i.rec) (plane_length i.component i.w i.h)) Length _
          (rung (block_ok i.w i.h i.x i.y i.side) Block _
          (rung (plane.block_lengths_ok (i.side / scale_of i.component) (length i.pred) (length i.coef)) Length _
          (rung (samples_ok i.pred) Sample _ last)))));
      shown =
          adding_at 0 8 (replicate 17 1024) (replicate 15 0)
          ∷ adding_at 4 8 (replicate 17 1024) (replicate 15 0)
          ∷ adding_at 4 8 (replicate 17 1024) (replicate 16 0)
          ∷ adding_at 4 4 (replicate 17 1024) (replicate 16 0)
          ∷ adding_at 4 4 (replicate 16 1024) (replicate 16 0)
          ∷ [];
      given = refl;
    }

-- ---- the split tree

pub leaves_once : Sole 2 leaves-kinds.ps leaves-kinds.r leaves-reads.Post (λ κs r x. ended r (x.1.1.1.1.1.0.now ∷ []))
leaves_once κs a r r' x x' p q = settled leaves.outcome (λ o. o.reading) (λ o. o.out ∷ []) p q (leaves_apart r r')

pub root_leaves_once : Sole 2 root-leaves-kinds.ps root-leaves-kinds.r root-leaves-reads.Post (λ κs r x. ended r (x.1.1.1.1.0.now ∷ []))
root_leaves_once κs a r r' x x' p q = settled root-leaves.outcome (λ o. o.reading) (λ o. o.out ∷ []) p q (leaves_apart r r')

pub check_once : Sole 1 check-kinds.ps check-kinds.r check-reads.Post (λ κs r x. r)
check_once κs a r r' x x' p q = told check.outcome (λ o. o.number) p q (answer_apart r r')

pub visiting_rank_once : Sole 0 visiting-rank-kinds.ps visiting-rank-kinds.r visiting-rank-reads.Post (λ κs r x. r)
visiting_rank_once κs a r r' x x' p q = told rank.outcome (λ o. o.reading) p q (rank_apart r r')

pub list_edges_once : Sole 3 list-edges-kinds.ps list-edges-kinds.r list-edges-reads.Post (λ κs r x. ended r (x.1.1.1.1.0.now ∷ x.1.1.1.1.1.0.now ∷ []))
list_edges_once κs a r r' x x' p q = settled list.outcome (λ o. o.reading) (λ o. o.vertical ∷ o.horizontal ∷ []) p q (list_apart r r')

pub root_list_once : Sole 2 root-list-kinds.ps root-list-kinds.r root-list-reads.Post (λ κs r x. ended r (x.1.1.1.1.1.1.1.1.0.now ∷ []))
root_list_once κs a r r' x x' p q = settled root-list.outcome (λ o. o.reading) (λ o. o.out ∷ []) p q (leaves_apart r r')

-- the split bytes of a root, all of them b; and one too few, all of them 2. In a picture of one unit a block of 64 reaches past the picture
abbrev root : ℕ → List ℕ
root b = replicate 1024 b

abbrev torn : List ℕ
torn = replicate 1023 2

abbrev walked : ℕ → List ℕ → ℕ → leaves.Input
walked h splits x = record { w = 4; h = h; splits = splits; x = x; y = 0; out = replicate 768 0 }

pub leaves_refusals : Refuses leaves.outcome (λ o. o.reading.number) (Size ∷ Length ∷ Block ∷ Split ∷ Leaf ∷ [])
unfolding leaves.outcome leaves.check_of leaves.lengths_ok leaves.root_ok size_ok walk by_byte in_turn onward leaf_walk
leaves_refusals =
    record {
      only = λ i.
          by_checks (λ o. o.reading.number) (leaves.refused i) (leaves.done i) (Size ∷ Length ∷ Block ∷ Split ∷ Leaf ∷ []) (leaves.check i) (λ r. refl) refl
          (rung (size_ok i.w i.h) Size _
          (rung (leaves.lengths_ok i.w i.h (length i.splits) (length i.out)) Length _
          (rung (leaves.root_ok i.w i.h i.x i.y) Block _
          (root_stops i.splits (i.w / 4) (i.h / 4) (leaves.root_index i.w i.x i.y)))));
      shown = walked 5 torn 1 ∷ walked 4 torn 1 ∷ walked 4 (root 2) 1 ∷ walked 4 (root 2) 0 ∷ walked 4 (root 0) 0 ∷ [];
      given = refl;
    }

abbrev numbered : ℕ → List ℕ → ℕ → root-leaves.Input
numbered h splits i = record { w = 4; h = h; splits = splits; root = i; out = replicate 768 0 }

pub root_leaves_refusals : Refuses root-leaves.outcome (λ o. o.reading.number) (Size ∷ Length ∷ Block ∷ Split ∷ Leaf ∷ [])
unfolding leaves.outcome leaves.check_of leaves.lengths_ok leaves.root_ok size_ok walk by_byte in_turn onward leaf_walk
root_leaves_refusals =
    record {
      only = λ i. leaves_refusals.only (root-leaves.placed i);
      shown = numbered 5 torn 1 ∷ numbered 4 torn 1 ∷ numbered 4 (root 2) 1 ∷ numbered 4 (root 2) 0 ∷ numbered 4 (root 0) 0 ∷ [];
      given = refl;
    }

abbrev checking : ℕ → List ℕ → check.Input
checking h splits = record { w = 4; h = h; splits = splits }

pub check_refusals : Refuses check.outcome (λ o. o.number) (Size ∷ Length ∷ Split ∷ Leaf ∷ [])
unfolding check.outcome check.check size_ok walk by_byte in_turn onward leaf_walk
check_refusals =
    record {
      only = λ i.
          by_checks (λ o. o.number) (λ r. check.numbered (number_of r)) (check.numbered 0) (Size ∷ Length ∷ Split ∷ Leaf ∷ []) (check.check i) (λ r. refl) refl
          (rung (size_ok i.w i.h) Size _
          (rung (eqb (length i.splits) (1024 * root_count i.w i.h)) Length _
          (picture_stops i.splits (i.w / 4) (i.h / 4))));
      shown = checking 5 torn ∷ checking 4 torn ∷ checking 4 (root 2) ∷ checking 4 (root 0) ∷ [];
      given = refl;
    }

pub visiting_rank_refusals : Refuses rank.outcome (λ o. o.reading.number) (Block ∷ [])
unfolding rank.outcome rank.check
visiting_rank_refusals =
    record {
      only = λ i.
          by_checks (λ o. o.reading.number) (λ r. rank.after (Err r)) (rank.after (Ok (visitingRank i.x i.y))) (Block ∷ []) (rank.check i)
          (λ r. refl) refl (rung (all_of (ltb i.x 16 ∷ ltb i.y 16 ∷ [])) Block _ last);
      shown = record { x = 16; y = 0 } ∷ [];
      given = refl;
    }

abbrev edges : ℕ → List ℕ → ℕ → list.Input
edges h splits limit = record { w = 4; h = h; splits = splits; limit = limit; vertical = 0 ∷ 0 ∷ []; horizontal = 0 ∷ 0 ∷ [] }

pub list_edges_refusals : Refuses list.outcome (λ o. o.reading.number) (Size ∷ Length ∷ Setting ∷ Split ∷ Leaf ∷ [])
unfolding list.outcome list.check_of list.lengths_ok list.limit_ok size_ok walk by_byte in_turn onward leaf_walk
list_edges_refusals =
    record {
      only = λ i.
          by_checks (λ o. o.reading.number) (list.refused i) (list.done i) (Size ∷ Length ∷ Setting ∷ Split ∷ Leaf ∷ []) (list.check i) (λ r. refl) refl
          (rung (size_ok i.w i.h) Size _
          (rung (list.lengths_ok i.w i.h (length i.splits) (length i.vertical) (length i.horizontal)) Length _
          (rung (list.limit_ok i.limit) Setting _
          (picture_stops i.splits (i.w / 4) (i.h / 4)))));
      shown = edges 5 torn 7 ∷ edges 4 torn 7 ∷ edges 4 (root 2) 7 ∷ edges 4 (root 2) 5 ∷ edges 4 (root 0) 5 ∷ [];
      given = refl;
    }

-- n: how long the list is
abbrev rooted : ℕ → ℕ → List ℕ → ℕ → ℕ → root-list.Input
rooted h top splits x n = record { w = 4; h = h; splits = splits; x = x; y = 0; horizontal = false; halved = false; top = top; out = replicate n 0 }

pub root_list_refusals : Refuses root-list.outcome (λ o. o.reading.number) (Size ∷ Length ∷ Block ∷ Split ∷ Leaf ∷ [])
unfolding root-list.outcome root-list.check_of leaves.check_of leaves.lengths_ok leaves.root_ok size_ok walk by_byte in_turn onward leaf_walk
root_list_refusals =
    record {
      only = λ i.
          by_checks (λ o. o.reading.number) (root-list.refused i) (root-list.done i) (Size ∷ Length ∷ Block ∷ Split ∷ Leaf ∷ []) (root-list.check i) (λ r. refl) refl
          (again (size_ok i.w i.h) Size _ (inl refl)
          (again (leb (i.top + i.h / 4) 1024) Size _ (inl refl)
          (again (eqb (length i.out) 512) Length _ (inr (inl refl))
          (rung (size_ok i.w i.h) Size _
          (rung (leaves.lengths_ok i.w i.h (length i.splits) 768) Length _
          (rung (leaves.root_ok i.w i.h i.x i.y) Block _
          (root_stops i.splits (i.w / 4) (i.h / 4) (leaves.root_index i.w i.x i.y))))))));
      shown = rooted 4 1024 torn 1 511 ∷ rooted 4 0 torn 1 512 ∷ rooted 4 0 (root 2) 1 512 ∷ rooted 4 0 (root 2) 0 512 ∷ rooted 4 0 (root 0) 0 512 ∷ [];
      given = refl;
    }

-- ---- the driver

-- the three planes, the words, the modes and the keep bytes
pub reconstruct_once : Sole 12 reconstruct-kinds.ps reconstruct-kinds.r reconstruct-reads.Post
    (λ κs r x. let t = x.1.1.1.1.1.1.1.1.1.1 in ended r (t.0.now ∷ t.1.0.now ∷ t.1.1.0.now ∷ t.1.1.1.0.now ∷ t.1.1.1.1.0.now ∷ t.1.1.1.1.1.0.now ∷ []))
reconstruct_once κs a r r' x x' p q = settled driver.outcome (λ o. o.number) (λ o. o.y ∷ o.u ∷ o.v ∷ o.words ∷ o.modes ∷ o.keep ∷ []) p q (answer_apart r r')

pub checked_leaves_once : Sole 5 checked-leaves-kinds.ps checked-leaves-kinds.r checked-leaves-reads.Post (λ κs r x. r)
checked_leaves_once κs a r r' x x' p q = p ∙ sym q

-- a picture of one unit, w wide, with n samples in each chroma plane: its split bytes, the word to be written, its leaf's record, and the number that every sample of the lent luma prediction is
abbrev driven : Format → (n w : ℕ) → List ℕ → List ℕ → List ℕ → ℕ → driver.Input
driven f n w splits words leaves sample =
    record {
      given = record { w = w; h = 4; format = f; constrained = false; leaves = leaves; residual = []; pred_y = replicate 16 sample; pred_u = replicate n 0; pred_v = replicate n 0 };
      splits = splits;
      y = replicate 16 0;
      u = replicate n 0;
      v = replicate n 0;
      words = words;
      modes = 0 ∷ [];
      keep = 0 ∷ [];
    }

-- three units side by side: every block is cut, but that the last unit's block of 8 has the byte b. Two leaves come before it, so that records are judged there
abbrev last_byte : ℕ → List ℕ
last_byte b = set (root 1) 787 b

-- that picture, w wide: its split bytes, its words, and the kind, QP and mask of its three records; every sample of the lent luma prediction is 1024
abbrev drawn : (w : ℕ) → (splits words : List ℕ) → (kind qp mask : ℕ) → driver.Input
drawn w splits words kind qp mask =
    let leaf = kind ∷ qp ∷ mask ∷ 0 ∷ [] in
    record {
      given = record {
        w = w;
        h = 4;
        format = Colour;
        constrained = false;
        leaves = leaf ++ (leaf ++ leaf);
        residual = [];
        pred_y = replicate 48 1024;
        pred_u = replicate 12 0;
        pred_v = replicate 12 0;
      };
      splits = splits;
      y = replicate 48 0;
      u = replicate 12 0;
      v = replicate 12 0;
      words = words;
      modes = replicate 3 0;
      keep = replicate 3 0;
    }

-- an input for each rung
abbrev drivings : List driver.Input
drivings =
    drawn 13 (last_byte 2) [] 6 52 8
    ∷ drawn 12 (take 1023 (last_byte 2)) [] 6 52 8
    ∷ drawn 12 (last_byte 2) [] 6 52 8
    ∷ drawn 12 (last_byte 2) (replicate 3 0) 6 52 8
    ∷ drawn 12 (last_byte 0) (replicate 3 0) 6 52 8
    ∷ drawn 12 (root 1) (replicate 3 0) 6 52 8
    ∷ drawn 12 (root 1) (replicate 3 0) 6 52 0
    ∷ drawn 12 (root 1) (replicate 3 0) 5 52 0
    ∷ drawn 12 (root 1) (replicate 3 0) 5 51 0
    ∷ []

abbrev by_driver : List Refusal
by_driver = Size ∷ Length ∷ Length ∷ Split ∷ Leaf ∷ Record ∷ Mode ∷ Qp ∷ Sample ∷ []

driver_stops : (i : driver.Input) → Stops by_driver (driver.check i)
unfolding driver.check_of driver.data_check
driver_stops i =
    let g = i.given in
    let l = driver.leaves_of g.w g.h i.splits in
    rung (size_ok g.w g.h) Size _
    (rung (driver.read_ok g.w g.h g.format (length i.splits) (length g.pred_y) (length g.pred_u) (length g.pred_v)) Length _
    (rung (driver.written_ok g.w g.h g.format (length i.y) (length i.u) (length i.v) (length i.words) (length i.modes) (length i.keep)) Length _
    (walk_rung (Record ∷ Mode ∷ Qp ∷ Sample ∷ []) _ _ (picture_stops i.splits (g.w / 4) (g.h / 4))
    (rung (driver.records_ok g.format g.leaves (length g.residual) (passed g.leaves l first).at (length l)) Record _
    (rung (bytes_ok g.leaves (length l) 0 5) Mode _
    (rung (bytes_ok g.leaves (length l) 1 51) Qp _
    (rung (driver.lent_ok g.pred_y g.pred_u g.pred_v) Sample _ last)))))))

pub reconstruct_refusals : Refuses driver.outcome (λ o. o.number) by_driver
unfolding driver.outcome driver.check_of driver.read_ok driver.written_ok driver.data_check driver.records_ok driver.lent_ok bytes_ok size_ok leaves_of walk
    by_byte in_turn onward leaf_walk run samples_ok all_below flag_at field_of
reconstruct_refusals =
    record {
      only = λ i. by_checks (λ o. o.number) (driver.refused i) (driver.done i) by_driver (driver.check i) (λ r. refl) refl (driver_stops i);
      shown = drivings;
      given = refl;
    }

pub checked_leaves_refusals : Refuses driver.check answer_number by_driver
unfolding driver.check_of driver.read_ok driver.written_ok driver.data_check driver.records_ok driver.lent_ok bytes_ok size_ok leaves_of walk by_byte in_turn onward leaf_walk run samples_ok all_below flag_at field_of
checked_leaves_refusals = record { only = λ i. (driver_stops i).by; shown = drivings; given = refl }

-- by the format: a chroma bit in a grey picture's mask, chroma planes lent to one, a picture in colour without them, and a grey one that is accepted
abbrev by_format : List driver.Input
by_format =
    driven Grey 0 4 (root 1) (0 ∷ []) (5 ∷ 51 ∷ 2 ∷ 0 ∷ []) 0
    ∷ driven Grey 4 4 (root 1) (0 ∷ []) (5 ∷ 51 ∷ 0 ∷ 0 ∷ []) 0
    ∷ driven Colour 0 4 (root 1) (0 ∷ []) (5 ∷ 51 ∷ 0 ∷ 0 ∷ []) 0
    ∷ driven Grey 0 4 (root 1) (0 ∷ []) (5 ∷ 51 ∷ 0 ∷ 0 ∷ []) 0
    ∷ []

pub format_numbers : map (λ (i : driver.Input). (driver.outcome i).number) by_format ≡ 13 ∷ 2 ∷ 2 ∷ 0 ∷ []
unfolding driver.outcome driver.check_of driver.read_ok driver.written_ok driver.data_check driver.records_ok driver.lent_ok bytes_ok size_ok leaves_of walk
    by_byte in_turn onward leaf_walk run samples_ok all_below flag_at field_of
format_numbers = refl

-- by the keep byte: 0 or 1, and no other
abbrev by_keep : List driver.Input
by_keep =
    driven Colour 4 4 (root 1) (0 ∷ []) (5 ∷ 51 ∷ 0 ∷ 0 ∷ []) 0
    ∷ driven Colour 4 4 (root 1) (0 ∷ []) (5 ∷ 51 ∷ 0 ∷ 1 ∷ []) 0
    ∷ driven Colour 4 4 (root 1) (0 ∷ []) (5 ∷ 51 ∷ 0 ∷ 2 ∷ []) 0
    ∷ []

pub keep_numbers : map (λ (i : driver.Input). (driver.outcome i).number) by_keep ≡ 0 ∷ 0 ∷ 13 ∷ []
unfolding driver.outcome driver.check_of driver.read_ok driver.written_ok driver.data_check driver.records_ok driver.lent_ok bytes_ok size_ok leaves_of walk
    by_byte in_turn onward leaf_walk run samples_ok all_below flag_at field_of
keep_numbers = refl

-- ---- marks, and the compact form of a split map

pub list_marks_once : Sole 2 list-marks-kinds.ps list-marks-kinds.r list-marks-reads.Post (λ κs r x. ended r (x.1.1.1.1.0.now ∷ []))
list_marks_once κs a r r' x x' p q = settled marked.outcome (λ o. o.reading) (λ o. o.out ∷ []) p q (marks_apart r r')

abbrev marking : ℕ → List ℕ → ℕ → marked.Input
marking h splits i = record { w = 4; h = h; splits = splits; root = i; out = replicate 85 0 }

pub list_marks_refusals : Refuses marked.outcome (λ o. o.reading.number) (Size ∷ Length ∷ Block ∷ [])
unfolding marked.outcome marked.check marked.lengths_ok size_ok
list_marks_refusals =
    record {
      only = λ i.
          by_checks (λ o. o.reading.number) (marked.refused i) (marked.done i) (Size ∷ Length ∷ Block ∷ []) (marked.check i) (λ r. refl) refl
          (rung (size_ok i.w i.h) Size _
          (rung (marked.lengths_ok i.w i.h (length i.splits) (length i.out)) Length _
          (rung (ltb i.root (root_count i.w i.h)) Block _ last)));
      shown = marking 5 torn 1 ∷ marking 4 torn 1 ∷ marking 4 (root 0) 1 ∷ [];
      given = refl;
    }

pub take_marks_once : Sole 2 take-marks-kinds.ps take-marks-kinds.r take-marks-reads.Post (λ κs r x. ended r (x.1.1.1.1.1.1.0.now ∷ []))
take_marks_once κs a r r' x x' p q = settled marked_by.outcome (λ o. o.reading) (λ o. o.out ∷ []) p q (marks_apart r r')

-- some bits 0; n: how long the list is
abbrev taking : ℕ → ℕ → ℕ → ℕ → marked_by.Input
taking h to i n = record { w = 4; h = h; src = 0 ∷ []; from = 0; to = to; root = i; out = replicate n 0 }

take_stops : (i : marked_by.Input) → Stops (Size ∷ Length ∷ Block ∷ Bits ∷ Leaf ∷ []) (marked_by.check i)
unfolding marked_by.check
take_stops i =
    rung (size_ok i.w i.h) Size _
    (rung (eqb (length i.out) 85) Length _
    (rung (ltb i.root (root_count i.w i.h)) Block _
    (root_takes (i.w / 4) (i.h / 4) i.root (bits_from i.src i.from (i.to - i.from)))))

pub take_marks_refusals : Refuses marked_by.outcome (λ o. o.reading.number) (Size ∷ Length ∷ Block ∷ Bits ∷ Leaf ∷ [])
unfolding marked_by.outcome marked_by.check size_ok descendBy descentsBy descend_on by_byte in_turn onward leaf_walk bit_at field_of tabulate_from
take_marks_refusals =
    record {
      only = λ i.
          by_checks (λ o. o.reading.number) (marked_by.refused i) (marked_by.done i) (Size ∷ Length ∷ Block ∷ Bits ∷ Leaf ∷ []) (marked_by.check i) (λ r. refl) refl (take_stops i);
      shown = taking 5 0 1 84 ∷ taking 4 0 1 84 ∷ taking 4 0 1 85 ∷ taking 4 0 0 85 ∷ taking 4 8 0 85 ∷ [];
      given = refl;
    }

pub put_map_once : Sole 2 put-map-kinds.ps put-map-kinds.r put-map-reads.Post (λ κs r x. ended r (x.1.1.1.0.now ∷ []))
put_map_once κs a r r' x x' p q = settled put_map.outcome (λ o. record { number = o.number; at = o.at }) (λ o. o.buf ∷ []) p q (placed_apart r r')

abbrev putting : ℕ → List ℕ → put_map.Input
putting h splits = record { w = 4; h = h; splits = splits; buf = []; at = 0 }

pub put_map_refusals : Refuses put_map.outcome (λ o. o.number) (Size ∷ Length ∷ Split ∷ Leaf ∷ Bits ∷ [])
unfolding put_map.outcome put_map.check compact.room_ok size_ok walk by_byte in_turn onward leaf_walk marks digits joined
put_map_refusals =
    record {
      only = λ i.
          by_checks (λ o. o.number) (put_map.refused i) (put_map.done i) (Size ∷ Length ∷ Split ∷ Leaf ∷ Bits ∷ []) (put_map.check i) (λ r. refl) refl
          (rung (size_ok i.w i.h) Size _
          (rung (eqb (length i.splits) (1024 * root_count i.w i.h)) Length _
          (walk_rung (Bits ∷ []) _ _ (picture_stops i.splits (i.w / 4) (i.h / 4))
          (rung (compact.room_ok (length i.buf) i.at (length (put_map.digits i))) Bits _ last))));
      shown = putting 5 torn ∷ putting 4 torn ∷ putting 4 (root 2) ∷ putting 4 (root 0) ∷ putting 4 (root 1) ∷ [];
      given = refl;
    }

pub get_map_once : Sole 2 get-map-kinds.ps get-map-kinds.r get-map-reads.Post (λ κs r x. ended r (x.1.1.1.1.0.now ∷ []))
get_map_once κs a r r' x x' p q = settled get-map.outcome (λ o. record { number = o.number; at = o.at }) (λ o. o.map ∷ []) p q (placed_apart r r')

abbrev getting : ℕ → List ℕ → List ℕ → get-map.Input
getting h src map = record { w = 4; h = h; src = src; at = 0; map = map }

get_stops : (i : get-map.Input) → Stops (Size ∷ Length ∷ Bits ∷ Leaf ∷ Bits ∷ []) (get-map.check i)
unfolding get-map.check
get_stops i =
    rung (size_ok i.w i.h) Size _
    (rung (eqb (length i.map) (1024 * root_count i.w i.h)) Length _
    (bits_rung (Bits ∷ []) _ _ (picture_takes (i.w / 4) (i.h / 4) (compact.digits_from i.src i.at))
    (rung (compact.fill_ok i.src i.at (get-map.count i)) Bits _ last)))

pub get_map_refusals : Refuses get-map.outcome (λ o. o.number) (Size ∷ Length ∷ Bits ∷ Leaf ∷ Bits ∷ [])
unfolding get-map.outcome get-map.check compact.zeros_ok size_ok descendBy descentsBy descend_on by_byte in_turn onward leaf_walk bit_at field_of tabulate_from all_below
get_map_refusals =
    record {
      only = λ i.
          by_checks (λ o. o.number) (get-map.refused i) (get-map.done i) (Size ∷ Length ∷ Bits ∷ Leaf ∷ Bits ∷ []) (get-map.check i) (λ r. refl) refl (get_stops i);
      shown = getting 5 [] [] ∷ getting 4 [] [] ∷ getting 4 [] (root 0) ∷ getting 4 (127 ∷ []) (root 0) ∷ getting 4 (255 ∷ []) (root 0) ∷ [];
      given = refl;
    }

pub take_map_once : Sole 2 take-map-kinds.ps take-map-kinds.r take-map-reads.Post (λ κs r x. ended r (x.1.1.1.1.1.0.now ∷ []))
take_map_once κs a r r' x x' p q = settled take-map.outcome (λ o. record { number = o.number; at = o.at }) (λ o. o.map ∷ []) p q (placed_apart r r')

abbrev digits_of_lem : (w from to : ℕ) → List ℕ → take-map.Input
digits_of_lem w from to map = record { w = w; h = 4; src = 0 ∷ []; from = from; to = to; map = map }

pub take_map_refusals : Refuses take-map.outcome (λ o. o.number) (Size ∷ Length ∷ Bits ∷ Bits ∷ Leaf ∷ [])
unfolding take-map.outcome take-map.check take-map.places_ok size_ok descendBy descentsBy descend_on by_byte in_turn onward leaf_walk bit_at field_of tabulate_from
take_map_refusals =
    record {
      only = λ i.
          by_checks (λ o. o.number) (take-map.refused i) (take-map.done i) (Size ∷ Length ∷ Bits ∷ Bits ∷ Leaf ∷ []) (take-map.check i) (λ r. refl) refl
          (rung (size_ok i.w i.h) Size _
          (rung (eqb (length i.map) (1024 * root_count i.w i.h)) Length _
          (rung (take-map.places_ok i.from i.to) Bits _ (picture_takes (i.w / 4) (i.h / 4) (take-map.digits i)))));
      shown = digits_of_lem 5 1 0 [] ∷ digits_of_lem 4 1 0 [] ∷ digits_of_lem 4 1 0 (root 0) ∷ digits_of_lem 4 0 0 (root 0) ∷ digits_of_lem 4 0 8 (root 0) ∷ [];
      given = refl;
    }

-- it does not refuse always: four digits 1 cut the root down to one unit
pub take_map_accepted : (take-map.outcome (record { w = 4; h = 4; src = 240 ∷ []; from = 0; to = 4; map = root 0 })).number ≡ 0
unfolding take-map.outcome take-map.check take-map.places_ok size_ok descendBy descentsBy descend_on by_byte in_turn onward leaf_walk bit_at field_of tabulate_from
take_map_accepted = refl

-- a writer and a reader come from no table of the checker: these are over the contract's own words
pub write_map_once : (i : Writer) (w h : ℕ) (s : List ℕ) (r r' : Answer) (x x' : Writer) → Wrote i w h s r x → Wrote i w h s r' x' → (r ≡ r') × (x ≡ x')
write_map_once = write_sole

pub read_map_once : (i : Reader) (w h : ℕ) (map : List ℕ) (r r' : Answer) (x x' : Reader) (m m' : List ℕ) → Read i w h map r x m → Read i w h map r' x' m' → (r ≡ r') × (x ≡ x') × (m ≡ m')
read_map_once = read_sole

pub write_to_once : (b : MutBor (List ℕ)) (x x' : Writer) → (x.buf ≡ b) × (x.at ≡ 0) → (x'.buf ≡ b) × (x'.at ≡ 0) → x ≡ x'
write_to_once b x x' p q i = record { buf = (p.0 ∙ sym q.0) i; at = (p.1 ∙ sym q.1) i }

pub read_from_once : (s : Bor (List ℕ)) (x x' : Reader) → (x.src ≡ s) × (x.at ≡ 0) → (x'.src ≡ s) × (x'.at ≡ 0) → x ≡ x'
read_from_once s x x' p q i = record { src = (p.0 ∙ sym q.0) i; at = (p.1 ∙ sym q.1) i }

-- ---- a torn split map

pub mend_once : Sole 3 mend-kinds.ps mend-kinds.r mend-reads.Post (λ κs r x. ended r (x.1.1.1.0.now ∷ x.1.1.1.1.0.now ∷ []))
mend_once κs a r r' x x' p q = settled mend.outcome (λ o. o.reading) (λ o. o.out ∷ o.list ∷ []) p q (mended_apart r r')

abbrev mending : ℕ → mend.Input
mending w = record { w = w; h = 4; splits = []; out = []; list = [] }

pub mend_refusals : Refuses mend.outcome (λ o. o.reading.number) (Size ∷ Length ∷ [])
unfolding mend.outcome mend.check mend.lengths_ok size_ok
mend_refusals =
    record {
      only = λ i.
          by_checks (λ o. o.reading.number) (mend.refused i) (mend.done i) (Size ∷ Length ∷ []) (mend.check i) (λ r. refl) refl
          (rung (size_ok i.w i.h) Size _ (rung (mend.lengths_ok i.w i.h (length i.splits) (length i.out) (length i.list)) Length _ last));
      shown = mending 5 ∷ mending 4 ∷ [];
      given = refl;
    }

-- ---- deblocking

pub deblock_once : Sole 11 deblock-kinds.ps deblock-kinds.r deblock-reads.Post (λ κs r x. ended r (x.1.1.0.now ∷ x.1.1.1.0.now ∷ x.1.1.1.1.0.now ∷ x.1.1.1.1.1.0.now ∷ []))
deblock_once κs a r r' x x' p q = settled deblock.outcome (λ o. o.reading) (λ o. o.y ∷ o.u ∷ o.v ∷ o.words ∷ []) p q (deblocked-apart r r')

pub checked_once : Sole 6 checked-kinds.ps checked-kinds.r checked-reads.Post (λ κs r x. r)
checked_once κs a r r' x x' p q = one_outcome checks.check_of _ _ _ p q

-- a picture of one unit, w wide: its split bytes, the transform limit, its keep mark, its word, and the number that every luma sample is
abbrev filtering : ℕ → List ℕ → ℕ → ℕ → ℕ → ℕ → deblock.Input
filtering w splits limit mark word sample =
    record {
      w = w;
      h = 4;
      y = replicate 16 sample;
      u = replicate 4 0;
      v = replicate 4 0;
      words = word ∷ [];
      splits = splits;
      motion = replicate 4 (pos 0);
      refs = replicate 2 (pos 0);
      keep = mark ∷ [];
      table0 = chroma_table;
      table1 = chroma_table;
      strengths = replicate 208 0;
      settings = record { limit = limit; u_offset = pos 0; v_offset = pos 0; format = Colour };
    }

-- an input for each rung. 3407872 is a word of QP 52
abbrev filterings : List deblock.Input
filterings =
    filtering 6 torn 7 2 3407872 1024
    ∷ filtering 4 torn 7 2 3407872 1024
    ∷ filtering 4 (root 2) 7 2 3407872 1024
    ∷ filtering 4 (root 2) 5 2 3407872 1024
    ∷ filtering 4 (root 0) 5 2 3407872 1024
    ∷ filtering 4 (root 1) 5 2 3407872 1024
    ∷ filtering 4 (root 1) 5 1 3407872 1024
    ∷ filtering 4 (root 1) 5 1 0 1024
    ∷ []

abbrev by_deblocking : List Refusal
by_deblocking = Size ∷ Length ∷ Setting ∷ Split ∷ Leaf ∷ Keep ∷ Qp ∷ Sample ∷ []

-- from the lengths on, of a picture or of a band
rest_stops : (lent own before : ℕ) (i : checks.Input) → Stops (Length ∷ Setting ∷ Split ∷ Leaf ∷ Keep ∷ Qp ∷ Sample ∷ []) (checks.from_lengths lent own before i)
unfolding checks.from_lengths
rest_stops lent own before i =
    rung (checks.lengths_ok i.settings.format i.w lent own (checks.lengths_of i)) Length _
    (rung (checks.settings_ok i.settings) Setting _
    (walk_rung (Keep ∷ Qp ∷ Sample ∷ []) _ _ (picture_stops i.splits (i.w / 4) (own / 4))
    (rung (checks.keep_ok _) Keep _
    (rung (checks.qps_ok _) Qp _
    (rung (checks.planes_ok _ _ _) Sample _ last)))))

checks_stop : (i : checks.Input) → Stops by_deblocking (checks.check_of i)
unfolding checks.check_of
checks_stop i = rung (size_ok i.w i.h) Size _ (rest_stops i.h i.h 0 i)

pub deblock_refusals : Refuses deblock.outcome (λ o. o.reading.number) by_deblocking
unfolding deblock.outcome checks.check_of checks.from_lengths checks.lengths_ok checks.settings_ok checks.offset_ok checks.keep_ok checks.qps_ok checks.planes_ok
    list.limit_ok size_ok walk by_byte in_turn onward leaf_walk samples_ok all_below field_of
deblock_refusals =
    record {
      only = λ i. by_checks (λ o. o.reading.number) (deblock.refused i) (deblock.done i) by_deblocking (deblock.check i) (λ r. refl) refl (checks_stop (deblock.checked i));
      shown = filterings;
      given = refl;
    }

pub checked_refusals : Refuses checks.check_of answer_number by_deblocking
unfolding checks.check_of checks.from_lengths checks.lengths_ok checks.settings_ok checks.offset_ok checks.keep_ok checks.qps_ok checks.planes_ok list.limit_ok
    size_ok walk by_byte in_turn onward leaf_walk samples_ok all_below field_of
checked_refusals = record { only = λ i. (checks_stop i).by; shown = map deblock.checked filterings; given = refl }

-- ---- the same by a map of edge rows

pub deblock_by_rows_once : Sole 12 by-rows-kinds.ps by-rows-kinds.r by-rows-reads.Post
    (λ κs r x. ended r (x.1.1.0.now ∷ x.1.1.1.0.now ∷ x.1.1.1.1.0.now ∷ x.1.1.1.1.1.0.now ∷ []))
deblock_by_rows_once κs a r r' x x' p q = settled by_rows_lem.outcome (λ o. o.reading) (λ o. o.y ∷ o.u ∷ o.v ∷ o.words ∷ []) p q (deblocked-apart r r')

abbrev with_rows : List Refusal
with_rows = by_deblocking ++ (Rows ∷ [])

map_last : (t : Bool) → Stops with_rows (unless t (Err Rows) (Ok tt))
map_last true = record { by = zeroth with_rows }
map_last false = record { by = inr (inr (inr (inr (inr (inr (inr (inr (inl refl)))))))) }

then_map : (t : Bool) (k : Answer) → Stops by_deblocking k → Stops with_rows (after_checks (λ r. Err r) (unless t (Err Rows) (Ok tt)) k)
then_map t (Ok _) p = map_last t
then_map t (Err r) p = record { by = longer by_deblocking (Rows ∷ []) (number_of r) p.by }

by_rows_stop : (i : rows-checks.Input) → Stops with_rows (rows-checks.check_of i)
unfolding rows-checks.check_of
by_rows_stop i =
    again (size_ok i.w i.h) Size _ (inl refl)
    (again (rows-checks.rows_length_ok i.w i.h (length i.rows)) Length _ (inr (inl refl))
    (then_map (rows-checks.rows_ok i) (checks.check_of (rows-checks.checked i)) (checks_stop (rows-checks.checked i))))

abbrev lending : List ℕ → deblock.Input → by_rows_lem.Input
lending rows i = record { given = i; rows = rows }

-- an input for each rung
abbrev lendings : List by_rows_lem.Input
lendings = map (lending (1 ∷ 1 ∷ [])) (take 2 filterings) ++ map (lending (1 ∷ [])) (drop 2 filterings ++ (filtering 4 (root 1) 5 0 0 0 ∷ []))

pub deblock_by_rows_refusals : Refuses by_rows_lem.outcome (λ o. o.reading.number) with_rows
unfolding by_rows_lem.outcome rows-checks.check_of rows-checks.rows_length_ok rows-checks.rows_ok right_ok check_maps lengths_ok right_bytes rule_byte edge_row with_field checks.check_of
    checks.from_lengths checks.lengths_ok checks.settings_ok checks.offset_ok checks.keep_ok checks.qps_ok checks.planes_ok list.limit_ok size_ok walk
    by_byte in_turn onward leaf_walk samples_ok all_below field_of
deblock_by_rows_refusals =
    record {
      only = λ i. by_checks (λ o. o.reading.number) (deblock.refused i.given) (deblock.done i.given) with_rows (by_rows_lem.check i) (λ r. refl) refl (by_rows_stop (by_rows_lem.checked i));
      shown = lendings;
      given = refl;
    }

pub checked_by_rows_once : Sole 9 checked-by-rows-kinds.ps checked-by-rows-kinds.r checked-by-rows-reads.Post (λ κs r x. r)
checked_by_rows_once κs a r r' x x' p q = one_outcome rows-checks.check_of _ _ _ p q

pub checked_by_rows_refusals : Refuses rows-checks.check_of answer_number with_rows
unfolding rows-checks.check_of rows-checks.rows_length_ok rows-checks.rows_ok right_ok check_maps lengths_ok right_bytes rule_byte edge_row with_field checks.check_of
    checks.from_lengths checks.lengths_ok checks.settings_ok checks.offset_ok checks.keep_ok checks.qps_ok checks.planes_ok list.limit_ok size_ok walk
    by_byte in_turn onward leaf_walk samples_ok all_below field_of
checked_by_rows_refusals = record { only = λ i. (by_rows_stop i).by; shown = map by_rows_lem.checked lendings; given = refl }

-- a length that is neither is 2, also where all that comes after the lengths is bad; no map and a right one are accepted
pub deblock_by_rows_numbers : map (λ (i : by_rows_lem.Input). (by_rows_lem.outcome i).reading.number)
    (lending (1 ∷ 1 ∷ []) (filtering 4 (root 2) 7 2 3407872 1024) ∷ map (λ (rows : List ℕ). lending rows (filtering 4 (root 1) 5 0 0 0)) ((0 ∷ 0 ∷ []) ∷ [] ∷ (0 ∷ []) ∷ []))
    ≡ 2 ∷ 2 ∷ 0 ∷ 0 ∷ []
unfolding by_rows_lem.outcome rows-checks.check_of rows-checks.rows_length_ok rows-checks.rows_ok right_ok check_maps lengths_ok right_bytes rule_byte edge_row with_field checks.check_of
    checks.from_lengths checks.lengths_ok checks.settings_ok checks.offset_ok checks.keep_ok checks.qps_ok checks.planes_ok list.limit_ok size_ok walk
    by_byte in_turn onward leaf_walk samples_ok all_below field_of
deblock_by_rows_numbers = refl

-- by the format: such a picture of a format, with n samples in U and in V, and U's offset
abbrev formatted : Format → ℕ → List ℤ → ℤ → deblock.Input
formatted f n table offset =
    let i = filtering 4 (root 1) 5 0 0 0 in
    record {
      w = i.w;
      h = i.h;
      y = i.y;
      u = replicate n 0;
      v = replicate n 0;
      words = i.words;
      splits = i.splits;
      motion = i.motion;
      refs = i.refs;
      keep = i.keep;
      table0 = table;
      table1 = table;
      strengths = i.strengths;
      settings = record { limit = 5; u_offset = offset; v_offset = pos 0; format = f };
    }

-- chroma planes lent to a grey picture, a table lent to one, one in colour without them, an offset of 1 in grey and in colour, and a grey one that is accepted
pub deblock_format_numbers : map (λ i. (deblock.outcome i).reading.number)
    (formatted Grey 4 [] (pos 0) ∷ formatted Grey 0 chroma_table (pos 0) ∷ formatted Colour 0 chroma_table (pos 0) ∷ formatted Grey 0 [] (pos 1)
    ∷ formatted Colour 4 chroma_table (pos 1) ∷ formatted Grey 0 [] (pos 0) ∷ [])
    ≡ 2 ∷ 2 ∷ 2 ∷ 3 ∷ 0 ∷ 0 ∷ []
unfolding deblock.outcome checks.check_of checks.from_lengths checks.lengths_ok checks.settings_ok checks.offset_ok checks.keep_ok checks.qps_ok checks.planes_ok
    list.limit_ok size_ok walk by_byte in_turn onward leaf_walk samples_ok all_below field_of
deblock_format_numbers = refl

-- ---- deblocking by bands

pub deblock_band_once : Sole 11 deblock-band-kinds.ps deblock-band-kinds.r deblock-band-reads.Post
    (λ κs r x. ended r (x.1.1.1.1.0.now ∷ x.1.1.1.1.1.0.now ∷ x.1.1.1.1.1.1.0.now ∷ x.1.1.1.1.1.1.1.0.now ∷ []))
deblock_band_once κs a r r' x x' p q = settled band.outcome (λ o. o.reading) (λ o. o.y ∷ o.u ∷ o.v ∷ o.words ∷ []) p q (banded_apart r r')

pub checked_band_once : Sole 6 checked-band-kinds.ps checked-band-kinds.r checked-band-reads.Post (λ κs r x. r)
checked_band_once κs a r r' x x' p q = one_outcome band-checks.check_of _ _ _ p q

-- band 0 of such a picture, where the position has a band next
abbrev banding : deblock.Input → (next : ℕ) → band.Input
banding i next =
    record {
      next = next;
      band = 0;
      w = i.w;
      h = i.h;
      y = i.y;
      u = i.u;
      v = i.v;
      words = i.words;
      splits = i.splits;
      motion = i.motion;
      refs = i.refs;
      keep = i.keep;
      table0 = i.table0;
      table1 = i.table1;
      strengths = i.strengths;
      settings = i.settings;
    }

abbrev bandings : List band.Input
bandings =
    banding (filtering 6 torn 7 2 3407872 1024) 1
    ∷ banding (filtering 4 torn 7 2 3407872 1024) 1
    ∷ banding (filtering 4 torn 7 2 3407872 1024) 0
    ∷ banding (filtering 4 (root 2) 7 2 3407872 1024) 0
    ∷ banding (filtering 4 (root 2) 5 2 3407872 1024) 0
    ∷ banding (filtering 4 (root 0) 5 2 3407872 1024) 0
    ∷ banding (filtering 4 (root 1) 5 2 3407872 1024) 0
    ∷ banding (filtering 4 (root 1) 5 1 3407872 1024) 0
    ∷ banding (filtering 4 (root 1) 5 1 0 1024) 0
    ∷ []

pub band_format_numbers : map (λ i. (band.outcome (banding i 0)).reading.number)
    (formatted Grey 4 [] (pos 0) ∷ formatted Grey 0 chroma_table (pos 0) ∷ formatted Colour 0 chroma_table (pos 0) ∷ formatted Grey 0 [] (pos 1)
    ∷ formatted Colour 4 chroma_table (pos 1) ∷ formatted Grey 0 [] (pos 0) ∷ [])
    ≡ 2 ∷ 2 ∷ 2 ∷ 3 ∷ 0 ∷ 0 ∷ []
unfolding band.outcome band-checks.check_of band_ok band_rows checks.from_lengths checks.lengths_ok checks.settings_ok checks.offset_ok checks.keep_ok checks.qps_ok
    checks.planes_ok list.limit_ok size_ok walk by_byte in_turn onward leaf_walk samples_ok all_below field_of
band_format_numbers = refl

abbrev by_band : List Refusal
by_band = Size ∷ Band ∷ Length ∷ Setting ∷ Split ∷ Leaf ∷ Keep ∷ Qp ∷ Sample ∷ []

band_stops : (i : band-checks.Input) → Stops by_band (band-checks.check_of i)
unfolding band-checks.check_of
band_stops i =
    rung (size_ok i.lent.w i.lent.h) Size _
    (rung (band_ok i.next i.band i.lent.h) Band _
    (rest_stops _ _ _ i.lent))

pub deblock_band_refusals : Refuses band.outcome (λ o. o.reading.number) by_band
unfolding band.outcome band-checks.check_of band_ok band_rows checks.from_lengths checks.lengths_ok checks.settings_ok checks.offset_ok checks.keep_ok checks.qps_ok
    checks.planes_ok list.limit_ok size_ok walk by_byte in_turn onward leaf_walk samples_ok all_below field_of
deblock_band_refusals =
    record {
      only = λ i. by_checks (λ o. o.reading.number) (band.refused i) (band.done i) by_band (band.check i) (λ r. refl) refl (band_stops (band.checked i));
      shown = bandings;
      given = refl;
    }

pub checked_band_refusals : Refuses band-checks.check_of answer_number by_band
unfolding band-checks.check_of band_ok band_rows checks.from_lengths checks.lengths_ok checks.settings_ok checks.offset_ok checks.keep_ok checks.qps_ok checks.planes_ok
    list.limit_ok size_ok walk by_byte in_turn onward leaf_walk samples_ok all_below field_of
checked_band_refusals = record { only = λ i. (band_stops i).by; shown = map band.checked bandings; given = refl }

-- ---- the sheet

pub read_once : Sole 1 read-kinds.ps read-kinds.r read-reads.Post (λ κs r x. r)
read_once κs a r r' x x' p q = told sheet.outcome (λ o. o.reading) p q (sheet-apart r r')

pub read_refusals : Refuses sheet.outcome (λ o. o.reading.number) (Sheet ∷ [])
unfolding sheet.outcome sheet.read_of first_bad line_ok start_of line_of number_line starts_with
read_refusals = record { only = λ i. line_said (eqb (first_bad i.input) 0) (first_bad i.input) (Ok (sheet.whole_sheet i.input)) refl; shown = record { input = [] } ∷ []; given = refl }

pub listing_once : Sole 2 listing-kinds.ps listing-kinds.r listing-reads.Post (λ κs r x. ended r (x.1.0.now ∷ []))
listing_once κs a r r' x x' p q = settled listing.outcome (λ o. o.reading) (λ o. o.out ∷ []) p q (printed-apart r r')

-- of its buffer alone: what a sheet is refused for is its text
pub listing_refusals : Refuses listing.outcome (λ o. o.reading.number) (Length ∷ [])
unfolding listing.outcome listing.check
listing_refusals =
    record {
      only = λ i.
          by_checks (λ o. o.reading.number) (listing.refused i) (listing.done i) (Length ∷ []) (listing.check i) (λ r. refl) refl (rung (eqb (length i.out) 81920) Length _ last);
      shown = record { input = []; out = [] } ∷ [];
      given = refl;
    }

-- a sheet of a picture w wide and 4 high, its numbers in digits
abbrev sheet_of : (w limit edge splits : List ℕ) → List ℕ
sheet_of w limit edge splits =
    width_key ++ (w ++ (newline ++ (height_key ++ ((52 ∷ []) ++ (newline ++ (limit_key ++ (limit ++ (newline ++ (edge ++ (newline ++ (splits_key ++ (splits ++ newline))))))))))))

-- what is printed for a sheet that is refused: for a line; the sides; the limit; an old sheet; digits that ran out, a leaf, or digits left over
pub sheet_refusals : Refuses found_in refusal_in (Sheet ∷ Size ∷ Setting ∷ Old ∷ Sheet ∷ Leaf ∷ Sheet ∷ [])
unfolding found_in found_of found_by sides_ok list.limit_ok first_bad line_ok start_of line_of number_line starts_with is_number all_below edge_line old_edge same_line splits_line
    number_after value_from descendBy descentsBy descend_on by_byte in_turn onward leaf_walk
sheet_refusals =
    record {
      only = λ s.
          (sheet_rung (eqb (first_bad s) 0) Sheet (first_bad s) (found_of (width_of s) (height_of s) (limit_of s) (old_of s) (digits_of s))
          (sheet_rung (sides_ok (width_of s) (height_of s)) Size 0 _
          (sheet_rung (list.limit_ok (limit_of s)) Setting 0 _
          (sheet_rung (not (old_of s)) Old 0 _
          (digits_said (eqb (limit_of s) 5) (width_of s / 4) (height_of s / 4) (digits_of s)))))).by;
      shown =
          (sheet_of (54 ∷ []) (55 ∷ []) source_edge [] ++ newline)
          ∷ sheet_of (54 ∷ []) (55 ∷ []) source_edge []
          ∷ sheet_of (52 ∷ []) (55 ∷ []) source_edge []
          ∷ sheet_of (52 ∷ []) (54 ∷ []) source_edge []
          ∷ sheet_of (52 ∷ []) (54 ∷ []) own_edge []
          ∷ sheet_of (52 ∷ []) (54 ∷ []) own_edge (48 ∷ 48 ∷ [])
          ∷ sheet_of (52 ∷ []) (54 ∷ []) own_edge (49 ∷ 49 ∷ 49 ∷ 49 ∷ 48 ∷ [])
          ∷ [];
      given = refl;
    }
