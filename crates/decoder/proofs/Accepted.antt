-- No call refuses always: each has an input that it accepts, here with the number of its outcome. What is proved of every picture that the driver finishes
-- is proved of these, then, and deblocking accepts one of them (`finishes_grey`, `finishes_colour`, `follows`).
-- Assumes nothing.
use Rattle.std.specs.Prelude.{Ok}
use mathlib.Core.Path.{◌≡◌, refl}
use mathlib.Core.Bool.{true, false}
use mathlib.Core.List.{List, [], ◌∷◌, ◌++◌}
use Prim.Native.Nat.{ℕ, ◌*◌}
use lib.IntN.{ℤ, pos}
use lib.ListN.{replicate}
use Rattle.laws.specs.Bits.{field_of}
use Rattle.laws.specs.Index.{tabulate_from}
use Rattle.laws.specs.Orders.{run}
use Rattle.laws.specs.Scan.{all_below}
use Rattle.def.specs.Answers.{answer_number}
use Rattle.def.specs.Blocks.{block_side_ok, component_side_ok, block_ok, unit_ok}
use Rattle.def.specs.Picture.{size_ok, unit_count}
use Rattle.def.specs.Word.{flag_at}
use Rattle.def.specs.declared.Component.TheVariants.{Luma}
use Rattle.def.specs.declared.Format.{Format}
use Rattle.def.specs.declared.Format.TheVariants.{Grey, Colour}
use Rattle.samples.specs.Samples.{samples_ok}
use Rattle.chroma_qp_check.specs.Check as points-check
use Rattle.chroma_qp_check.specs.Pivots.{Points, in_of, out_of}
use Rattle.chroma_qp.specs.Derived as derived
use Rattle.avail.specs.Around as around
use Rattle.avail.specs.Calls as avail
use Rattle.nbr.specs.Gather as gather
use Rattle.mpm.specs.Ranks as ranks
use Rattle.ipred.specs.Predict as predict
use Rattle.recon.specs.Plane as plane
use Rattle.recon.specs.Recon as recon
use Rattle.rank.specs.RankCall as rank
use Rattle.df_check.specs.BandCheck as band-checks
use Rattle.df_check.specs.Checks as checks
use Rattle.band_rows.specs.Rows.{band_rows, band_ok}
use Rattle.df.specs.Band as band
use Rattle.df.specs.Deblock as deblock
use Rattle.df_laws.specs.Luma.{without_colour}
use Rattle.mend.specs.MendCall as mend
use Rattle.driver_rules.specs.Call as driver
use Rattle.driver_rules.specs.Finished.{Finished}
use Rattle.driver_rules.specs.Records.{bytes_ok}
use Rattle.driver_rules.proofs.Finished.{finished}
use Rattle.split.specs.CheckCall as check
use Rattle.split.specs.LeavesCall as leaves
use Rattle.split.specs.ListCall as list
use Rattle.split.specs.RootCall as root-list
use Rattle.split.specs.RootLeavesCall as root-leaves
use Rattle.split.specs.Picture.{leaves_of}
use Rattle.split.specs.Walk.{onward, in_turn, leaf_walk, by_byte, walk}
use Rattle.bits.specs.Bits.{bit_at}
use Rattle.marks.specs.ListCall as marked
use Rattle.marks.specs.TakeCall as marked_by
use Rattle.marks_rules.specs.Descent.{descend_on, descents as descentsBy, descend as descendBy}
use Rattle.marks_rules.specs.Marks.{marks, digits}
use Rattle.marks_rules.specs.Pictures.{joined}
use Rattle.pack_rules.specs.Form as compact
use Rattle.pack_rules.specs.GetCall as get-map
use Rattle.pack_rules.specs.PutCall as put_map
use Rattle.sheet_lines.specs.Lines.{start_of, line_of, starts_with, is_number, number_line, edge_line, old_edge, same_line, splits_line, number_after, value_from, line_ok, first_bad}
use Rattle.sheet_lines.specs.ReadCall as sheet
use Rattle.sheet_lines.specs.Words.{width_key, height_key, limit_key, own_edge, splits_key}
use Rattle.sheet.specs.Listing as listing
use Rattle.sheet.specs.Text.{sides_ok, found_by, found_of, found_in}
use Rattle.sheet.specs.Words.{newline}
use Rattle.decoder.specs.Promise.{refusal_in}
use Rattle.decoder.proofs.Joined.{joined as deblocked}

abbrev points : Points
points = record { count = 1; a = replicate 58 (pos 0); b = replicate 58 (pos 0) }

-- one unit, which is a block, and its own picture; its split bytes cut the root down to it
abbrev block : around.Input
block = record { w = 4; h = 4; words = 0 ∷ []; x = 0; y = 0; side = 4 }

abbrev cut : List ℕ
cut = replicate 1024 1

-- that picture for deblocking, whole and as band 0
abbrev table : List ℤ
table = replicate 70 (pos 0)

abbrev picture : deblock.Input
picture =
    record {
      w = 4;
      h = 4;
      y = replicate 16 0;
      u = replicate 4 0;
      v = replicate 4 0;
      words = 0 ∷ [];
      splits = cut;
      motion = replicate 4 (pos 0);
      refs = replicate 2 (pos 0);
      keep = 1 ∷ [];
      table0 = table;
      table1 = table;
      strengths = replicate 208 0;
      settings = record { limit = 6; u_offset = pos 0; v_offset = pos 0; format = Colour };
    }

abbrev part : band.Input
part =
    record {
      next = 0;
      band = 0;
      w = 4;
      h = 4;
      y = picture.y;
      u = picture.u;
      v = picture.v;
      words = picture.words;
      splits = cut;
      motion = picture.motion;
      refs = picture.refs;
      keep = picture.keep;
      table0 = table;
      table1 = table;
      strengths = picture.strengths;
      settings = picture.settings;
    }

-- that picture for the driver, with n samples in each chroma plane: its leaf is predicted by mode 0, coded in Y, and kept
abbrev drawn : Format → (n : ℕ) → driver.Input
drawn f n =
    record {
      given =
          record {
            w = 4;
            h = 4;
            format = f;
            constrained = false;
            leaves = 0 ∷ 51 ∷ 1 ∷ 1 ∷ [];
            residual = replicate 16 (pos 0);
            pred_y = replicate 16 0;
            pred_u = replicate n 0;
            pred_v = replicate n 0;
          };
      splits = cut;
      y = replicate 16 0;
      u = replicate n 0;
      v = replicate n 0;
      words = 0 ∷ [];
      modes = 0 ∷ [];
      keep = 0 ∷ [];
    }

abbrev grey : driver.Input
grey = drawn Grey 0

abbrev colour : driver.Input
colour = drawn Colour 4

abbrev given : List ℕ
given =
    (derived.outcome (record { global_offset = false; same_table = false; first = points; second = points; t0 = replicate 70 (pos 0); t1 = replicate 70 (pos 0) })).number
    ∷ (avail.intra_outcome block).reading.number
    ∷ (avail.inter_outcome block).reading.number
    ∷ (ranks.number_outcome (record { w = 4; h = 4; words = 0 ∷ []; modes = 0 ∷ []; table = replicate 180 0; x = 0; y = 0 })).number
    ∷ (gather.outcome (record {
      around = record { component = Luma; w = 4; h = 4; plane = replicate 16 0; words = 0 ∷ []; x = 0; y = 0; side = 4; constrained = false };
      run = replicate 17 0;
    })).number
    ∷ (predict.outcome (record { mode = 0; side = 2; run = replicate 9 0; block = replicate 4 0 })).number
    ∷ (recon.outcome (record { coded = true; side = 2; pred = replicate 4 0; coef = replicate 4 (pos 0); rec = replicate 4 0 })).number
    ∷ (plane.outcome (record { component = Luma; w = 4; h = 4; x = 0; y = 0; side = 4; coded = true; pred = replicate 16 0; coef = replicate 16 (pos 0); rec = replicate 16 0 })).number
    ∷ (leaves.outcome (record { w = 4; h = 4; splits = cut; x = 0; y = 0; out = replicate 768 0 })).reading.number
    ∷ (root-leaves.outcome (record { w = 4; h = 4; splits = cut; root = 0; out = replicate 768 0 })).reading.number
    ∷ (check.outcome (record { w = 4; h = 4; splits = cut })).number
    ∷ (rank.outcome (record { x = 15; y = 15 })).reading.number
    ∷ (list.outcome (record { w = 4; h = 4; splits = cut; limit = 5; vertical = 0 ∷ 0 ∷ []; horizontal = 0 ∷ 0 ∷ [] })).reading.number
    ∷ (root-list.outcome (record { w = 4; h = 4; splits = cut; x = 0; y = 0; horizontal = false; halved = false; top = 0; out = replicate 512 0 })).reading.number
    ∷ (mend.outcome (record { w = 4; h = 4; splits = cut; out = cut; list = replicate 425 0 })).reading.number
    ∷ answer_number (deblock.check picture)
    ∷ (deblock.outcome picture).reading.number
    ∷ answer_number (band.check part)
    ∷ (band.outcome part).reading.number
    ∷ (deblock.outcome (without_colour picture)).reading.number
    ∷ []

pub accepted : given ≡ replicate 20 0
unfolding derived.outcome points-check.check points-check.lengths_ok points-check.points_ok points-check.pivots_ok points-check.pivot_ok in_of out_of avail.intra_outcome
    avail.inter_outcome avail.check_of ranks.number_outcome ranks.check ranks.lengths_ok ranks.modes_ok gather.outcome gather.check_of gather.lengths_ok gather.samples_ok gather.run_at
    gather.near_at predict.outcome predict.lengths_ok recon.outcome recon.block_check recon.lengths_ok plane.outcome plane.plane_check plane.block_lengths_ok leaves.outcome leaves.check_of
    leaves.lengths_ok leaves.root_ok check.outcome check.check rank.outcome rank.check list.outcome list.check_of list.lengths_ok list.limit_ok root-list.outcome root-list.check_of
    mend.outcome mend.check mend.lengths_ok checks.check_of checks.from_lengths checks.lengths_ok checks.settings_ok checks.offset_ok checks.qps_ok checks.planes_ok
    deblock.outcome band-checks.check_of band_ok band_rows band.outcome size_ok block_ok block_side_ok component_side_ok unit_ok samples_ok flag_at
    field_of all_below walk by_byte in_turn onward leaf_walk checks.keep_ok
accepted = refl

-- ---- the driver: what it refuses is what `checked_leaves` does

abbrev by_driver : List ℕ
by_driver =
    (driver.outcome grey).number ∷ (driver.outcome colour).number ∷ answer_number (driver.check grey) ∷ answer_number (driver.check colour) ∷ []

pub accepted_leaves : by_driver ≡ replicate 4 0
unfolding driver.outcome driver.check_of driver.read_ok driver.written_ok driver.data_check driver.records_ok driver.lent_ok bytes_ok size_ok leaves_of walk
    by_byte in_turn onward leaf_walk run samples_ok all_below flag_at field_of
accepted_leaves = refl

grey_passes : driver.check grey ≡ Ok tt
unfolding driver.check_of driver.read_ok driver.written_ok driver.data_check driver.records_ok driver.lent_ok bytes_ok size_ok leaves_of walk
    by_byte in_turn onward leaf_walk run samples_ok all_below flag_at field_of
grey_passes = refl

colour_passes : driver.check colour ≡ Ok tt
unfolding driver.check_of driver.read_ok driver.written_ok driver.data_check driver.records_ok driver.lent_ok bytes_ok size_ok leaves_of walk
    by_byte in_turn onward leaf_walk run samples_ok all_below flag_at field_of
colour_passes = refl

pub finishes_grey : Finished grey
finishes_grey = finished grey grey_passes

pub finishes_colour : Finished colour
finishes_colour = finished colour colour_passes

-- the picture that it leaves, lent to deblocking
abbrev following : driver.Input → checks.Input
following i =
    let o = driver.outcome i in
    record {
      w = i.given.w;
      h = i.given.h;
      y = o.y;
      u = o.u;
      v = o.v;
      words = o.words;
      splits = i.splits;
      motion = 4 * unit_count i.given.w i.given.h;
      refs = 2 * unit_count i.given.w i.given.h;
      keep = o.keep;
      table0 = checks.table_length i.given.format;
      table1 = checks.table_length i.given.format;
      strengths = 208;
      settings = record { limit = 6; u_offset = pos 0; v_offset = pos 0; format = i.given.format };
    }

pub follows : checks.check_of (following colour) ≡ Ok tt
unfolding checks.settings_ok checks.offset_ok list.limit_ok
follows =
    deblocked colour colour_passes (following colour)
    (record { w = refl; h = refl; format = refl; splits = refl; y = refl; u = refl; v = refl; words = refl; keep = refl })
    (record { motion = refl; refs = refl; table0 = refl; table1 = refl; strengths = refl; settings = refl })

-- ---- that picture's map: its marks, and its compact form, four bits 1

pub accepted_maps :
    answer_number (points-check.check (record { global_offset = false; same_table = false; first = points; second = points; t0 = 70; t1 = 70 }))
    ∷ (marked.outcome (record { w = 4; h = 4; splits = cut; root = 0; out = replicate 85 0 })).reading.number
    ∷ (marked_by.outcome (record { w = 4; h = 4; src = 240 ∷ []; from = 0; to = 4; root = 0; out = replicate 85 0 })).reading.number
    ∷ (put_map.outcome (record { w = 4; h = 4; splits = cut; buf = 0 ∷ []; at = 0 })).number
    ∷ (get-map.outcome (record { w = 4; h = 4; src = 240 ∷ []; at = 0; map = replicate 1024 0 })).number
    ∷ []
    ≡ replicate 5 0
unfolding points-check.check points-check.lengths_ok points-check.points_ok points-check.pivots_ok points-check.pivot_ok in_of out_of marked.outcome marked.check
    marked.lengths_ok marked_by.outcome marked_by.check put_map.outcome put_map.check compact.room_ok get-map.outcome get-map.check compact.zeros_ok descendBy descentsBy
    descend_on marks digits joined bit_at field_of tabulate_from all_below size_ok walk by_byte in_turn onward leaf_walk
accepted_maps = refl

-- ---- its sheet

abbrev lines : List ℕ
lines =
    width_key ++ (52 ∷ (newline ++ (height_key ++ (52 ∷ (newline ++ (limit_key ++ (54 ∷ (newline ++ (own_edge ++ (newline ++ (splits_key ++ (replicate 4 49 ++ newline))))))))))))

-- its lines are read; its edges are found, and so listed; and the buffer is long enough for a text
pub accepted_sheets :
    (sheet.outcome (record { input = lines })).reading.number
    ∷ refusal_in (found_in lines)
    ∷ (listing.outcome (record { input = lines; out = replicate 81920 0 })).reading.number
    ∷ []
    ≡ replicate 3 0
unfolding sheet.outcome sheet.read_of listing.outcome listing.check found_in found_of found_by sides_ok list.limit_ok first_bad line_ok start_of line_of number_line starts_with
    is_number all_below edge_line old_edge same_line splits_line number_after value_from descendBy descentsBy descend_on by_byte onward leaf_walk
accepted_sheets = refl
