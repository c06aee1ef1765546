-- Every exported call: over its contract as the checker reads it from the source, the arguments determine the number and all that the call may write, by the
-- outcome that the contract names. tools/calls asks for NAME-once of each.
-- Assumes nothing.
use mathlib.Core.Path.{sym, ◌∙◌}
use Rattle.sole.specs.Sole.{Sole}
use Rattle.chroma_qp.specs.Derived as derived
use Rattle.df.specs.Band as banding
use Rattle.df.specs.Deblock as deblocking
use Rattle.driver_rules.specs.Call as driving
use Rattle.ipred.specs.Predict as predict
use Rattle.mend.specs.MendCall as mending
use Rattle.nbr.specs.Gather as gather
use Rattle.pack_rules.specs.GetCall as getting
use Rattle.pack_rules.specs.PutCall as putting
use Rattle.rank.specs.RankCall as ranking
use Rattle.recon.specs.Recon as recon
use Rattle.rows_rules.specs.FillCall as filling
use Rattle.rows_rules.specs.MotionCall as moving
use Rattle.unit_edits.specs.FlagCall as flagging
use Rattle.sheet.specs.Listing as printing
use Rattle.split.specs.CheckCall as checking
use Rattle.split.specs.LeavesCall as meeting
use Rattle.split.specs.ListCall as listing
use Rattle.y4m.specs.Import as importing
use Rattle.y4m_frame.specs.ReadCall as framing
use Rattle.y4m_frame_out.specs.WriteCall as drawing
use Rattle.y4m_header.specs.ReadCall as heading
use Rattle.y4m_header_out.specs.WriteCall as writing
use Rattle.decoder_c.specs.Masks as masks
use Rattle.decoder_c.specs.Ranks as ranked
use Rattle.decoder_c.specs.Screen as screen
use Rattle.decoder_c.proofs.chroma.lomsakeun_derived_chroma_qp_mapping_tables.Kinds as tables-kinds
use Rattle.decoder_c.proofs.chroma.lomsakeun_derived_chroma_qp_mapping_tables.Reads as tables-reads
use Rattle.decoder_c.proofs.neighbours.lomsakeun_get_avail_intra.Kinds as get-avail-intra-kinds
use Rattle.decoder_c.proofs.neighbours.lomsakeun_get_avail_intra.Reads as get-avail-intra-reads
use Rattle.decoder_c.proofs.neighbours.lomsakeun_get_avail_inter.Kinds as get-avail-inter-kinds
use Rattle.decoder_c.proofs.neighbours.lomsakeun_get_avail_inter.Reads as get-avail-inter-reads
use Rattle.decoder_c.proofs.neighbours.lomsakeun_get_mpm.Kinds as get-mpm-kinds
use Rattle.decoder_c.proofs.neighbours.lomsakeun_get_mpm.Reads as get-mpm-reads
use Rattle.decoder_c.proofs.blocks.lomsakeun_get_nbr.Kinds as get-nbr-kinds
use Rattle.decoder_c.proofs.blocks.lomsakeun_get_nbr.Reads as get-nbr-reads
use Rattle.decoder_c.proofs.blocks.lomsakeun_ipred_b.Kinds as ipred-b-kinds
use Rattle.decoder_c.proofs.blocks.lomsakeun_ipred_b.Reads as ipred-b-reads
use Rattle.decoder_c.proofs.blocks.lomsakeun_recon.Kinds as recon-kinds
use Rattle.decoder_c.proofs.blocks.lomsakeun_recon.Reads as recon-reads
use Rattle.decoder_c.proofs.blocks.lomsakeun_recon_plane.Kinds as recon-plane-kinds
use Rattle.decoder_c.proofs.blocks.lomsakeun_recon_plane.Reads as recon-plane-reads
use Rattle.decoder_c.proofs.tree.lomsakeun_check.Kinds as check-kinds
use Rattle.decoder_c.proofs.tree.lomsakeun_check.Reads as check-reads
use Rattle.decoder_c.proofs.tree.lomsakeun_leaves.Kinds as leaves-kinds
use Rattle.decoder_c.proofs.tree.lomsakeun_leaves.Reads as leaves-reads
use Rattle.decoder_c.proofs.tree.lomsakeun_visiting_rank.Kinds as visiting-rank-kinds
use Rattle.decoder_c.proofs.tree.lomsakeun_visiting_rank.Reads as visiting-rank-reads
use Rattle.decoder_c.proofs.tree.lomsakeun_list_edges.Kinds as list-edges-kinds
use Rattle.decoder_c.proofs.tree.lomsakeun_list_edges.Reads as list-edges-reads
use Rattle.decoder_c.proofs.tree.lomsakeun_listing.Kinds as listing-kinds
use Rattle.decoder_c.proofs.tree.lomsakeun_listing.Reads as listing-reads
use Rattle.decoder_c.proofs.tree.lomsakeun_mend.Kinds as mend-kinds
use Rattle.decoder_c.proofs.tree.lomsakeun_mend.Reads as mend-reads
use Rattle.decoder_c.proofs.compact.lomsakeun_put_map.Kinds as put-map-kinds
use Rattle.decoder_c.proofs.compact.lomsakeun_put_map.Reads as put-map-reads
use Rattle.decoder_c.proofs.compact.lomsakeun_get_map.Kinds as get-map-kinds
use Rattle.decoder_c.proofs.compact.lomsakeun_get_map.Reads as get-map-reads
use Rattle.decoder_c.proofs.deblock.lomsakeun_deblock.Kinds as deblock-kinds
use Rattle.decoder_c.proofs.deblock.lomsakeun_deblock.Reads as deblock-reads
use Rattle.decoder_c.proofs.deblock.lomsakeun_deblock_band.Kinds as deblock-band-kinds
use Rattle.decoder_c.proofs.deblock.lomsakeun_deblock_band.Reads as deblock-band-reads
use Rattle.decoder_c.proofs.deblock.lomsakeun_deblock_by_rows.Kinds as deblock-by-rows-kinds
use Rattle.decoder_c.proofs.deblock.lomsakeun_deblock_by_rows.Reads as deblock-by-rows-reads
use Rattle.decoder_c.proofs.edge_rows.lomsakeun_fill_rows.Kinds as fill-rows-kinds
use Rattle.decoder_c.proofs.edge_rows.lomsakeun_fill_rows.Reads as fill-rows-reads
use Rattle.decoder_c.proofs.edge_rows.lomsakeun_set_motion.Kinds as set-motion-kinds
use Rattle.decoder_c.proofs.edge_rows.lomsakeun_set_motion.Reads as set-motion-reads
use Rattle.decoder_c.proofs.edge_rows.lomsakeun_set_flag.Kinds as set-flag-kinds
use Rattle.decoder_c.proofs.edge_rows.lomsakeun_set_flag.Reads as set-flag-reads
use Rattle.decoder_c.proofs.reconstruct.lomsakeun_reconstruct.Kinds as reconstruct-kinds
use Rattle.decoder_c.proofs.reconstruct.lomsakeun_reconstruct.Reads as reconstruct-reads
use Rattle.decoder_c.proofs.streams.lomsakeun_read_header.Kinds as read-header-kinds
use Rattle.decoder_c.proofs.streams.lomsakeun_read_header.Reads as read-header-reads
use Rattle.decoder_c.proofs.streams.lomsakeun_write_header.Kinds as write-header-kinds
use Rattle.decoder_c.proofs.streams.lomsakeun_write_header.Reads as write-header-reads
use Rattle.decoder_c.proofs.streams.lomsakeun_read_frame.Kinds as read-frame-kinds
use Rattle.decoder_c.proofs.streams.lomsakeun_read_frame.Reads as read-frame-reads
use Rattle.decoder_c.proofs.streams.lomsakeun_write_frame.Kinds as write-frame-kinds
use Rattle.decoder_c.proofs.streams.lomsakeun_write_frame.Reads as write-frame-reads
use Rattle.decoder_c.proofs.streams.lomsakeun_import_frame.Kinds as import-frame-kinds
use Rattle.decoder_c.proofs.streams.lomsakeun_import_frame.Reads as import-frame-reads
use Rattle.decoder_c.proofs.screen.lomsakeun_ward_row.Kinds as ward-row-kinds
use Rattle.decoder_c.proofs.screen.lomsakeun_ward_row.Reads as ward-row-reads

-- ---- chroma

pub lomsakeun_derived_chroma_qp_mapping_tables_once : Sole 6 tables-kinds.ps tables-kinds.r tables-reads.Post {O = derived.Outcome}
    (λ κs n x. let t = x.1.1.1.1.1.1.1.1 in record { number = n; t0 = t.0.now; t1 = t.1.0.now })
lomsakeun_derived_chroma_qp_mapping_tables_once κs a n n' x x' p q = p ∙ sym q

-- ---- neighbours

pub lomsakeun_get_avail_intra_once : Sole 2 get-avail-intra-kinds.ps get-avail-intra-kinds.r get-avail-intra-reads.Post {O = masks.Outcome}
    (λ κs n x. let t = x.1.1.1.1.1.1 in record { number = n; neighbours = t.0.now })
lomsakeun_get_avail_intra_once κs a n n' x x' p q = p ∙ sym q

pub lomsakeun_get_avail_inter_once : Sole 2 get-avail-inter-kinds.ps get-avail-inter-kinds.r get-avail-inter-reads.Post {O = masks.Outcome}
    (λ κs n x. let t = x.1.1.1.1.1.1 in record { number = n; neighbours = t.0.now })
lomsakeun_get_avail_inter_once κs a n n' x x' p q = p ∙ sym q

pub lomsakeun_get_mpm_once : Sole 4 get-mpm-kinds.ps get-mpm-kinds.r get-mpm-reads.Post {O = ranked.Outcome} (λ κs n x. record { number = n; ranks = x.1.1.1.1.1.1.1.0.now })
lomsakeun_get_mpm_once κs a n n' x x' p q = p ∙ sym q

-- ---- blocks

pub lomsakeun_get_nbr_once : Sole 3 get-nbr-kinds.ps get-nbr-kinds.r get-nbr-reads.Post {O = gather.Outcome} (λ κs n x. record { number = n; run = x.1.1.1.1.1.1.1.1.1.0.now })
lomsakeun_get_nbr_once κs a n n' x x' p q = p ∙ sym q

pub lomsakeun_ipred_b_once : Sole 2 ipred-b-kinds.ps ipred-b-kinds.r ipred-b-reads.Post {O = predict.Outcome} (λ κs n x. record { number = n; block = x.1.1.1.0.now })
lomsakeun_ipred_b_once κs a n n' x x' p q = p ∙ sym q

pub lomsakeun_recon_once : Sole 3 recon-kinds.ps recon-kinds.r recon-reads.Post {O = recon.Outcome} (λ κs n x. record { number = n; rec = x.1.1.1.1.0.now })
lomsakeun_recon_once κs a n n' x x' p q = p ∙ sym q

pub lomsakeun_recon_plane_once : Sole 3 recon-plane-kinds.ps recon-plane-kinds.r recon-plane-reads.Post {O = recon.Outcome}
    (λ κs n x. let t = x.1.1.1.1.1.1.1.1.1 in record { number = n; rec = t.0.now })
lomsakeun_recon_plane_once κs a n n' x x' p q = p ∙ sym q

-- ---- tree

pub lomsakeun_check_once : Sole 1 check-kinds.ps check-kinds.r check-reads.Post {O = checking.Outcome} (λ κs n x. record { number = n })
lomsakeun_check_once κs a n n' x x' p q = p ∙ sym q

pub lomsakeun_leaves_once : Sole 3 leaves-kinds.ps leaves-kinds.r leaves-reads.Post {O = meeting.Outcome}
    (λ κs n x. let t = x.1.1.1.1.1 in record { reading = record { number = n; count = t.1.0.now }; out = t.0.now })
lomsakeun_leaves_once κs a n n' x x' p q = p ∙ sym q

pub lomsakeun_visiting_rank_once : Sole 1 visiting-rank-kinds.ps visiting-rank-kinds.r visiting-rank-reads.Post {O = ranking.Outcome}
    (λ κs n x. record { reading = record { number = n; rank = x.1.1.0.now } })
lomsakeun_visiting_rank_once κs a n n' x x' p q = p ∙ sym q

pub lomsakeun_list_edges_once : Sole 5 list-edges-kinds.ps list-edges-kinds.r list-edges-reads.Post {O = listing.Outcome}
    (λ κs n x. let t = x.1.1.1.1 in record {
      reading = record { number = n; vertical = t.1.1.0.now; horizontal = t.1.1.1.0.now };
      vertical = t.0.now;
      horizontal = t.1.0.now;
    })
lomsakeun_list_edges_once κs a n n' x x' p q = p ∙ sym q

pub lomsakeun_listing_once : Sole 3 listing-kinds.ps listing-kinds.r listing-reads.Post {O = printing.Outcome}
    (λ κs n x. record { reading = record { number = n; length = x.1.1.0.now }; out = x.1.0.now })
lomsakeun_listing_once κs a n n' x x' p q = p ∙ sym q

pub lomsakeun_mend_once : Sole 4 mend-kinds.ps mend-kinds.r mend-reads.Post {O = mending.Outcome}
    (λ κs n x. let t = x.1.1.1 in record { reading = record { number = n; count = t.1.1.0.now }; out = t.0.now; list = t.1.0.now })
lomsakeun_mend_once κs a n n' x x' p q = p ∙ sym q

-- ---- compact

pub lomsakeun_put_map_once : Sole 3 put-map-kinds.ps put-map-kinds.r put-map-reads.Post {O = putting.Outcome}
    (λ κs n x. let t = x.1.1.1 in record { number = n; at = t.1.0.now; buf = t.0.now })
lomsakeun_put_map_once κs a n n' x x' p q = p ∙ sym q

pub lomsakeun_get_map_once : Sole 3 get-map-kinds.ps get-map-kinds.r get-map-reads.Post {O = getting.Outcome}
    (λ κs n x. let t = x.1.1.1 in record { number = n; at = t.0.now; map = t.1.0.now })
lomsakeun_get_map_once κs a n n' x x' p q = p ∙ sym q

-- ---- deblock

pub lomsakeun_deblock_once : Sole 13 deblock-kinds.ps deblock-kinds.r deblock-reads.Post {O = deblocking.Outcome}
    (λ κs n x. record {
      reading = record {
        number = n;
        vertical = x.1.1.1.1.1.1.1.1.1.1.1.1.1.1.1.1.1.0.now;
        horizontal = x.1.1.1.1.1.1.1.1.1.1.1.1.1.1.1.1.1.1.0.now;
      };
      y = x.1.1.0.now;
      u = x.1.1.1.0.now;
      v = x.1.1.1.1.0.now;
      words = x.1.1.1.1.1.0.now;
    })
lomsakeun_deblock_once κs a n n' x x' p q = p ∙ sym q

pub lomsakeun_deblock_band_once : Sole 14 deblock-band-kinds.ps deblock-band-kinds.r deblock-band-reads.Post {O = banding.Outcome}
    (λ κs n x. record {
      reading = record {
        number = n;
        vertical = x.1.1.1.1.1.1.1.1.1.1.1.1.1.1.1.1.1.1.1.0.now;
        horizontal = x.1.1.1.1.1.1.1.1.1.1.1.1.1.1.1.1.1.1.1.1.0.now;
        next = x.0.now;
      };
      y = x.1.1.1.1.0.now;
      u = x.1.1.1.1.1.0.now;
      v = x.1.1.1.1.1.1.0.now;
      words = x.1.1.1.1.1.1.1.0.now;
    })
lomsakeun_deblock_band_once κs a n n' x x' p q = p ∙ sym q

pub lomsakeun_deblock_by_rows_once : Sole 14 deblock-by-rows-kinds.ps deblock-by-rows-kinds.r deblock-by-rows-reads.Post {O = deblocking.Outcome}
    (λ κs n x. record {
      reading = record {
        number = n;
        vertical = x.1.1.1.1.1.1.1.1.1.1.1.1.1.1.1.1.1.1.0.now;
        horizontal = x.1.1.1.1.1.1.1.1.1.1.1.1.1.1.1.1.1.1.1.0.now;
      };
      y = x.1.1.0.now;
      u = x.1.1.1.0.now;
      v = x.1.1.1.1.0.now;
      words = x.1.1.1.1.1.0.now;
    })
lomsakeun_deblock_by_rows_once κs a n n' x x' p q = p ∙ sym q

-- ---- edge rows

pub lomsakeun_fill_rows_once : Sole 4 fill-rows-kinds.ps fill-rows-kinds.r fill-rows-reads.Post {O = filling.Outcome} (λ κs n x. record { number = n; rows = x.1.1.1.1.1.0.now })
lomsakeun_fill_rows_once κs a n n' x x' p q = p ∙ sym q

pub lomsakeun_set_motion_once : Sole 4 set-motion-kinds.ps set-motion-kinds.r set-motion-reads.Post {O = moving.Outcome}
    (λ κs n x. let t = x.1.1.1.1.1.1.1.1.1.1.1 in record { number = n; motion = t.0.now; refs = t.1.0.now; rows = t.1.1.0.now })
lomsakeun_set_motion_once κs a n n' x x' p q = p ∙ sym q

pub lomsakeun_set_flag_once : Sole 4 set-flag-kinds.ps set-flag-kinds.r set-flag-reads.Post {O = flagging.Outcome}
    (λ κs n x. let t = x.1.1.1.1.1.1 in record { number = n; words = t.0.now; rows = t.1.1.1.0.now })
lomsakeun_set_flag_once κs a n n' x x' p q = p ∙ sym q

-- ---- reconstruct

pub lomsakeun_reconstruct_once : Sole 12 reconstruct-kinds.ps reconstruct-kinds.r reconstruct-reads.Post {O = driving.Outcome}
    (λ κs n x. let t = x.1.1.1.1.1.1.1.1.1.1 in record {
      number = n;
      y = t.0.now;
      u = t.1.0.now;
      v = t.1.1.0.now;
      words = t.1.1.1.0.now;
      modes = t.1.1.1.1.0.now;
      keep = t.1.1.1.1.1.0.now;
    })
lomsakeun_reconstruct_once κs a n n' x x' p q = p ∙ sym q

-- ---- streams

pub lomsakeun_read_header_once : Sole 9 read-header-kinds.ps read-header-kinds.r read-header-reads.Post {O = heading.Outcome}
    (λ κs n x. record {
      reading = record {
        number = n;
        at = x.1.1.1.1.1.1.1.1.0.now;
        w = x.1.0.now;
        h = x.1.1.0.now;
        f = x.1.1.1.0.now;
        g = x.1.1.1.1.0.now;
        a = x.1.1.1.1.1.0.now;
        b = x.1.1.1.1.1.1.0.now;
        next = x.1.1.1.1.1.1.1.0.now;
      };
    })
lomsakeun_read_header_once κs a n n' x x' p q = p ∙ sym q

pub lomsakeun_write_header_once : Sole 2 write-header-kinds.ps write-header-kinds.r write-header-reads.Post {O = writing.Outcome}
    (λ κs n x. let t = x.1.1.1.1.1.1.1 in record { reading = record { number = n; count = t.1.0.now }; out = t.0.now })
lomsakeun_write_header_once κs a n n' x x' p q = p ∙ sym q

pub lomsakeun_read_frame_once : Sole 6 read-frame-kinds.ps read-frame-kinds.r read-frame-reads.Post {O = framing.Outcome}
    (λ κs n x. let t = x.1.1.1.1 in record {
      reading = record { number = n; at = t.1.1.1.1.0.now; next = t.1.1.1.0.now };
      y = t.0.now;
      u = t.1.0.now;
      v = t.1.1.0.now;
    })
lomsakeun_read_frame_once κs a n n' x x' p q = p ∙ sym q

pub lomsakeun_write_frame_once : Sole 4 write-frame-kinds.ps write-frame-kinds.r write-frame-reads.Post {O = drawing.Outcome}
    (λ κs n x. let t = x.1.1.1.1.1.1 in record { number = n; out = t.0.now })
lomsakeun_write_frame_once κs a n n' x x' p q = p ∙ sym q

pub lomsakeun_import_frame_once : Sole 12 import-frame-kinds.ps import-frame-kinds.r import-frame-reads.Post {O = importing.Outcome}
    (λ κs n x. record {
      reading = record {
        number = n;
        at = x.1.1.1.1.1.1.1.1.1.1.1.0.now;
        w = x.1.1.1.1.0.now;
        h = x.1.1.1.1.1.0.now;
        f = x.1.1.1.1.1.1.0.now;
        g = x.1.1.1.1.1.1.1.0.now;
        a = x.1.1.1.1.1.1.1.1.0.now;
        b = x.1.1.1.1.1.1.1.1.1.0.now;
        next = x.1.1.1.1.1.1.1.1.1.1.0.now;
      };
      y = x.1.0.now;
      u = x.1.1.0.now;
      v = x.1.1.1.0.now;
    })
lomsakeun_import_frame_once κs a n n' x x' p q = p ∙ sym q

-- ---- screen

pub lomsakeun_ward_row_once : Sole 7 ward-row-kinds.ps ward-row-kinds.r ward-row-reads.Post {O = screen.Outcome}
    (λ κs n x. let t = x.1.1.1.1.1.1.1.1.1.1.1.1.1.1.1 in record {
      seen = record { number = n; plane = x.1.0.now; row = x.1.1.0.now; written = t.1.0.now };
      out = t.0.now;
    })
lomsakeun_ward_row_once κs a n n' x x' p q = p ∙ sym q
