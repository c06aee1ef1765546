-- What deblocking does to the words: of every call that is accepted `done_after`, and of any two that differ in done bits at entry `done_before`.
-- Assumes nothing.
use Rattle.std.specs.Prelude.{Ok}
use Prim.Native.Nat.{ℕ, ◌+◌, ◌-◌, ◌/◌, ◌≤◌, ◌<◌}
use mathlib.Core.Path.{◌≡◌, sym, ap, ◌∙◌}
use mathlib.Core.Bool.{true}
use mathlib.Core.List.{List}
use lib.Dec.{leb}
use lib.ListN.{length, get_or, drop, length-drop}
use lib.Seq.{get_or-drop}
use Rattle.laws.specs.Bits.{field_of}
use Rattle.laws.specs.Index.{tabulate}
use Rattle.laws.specs.Orders.{run}
use Rattle.laws.specs.Scan.{all_below}
use Rattle.laws.proofs.Tabulate.{length_tabulate, get_d_tabulate}
use Rattle.def.specs.Answers.{after_checks}
use Rattle.def.specs.Picture.{unit_count}
use Rattle.def.specs.Word.{intra_of, qp_of, coded_of, done_of, with_done}
use Rattle.def.specs.declared.Component.{Component}
use Rattle.def.specs.declared.Component.TheVariants.{Luma, Chroma}
use Rattle.def.proofs.Words.{Alike, set_alike, done_set, set_keeps}
use Rattle.split.specs.Edges.{vertical, horizontal, Edge}
use Rattle.df_check.specs.Checks as checks
use Rattle.df_rules.specs.Filter.{window, mask_at}
use Rattle.df_rules.specs.Places.{unit_q, unit_p}
use Rattle.df_rules.specs.Visit.{all_done}
use Rattle.df_rules.proofs.Alikes.{Alikes, strength_alike}
use Rattle.df.specs.Deblock.{Input, Outcome, check, refused, pass_edges, qp_y, qp_u, qp_v, maps_of, deblocked, done, outcome}
use Rattle.df_laws.proofs.Demand3.{is_done}
use Rattle.decoder.specs.Words.{DoneAfter, ButDone, lent_words, DoneBefore}

-- ---- after it

module _ (i : Input) (fine : check i ≡ Ok tt) where
  after_words : (outcome i).words ≡ all_done i.words
  after_words = ap (λ (o : Outcome). o.words) (is_done i fine)

  after_at : (k : ℕ) → k < length i.words → get_or (outcome i).words k 0 ≡ with_done (get_or i.words k 0)
  unfolding all_done
  after_at k h = ap (λ (l : List ℕ). get_or l k 0) after_words ∙ get_d_tabulate _ (length i.words) k 0 h

  after_long : length (outcome i).words ≡ length i.words
  unfolding all_done
  after_long = ap length after_words ∙ length_tabulate _ (length i.words)

  pub done_after : DoneAfter i
  done_after =
      record {
        long = after_long;
        done = λ k h. ap done_of (after_at k h) ∙ done_set (get_or i.words k 0);
        others = λ k q m h e. ap (field_of q m) (after_at k h) ∙ set_keeps (get_or i.words k 0) q m e;
      }

-- ---- before it

alike : (v w : ℕ) → with_done v ≡ with_done w → Alike v w
alike v w e =
    record {
      intra = sym (set_alike v).intra ∙ ap intra_of e ∙ (set_alike w).intra;
      qp = sym (set_alike v).qp ∙ ap qp_of e ∙ (set_alike w).qp;
      coded = sym (set_alike v).coded ∙ ap coded_of e ∙ (set_alike w).coded;
    }

module _ (i : Input) (l : List ℕ) (b : ButDone l i.words) where
  alikes : Alikes l i.words
  alikes = record { long = b.long; same = λ k. alike (get_or l k 0) (get_or i.words k 0) (b.same k) }

  -- 6 judges the QPs alone
  qps_same : (n : ℕ) → checks.qps_ok (drop n l) ≡ checks.qps_ok (drop n i.words)
  unfolding checks.qps_ok
  qps_same n = λ t. all_below (λ (k : ℕ). leb (at k t) 51) (long t) where
    at : (k : ℕ) → qp_of (get_or (drop n l) k 0) ≡ qp_of (get_or (drop n i.words) k 0)
    at k = ap qp_of (get_or-drop n l k 0) ∙ (alikes.same (n + k)).qp ∙ ap qp_of (sym (get_or-drop n i.words k 0))

    long : length (drop n l) ≡ length (drop n i.words)
    long = length-drop n l ∙ ap (λ (k : ℕ). k - n) b.long ∙ sym (length-drop n i.words)

  checks_same : check (lent_words i l) ≡ check i
  unfolding checks.check_of checks.from_lengths
  checks_same = rw (b.long, qps_same (unit_count i.w 0))

  -- a plane after both passes, by strengths that are the same
  plane_same : (c : Component) (at : ℕ → ℕ) (p : List ℕ) → deblocked (lent_words i l) c at p ≡ deblocked i c at p
  plane_same c at p =
      let w = i.w / 4 in
      let m = maps_of i in
      λ t.
      run (λ (e : Edge). window (mask_at m horizontal c w e) horizontal c w (strength_alike m.over i.strengths alikes at (unit_q w e) (unit_p horizontal w e) t) e) (pass_edges horizontal i)
      (run (λ (e : Edge). window (mask_at m vertical c w e) vertical c w (strength_alike m.over i.strengths alikes at (unit_q w e) (unit_p vertical w e) t) e) (pass_edges vertical i)
      p)

  done_same : done (lent_words i l) ≡ done i
  unfolding all_done
  done_same t =
      record {
        reading = (done i).reading;
        y = plane_same Luma (qp_y i) i.y t;
        u = plane_same Chroma (qp_u i) i.u t;
        v = plane_same Chroma (qp_v i) i.v t;
        words = tabulate (b.long t) (λ (k : ℕ). b.same k t);
      }

  pub done_before : DoneBefore i l
  done_before =
      record {
        answer = checks_same;
        all = λ fine. is_done (lent_words i l) (checks_same ∙ fine) ∙ done_same ∙ sym (is_done i fine);
      }
