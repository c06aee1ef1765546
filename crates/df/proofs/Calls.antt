-- The call: what holds of a picture that passed its checks, and its outcome.
-- Assumes nothing.
use Rattle.std.specs.Prelude.{Ok, Err}
use Prim.Native.Nat.{ℕ, ◌*◌, ◌/◌}
use mathlib.Core.Path.{◌≡◌, sym, ap, ◌∙◌}
use mathlib.Core.List.{List}
use native.Mathlib.Nat.{mul_comm}
use native.Mathlib.Omega.{arith}
use lib.ListN.{length}
use Rattle.def.specs.Formats.{in_format}
use Rattle.def.specs.Picture.{chroma_length, unit_count}
use Rattle.def.specs.Answers.{Answer}
use Rattle.def.specs.declared.Refusal.{Refusal}
use Rattle.def.proofs.Sizes.{Sized, sized}
use Rattle.split.specs.Edges.{vertical, horizontal}
use Rattle.df_check.proofs.Passed.{Passed, passed}
use Rattle.df_rules.specs.Filter.{Planes}
use Rattle.df_rules.specs.Lent.{LentPicture, BothPasses}
use Rattle.split.specs.Accepted.{Accepted}
use Rattle.df.specs.Deblock.{Input, Reading, reading_of, checked, check, pass_edges, maps_of, outcome}
use Rattle.strength.specs.Entries.{entries_in}
use Rattle.df.proofs.Entries.{by_format}

module _ (i : Input) (fine : check i ≡ Ok tt) where
  abbrev checks_passed : Passed (checked i)
  checks_passed = passed (checked i) fine

  abbrev size : Sized i.w i.h
  size = sized i.w i.h checks_passed.size

  pub accepted : Accepted i.w i.h i.splits
  accepted = record { size = checks_passed.size; long = checks_passed.lengths.splits; walked = checks_passed.walk }

  units : unit_count i.w i.h ≡ i.h / 4 * (i.w / 4)
  units = mul_comm (i.w / 4) (i.h / 4)

  -- ---- the picture, by any entries

  pub lent_picture : (t : List ℕ) → length t ≡ 624 → LentPicture i.settings.format (i.w / 4) (i.h / 4) i.y i.u i.v i.words (maps_of i).over t
  lent_picture t e =
      let n = checks_passed.lengths in
      let z = size in
      let a : 4 * (i.w / 4) ≡ i.w = omega (arith, z.by_four) in
      let b : 4 * (i.h / 4) ≡ i.h = omega (arith, z.by_four_down) in
      let c : 2 * (i.w / 4) ≡ i.w / 2 = omega (arith, z.by_four) in
      let d : 2 * (i.h / 4) ≡ i.h / 2 = omega (arith, z.by_four_down) in
      let colour : chroma_length i.w i.h ≡ 2 * (i.h / 4) * (2 * (i.w / 4)) = mul_comm (i.w / 2) (i.h / 2) ∙ (λ k. sym d k * sym c k) in
      record {
        wide = omega (arith, z.wide);
        high = omega (arith, z.high);
        long_y = n.y ∙ mul_comm i.w i.h ∙ (λ k. sym b k * sym a k);
        long_u = n.u ∙ ap (in_format i.settings.format) colour;
        long_v = n.v ∙ ap (in_format i.settings.format) colour;
        long_words = n.words ∙ units;
        long_motion = n.motion ∙ ap (λ (k : ℕ). 4 * k) units;
        long_refs = n.refs ∙ ap (λ (k : ℕ). 2 * k) units;
        long_keep = n.keep ∙ units;
        long_entries = e;
        qps = checks_passed.qp;
        marks = checks_passed.mark;
        all_y = checks_passed.y;
        all_u = checks_passed.u;
        all_v = checks_passed.v;
      }

  -- ---- the outcome

  pub deblock_done : (t : List ℕ) (y u v words : List ℕ) (m n : ℕ)
      → t ≡ entries_in i.settings.format i.strengths i.table0 i.settings.u_offset i.table1 i.settings.v_offset
      → BothPasses (maps_of i) t (i.w / 4) (pass_edges vertical i) (pass_edges horizontal i) (record { y = i.y; u = i.u; v = i.v }) (record { y = y; u = u; v = v }) words m n
      → {r : Reading} → r ≡ reading_of (Ok (record { vertical = m; horizontal = n })) → (record { reading = r; y = y; u = u; v = v; words = words }) ≡ outcome i
  unfolding outcome
  deblock_done t y u v words m n e b g =
      let reading = g ∙ (λ k. reading_of (Ok (record { vertical = b.ups_counted k; horizontal = b.levels_counted k }))) in
      let start : Planes = record { y = i.y; u = i.u; v = i.v } in
      let planes = b.planes
      ∙ by_format i.strengths i.table0 i.settings.u_offset i.table1 i.settings.v_offset (maps_of i) (i.w / 4) (λ d. pass_edges d i)
      i.settings.format t e checks_passed.lengths.strengths checks_passed.qp start (chroma_length i.w i.h) checks_passed.lengths.u checks_passed.lengths.v in
      rw fine
      (λ k. record {
        reading = reading k;
        y = (planes k).y;
        u = (planes k).u;
        v = (planes k).v;
        words = b.marks k;
      })

pub deblock_refused : (i : Input) (a : Answer) → a ≡ check i → (r : Refusal) → a ≡ Err r
    → (record { reading = reading_of (Err r); y = i.y; u = i.u; v = i.v; words = i.words }) ≡ outcome i
unfolding outcome
deblock_refused i a e r f = rw (sym e ∙ f)
