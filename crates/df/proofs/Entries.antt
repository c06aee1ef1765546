-- The strength entries of a picture, by its format: filtering by them is filtering by the lent strengths.
--     entries_long    the entries of a format are 624
--     by_format    both passes by the entries are both passes by the strengths, each plane at what its QPs are mapped to
-- Assumes nothing.
use Prim.Native.Nat.{ℕ, ◌*◌, ◌≤◌}
use mathlib.Core.Path.{◌≡◌, sym, ap, ◌∙◌}
use mathlib.Core.List.{List, Memᴰ}
use lib.IntN.{ℤ}
use lib.ListN.{length}
use Rattle.def.specs.Formats.{in_format}
use Rattle.def.specs.declared.Component.TheVariants.{Luma, Chroma}
use Rattle.def.specs.declared.Format.{Format}
use Rattle.def.specs.declared.Format.TheVariants.{Grey, Colour}
use Rattle.split.specs.Edges.{Pass, vertical, horizontal, Edge}
use Rattle.strength.specs.ChromaQp.{mapped}
use Rattle.strength.specs.Entries.{luma_entries, entries_of, entries_in}
use Rattle.strength.proofs.Strengths as strengths
use Rattle.df_rules.specs.Filter.{Planes, in_y, in_u, in_v, filter_all, finished}
use Rattle.df_rules.specs.Places.{unit_q, unit_p}
use Rattle.df_rules.specs.Strength.{Maps, row_at, qp_at, strength_of, strength}
use Rattle.df_rules.proofs.Planes.{planes_finished, no_samples, finished_none}
use Rattle.df_rules.proofs.Strengths.{row_few}

-- ---- the entries of a format

module _ (lent : List ℕ) (tableU : List ℤ) (uOffset : ℤ) (tableV : List ℤ) (vOffset : ℤ) where
  pub entries_long : (f : Format) → length (entries_in f lent tableU uOffset tableV vOffset) ≡ 624
  unfolding entries_in
  entries_long Grey = strengths.luma_long lent
  entries_long Colour = strengths.entries_long lent tableU uOffset tableV vOffset

  module _ (m : Maps) (w : ℕ) (lists : Pass → List Edge) where
    -- both passes, by entries; and a plane after them, by the strengths
    abbrev both : List ℕ → Planes → Planes
    both t p = filter_all m t horizontal w (lists horizontal) (filter_all m t vertical w (lists vertical) p)

    abbrev colours : (at : ℕ → ℕ) → List ℕ → List ℕ
    colours at xs = finished m lent at Chroma w (lists vertical) (lists horizontal) xs

    abbrev pub Finished : Planes → Planes
    Finished p =
        record {
          y = finished m lent (λ (qp : ℕ). qp) Luma w (lists vertical) (lists horizontal) p.y;
          u = colours (mapped tableU uOffset) p.u;
          v = colours (mapped tableV vOffset) p.v;
        }

    -- ---- in colour: the entry of each plane

    module _ (few : (q : ℕ) → qp_at m q ≤ 51) (d : Pass) (e : Edge) (i : Memᴰ e (lists d)) where
      abbrev all : List ℕ
      all = entries_of lent tableU uOffset tableV vOffset

      abbrev row : ℕ
      row = row_at m (unit_q w e) (unit_p d w e)

      abbrev qp : ℕ
      qp = qp_at m (unit_q w e)

      some : row ≤ 3
      some = row_few m (unit_q w e) (unit_p d w e)

      same_y : strength m all in_y d w e ≡ strength m lent (λ (k : ℕ). k) d w e
      unfolding strength_of
      same_y = ap (λ (k : ℕ). 4 * k) (strengths.luma_entry _ _ _ _ _ row qp some (few (unit_q w e)))

      same_u : strength m all in_u d w e ≡ strength m lent (mapped tableU uOffset) d w e
      unfolding strength_of
      same_u = ap (λ (k : ℕ). 4 * k) (strengths.u_entry _ _ _ _ _ row qp some (few (unit_q w e)))

      same_v : strength m all in_v d w e ≡ strength m lent (mapped tableV vOffset) d w e
      unfolding strength_of
      same_v = ap (λ (k : ℕ). 4 * k) (strengths.v_entry _ _ _ _ _ row qp some (few (unit_q w e)))

    -- ---- in grey: the entries are the strengths, and a plane without samples stays so

    alone : length lent ≡ 208 → (at : ℕ → ℕ) (d : Pass) (e : Edge) → Memᴰ e (lists d) → strength m (luma_entries lent) at d w e ≡ strength m lent at d w e
    unfolding strength_of
    alone long at d e i = ap (λ (k : ℕ). 4 * k) (strengths.luma_alone lent long _)

    none : (a b : ℕ → ℕ) (xs : List ℕ) → length xs ≡ 0 → colours a xs ≡ colours b xs
    none a b xs e =
        let no = no_samples xs e in
        ap (colours a) no ∙ finished_none m lent a Chroma w (lists vertical) (lists horizontal)
        ∙ sym (ap (colours b) no ∙ finished_none m lent b Chroma w (lists vertical) (lists horizontal))

    grey : length lent ≡ 208 → (p : Planes) → length p.u ≡ 0 → length p.v ≡ 0 → both (luma_entries lent) p ≡ Finished p
    grey long p nu nv =
        planes_finished m (luma_entries lent) w lists lent in_y in_u in_v (alone long in_y) (alone long in_u) (alone long in_v) p
        ∙ (λ k. record {
          y = finished m lent in_y Luma w (lists vertical) (lists horizontal) p.y;
          u = none in_u (mapped tableU uOffset) p.u nu k;
          v = none in_v (mapped tableV vOffset) p.v nv k;
        })

    -- k: a plane's samples in colour
    pub by_format : (f : Format) (t : List ℕ) → t ≡ entries_in f lent tableU uOffset tableV vOffset → length lent ≡ 208 → ((q : ℕ) → qp_at m q ≤ 51)
        → (p : Planes) (k : ℕ) → length p.u ≡ in_format f k → length p.v ≡ in_format f k → both t p ≡ Finished p
    unfolding entries_in
    by_format Grey t e long few p k nu nv = ap (λ (l : List ℕ). both l p) e ∙ grey long p nu nv
    by_format Colour t e long few p k nu nv =
        ap (λ (l : List ℕ). both l p) e
        ∙ planes_finished m (entries_of lent tableU uOffset tableV vOffset) w lists lent (λ (qp : ℕ). qp) (mapped tableU uOffset) (mapped tableV vOffset)
        (same_y few) (same_u few) (same_v few) p
