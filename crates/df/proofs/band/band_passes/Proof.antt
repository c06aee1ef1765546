-- `df::band::band_passes` meets its contract: both passes over the rest of what is lent. Assumes nothing.
use Prim.Native.Nat.{ℕ, ◌+◌, ◌-◌, ◌*◌, ◌/◌, ◌≤◌}
use mathlib.Core.Path.{◌≡◌, refl, sym, ap, ◌∙◌, subst}
use mathlib.Core.List.{List, []}
use native.Mathlib.Nat.{le_refl, not-suc-le-zero}
use native.Mathlib.Omega.{arith}
use mir.Syntax.{w64}
use mir.Val.{Fits}
use lib.IntN.{ℤ}
use lib.ListN.{length, take, drop}
use borrow.Rule.Slice.PartMut.{mid_of, put_mid, same_len_mid, take_put}
use Rattle.def.specs.Formats.{in_format}
use Rattle.def.specs.declared.Format.{Format}
use Rattle.split.specs.Edges.{vertical, horizontal, Edge}
use Rattle.df_check.proofs.Formats.{at_most}
use Rattle.df_check.proofs.Fronts.{whole_end, end_drop}
use Rattle.df_rules.specs.Filter.{Planes, filter_all}
use Rattle.df_rules.specs.Lent.{LentPicture}
use Rattle.df_rules.specs.Strength.{Maps}
use Rattle.bands_rules.specs.Bands.{list_from, done_from, BothPassesFrom}
use Rattle.df.specs.Plan.{RowsLent}
use Rattle.df.proofs.band.band_passes.Statement.{statement}
use Rattle.df.proofs.band.band_passes.Tie as tie

-- a slice whose end, from k on, was lent, where k is known as m
module _ {k m : ℕ} (e : k ≡ m) (xs : List ℕ) where
  end_at : mid_of k (length xs - k) xs ≡ drop m xs
  end_at = whole_end k xs ∙ ap (λ (z : ℕ). drop z xs) e

  front_at : (ys : List ℕ) → m ≤ length xs → take m (put_mid k (length xs - k) xs ys) ≡ take m xs
  front_at ys l = subst (λ (z : ℕ). take m (put_mid z (length xs - z) xs ys) ≡ take m xs) (sym e) (take_put m (length xs - m) xs ys l)

  left_at : (ys : List ℕ) → m ≤ length xs → drop m (put_mid k (length xs - k) xs ys) ≡ ys
  left_at ys l = subst (λ (z : ℕ). drop m (put_mid z (length xs - z) xs ys) ≡ ys) (sym e) (end_drop m xs ys l)

-- what is lent from unit n on; k is how many samples of a chroma plane lie before it
module _ (f : Format) (w n k : ℕ) (e : k ≡ in_format f (4 * n)) (y u v words : List ℕ) (motion refs : List ℤ) (keep t : List ℕ) where
  abbrev lent : Maps
  lent =
      record {
        words = mid_of n (length words - n) words;
        over = record { motion = mid_of (4 * n) (length motion - 4 * n) motion; refs = mid_of (2 * n) (length refs - 2 * n) refs; keep = mid_of n (length keep - n) keep };
      }

  abbrev left : Maps
  left = record { words = drop n words; over = record { motion = drop (4 * n) motion; refs = drop (2 * n) refs; keep = drop n keep } }

  maps_left : lent ≡ left
  maps_left i =
      record { words = whole_end n words i; over = record { motion = whole_end (4 * n) motion i; refs = whole_end (2 * n) refs i; keep = whole_end n keep i } }

  abbrev lent_planes : Planes
  lent_planes = record { y = mid_of (16 * n) (length y - 16 * n) y; u = mid_of k (length u - k) u; v = mid_of k (length v - k) v }

  abbrev left_planes : Planes
  left_planes = record { y = drop (16 * n) y; u = drop (in_format f (4 * n)) u; v = drop (in_format f (4 * n)) v }

  planes_left : lent_planes ≡ left_planes
  planes_left i = record { y = whole_end (16 * n) y i; u = end_at e u i; v = end_at e v i }

  -- what both passes are asked for
  lent_picture : (h : ℕ) → LentPicture f w h left_planes.y left_planes.u left_planes.v left.words left.over t
      → LentPicture f w h lent_planes.y lent_planes.u lent_planes.v lent.words lent.over t
  lent_picture h g =
      subst (λ (p : Planes). LentPicture f w h p.y p.u p.v lent.words lent.over t) (sym planes_left)
      (subst (λ (m : Maps). LentPicture f w h left_planes.y left_planes.u left_planes.v m.words m.over t) (sym maps_left) g)

  -- and what they leave
  passed : (top : ℕ) (ups levels : List Edge) (y₁ u₁ v₁ words₁ : List ℕ) (ver hor : ℕ)
      → 16 * n ≤ length y → in_format f (4 * n) ≤ length u → in_format f (4 * n) ≤ length v → n ≤ length words
      → BothPassesFrom lent t w top ups levels lent_planes (record { y = y₁; u = u₁; v = v₁ }) words₁ ver hor
      → BothPassesFrom left t w top ups levels left_planes
      (record {
        y = drop (16 * n) (put_mid (16 * n) (length y - 16 * n) y y₁);
        u = drop (in_format f (4 * n)) (put_mid k (length u - k) u u₁);
        v = drop (in_format f (4 * n)) (put_mid k (length v - k) v v₁);
      })
      (drop n (put_mid n (length words - n) words words₁)) ver hor
  passed top ups levels y₁ u₁ v₁ words₁ ver hor ly lu lv lw b =
      record {
        planes = (λ i. record { y = end_drop (16 * n) y y₁ ly i; u = left_at e u u₁ lu i; v = left_at e v v₁ lv i })
            ∙ b.planes
            ∙ (λ i. filter_all (maps_left i) t horizontal w levels (filter_all (maps_left i) t vertical w ups (planes_left i)));
        ups_counted = b.ups_counted;
        levels_counted = b.levels_counted;
        marks = end_drop n words words₁ lw ∙ b.marks ∙ ap (λ (m : Maps). done_from (top * w) m.words) maps_left;
      }

abbrev start : tie.After-passes_by → tie.Start
start d = d.before.before.before.before.before.before.before.before.before.before.before.before.before.before.before.before

-- no map of edge rows is lent
no_rows : (w : ℕ) (words : List ℕ) (motion refs : List ℤ) → RowsLent w words motion refs []
no_rows w words motion refs k l = absurd (not-suc-le-zero l)

passes_by_requires : tie.Need-passes_by-requires
passes_by_requires c κs =
    let a = c.args in
    let k = c.in_format-chroma in (
      lent_picture a.shape.format (a.shape.w / 4) (a.skip * (a.shape.w / 4)) k.result k.ensures a.y.now a.u.now a.v.now a.words.now
          a.motion.now a.refs.now a.keep.now a.entries.now (a.shape.top + a.shape.h / 4) c.requires.0.0,
      c.requires.0.1,
      no_rows _ _ _ _,
    )

returns : tie.Need-returns
returns c =
    let s = start c.before.before.before.before.before.before.before.before in
    let a = s.args in
    let n = a.skip * (a.shape.w / 4) in
    let k = c.in_format-chroma in
    let b = c.passes_by in
    let r = s.requires.1 in (
      take_put (16 * n) (length a.y.now - 16 * n) a.y.now b.new.y r.0,
      front_at k.ensures a.u.now b.new.u r.1,
      front_at k.ensures a.v.now b.new.v r.2,
      take_put n (length a.words.now - n) a.words.now b.new.words r.3,
      passed a.shape.format (a.shape.w / 4) n k.result k.ensures a.y.now a.u.now a.v.now a.words.now a.motion.now a.refs.now a.keep.now a.entries.now a.shape.top
          (list_from vertical a.shape.halved a.shape.top a.splits.now (a.shape.w / 4) (a.shape.h / 4)) (list_from horizontal a.shape.halved a.shape.top a.splits.now (a.shape.w / 4) (a.shape.h / 4))
          b.new.y b.new.u b.new.v b.new.words b.result.vertical b.result.horizontal
          r.0 r.1 r.2 r.3 b.ensures,
    )

-- the units that are not looked at: few, so that what is counted of them fits a machine word
module _ {n : ℕ} (l : n ≤ 16384) where
  fits : Fits w64 n
  fits = omega arith

  fits_2 : Fits w64 (2 * n)
  fits_2 = omega arith

  fits_4 : Fits w64 (4 * n)
  fits_4 = omega arith

  fits_16 : Fits w64 (16 * n)
  fits_16 = omega arith

  bytes_2 : Fits w64 (16 * n * 2)
  bytes_2 = omega arith

  bytes_4 : Fits w64 (n * 4)
  bytes_4 = omega arith

  motion_2 : Fits w64 (4 * n * 2)
  motion_2 = omega arith

  -- and of a chroma plane
  colour_few : (f : Format) {k : ℕ} → k ≡ in_format f (4 * n) → k ≤ 65536
  colour_few f e = omega (arith, e, at_most f (4 * n) 65536 (omega arith))

  colour_2 : (f : Format) {k : ℕ} → k ≡ in_format f (4 * n) → Fits w64 (k * 2)
  colour_2 f e = let h = colour_few f e in omega arith

-- a slice is as long as it was
kept_long : (k : ℕ) (xs ys : List ℕ) → length ys ≡ length (mid_of k (length xs - k) xs) → length (put_mid k (length xs - k) xs ys) ≡ length xs
kept_long k xs ys e = same_len_mid k (length xs - k) xs ys e

before_end : {k m n : ℕ} → k ≡ m → m ≤ n → k ≤ n
before_end e l = omega arith

few : (s : tie.Start) → s.args.skip * (s.args.shape.w / 4) ≤ 16384
few s = s.requires.1.7

pub band_passes_spec : {M : Type 1} → statement M
band_passes_spec =
    tie.close
    (tie.spec
    (λ c. fits (few c.before.before.before.before.before.before.before))
    (λ c. fits_16 (few c.before.before.before.before.before.before.before))
    (λ c. fits_4 (few c.before.before.before.before.before.before.before))
    (λ c κs. tt)
    (λ c. fits_4 (few c.before.before.before.before.before.before.before.before))
    (λ c. fits_2 (few c.before.before.before.before.before.before.before.before))
    (λ c. bytes_2 (few c.before.before.before.before.before.before.before.before))
    (λ c. c.requires.1.0)
    (λ c. c.requires.1.0)
    (λ c. le_refl _)
    (λ c. colour_2 (few c.before.before.before.before.before.before.before.before.before) c.args.shape.format c.in_format-chroma.ensures)
    (λ c. before_end c.in_format-chroma.ensures c.requires.1.1)
    (λ c. before_end c.in_format-chroma.ensures c.requires.1.1)
    (λ c. le_refl _)
    (λ c. colour_2 (few c.before.before.before.before.before.before.before.before.before.before) c.args.shape.format c.in_format-chroma.ensures)
    (λ c. before_end c.in_format-chroma.ensures c.requires.1.2)
    (λ c. before_end c.in_format-chroma.ensures c.requires.1.2)
    (λ c. le_refl _)
    (λ c. bytes_4 (few c.before.before.before.before.before.before.before.before.before.before.before))
    (λ c. c.requires.1.3)
    (λ c. c.requires.1.3)
    (λ c. le_refl _)
    (λ c. motion_2 (few c.before.before.before.before.before.before.before.before.before.before.before.before))
    (λ c. c.requires.1.4)
    (λ c. c.requires.1.4)
    (λ c. le_refl _)
    (λ c. c.requires.1.5)
    (λ c. c.requires.1.5)
    (λ c. le_refl _)
    (λ c. c.requires.1.6)
    (λ c. c.requires.1.6)
    (λ c. le_refl _)
    (λ c. refl)
    passes_by_requires
    (λ c. kept_long _ (start c.before.before.before.before.before.before.before.before).args.y.now c.passes_by.new.y c.passes_by.auto.y)
    (λ c. kept_long _ (start c.before.before.before.before.before.before.before.before).args.u.now c.passes_by.new.u c.passes_by.auto.u)
    (λ c. kept_long _ (start c.before.before.before.before.before.before.before.before).args.v.now c.passes_by.new.v c.passes_by.auto.v)
    (λ c. kept_long _ (start c.before.before.before.before.before.before.before.before).args.words.now c.passes_by.new.words c.passes_by.auto.words)
    returns)
