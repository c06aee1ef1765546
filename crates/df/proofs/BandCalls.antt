-- The call of a band: from both passes over its part of what is lent to the outcome of the rule.
-- Assumes nothing.
use Rattle.std.specs.Prelude.{Ok, Err}
use Prim.Native.Nat.{ℕ, zero, suc, ◌+◌, ◌-◌, ◌*◌, ◌/◌, ◌≤◌}
use mathlib.Core.Path.{◌≡◌, refl, sym, ap, ap₂, ◌∙◌, subst}
use mathlib.Core.List.{List, [], ◌∷◌, ◌++◌, map, append-nil, append_assoc, Memᴰ}
use mathlib.Core.Bool.{Bool, true}
use mathlib.Core.Logic.{inl, inr}
use native.Mathlib.Nat.{add-mul, mul_comm, mul_assoc, mul-le-mul}
use native.Mathlib.Omega.{arith}
use lib.Dec.{eqb}
use lib.ListN.{length, get_or, take, drop, length-drop, drop_of_length-le, take-append-drop}
use lib.Seq.{take_all, take-add, drop-drop, take-nil, drop-nil}
use Rattle.def.proofs.Sizes.{sized}
use Rattle.def.specs.Word.{qp_of}
use Rattle.def.specs.Answers.{Answer}
use Rattle.def.specs.declared.Refusal.{Refusal}
use Rattle.def.specs.Formats.{in_format}
use Rattle.def.specs.declared.Format.{Format}
use Rattle.def.specs.declared.Format.TheVariants.{Grey, Colour}
use Rattle.def.specs.declared.Component.{Component}
use Rattle.def.specs.declared.Component.TheVariants.{Luma, Chroma}
use Rattle.samples.specs.Samples.{samples_ok}
use Rattle.samples.proofs.Samples.{sample_any}
use Rattle.split.specs.Edges.{Pass, vertical, horizontal, Edge}
use Rattle.split.specs.Picture.{picture_walk}
use Rattle.band_rows.proofs.Bands.{band_size, few_above, few_rows}
use Rattle.df_check.proofs.Passed.{word_any, mark_any}
use Rattle.df_rules.specs.Filter.{Planes, finished}
use Rattle.df_rules.specs.Lent.{LentPicture}
use Rattle.split.specs.Accepted.{Accepted}
use Rattle.df_rules.specs.Window.{Samples}
use Rattle.df_rules.specs.Visit.{all_done}
use Rattle.df_rules.specs.Strength.{Maps}
use Rattle.df_rules.proofs.Planes.{no_samples, finished_none}
use Rattle.bands_rules.specs.Bands.{edge_down, list_from, map_part, maps_part, places_of, done_from, BothPassesFrom}
use Rattle.band_rows.specs.Rows.{rows_above}
use Rattle.bands_rules.proofs.Lists.{Lies, list_in}
use Rattle.bands_rules.proofs.Parts.{Keeps, finished_part, list_down}
use Rattle.df.specs.Band as band
use Rattle.strength.specs.Entries.{entries_in}
use Rattle.df.proofs.Entries.{by_format}
use Rattle.df.proofs.Lengths.{step_of, places_step}
use Rattle.df.proofs.BandPassed.{BandPassed, band_passed, outcome_done}

-- of the rows above those that are handed to the passes, and those that are not
abbrev pub near : ℕ → ℕ
near zero = 0
near (suc k) = 1

pub near_skip : (k : ℕ) → near k + (rows_above k - 1) ≡ rows_above k
near_skip zero = refl
near_skip (suc k) = refl

near_few : (k : ℕ) → near k ≤ 1
near_few zero = omega arith
near_few (suc k) = omega arith

keeps_near : (d : Pass) (k : ℕ) → Keeps d (near k) (rows_above k - 1)
keeps_near vertical k = tt
keeps_near horizontal zero = inr refl
keeps_near horizontal (suc k) = inl (omega arith)

pub band_refused : (j : band.Input) (a : Answer) → a ≡ band.check j → (r : Refusal) → a ≡ Err r → band.refused j r ≡ band.outcome j
unfolding band.outcome
band_refused j a e r f = rw (sym e ∙ f)

-- the samples of s rows of w units
pub luma_rows : (s w : ℕ) → 16 * (s * w) ≡ places_of Luma w s
luma_rows s w =
    let e = mul_comm s w in
    let f = mul_comm s (4 * (4 * w)) in
    let g = mul_assoc 4 (4 * w) s in
    let h = mul_assoc 4 w s in
    omega (arith, places_step Luma w s)

pub chroma_rows : (s w : ℕ) → 4 * (s * w) ≡ places_of Chroma w s
chroma_rows s w =
    let e = mul_comm s w in
    let f = mul_comm s (2 * (2 * w)) in
    let g = mul_assoc 2 (2 * w) s in
    let h = mul_assoc 2 w s in
    omega (arith, places_step Chroma w s)

-- lengths of colour, by the format
in_sum : (f : Format) (a b c : ℕ) → a + b ≡ c → in_format f a + in_format f b ≡ in_format f c
in_sum Grey a b c e = refl
in_sum Colour a b c e = e

no_sample : Samples []
no_sample k = omega arith

-- what is judged of a plane of colour
colour_any : (f : Format) (a n l : ℕ) (p : List ℕ) → length p ≡ in_format f l → a ≡ n → samples_ok (drop n p) ≡ true → Samples (drop (in_format f a) p)
colour_any Grey a n l p e q g k = subst Samples (sym (no_samples p e)) no_sample k
colour_any Colour a n l p e q g k = sample_any (drop a p) k (ap (λ (z : ℕ). samples_ok (drop z p)) q ∙ g)

module _ (j : band.Input) (fine : band.check j ≡ Ok tt) (pos : 1 ≤ band.wide j) where
  abbrev w : ℕ
  w = band.wide j

  abbrev n : ℕ
  n = band.rows j

  abbrev skip : ℕ
  skip = rows_above j.band - 1

  abbrev top : ℕ
  top = near j.band

  abbrev halved : Bool
  halved = eqb j.settings.limit 5

  abbrev list : Pass → List Edge
  list d = list_from d halved top j.splits w n

  abbrev f : Format
  f = j.settings.format

  abbrev t : BandPassed j
  t = band_passed j fine

  abbrev entries : List ℕ
  entries = entries_in f j.strengths j.table0 j.settings.u_offset j.table1 j.settings.v_offset

  -- the maps from the first row that is handed to the passes on
  abbrev m : Maps
  m = record { words = band.checked_words j; over = record { motion = drop (4 * (skip * w)) j.motion; refs = drop (2 * (skip * w)) j.refs; keep = band.checked_marks j } }

  lies : (d : Pass) (e : Edge) → Memᴰ e (list d) → Lies d w 0 (top + n) e
  lies d e i =
      let r = list_in d halved top j.splits w n pos t.walk e i in
      record { inner = r.inner; column = r.column; above = omega arith; below = omega (arith, r.below) }

  list_lent : (d : Pass) → map (edge_down skip) (list d) ≡ band.pass_edges d j
  list_lent d = sym (list_down d halved top skip (keeps_near d j.band) j.splits w n) ∙ ap (λ (r : ℕ). list_from d halved r j.splits w n) (near_skip j.band)

  few : (q : ℕ) → qp_of (get_or m.words q 0) ≤ 51
  few = word_any m.words t.qps

  -- the parts that were handed to the passes, in the words of the rule
  parts_done : (p q : Planes) (k : ℕ) (words : List ℕ) (ver hor : ℕ) → length p.u ≡ in_format f k → length p.v ≡ in_format f k
      → BothPassesFrom m entries w top (list vertical) (list horizontal) p q words ver hor
      → q ≡ record {
        y = finished m j.strengths (band.qp_y j) Luma w (list vertical) (list horizontal) p.y;
        u = finished m j.strengths (band.qp_u j) Chroma w (list vertical) (list horizontal) p.u;
        v = finished m j.strengths (band.qp_v j) Chroma w (list vertical) (list horizontal) p.v;
      }
  parts_done p q k words ver hor nu nv b =
      b.planes
      ∙ by_format j.strengths j.table0 j.settings.u_offset j.table1 j.settings.v_offset m w list f entries refl t.long_strengths few p k nu nv

  -- ---- and what is lent, whole

  end_of : {A : Type 0} (a b : ℕ) (l : List A) → length l ≡ a + b → take b (drop a l) ≡ drop a l
  end_of a b l e = take_all b (drop a l) (omega (arith, length-drop a l))

  part_whole : (c : Component) (at : ℕ → ℕ) (p : List ℕ) → length p ≡ places_of c w skip + places_of c w (top + n)
      → maps_part w skip (top + n) (band.maps_of j) ≡ m
      → take (places_of c w skip) p ++ finished m j.strengths at c w (list vertical) (list horizontal) (drop (places_of c w skip) p) ≡ band.deblocked j c at p
  part_whole c at p long e =
      let a = places_of c w skip in
      let b = places_of c w (top + n) in
      let whole = finished_part (band.maps_of j) j.strengths at c w skip (top + n) (list vertical) (list horizontal) (lies vertical) (lies horizontal) p (omega arith) in
      let none : drop b (drop a p) ≡ [] = drop_of_length-le (drop a p) {i = b} (omega (arith, length-drop a p)) in
      sym (sym (ap₂ (λ (u v : List Edge). finished (band.maps_of j) j.strengths at c w u v p) (list_lent vertical) (list_lent horizontal)) ∙ whole
      ∙ ap (λ (z : List ℕ). take a p ++ (finished (maps_part w skip (top + n) (band.maps_of j)) j.strengths at c w (list vertical) (list horizontal) (take b (drop a p)) ++ z)) none
      ∙ ap (λ (z : List ℕ). take a p ++ z) (append-nil _)
      ∙ ap₂ (λ (x : Maps) (z : List ℕ). take a p ++ finished x j.strengths at c w (list vertical) (list horizontal) z) e (end_of a b p long))

  -- ---- the outcome

  rows_sum : skip + (top + n) ≡ rows_above j.band + n
  rows_sum = omega (arith, near_skip j.band)

  -- what is handed to the passes, and what is not, is what is lent
  places_sum : (c : Component) → places_of c w skip + places_of c w (top + n) ≡ places_of c w (rows_above j.band + n)
  places_sum c =
      (λ i. places_step c w skip i + places_step c w (top + n) i) ∙ sym (add-mul skip (top + n) (step_of c w))
      ∙ ap (λ (z : ℕ). z * step_of c w) rows_sum ∙ sym (places_step c w (rows_above j.band + n))

  long_by : (c : Component) {l : ℕ} → l ≡ places_of c w (rows_above j.band + n) → l ≡ places_of c w skip + places_of c w (top + n)
  long_by c e = e ∙ sym (places_sum c)

  plane_whole : (k : Component) (at : ℕ → ℕ) (p : List ℕ) (z : ℕ) → z ≡ places_of k w skip → length p ≡ places_of k w (rows_above j.band + n)
      → maps_part w skip (top + n) (band.maps_of j) ≡ m
      → take z p ++ finished m j.strengths at k w (list vertical) (list horizontal) (drop z p) ≡ band.deblocked j k at p
  plane_whole k at p z e l same =
      ap (λ (x : ℕ). take x p ++ finished m j.strengths at k w (list vertical) (list horizontal) (drop x p)) e ∙ part_whole k at p (long_by k l) same

  maps_same : length j.words ≡ (rows_above j.band + n) * w → length j.motion ≡ 4 * ((rows_above j.band + n) * w) → length j.refs ≡ 2 * ((rows_above j.band + n) * w)
      → length j.keep ≡ (rows_above j.band + n) * w → maps_part w skip (top + n) (band.maps_of j) ≡ m
  maps_same lw lm lr lk =
      let e = add-mul skip (top + n) w ∙ refl in
      let f : (skip + (top + n)) * w ≡ (rows_above j.band + n) * w = ap (λ (z : ℕ). z * w) rows_sum in
      let one : 1 * (skip * w) ≡ skip * w = omega arith in
      let part : (l : List ℕ) → length l ≡ (rows_above j.band + n) * w → map_part 1 w skip (top + n) l ≡ drop (skip * w) l =
      λ l p. end_of (1 * (skip * w)) (1 * ((top + n) * w)) l (omega arith) ∙ ap (λ (k : ℕ). drop k l) one in
      let a = part j.words lw in
      let b = end_of (4 * (skip * w)) (4 * ((top + n) * w)) j.motion (omega arith) in
      let c = end_of (2 * (skip * w)) (2 * ((top + n) * w)) j.refs (omega arith) in
      let d = part j.keep lk in
      λ i. record { words = a i; over = record { motion = b i; refs = c i; keep = d i } }

  -- a plane of colour, by the format
  colour_whole : (g : Format) (at : ℕ → ℕ) (p : List ℕ) (z : ℕ) → z ≡ in_format g (places_of Chroma w skip) → length p ≡ in_format g (places_of Chroma w (rows_above j.band + n))
      → maps_part w skip (top + n) (band.maps_of j) ≡ m
      → take z p ++ finished m j.strengths at Chroma w (list vertical) (list horizontal) (drop z p) ≡ band.deblocked j Chroma at p
  colour_whole Grey at p z e l same =
      subst (λ (q : List ℕ). take z q ++ finished m j.strengths at Chroma w (list vertical) (list horizontal) (drop z q) ≡ band.deblocked j Chroma at q) (sym (no_samples p l))
      (rw (take-nil {A = ℕ} z, drop-nil {A = ℕ} z) (finished_none m j.strengths at Chroma w (list vertical) (list horizontal)
      ∙ sym (finished_none (band.maps_of j) j.strengths at Chroma w (band.pass_edges vertical j) (band.pass_edges horizontal j))))
  colour_whole Colour at p z e l same = plane_whole Chroma at p z e l same

  -- what is left of it
  dropped : (g : Format) (a b c : ℕ) (xs : List ℕ) → c ≡ in_format g a → length xs ≡ in_format g b → length (drop c xs) ≡ in_format g (b - a)
  dropped Grey a b c xs e l = length-drop c xs ∙ omega (arith, l)
  dropped Colour a b c xs e l = length-drop c xs ∙ (λ i. l i - e i)

  -- what `band_passes` leaves of the slices is what the rule says. a and c: the samples that were not handed on, of luma and of a chroma plane
  pub band_done : (a c : ℕ) → a ≡ places_of Luma w skip → c ≡ in_format f (places_of Chroma w skip) → (y u v words : List ℕ) (ver hor : ℕ)
      → take a y ≡ take a j.y → take c u ≡ take c j.u → take c v ≡ take c j.v → take (skip * w) words ≡ take (skip * w) j.words
      → BothPassesFrom m entries w top (list vertical) (list horizontal)
      (record { y = drop a j.y; u = drop c j.u; v = drop c j.v }) (record { y = drop a y; u = drop c u; v = drop c v }) (drop (skip * w) words) ver hor
      → (record { reading = record { number = 0; vertical = ver; horizontal = hor; next = j.next + 1 }; y = y; u = u; v = v; words = words }) ≡ band.outcome j
  band_done a c ea ec y u v words ver hor ty tu tv tw b =
      let same = maps_same t.long_words t.long_motion t.long_refs t.long_keep in
      let done = parts_done _ _ _ _ _ _ (dropped f _ _ c j.u ec t.long_u) (dropped f _ _ c j.v ec t.long_v) b in
      let split : (a : ℕ) (l : List ℕ) → l ≡ take a l ++ drop a l = λ a l. sym (take-append-drop a l) in
      let ey = split a y ∙ ap₂ ◌++◌ ty (ap (λ (q : Planes). q.y) done) ∙ plane_whole Luma (band.qp_y j) j.y a ea t.long_y same in
      let eu = split c u ∙ ap₂ ◌++◌ tu (ap (λ (q : Planes). q.u) done) ∙ colour_whole f (band.qp_u j) j.u c ec t.long_u same in
      let ev = split c v ∙ ap₂ ◌++◌ tv (ap (λ (q : Planes). q.v) done) ∙ colour_whole f (band.qp_v j) j.v c ec t.long_v same in
      let nv = b.ups_counted ∙ sym (edges_long skip (list vertical)) ∙ ap length (list_lent vertical) in
      let nh = b.levels_counted ∙ sym (edges_long skip (list horizontal)) ∙ ap length (list_lent horizontal) in
      let ew = split (skip * w) words ∙ ap₂ ◌++◌ tw b.marks ∙ words_lent in
      (λ i. record { reading = record { number = 0; vertical = nv i; horizontal = nh i; next = j.next + 1 }; y = ey i; u = eu i; v = ev i; words = ew i }) ∙ sym (outcome_done j fine)
    where
      edges_long : (k : ℕ) (l : List Edge) → length (map (edge_down k) l) ≡ length l
      edges_long k [] = refl
      edges_long k (e ∷ l) = ap suc (edges_long k l)

      -- done from the band's first unit on, in what is lent
      words_lent : take (skip * w) j.words ++ done_from (top * w) (drop (skip * w) j.words) ≡ done_from (rows_above j.band * w) j.words
      words_lent =
          let s : skip * w + top * w ≡ rows_above j.band * w = sym (add-mul skip top w) ∙ ap (λ (z : ℕ). z * w) (omega (arith, near_skip j.band)) in
          sym (append_assoc (take (skip * w) j.words) (take (top * w) (drop (skip * w) j.words)) (all_done (drop (top * w) (drop (skip * w) j.words))))
          ∙ ap₂ ◌++◌ (sym (take-add (skip * w) (top * w) j.words) ∙ ap (λ (k : ℕ). take k j.words) s)
          (ap all_done (drop-drop (top * w) (skip * w) j.words ∙ ap (λ (k : ℕ). drop k j.words) s))

  -- ---- what `band_passes` is asked for

  pub walked_rows : 4 * n / 4 ≡ n
  walked_rows = omega arith

  pub accepted : Accepted j.w (4 * n) j.splits
  accepted =
      record {
        size = (band_size j.next j.band (sized j.w j.h t.size) t.position).own;
        long = t.long_splits;
        walked = ap (λ (r : ℕ). (picture_walk j.splits w r).answer) walked_rows ∙ t.walk;
      }

  -- the units that are not handed on
  pub record Skipped : Type 0 where
    pub y : 16 * (skip * w) + places_of Luma w (top + n) ≡ length j.y
    pub u : in_format f (4 * (skip * w)) + in_format f (places_of Chroma w (top + n)) ≡ length j.u
    pub v : in_format f (4 * (skip * w)) + in_format f (places_of Chroma w (top + n)) ≡ length j.v
    pub words : skip * w + (top + n) * w ≡ length j.words
    pub motion : 4 * (skip * w) + 4 * ((top + n) * w) ≡ length j.motion
    pub refs : 2 * (skip * w) + 2 * ((top + n) * w) ≡ length j.refs
    pub keep : skip * w + (top + n) * w ≡ length j.keep
    pub few : skip * w ≤ 16384
    pub high : top + n ≤ 17

  pub skipped : Skipped
  skipped =
      let a = luma_rows skip w in
      let b = chroma_rows skip w in
      let units : skip * w + (top + n) * w ≡ (rows_above j.band + n) * w = sym (add-mul skip (top + n) w) ∙ ap (λ (z : ℕ). z * w) rows_sum in
      let some : skip ≤ 15 = omega (arith, (few_above j.band).1) in
      let wide : w ≤ 1024 = omega (arith, (sized j.w j.h t.size).wide) in
      record {
        y = ap (λ (z : ℕ). z + places_of Luma w (top + n)) a ∙ sym (long_by Luma t.long_y);
        u = in_sum f _ _ _ (ap (λ (z : ℕ). z + places_of Chroma w (top + n)) b ∙ places_sum Chroma) ∙ sym t.long_u;
        v = in_sum f _ _ _ (ap (λ (z : ℕ). z + places_of Chroma w (top + n)) b ∙ places_sum Chroma) ∙ sym t.long_v;
        words = units ∙ sym t.long_words;
        motion = omega (arith, units, t.long_motion);
        refs = omega (arith, units, t.long_refs);
        keep = units ∙ sym t.long_keep;
        few = mul-le-mul {n₁ = skip} {m₁ = w} {n₂ = 16} {m₂ = 1024} (omega arith) wide;
        high = omega (arith, few_rows (j.h / 4) j.band, near_few j.band);
      }

  -- the rest of a slice is as long as what is left
  left_over : {A : Type 0} (a b : ℕ) (l : List A) → a + b ≡ length l → length (drop a l) ≡ b
  left_over a b l e = length-drop a l ∙ omega arith

  pub lent_picture : (es : List ℕ) → length es ≡ 624
      → LentPicture f w (top + n) (drop (16 * (skip * w)) j.y) (drop (in_format f (4 * (skip * w))) j.u) (drop (in_format f (4 * (skip * w))) j.v) (drop (skip * w) j.words)
      m.over es
  lent_picture es e =
      let k = skipped in
      let small : (c : Component) (a : ℕ) (p : List ℕ) → a ≡ places_of c w skip → samples_ok (drop (places_of c w skip) p) ≡ true → Samples (drop a p) =
      λ c a p q g k. sample_any (drop a p) k (ap (λ (z : ℕ). samples_ok (drop z p)) q ∙ g) in
      record {
        wide = omega (arith, (sized j.w j.h t.size).wide);
        high = omega (arith, k.high);
        long_y = left_over _ _ j.y k.y;
        long_u = left_over _ _ j.u k.u;
        long_v = left_over _ _ j.v k.v;
        long_words = left_over _ _ j.words k.words;
        long_motion = left_over _ _ j.motion k.motion;
        long_refs = left_over _ _ j.refs k.refs;
        long_keep = left_over _ _ j.keep k.keep;
        long_entries = e;
        qps = few;
        marks = mark_any (band.checked_marks j) t.marks;
        all_y = small Luma (16 * (skip * w)) j.y (luma_rows skip w) t.y;
        all_u = colour_any f (4 * (skip * w)) _ _ j.u t.long_u (chroma_rows skip w) t.u;
        all_v = colour_any f (4 * (skip * w)) _ _ j.v t.long_v (chroma_rows skip w) t.v;
      }

  -- ---- both, by the rows as the call has them: s of the rows above are not handed on, r are, and the band has o rows of samples

  module _ {s r o : ℕ} (es : s ≡ skip) (er : r ≡ top) (eo : o ≡ 4 * n) where
    pub asked : (l : List ℕ) → length l ≡ 624
        → (LentPicture f w (r + o / 4) (drop (16 * (s * w)) j.y) (drop (in_format f (4 * (s * w))) j.u) (drop (in_format f (4 * (s * w))) j.v) (drop (s * w) j.words)
        (record { motion = drop (4 * (s * w)) j.motion; refs = drop (2 * (s * w)) j.refs; keep = drop (s * w) j.keep }) l
        × Accepted j.w o j.splits)
        × ((16 * (s * w) ≤ length j.y) × (in_format f (4 * (s * w)) ≤ length j.u) × (in_format f (4 * (s * w)) ≤ length j.v) × (s * w ≤ length j.words)
        × (4 * (s * w) ≤ length j.motion) × (2 * (s * w) ≤ length j.refs) × (s * w ≤ length j.keep) × (s * w ≤ 16384))
    asked l e =
        let k = skipped in
        rw (es, er, eo, walked_rows)
        ((lent_picture l e, accepted), (within _ _ k.y, within _ _ k.u, within _ _ k.v, within _ _ k.words, within _ _ k.motion, within _ _ k.refs, within _ _ k.keep, k.few))
      where
        within : (a b : ℕ) {c : ℕ} → a + b ≡ c → a ≤ c
        within a b e = omega arith

    pub done_by : {l : List ℕ} → l ≡ entries → (y u v words : List ℕ) (ver hor : ℕ)
        → (take (16 * (s * w)) y ≡ take (16 * (s * w)) j.y) × (take (in_format f (4 * (s * w))) u ≡ take (in_format f (4 * (s * w))) j.u)
        × (take (in_format f (4 * (s * w))) v ≡ take (in_format f (4 * (s * w))) j.v) × (take (s * w) words ≡ take (s * w) j.words)
        × BothPassesFrom
        (record { words = drop (s * w) j.words; over = record { motion = drop (4 * (s * w)) j.motion; refs = drop (2 * (s * w)) j.refs; keep = drop (s * w) j.keep } })
        l w r (list_from vertical halved r j.splits w (o / 4)) (list_from horizontal halved r j.splits w (o / 4))
        (record { y = drop (16 * (s * w)) j.y; u = drop (in_format f (4 * (s * w))) j.u; v = drop (in_format f (4 * (s * w))) j.v })
        (record { y = drop (16 * (s * w)) y; u = drop (in_format f (4 * (s * w))) u; v = drop (in_format f (4 * (s * w))) v }) (drop (s * w) words) ver hor
        → (record { reading = record { number = 0; vertical = ver; horizontal = hor; next = j.next + 1 }; y = y; u = u; v = v; words = words }) ≡ band.outcome j
    done_by {l} el y u v words ver hor g =
        let b = rw (es, er, eo, walked_rows, el) at g in
        band_done (16 * (skip * w)) (in_format f (4 * (skip * w))) (luma_rows skip w) (ap (in_format f) (chroma_rows skip w)) y u v words ver hor b.0 b.1 b.2 b.3 b.4
