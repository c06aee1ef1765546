-- A picture done by bands: what the record `Joined` says, of every picture whose bands were all accepted.
-- Assumes nothing.
use Rattle.std.specs.Prelude.{Ok}
use Prim.Native.Nat.{ℕ, zero, suc, ◌+◌, ◌-◌, ◌*◌, ◌/◌, ◌≤◌, ◌<◌}
use mathlib.Core.Path.{◌≡◌, refl, sym, ap, ap₂, ◌∙◌, subst}
use mathlib.Core.Bool.{Bool, true, false}
use mathlib.Core.List.{List, [], ◌∷◌, ◌++◌, map}
use native.Mathlib.Nat.{add-mul, mul-le-mul_right, mul_comm, zero-mul, mul-zero, suc-mul, mod-lt, div-lt_iff_lt-mul, div-add-mod'}
use native.Mathlib.Omega.{arith}
use borrow.Author.Tests.{ltb-true, ltb-false, lt-ltb, le-ltb}
use lib.Dec.{eqb, ltb, leb}
use lib.ListN.{length, get_or, take, drop, length-drop, length-append, get_or-append}
use lib.Seq.{get_or-take, get_or-drop, get_or-append-add, length-take-le}
use Rattle.laws.specs.Index.{pick}
use Rattle.def.specs.Word.{qp_of, with_done}
use Rattle.def.proofs.Sizes.{Sized, sized}
use Rattle.df_check.specs.Checks as checks
use Rattle.df_check.proofs.Formats.{none_before}
use Rattle.df_check.proofs.Passed.{LengthsTold, lengths_told}
use Rattle.def.proofs.Words.{Alike, set_alike}
use Rattle.split.proofs.Induct.{test}
use Rattle.split.proofs.Roots.{some_wide}
use Rattle.def.specs.declared.Component.{Component}
use Rattle.def.specs.declared.Component.TheVariants.{Luma, Chroma}
use Rattle.def.specs.Formats.{in_format}
use Rattle.def.specs.declared.Format.{Format}
use Rattle.def.specs.declared.Format.TheVariants.{Grey, Colour}
use Rattle.laws.proofs.Tabulate.{is_tabulate}
use Rattle.split.specs.Edges.{Pass, vertical, horizontal}
use Rattle.df_rules.specs.Filter.{finished}
use Rattle.df_rules.specs.Visit.{all_done}
use Rattle.df_rules.proofs.Finished.{demand_3}
use Rattle.df_rules.proofs.Alikes.{Alikes, alikes_at}
use Rattle.bands_rules.specs.Bands.{map_part, edge_down, band_list, done_from, places_of, called, called_all, joined as joined-lists}
use Rattle.band_rows.specs.Rows.{band_rows, rows_above, rows_before}
use Rattle.bands_rules.proofs.Called.{Held, above_before, list_at, calls_long, calls_below, calls_finished, calls_final, finished_alike, part_alikes}
use Rattle.bands_rules.proofs.Down.{band}
use Rattle.bands_rules.proofs.Lists.{BandDone, lists_joined, walks_joined}
use Rattle.bands_rules.proofs.Words.{done_from_long, done_from_above, done_from_at}
use Rattle.def.specs.Answers.{after_checks}
use Rattle.def.specs.Picture.{size_ok, luma_length, chroma_length}
use Rattle.df_check.specs.Checks.{keep_ok, qps_ok, planes_ok}
use Rattle.samples.specs.Samples.{samples_ok}
use Rattle.samples.proofs.Samples.{sample_at_lem, samples_pass}
use Rattle.laws.proofs.Scans.{scan_at}
use Rattle.laws.proofs.ScanAll.{scan_pass}
use Rattle.split.specs.Picture.{across}
use Rattle.df.specs.Band as band
use Rattle.df.proofs.Lengths.{luma_places, chroma_places, step_of, places_step}
use Rattle.df.proofs.BandPassed.{check_done, outcome_done, BandPassed, band_passed, at_next}
use Rattle.df_laws.specs.Bands.{State, start, state_after, input_of, after, lent, words_back, plane_part, plane_back, bands, AcceptedTo, Accepted, Plane, luma_plane}
use Rattle.df_laws.specs.Bands.{u_plane, v_plane, component_of, mapped_as, plane_in, plane_of, plane_after, Joined}
use Rattle.df.specs.Deblock.{Input, Outcome, checked, check, pass_edges, qp_y, maps_of, deblocked, refused, done, outcome}

-- ---- where a place of a picture lies: in one band, and in what the band's call checks. S: how many places a row of units has

record InBand (S rows_all j : ℕ) : Type 0 where
  k : ℕ
  less : k < across rows_all
  from : 16 * k * S ≤ j
  to : j < (band_rows rows_all k + 16 * k) * S

in_band : (S rows_all j : ℕ) → 0 < S → j < rows_all * S → InBand S rows_all j
in_band S rows_all j some l =
    let row = j / S in
    let k = row / 16 in
    let h : row < rows_all = (div-lt_iff_lt-mul {k = S} {x = j} {y = rows_all} some).1 l in
    let less : k < across rows_all = omega arith in
    let b = band rows_all k less in
    let e = div-add-mod' j S in
    let g = mod-lt j some in
    let few = b.few in
    let last : row < band_rows rows_all k + 16 * k = test (ltb (band_rows rows_all k) 16) (λ t. let o = b.reaches (ltb-true _ _ t) in omega arith) (λ t.
    let o = ltb-false (band_rows rows_all k) 16 t in omega arith) in
    record {
      k = k;
      less = less;
      from = let o : 16 * k * S ≤ row * S = mul-le-mul_right S (omega arith) in omega arith;
      to = let o : suc row * S ≤ (band_rows rows_all k + 16 * k) * S = mul-le-mul_right S last in let o₁ = suc-mul row S in omega arith;
    }

record InChecked (part : List ℕ) (x : ℕ) : Type 0 where
  q : ℕ
  inside : q < length part
  is : get_or part q 0 ≡ x

-- a list of rows_all rows: the part that band k is lent, without what is not checked
in_checked : (S rows_all : ℕ) (l : List ℕ) → length l ≡ rows_all * S → (j : ℕ) (b : InBand S rows_all j) (n₀ n₁ n₂ : ℕ)
    → n₀ ≡ rows_before b.k * S → n₁ ≡ (rows_above b.k + band_rows rows_all b.k) * S → n₂ ≡ (rows_above b.k - 1) * S
    → InChecked (drop n₂ (take n₁ (drop n₀ l))) (get_or l j 0)
in_checked S rows_all l long j b n₀ n₁ n₂ e₀ e₁ e₂ =
    let k = b.k in
    let n = band_rows rows_all k in
    let inside = (band rows_all k b.less).inside in
    let from = b.from in
    let to = b.to in
    let a₁ = add-mul (rows_before k) (rows_above k) S in
    let a₂ = add-mul (rows_above k) n S in
    let a₃ = add-mul n (16 * k) S in
    let a₄ : (rows_before k + rows_above k) * S ≡ 16 * k * S = ap (λ (z : ℕ). z * S) (omega (arith, above_before k)) in
    let a₅ : (rows_above k - 1) * S ≤ rows_above k * S = mul-le-mul_right S (omega arith) in
    let a₆ : (n + 16 * k) * S ≤ rows_all * S = mul-le-mul_right S inside in
    let d₀ = length-drop n₀ l in
    let t₁ : length (take n₁ (drop n₀ l)) ≡ n₁ = length-take-le n₁ (drop n₀ l) (omega arith) in
    let d₂ = length-drop n₂ (take n₁ (drop n₀ l)) in
    let q = j - n₀ - n₂ in
    let p : n₀ + (n₂ + q) ≡ j = omega arith in
    record {
      q = q;
      inside = omega arith;
      is = get_or-drop n₂ (take n₁ (drop n₀ l)) q 0 ∙ get_or-take n₁ (drop n₀ l) (n₂ + q) 0 (omega arith) ∙ get_or-drop n₀ l (n₂ + q) 0 ∙ ap (λ (z : ℕ). get_or l z 0) p;
    }

step_some : (c : Component) (w : ℕ) → 1 ≤ w → 0 < step_of c w
step_some Luma w l = omega arith
step_some Chroma w l = omega arith

-- ---- a picture whose first n bands were accepted

module _ (i : Input) (sides : size_ok i.w i.h ≡ true) where
  abbrev W : ℕ
  W = i.w / 4

  abbrev rows_all : ℕ
  rows_all = i.h / 4

  abbrev limit5 : Bool
  limit5 = eqb i.settings.limit 5

  abbrev pub pos : 1 ≤ W
  pos = some_wide (sized i.w i.h sides)

  -- ---- the words: all but done is as it was, and done is set in the bands' units

  pub record Marked (k : ℕ) (l : List ℕ) : Type 0 where
    pub long : length l ≡ length i.words
    pub at : (j : ℕ) → j < length i.words → get_or l j 0 ≡ pick (ltb j (16 * k * W)) (with_done (get_or i.words j 0)) (get_or i.words j 0)

  pub marked_alikes : (k : ℕ) (l : List ℕ) → Marked k l → Alikes l i.words
  marked_alikes k l m = alikes_at l i.words m.long (λ j h. subst (λ (x : ℕ). Alike x (get_or i.words j 0)) (sym (m.at j h)) (go (ltb j (16 * k * W)) (get_or i.words j 0))) where
    go : (b : Bool) (x : ℕ) → Alike (pick b (with_done x) x) x
    go true x = set_alike x
    go false x = record { intra = refl; qp = refl; coded = refl }

  module _ (long : length i.words ≡ rows_all * W) where
    none_marked : Marked 0 i.words
    none_marked = record { long = refl; at = λ j h. ap (λ (b : Bool). pick b (with_done (get_or i.words j 0)) (get_or i.words j 0)) (sym (le-ltb j (16 * 0 * W) (omega (arith, zero-mul W)))) }

    one_marked : (k : ℕ) → k < bands i → (l : List ℕ) → Marked k l → Marked (suc k) (words_back i k (done_from (rows_above k * W) (map_part 1 W (rows_before k) (lent i k) l)) l)
    one_marked k less l m =
        let a = 1 * (rows_before k * W) in
        let b = 1 * (lent i k * W) in
        let n = band_rows rows_all k in
        let inside = (band rows_all k less).inside in
        let few = (band rows_all k less).few in
        let t = rows_above k * W in
        let rows : (rows_before k + rows_above k) * W ≡ 16 * k * W = ap (λ (z : ℕ). z * W) (omega (arith, above_before k)) in
        let e₁ = add-mul (rows_before k) (rows_above k) W in
        let e₂ = add-mul (rows_above k) n W in
        let e₃ : 16 * suc k * W ≡ 16 * k * W + 16 * W = ap (λ (z : ℕ). z * W) (omega arith) ∙ add-mul (16 * k) 16 W in
        let e₄ : (n + 16 * k) * W ≤ rows_all * W = mul-le-mul_right W inside in
        let e₅ = add-mul n (16 * k) W in
        let e₆ : n * W ≤ 16 * W = mul-le-mul_right W few in
        let part = take b (drop a l) in
        let ll : length l ≡ rows_all * W = m.long ∙ long in
        let la : length (take a l) ≡ a = length-take-le a l (omega arith) in
        let lr = length-drop a l in
        let lb : length part ≡ b = length-take-le b (drop a l) (omega arith) in
        let room : t ≤ length part = omega arith in
        let mid = done_from t part in
        let lm : length mid ≡ b = done_from_long t part room ∙ lb in
        let after = drop b (drop a l) in
        let la₂ = length-drop b (drop a l) in
        let out = take a l ++ (mid ++ after) in
        let lo : length out ≡ length l = omega (arith, length-append (take a l) (mid ++ after), length-append mid after) in
        record {
          long = lo ∙ m.long;
          at = λ j h.
              let h₁ : j < length l = omega (arith, m.long) in
              let was = m.at j h in
              let x = get_or i.words j 0 in
              test (ltb j a)
              (λ z. let y = ltb-true j a z in
              get_or-append (take a l) (mid ++ after) 0 j (omega arith) ∙ get_or-take a l j 0 y ∙ was
              ∙ ap (λ (q : Bool). pick q (with_done x) x) (lt-ltb j (16 * k * W) (omega arith) ∙ sym (lt-ltb j (16 * suc k * W) (omega arith))))
              (λ z. let y = ltb-false j a z in
              let p : length (take a l) + (j - a) ≡ j = omega arith in
              let p₁ : a + (j - a) ≡ j = omega arith in
              ap (λ (q : ℕ). get_or out q 0) (sym p) ∙ get_or-append-add (take a l) (mid ++ after) (j - a) 0
              ∙ test (ltb (j - a) b)
              (λ z₁. let y₁ = ltb-true (j - a) b z₁ in
              let own : get_or part (j - a) 0 ≡ get_or l j 0 = get_or-take b (drop a l) (j - a) 0 y₁ ∙ get_or-drop a l (j - a) 0 ∙ ap (λ (q : ℕ). get_or l q 0) p₁ in
              get_or-append mid after 0 (j - a) (omega arith)
              ∙ test (ltb (j - a) t)
              (λ z₂. let y₂ = ltb-true (j - a) t z₂ in
              done_from_above t part room (j - a) y₂ ∙ own ∙ was
              ∙ ap (λ (q : Bool). pick q (with_done x) x) (lt-ltb j (16 * k * W) (omega arith) ∙ sym (lt-ltb j (16 * suc k * W) (omega arith))))
              (λ z₂. let y₂ = ltb-false (j - a) t z₂ in
              done_from_at t part room (j - a) y₂ (omega arith) ∙ ap with_done own ∙ ap with_done was
              ∙ ap (λ (q : Bool). with_done (pick q (with_done x) x)) (le-ltb j (16 * k * W) (omega arith))
              ∙ ap (λ (q : Bool). pick q (with_done x) x) (sym (lt-ltb j (16 * suc k * W) (omega arith)))))
              (λ z₁. let y₁ = ltb-false (j - a) b z₁ in
              let p₂ : length mid + (j - a - b) ≡ j - a = omega arith in
              let p₃ : a + (b + (j - a - b)) ≡ j = omega arith in
              ap (λ (q : ℕ). get_or (mid ++ after) q 0) (sym p₂) ∙ get_or-append-add mid after (j - a - b) 0
              ∙ get_or-drop b (drop a l) (j - a - b) 0 ∙ get_or-drop a l (b + (j - a - b)) 0 ∙ ap (λ (q : ℕ). get_or l q 0) p₃ ∙ was
              ∙ ap (λ (q : Bool). pick q (with_done x) x) (le-ltb j (16 * k * W) (omega arith) ∙ test (ltb n 16)
              (λ u. let o : (n + 16 * k) * W ≡ rows_all * W = ap (λ (q : ℕ). q * W) ((band rows_all k less).reaches (ltb-true n 16 u)) in absurd (omega arith))
              (λ u. let o : n ≡ 16 = let g = ltb-false n 16 u in omega arith in let o₁ : n * W ≡ 16 * W = ap (λ (q : ℕ). q * W) o in sym (le-ltb j (16 * suc k * W) (omega arith))))));
        }

module _ (i : Input) (sides : size_ok i.w i.h ≡ true) (long : length i.words ≡ i.h / 4 * (i.w / 4)) (n : ℕ) (few : n ≤ bands i) (acc : AcceptedTo i n) where
  abbrev pub band_told : (k : ℕ) → k < n → BandPassed (input_of i k (state_after i k))
  band_told k l = band_passed _ (check_done _ (acc k l))

  pub position : (k : ℕ) → k ≤ n → (state_after i k).next ≡ k
  unfolding state_after
  position zero l = refl
  position (suc k) l =
      let p = at_next (band_told k l) in
      ap (λ (o : band.Outcome). o.reading.next) (outcome_done _ (check_done _ (acc k l))) ∙ omega arith

  pub words_marked : (k : ℕ) → k ≤ n → Marked i sides k (state_after i k).words
  unfolding state_after
  words_marked zero l = none_marked i sides long
  words_marked (suc k) l =
      subst (Marked i sides (suc k)) (sym (ap (λ (o : band.Outcome). words_back i k o.words (state_after i k).words) (outcome_done _ (check_done _ (acc k l)))))
      (one_marked i sides long k (omega arith) (state_after i k).words (words_marked k (omega arith)))

  -- ---- the planes

  plane_step : (k : ℕ) → k < n → (x : Plane) (p : List ℕ)
      → let j = input_of i k (state_after i k) in
      plane_back i k (component_of x) (finished (band.maps_of j) i.strengths (mapped_as x i) (component_of x) (i.w / 4) (band.pass_edges vertical j)
      (band.pass_edges horizontal j) (plane_part i k (component_of x) p)) p
      ≡ called (maps_of i) i.strengths (mapped_as x i) (component_of x) (limit5 i sides) i.splits (i.w / 4) (i.h / 4) k p
  unfolding called
  plane_step k l x p =
      let j = input_of i k (state_after i k) in
      let W = i.w / 4 in
      let c = component_of x in
      let same = part_alikes (marked_alikes i sides k (state_after i k).words (words_marked k (omega arith))) (1 * (rows_before k * W)) (1 * (lent i k * W)) in
      ap (λ (q : List ℕ). plane_back i k c q p)
      (finished_alike (band.maps_of j).over same i.strengths (mapped_as x i) c W (band.pass_edges vertical j) (band.pass_edges horizontal j) (plane_part i k c p))

  -- a band's call, in one plane
  after_one : (k : ℕ) → k < n → (x : Plane) → let s = state_after i k in
      plane_of x (after i k s (band.done (input_of i k s)))
      ≡ called (maps_of i) i.strengths (mapped_as x i) (component_of x) (limit5 i sides) i.splits (i.w / 4) (i.h / 4) k (plane_of x s)
  after_one k l luma_plane = plane_step k l luma_plane (state_after i k).y
  after_one k l u_plane = plane_step k l u_plane (state_after i k).u
  after_one k l v_plane = plane_step k l v_plane (state_after i k).v

  start_plane : (x : Plane) → plane_of x (start i) ≡ plane_in x i
  start_plane luma_plane = refl
  start_plane u_plane = refl
  start_plane v_plane = refl

  pub after_plane : (x : Plane) (k : ℕ) → k ≤ n
      → plane_of x (state_after i k) ≡ called_all (maps_of i) i.strengths (mapped_as x i) (component_of x) (limit5 i sides) i.splits (i.w / 4) (i.h / 4) k (plane_in x i)
  unfolding state_after called_all
  after_plane x zero l = start_plane x
  after_plane x (suc k) l =
      ap (λ (o : band.Outcome). plane_of x (after i k (state_after i k) o)) (outcome_done _ (check_done _ (acc k l)))
      ∙ after_one k l x
      ∙ ap (called (maps_of i) i.strengths (mapped_as x i) (component_of x) (limit5 i sides) i.splits (i.w / 4) (i.h / 4) k) (after_plane x k (omega arith))

-- ---- lengths of planes and words

-- a plane's length, by the format: a grey picture's U and V have no samples
abbrev pub in_plane : Plane → Format → ℕ → ℕ
in_plane luma_plane f n = n
in_plane u_plane f n = in_format f n
in_plane v_plane f n = in_format f n

held_colour : (f : Format) (n : ℕ) (p : List ℕ) → length p ≡ in_format f n → Held n p
held_colour Grey n p e l = absurd (omega arith)
held_colour Colour n p e l = e

held_in : (x : Plane) (f : Format) (n : ℕ) (p : List ℕ) → length p ≡ in_plane x f n → Held n p
held_in luma_plane f n p e l = e
held_in u_plane f n p e l = held_colour f n p e l
held_in v_plane f n p e l = held_colour f n p e l

module _ (i : Input) (sides : size_ok i.w i.h ≡ true) (lengths : checks.lengths_ok i.settings.format i.w i.h i.h (checks.lengths_of (checked i)) ≡ true) where
  abbrev lengths_of_lem : LengthsTold i.settings.format i.w i.h i.h (checks.lengths_of (checked i))
  lengths_of_lem = lengths_told i.settings.format i.w i.h i.h (checks.lengths_of (checked i)) lengths

  abbrev z : Sized i.w i.h
  z = sized i.w i.h sides

  whole : 4 * (i.h / 4) ≡ i.h
  whole = omega (arith, z.by_four_down)

  colour : chroma_length i.w i.h ≡ places_of Chroma (i.w / 4) (i.h / 4)
  colour = ap (chroma_length i.w) (sym whole) ∙ chroma_places i.w (i.h / 4) z.by_four

  pub long_plane : (x : Plane) → length (plane_in x i) ≡ in_plane x i.settings.format (places_of (component_of x) (i.w / 4) (i.h / 4))
  long_plane luma_plane = lengths_of_lem.y ∙ ap (luma_length i.w) (sym whole) ∙ luma_places i.w (i.h / 4) z.by_four
  long_plane u_plane = lengths_of_lem.u ∙ ap (in_format i.settings.format) colour
  long_plane v_plane = lengths_of_lem.v ∙ ap (in_format i.settings.format) colour

  pub held_plane : (x : Plane) → Held (places_of (component_of x) (i.w / 4) (i.h / 4)) (plane_in x i)
  held_plane x = held_in x i.settings.format (places_of (component_of x) (i.w / 4) (i.h / 4)) (plane_in x i) (long_plane x)

  pub long_words : length i.words ≡ i.h / 4 * (i.w / 4)
  long_words = lengths_of_lem.words ∙ mul_comm (i.w / 4) (i.h / 4)

  long_keep : length i.keep ≡ i.h / 4 * (i.w / 4)
  long_keep = lengths_of_lem.keep ∙ mul_comm (i.w / 4) (i.h / 4)

-- ---- a picture all of whose bands were accepted

module _ (i : Input) (sides : size_ok i.w i.h ≡ true) (lengths : checks.lengths_ok i.settings.format i.w i.h i.h (checks.lengths_of (checked i)) ≡ true) (acc : Accepted i) where
  abbrev all : bands i ≤ bands i
  all = omega arith

  abbrev words_long : length i.words ≡ i.h / 4 * (i.w / 4)
  words_long = long_words i sides lengths

  abbrev each_told : (k : ℕ) → k < bands i → BandPassed (input_of i k (state_after i k))
  each_told = band_told i sides words_long (bands i) all acc

  abbrev halved : Bool
  halved = limit5 i sides

  abbrev walked : (k : ℕ) → k < bands i → BandDone i.splits (i.w / 4) (i.h / 4) (pos i sides) k
  walked k l = (each_told k l).walk

  words_done : (state_after i (bands i)).words ≡ all_done i.words
  unfolding all_done
  words_done =
      let m = words_marked i sides words_long (bands i) all acc (bands i) all in
      let W = i.w / 4 in
      let long = words_long in
      let few : i.h / 4 * W ≤ 16 * bands i * W = mul-le-mul_right W (omega arith) in
      is_tabulate _ (length i.words) _ 0 m.long (λ j h. m.at j h ∙ ap (λ (b : Bool). pick b (with_done (get_or i.words j 0)) (get_or i.words j 0)) (lt-ltb j (16 * bands i * W) (omega arith)))

  -- ---- the picture is accepted

  -- what a band's checks say of its part of a plane
  part_small : (x : Plane) (k : ℕ) → k < bands i
      → samples_ok (drop (places_of (component_of x) (i.w / 4) (rows_above k - 1)) (plane_part i k (component_of x) (plane_of x (state_after i k)))) ≡ true
  part_small luma_plane k l = (each_told k l).y
  part_small u_plane k l = (each_told k l).u
  part_small v_plane k l = (each_told k l).v

  plane_fine : (x : Plane) → samples_ok (plane_in x i) ≡ true
  plane_fine x = samples_pass (plane_in x i) (λ j e.
      let c = component_of x in
      let W = i.w / 4 in
      let rows = i.h / 4 in
      let p = plane_in x i in
      let at = mapped_as x i in
      let held = held_plane i sides lengths x in
      let long = held (omega arith) in
      let long₁ : length p ≡ rows * step_of c W = long ∙ places_step c W rows in
      let b = in_band (step_of c W) rows j (step_some c W (pos i sides)) (omega arith) in
      let k = b.k in
      let less = b.less in
      let from = b.from in
      let q = called_all (maps_of i) i.strengths at c halved i.splits W rows k p in
      let lq = calls_long (maps_of i) i.strengths at c halved i.splits W rows (pos i sides) walked k (omega arith) p held in
      let d = in_checked (step_of c W) rows q (lq ∙ long₁) j b _ _ _ (places_step c W (rows_before k)) (places_step c W (lent i k)) (places_step c W (rows_above k - 1)) in
      let g = subst (λ (y : List ℕ). samples_ok (drop (places_of c W (rows_above k - 1)) (plane_part i k c y)) ≡ true)
      (after_plane i sides words_long (bands i) all acc x k (omega arith)) (part_small x k less) in
      let small = sample_at_lem _ d.q g d.inside in
      let same : get_or q j 0 ≡ get_or p j 0 = calls_below (maps_of i) i.strengths at c halved i.splits W rows (pos i sides) walked k
      (omega arith) p held j (omega (arith, places_step c W (16 * k))) in
      omega (arith, d.is, same))

  marks_fine : keep_ok i.keep ≡ true
  unfolding keep_ok
  marks_fine = scan_pass _ (length i.keep) (λ j e.
      let W = i.w / 4 in
      let long = long_keep i sides lengths in
      let b = in_band W (i.h / 4) j (pos i sides) (omega arith) in
      let k = b.k in
      let d = in_checked W (i.h / 4) i.keep long j b (1 * (rows_before k * W)) (1 * (lent i k * W)) ((rows_above k - 1) * W) (omega arith) (omega arith) refl in
      ap (λ (x : ℕ). leb x 1) (sym d.is) ∙ scan_at _ _ d.q d.inside (each_told k b.less).marks)

  qps_fine : qps_ok i.words ≡ true
  unfolding qps_ok
  qps_fine = scan_pass _ (length i.words) (λ j e.
      let W = i.w / 4 in
      let long = words_long in
      let b = in_band W (i.h / 4) j (pos i sides) (omega arith) in
      let k = b.k in
      let less = b.less in
      let l = (state_after i k).words in
      let m = words_marked i sides words_long (bands i) all acc k (omega arith) in
      let d = in_checked W (i.h / 4) l (m.long ∙ long) j b (1 * (rows_before k * W)) (1 * (lent i k * W)) ((rows_above k - 1) * W) (omega arith) (omega arith) refl in
      let good = scan_at _ _ d.q d.inside (each_told k less).qps in
      ap (λ (x : ℕ). leb x 51) (sym ((marked_alikes i sides k l m).same j).qp ∙ ap qp_of (sym d.is)) ∙ good)

  some_band : 0 < bands i
  some_band = let h = (z i sides lengths).some_high in omega arith

  pub accepted : check i ≡ Ok tt
  unfolding checks.check_of checks.from_lengths planes_ok
  accepted =
      rw (
        mul-zero i.w,
        none_before i.settings.format i.w,
        mul-zero (i.w / 4),
        sides,
        lengths,
        (each_told 0 some_band).settings,
        walks_joined i.splits (i.w / 4) (i.h / 4) (pos i sides) walked,
        marks_fine,
        qps_fine,
        plane_fine luma_plane,
        plane_fine u_plane,
        plane_fine v_plane,
      )

  is_whole : outcome i ≡ done i
  unfolding outcome
  is_whole = ap (after_checks (refused i) (done i)) accepted

  -- ---- the counts

  map_long : {A B : Type 0} (f : A → B) (l : List A) → length (map f l) ≡ length l
  map_long f [] = refl
  map_long f (a ∷ l) = ap suc (map_long f l)

  lent_list : (d : Pass) (k : ℕ) → map (edge_down (rows_before k)) (band.pass_edges d (input_of i k (state_after i k))) ≡ band_list d halved i.splits (i.w / 4) (i.h / 4) k
  lent_list d k = list_at (maps_of i) i.strengths (qp_y i) Luma halved i.splits (i.w / 4) (i.h / 4) (pos i sides) walked d k

  list_long : (d : Pass) (k : ℕ) → length (band.pass_edges d (input_of i k (state_after i k))) ≡ length (band_list d halved i.splits (i.w / 4) (i.h / 4) k)
  list_long d k = sym (map_long (edge_down (rows_before k)) (band.pass_edges d (input_of i k (state_after i k)))) ∙ ap length (lent_list d k)

  abbrev count_in : Pass → State → ℕ
  count_in vertical s = s.vertical
  count_in horizontal s = s.horizontal

  counted_one : (d : Pass) (k : ℕ) → let s = state_after i k in count_in d (after i k s (band.done (input_of i k s))) ≡ count_in d s + length (band.pass_edges d (input_of i k s))
  counted_one vertical k = refl
  counted_one horizontal k = refl

  none_counted : (d : Pass) → count_in d (start i) ≡ 0
  none_counted vertical = refl
  none_counted horizontal = refl

  counted : (d : Pass) (k : ℕ) → k ≤ bands i → count_in d (state_after i k) ≡ length (joined-lists (band_list d halved i.splits (i.w / 4) (i.h / 4)) k)
  unfolding state_after joined-lists
  counted d zero l = none_counted d
  counted d (suc k) l =
      let f = band_list d halved i.splits (i.w / 4) (i.h / 4) in
      ap (λ (o : band.Outcome). count_in d (after i k (state_after i k) o)) (outcome_done _ (check_done _ (acc k l)))
      ∙ counted_one d k ∙ ap₂ ◌+◌ (counted d k (omega arith)) (list_long d k) ∙ sym (length-append (joined-lists f k) (f k))

  all_lists : (d : Pass) → pass_edges d i ≡ joined-lists (band_list d halved i.splits (i.w / 4) (i.h / 4)) (bands i)
  all_lists d = lists_joined d halved i.splits (i.w / 4) (i.h / 4) (pos i sides)

  -- ---- all of it

  outcome_plane : (x : Plane) → plane_after x (done i) ≡ deblocked i (component_of x) (mapped_as x i) (plane_in x i)
  outcome_plane luma_plane = refl
  outcome_plane u_plane = refl
  outcome_plane v_plane = refl

  abbrev fill : (x : Plane) → called_all (maps_of i) i.strengths (mapped_as x i) (component_of x) halved i.splits (i.w / 4) (i.h / 4) (bands i) (plane_in x i) ≡ plane_after x (outcome i)
  fill x =
      calls_finished (maps_of i) i.strengths (mapped_as x i) (component_of x) halved i.splits (i.w / 4) (i.h / 4) (pos i sides) walked (plane_in x i) (held_plane i sides lengths x)
      ∙ sym (outcome_plane x) ∙ ap (plane_after x) (sym is_whole)

  pub joined : Joined i
  joined =
      record {
        accepted = ap (λ (o : Outcome). o.reading.number) is_whole;
        planes = λ x. after_plane i sides words_long (bands i) all acc x (bands i) all ∙ fill x;
        words = words_done ∙ ap (λ (o : Outcome). o.words) (sym is_whole);
        vertical = counted vertical (bands i) all ∙ ap length (sym (all_lists vertical)) ∙ ap (λ (o : Outcome). o.reading.vertical) (sym is_whole);
        horizontal = counted horizontal (bands i) all ∙ ap length (sym (all_lists horizontal)) ∙ ap (λ (o : Outcome). o.reading.horizontal) (sym is_whole);
        next = position i sides words_long (bands i) all acc;
        finals = λ x k l j h.
            ap (λ (q : List ℕ). get_or q j 0) (after_plane i sides words_long (bands i) all acc x k l)
            ∙ calls_final (maps_of i) i.strengths (mapped_as x i) (component_of x) halved i.splits (i.w / 4) (i.h / 4) (pos i sides) walked k l (plane_in x i) (held_plane i sides lengths x) j h
            ∙ ap (λ (q : List ℕ). get_or q j 0) (fill x);
        edges = demand_3 halved i.splits (i.w / 4) (i.h / 4) (pos i sides) (walks_joined i.splits (i.w / 4) (i.h / 4) (pos i sides) walked);
        lists = all_lists;
        lent_lists = λ d k l. lent_list d k;
      }
