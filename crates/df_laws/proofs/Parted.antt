-- A picture that the call for the whole accepts has all its bands accepted.
-- Assumes nothing.
use Rattle.std.specs.Prelude.{Ok, Err}
use Prim.Native.Nat.{ℕ, zero, suc, ◌+◌, ◌-◌, ◌*◌, ◌/◌, ◌%◌, ◌≤◌, ◌<◌}
use mathlib.Core.Path.{◌≡◌, refl, sym, ap, ◌∙◌, subst}
use mathlib.Core.Bool.{Bool, true}
use mathlib.Core.List.{List}
use native.Mathlib.Nat.{add-mul, suc-mul, mul-le-mul_right, mul_comm, mul_assoc, mul-zero}
use native.Mathlib.Decide.{dec_lt}
use native.Mathlib.Omega.{arith}
use borrow.Author.Tests.{eq-eqb, lt-ltb, le-leb}
use lib.Dec.{eqb}
use lib.ListN.{length, get_or, take, drop, length-take, length-drop}
use lib.Seq.{get_or-take, get_or-drop, length-take-le}
use Rattle.laws.proofs.ScanAll.{scan_pass}
use Rattle.def.specs.Answers.{after_checks}
use Rattle.def.specs.Picture.{size_ok, roots_along, root_count, luma_length, unit_count}
use Rattle.def.specs.Word.{qp_of}
use Rattle.def.specs.Answers.{Answer}
use Rattle.def.specs.declared.Refusal.TheVariants.{Size, Length}
use Rattle.def.specs.Formats.{in_format}
use Rattle.def.specs.declared.Format.{Format}
use Rattle.def.specs.declared.Format.TheVariants.{Grey, Colour}
use Rattle.def.proofs.Answers.{number_some}
use Rattle.def.proofs.Ladders.{passes}
use Rattle.def.proofs.Sizes.{sized}
use Rattle.samples.specs.Samples.{samples_ok}
use Rattle.samples.proofs.Samples.{sample_any, samples_pass}
use Rattle.split.specs.Picture.{across, picture_walk}
use Rattle.df_check.specs.BandCheck as band-check
use Rattle.df_check.specs.Checks as checks
use Rattle.df_check.specs.Checks.{colour_length, lengths_ok, keep_ok, qps_ok, planes_ok}
use Rattle.band_rows.specs.Rows.{band_rows, rows_above, rows_before, band_ok}
use Rattle.df_check.proofs.Formats.{none_before}
use Rattle.df_check.proofs.Passed.{lengths_told, Rest, rest_passed, word_any, mark_any}
use Rattle.df_rules.specs.Window.{Samples}
use Rattle.bands_rules.specs.Bands.{map_part, band_bytes, places_of}
use Rattle.bands_rules.proofs.Called.{above_before, calls_long, calls_small}
use Rattle.bands_rules.proofs.Down.{band}
use Rattle.bands_rules.proofs.Lists.{BandDone, walks_apart}
use Rattle.df.specs.Band as call
use Rattle.df_laws.specs.Bands.{state_after, input_of, lent, plane_part, bands, AcceptedTo, Parted, Plane, luma_plane, u_plane, v_plane, component_of, mapped_as, plane_in, plane_of}
use Rattle.df.specs.Deblock.{Input, checked, check, maps_of, refused, done, outcome}
use Rattle.df_laws.proofs.Joined.{Marked, marked_alikes, pos, position, words_marked, after_plane, in_plane, long_plane, held_plane, long_words}
use Rattle.df.proofs.Lengths.{luma_places, chroma_places, unit_places, step_of, places_step}
use Rattle.df.proofs.BandPassed.{outcome_done}

-- ---- parts of a list

-- what holds at every place of a list holds at every place of a part
part_all : (P : ℕ → Type 0) (l : List ℕ) → ((k : ℕ) → P (get_or l k 0)) → (a b c j : ℕ) → j < length (drop a (take b (drop c l))) → P (get_or (drop a (take b (drop c l))) j 0)
part_all P l f a b c j h =
    let d = length-drop a (take b (drop c l)) in
    let t = length-take b (drop c l) in
    subst P (sym (get_or-drop a (take b (drop c l)) j 0 ∙ get_or-take b (drop c l) (a + j) 0 (omega arith) ∙ get_or-drop c l (a + j) 0)) (f (c + (a + j)))

-- a part of a plane has its length, by the format, where it has it in colour
part_colour : (f : Format) (l : List ℕ) (a b n : ℕ) → length l ≡ in_format f n → (length l ≡ n → length (take b (drop a l)) ≡ b) → length (take b (drop a l)) ≡ in_format f b
part_colour Grey l a b n e g = omega (arith, length-take b (drop a l), length-drop a l)
part_colour Colour l a b n e g = g e

part_in : (x : Plane) (f : Format) (l : List ℕ) (a b n : ℕ) → length l ≡ in_plane x f n → (length l ≡ n → length (take b (drop a l)) ≡ b) → length (take b (drop a l)) ≡ in_plane x f b
part_in luma_plane f l a b n e g = g e
part_in u_plane f l a b n e g = part_colour f l a b n e g
part_in v_plane f l a b n e g = part_colour f l a b n e g

-- a band's own split bytes
bytes_long : (i : Input) (sides : size_ok i.w i.h ≡ true) → checks.lengths_ok i.settings.format i.w i.h i.h (checks.lengths_of (checked i)) ≡ true → (n : ℕ) → n < bands i
    → length (band_bytes i.splits (i.w / 4) n) ≡ 1024 * root_count i.w (4 * band_rows (i.h / 4) n)
bytes_long i sides lengths n less =
    let z = sized i.w i.h sides in
    let b = band (i.h / 4) n less in
    let some = b.some in
    let few = b.few in
    let inside = b.inside in
    let A = across (i.w / 4) in
    let wide : roots_along i.w ≡ A = omega (arith, z.by_four) in
    let one : roots_along (4 * band_rows (i.h / 4) n) ≡ 1 = omega arith in
    let long = (lengths_told i.settings.format i.w i.h i.h (checks.lengths_of (checked i)) lengths).splits in
    let high : roots_along i.h ≡ bands i = omega (arith, z.by_four_down) in
    let all : length i.splits ≡ 1024 * (bands i * A) = long ∙ (λ k. 1024 * (wide k * high k)) ∙ ap (λ (r : ℕ). 1024 * r) (mul_comm A (bands i)) in
    let room : suc n * A ≤ bands i * A = mul-le-mul_right A less in
    length-take-le (1024 * A) (drop (1024 * (n * A)) i.splits) (omega (arith, length-drop (1024 * (n * A)) i.splits, suc-mul n A))
    ∙ sym ((λ k. 1024 * (wide k * one k)) ∙ omega arith)

module _ (i : Input) (ok : check i ≡ Ok tt) where
  pub size : size_ok i.w i.h ≡ true
  unfolding checks.check_of
  size = (passes (size_ok i.w i.h) Size (checks.from_lengths i.h i.h 0 (checked i)) ok).holds

  pub onward : checks.from_lengths i.h i.h 0 (checked i) ≡ Ok tt
  unfolding checks.check_of
  onward = (passes (size_ok i.w i.h) Size (checks.from_lengths i.h i.h 0 (checked i)) ok).rest

  abbrev rest : Rest i.h i.h 0 (checked i)
  rest = rest_passed i.h i.h 0 (checked i) onward

  -- the lengths, as a test and one by one
  pub lengths : checks.lengths_ok i.settings.format i.w i.h i.h (checks.lengths_of (checked i)) ≡ true
  unfolding checks.from_lengths
  lengths = (passes (checks.lengths_ok i.settings.format i.w i.h i.h (checks.lengths_of (checked i))) Length _ onward).holds

  abbrev W : ℕ
  W = i.w / 4

  abbrev rows : ℕ
  rows = i.h / 4

  abbrev halved : Bool
  halved = eqb i.settings.limit 5

  abbrev four : i.w % 4 ≡ 0
  four = (sized i.w i.h size).by_four

  abbrev words_long : length i.words ≡ rows * W
  words_long = long_words i size lengths

  abbrev pub walked : (k : ℕ) → k < bands i → BandDone i.splits W rows (pos i size) k
  walked = walks_apart i.splits W rows (pos i size) rest.walk

  marks_ok : (k : ℕ) → get_or i.keep k 0 ≤ 1
  marks_ok = mark_any i.keep (subst (λ (n : ℕ). keep_ok (drop n i.keep) ≡ true) (mul-zero (i.w / 4)) rest.marks)

  words_fine : (k : ℕ) → qp_of (get_or i.words k 0) ≤ 51
  words_fine = word_any i.words (subst (λ (n : ℕ). qps_ok (drop n i.words) ≡ true) (mul-zero (i.w / 4)) rest.qps)

  samples_fine : (x : Plane) → Samples (plane_in x i)
  samples_fine luma_plane k = sample_any i.y k (subst (λ (n : ℕ). samples_ok (drop n i.y) ≡ true) (mul-zero i.w) rest.y)
  samples_fine u_plane k = sample_any i.u k (subst (λ (n : ℕ). samples_ok (drop n i.u) ≡ true) (none_before i.settings.format i.w) rest.u)
  samples_fine v_plane k = sample_any i.v k (subst (λ (n : ℕ). samples_ok (drop n i.v) ≡ true) (none_before i.settings.format i.w) rest.v)

  -- ---- band n, where those before it were accepted

  module _ (n : ℕ) (less : n < bands i) (acc : AcceptedTo i n) where
    abbrev here : n ≤ n
    here = omega arith

    abbrev few : n ≤ bands i
    few = omega arith

    abbrev own : ℕ
    own = band_rows rows n

    abbrev j : call.Input
    j = input_of i n (state_after i n)

    abbrev marked : Marked i size n (state_after i n).words
    marked = words_marked i size words_long n few acc n here

    -- S places a row: the part that is lent has its rows
    rows_lent : {A : Type 0} (S : ℕ) (l : List A) (a b : ℕ) → length l ≡ rows * S → a ≡ rows_before n * S → b ≡ lent i n * S → length (take b (drop a l)) ≡ b
    rows_lent S l a b e ea eb =
        let inside = (band rows n less).inside in
        let g : (rows_before n + lent i n) * S ≤ rows * S = mul-le-mul_right S (omega (arith, above_before n)) in
        length-take-le b (drop a l) (omega (arith, length-drop a l, add-mul (rows_before n) (lent i n) S))

    plane_long : (x : Plane) → length (plane_part i n (component_of x) (plane_of x (state_after i n))) ≡ in_plane x i.settings.format (places_of (component_of x) W (lent i n))
    plane_long x =
        let c = component_of x in
        let long = ap length (after_plane i size words_long n few acc x n here)
        ∙ calls_long (maps_of i) i.strengths (mapped_as x i) c halved i.splits W rows (pos i size) walked n few (plane_in x i) (held_plane i size lengths x) ∙ long_plane i size lengths x in
        part_in x i.settings.format (plane_of x (state_after i n)) (places_of c W (rows_before n)) (places_of c W (lent i n)) (places_of c W rows) long
        (λ e. rows_lent (step_of c W) (plane_of x (state_after i n)) _ _ (e ∙ places_step c W rows) (places_step c W (rows_before n)) (places_step c W (lent i n)))

    plane_small : (x : Plane) (a : ℕ) → samples_ok (drop a (plane_part i n (component_of x) (plane_of x (state_after i n)))) ≡ true
    plane_small x a =
        let c = component_of x in
        let small : Samples (plane_of x (state_after i n)) = subst Samples (sym (after_plane i size words_long n few acc x n here))
        (calls_small (maps_of i) i.strengths (mapped_as x i) c halved i.splits W rows (pos i size) walked n few (plane_in x i) (held_plane i size lengths x) (samples_fine x)) in
        samples_pass _ (λ k h. part_all (λ (v : ℕ). v ≤ 1023) (plane_of x (state_after i n)) small a (places_of c W (lent i n)) (places_of c W (rows_before n)) k h)

    marks_small : (a : ℕ) → keep_ok (drop a j.keep) ≡ true
    unfolding keep_ok
    marks_small a = scan_pass _ _ (λ k h. le-leb _ 1 (part_all (λ (v : ℕ). v ≤ 1) i.keep marks_ok a (1 * (lent i n * W)) (1 * (rows_before n * W)) k h))

    words_small : (a : ℕ) → qps_ok (drop a j.words) ≡ true
    unfolding qps_ok
    words_small a =
        let l = (state_after i n).words in
        let same = marked_alikes i size n l marked in
        scan_pass _ _ (λ k h. le-leb _ 51 (part_all (λ (v : ℕ). qp_of v ≤ 51) l
        (λ q. subst (λ (v : ℕ). v ≤ 51) (sym (same.same q).qp) (words_fine q)) a (1 * (lent i n * W)) (1 * (rows_before n * W)) k h))

    -- a map of m numbers a unit
    map_long : {A : Type 0} (m : ℕ) (l : List A) → length l ≡ m * (rows * W) → length (map_part m W (rows_before n) (lent i n) l) ≡ m * (lent i n * W)
    map_long m l e =
        let f : (a : ℕ) → m * (a * W) ≡ a * (m * W) = λ a. sym (mul_assoc m a W) ∙ ap (λ (z : ℕ). z * W) (mul_comm m a) ∙ mul_assoc a m W in
        rows_lent (m * W) l _ _ (e ∙ f rows) (f (rows_before n)) (f (lent i n))

    splits_long : length j.splits ≡ 1024 * root_count i.w (4 * own)
    splits_long = bytes_long i size lengths n less

    lengths_fine : lengths_ok i.settings.format i.w (4 * lent i n) (4 * own) (checks.lengths_of (call.checked j).lent) ≡ true
    unfolding lengths_ok
    lengths_fine =
        let t = rest.lengths in
        let units = unit_places i.w (lent i n) four in
        let one : length i.words ≡ 1 * (rows * W) = words_long ∙ omega arith in
        let keep : length j.keep ≡ unit_count i.w (4 * lent i n) = map_long 1 i.keep (t.keep ∙ mul_comm W rows ∙ omega arith) ∙ omega (arith, units) in
        let words : length j.words ≡ unit_count i.w (4 * lent i n) = map_long 1 (state_after i n).words (marked.long ∙ one) ∙ omega (arith, units) in
        rw (
          eq-eqb _ _ (plane_long luma_plane ∙ sym (luma_places i.w (lent i n) four)),
          eq-eqb _ _ (plane_long u_plane ∙ ap (in_format i.settings.format) (sym (chroma_places i.w (lent i n) four))),
          eq-eqb _ _ (plane_long v_plane ∙ ap (in_format i.settings.format) (sym (chroma_places i.w (lent i n) four))),
          eq-eqb _ _ words,
          eq-eqb _ _ splits_long,
          eq-eqb _ _ (map_long 4 i.motion (t.motion ∙ ap (λ (z : ℕ). 4 * z) (mul_comm W rows)) ∙ ap (λ (z : ℕ). 4 * z) (sym units)),
          eq-eqb _ _ (map_long 2 i.refs (t.refs ∙ ap (λ (z : ℕ). 2 * z) (mul_comm W rows)) ∙ ap (λ (z : ℕ). 2 * z) (sym units)),
          eq-eqb _ _ keep,
          eq-eqb _ _ t.table0,
          eq-eqb _ _ t.table1,
          eq-eqb _ _ t.strengths,
        )

    position_fine : band_ok j.next n i.h ≡ true
    unfolding band_ok
    position_fine =
        let high = (sized i.w i.h size).by_four_down in
        rw (eq-eqb n j.next (sym (position i size words_long n few acc n here)), lt-ltb n (roots_along i.h) (omega arith))

    walk_fine : (picture_walk j.splits W (4 * own / 4)).answer ≡ Ok tt
    walk_fine = let e : 4 * own / 4 ≡ own = omega arith in ap (λ (r : ℕ). (picture_walk j.splits W r).answer) e ∙ walked n less

    band_fine : call.check j ≡ Ok tt
    unfolding band-check.check_of checks.from_lengths planes_ok
    band_fine =
        rw (
          size,
          position_fine,
          lengths_fine,
          rest.settings,
          walk_fine,
          marks_small (unit_count i.w (4 * (rows_above n - 1))),
          words_small (unit_count i.w (4 * (rows_above n - 1))),
          plane_small luma_plane (luma_length i.w (4 * (rows_above n - 1))),
          plane_small u_plane (colour_length i.settings.format i.w (4 * (rows_above n - 1))),
          plane_small v_plane (colour_length i.settings.format i.w (4 * (rows_above n - 1))),
        )

    pub next_accepted : (call.outcome j).reading.number ≡ 0
    next_accepted = ap (λ (o : call.Outcome). o.reading.number) (outcome_done j band_fine)

  one_more : (n : ℕ) → n < bands i → AcceptedTo i n → AcceptedTo i (suc n)
  one_more n l acc k h = go (dec_lt k n) where
    go : Dec (k < n) → (call.outcome (input_of i k (state_after i k))).reading.number ≡ 0
    go (yes p) = acc k p
    go (no p) = let e : n ≡ k = omega arith in subst (λ (m : ℕ). (call.outcome (input_of i m (state_after i m))).reading.number ≡ 0) e (next_accepted n l acc)

  pub accepted_to : (n : ℕ) → n ≤ bands i → AcceptedTo i n
  accepted_to zero l = λ k h. absurd (omega arith)
  accepted_to (suc n) l = one_more n l (accepted_to n (omega arith))

pub whole_fine : (i : Input) → (outcome i).reading.number ≡ 0 → check i ≡ Ok tt
unfolding outcome
whole_fine i e = go (check i) refl e where
  go : (a : Answer) → check i ≡ a → (after_checks (refused i) (done i) a).reading.number ≡ 0 → check i ≡ Ok tt
  go (Ok _) q z = q
  go (Err r) q z = absurd (omega (arith, number_some r))

pub bands_accepted : (i : Input) → Parted i
bands_accepted i e = accepted_to i (whole_fine i e) (bands i) (omega arith)
