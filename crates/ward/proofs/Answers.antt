-- The call's outcome by what was found, and what its answers tell.
--     within    the turn's row, in the samples of its plane
--     given_no, given_yes    what is done of a plane
--     lent_0, lent_1, lent_2, fits    the plane whose turn it is, and that the row fits
--     row_refused, row_given    the outcome
-- Assumes nothing.
use Rattle.std.specs.Prelude.{Ok, Err}
use mathlib.Core.Bool.{Bool, true, false, not}
use mathlib.Core.List.{List, [], ◌∷◌}
use mathlib.Core.Path.{◌≡◌, sym, ap, ◌∙◌, subst}
use Prim.Native.Nat.{ℕ, ◌+◌, ◌-◌, ◌*◌, ◌≤◌, ◌<◌}
use native.Mathlib.Nat.{mul_comm, mul-le-mul}
use native.Mathlib.Omega.{arith}
use borrow.Author.Tests.{not-true, not-false, ltb-true, eqb-true, eq-eqb, ne_eqb}
use lib.Dec.{eqb, ltb}
use lib.ListN.{length}
use Rattle.laws.specs.Call.{Gives, unless}
use Rattle.laws.specs.Index.{pick}
use Rattle.laws.specs.Plane.{with_row}
use Rattle.laws.proofs.Calls.{all_at}
use Rattle.laws.proofs.Flat.{row_below}
use Rattle.decoder.specs.Face.{Answer, Format, Refusal}
use Rattle.decoder.specs.Face.formats.{Grey, Colour}
use Rattle.decoder.specs.Face.refusals.{Sample}
use Rattle.ward_check.specs.Checks as checks
use Rattle.ward_check.specs.Checks.{lengths_ok}
use Rattle.ward_check.specs.Sizes.{across, planes_of, in_plane, plane_length, columns_of, rows_of}
use Rattle.ward_check.specs.declared.Run.{Run}
use Rattle.ward_check.specs.declared.Run.TheVariants.{Full, Preview}
use Rattle.ward_check.specs.declared.Window.{Window}
use Rattle.ward_check.proofs.Ladder.{sides, inside}
use Rattle.ward_check.proofs.Sizes.{part_le, part_sum, part_small, across_small, length_there}
use Rattle.ward_rows.specs.Rows.{sample_at, last_row, made_ok, put_ok, put_row}
use Rattle.ward_rows.proofs.Runs.{Within, lies_within}
use Rattle.ward.specs.Fits.{Fits}
use Rattle.ward.specs.RowCall.{Input, Outcome, reading_of, refusal, asked, plane_of, row_ok, row_into, given, lent_plane, outcome}
use Rattle.ward.specs.Turns.{next_turn}
use Rattle.ward.specs.declared.Turn.{Turn}
use Rattle.ward.proofs.Ladder.{Asked, stopped, told, gone}
use Rattle.ward.proofs.Planes.{row_shown}
use Rattle.ward.proofs.Stores.{row_alike}

-- ---- the turn's row of a plane

last_below_lem : (run : Run) (r m : ℕ) → r < across run m → last_row run r < m
last_below_lem Full r m h = h
last_below_lem Preview r m h = omega arith

module _ (t : Turn) (w : ℕ) (c : Window) where
  pub within : {long out : ℕ} → Fits t w c long out → (n s x y : ℕ) → n ≡ in_plane t.plane (c.right - c.left) → s ≡ in_plane t.plane w
      → x ≡ in_plane t.plane c.left → y ≡ in_plane t.plane c.top → Within t.run s x y n t.row long out
  within {long} {out} f n s x y en es ex ey =
      let k = t.plane in
      let m = in_plane k (c.bottom - c.top) in
      let a = f.columns in
      let b = f.rows in
      let low = f.low in
      let across-columns = part_sum k c.left c.right (omega arith) in
      let columns = part_le k c.right w f.wide in
      let down = part_sum k c.top c.bottom (omega arith) in
      let last = last_below_lem t.run t.row m f.row in
      let lent : in_plane k c.bottom * s ≤ long = subst (λ (z : ℕ). in_plane k c.bottom * z ≤ long) (sym es) f.lent in
      let row = row_below (y + last_row t.run t.row) s (in_plane k c.bottom) long (omega arith) lent in
      record {
        wide = omega (arith, es, part_small k w, f.small);
        columns = omega (arith, across-columns, columns, en, es, ex);
        inside = omega (arith, row, across-columns, columns, en, es, ex);
        room = omega (arith, across_small t.run n, across-columns, columns, part_small k w, f.room);
        high = omega (arith, part_small k c.top);
        some = omega (arith, f.row, across_small t.run m, part_small k (c.bottom - c.top));
      }

  module _ (p out : List ℕ) (n s x y : ℕ) (en : n ≡ in_plane t.plane (c.right - c.left)) (es : s ≡ in_plane t.plane w)
      (ex : x ≡ in_plane t.plane c.left) (ey : y ≡ in_plane t.plane c.top) (fits : Fits t w c (length p) (length out))
      (b : Bool) (f : b ≡ put_ok t.run s x y n t.row p (length out)) (out' : List ℕ) (put : out' ≡ put_row t.run s x y n t.row p out) where
    -- the row lies in the plane and in the buffer, so that its samples alone are tested
    made : put_ok t.run s x y n t.row p (length out) ≡ made_ok t.run s x y n t.row p
    unfolding put_ok
    made = rw (lies_within t.run s x y n t.row (length p) (length out) (within fits n s x y en es ex ey))

    tested : b ≡ row_ok t w c p
    tested = f ∙ made ∙ rw (en, es, ex, ey)

    g : out' ≡ pick b (with_row 0 0 (across t.run n) (sample_at t.run s x y t.row p) out) out
    g = put ∙ ap (λ (i : Bool). pick i (with_row 0 0 (across t.run n) (sample_at t.run s x y t.row p) out) out) (sym f)

    pub given_no : not b ≡ true → record { reading = reading_of (refusal t Sample); out = out' } ≡ given t w c p out
    given_no q =
        let e : row_ok t w c p ≡ false = sym tested ∙ not-true b q in
        let same : out' ≡ out = g ∙ rw (not-true b q) in
        rw (e, same)

    pub given_yes : not b ≡ false → t.row < rows_of t.run c t.plane → (next : Turn) (k : ℕ) → next ≡ next_turn c t → k ≡ across t.run n
        → record { reading = reading_of (record { written = Ok k; next = next }); out = out' } ≡ given t w c p out
    given_yes q l next k en' ek =
        let e : row_ok t w c p ≡ true = sym tested ∙ not-false b q in
        let m = in_plane t.plane (c.bottom - c.top) in
        let whole : out' ≡ with_row 0 0 (across t.run n) (sample_at t.run s x y t.row p) out = g ∙ rw (not-false b q) in
        let full : out' ≡ row_into t w c p out =
        rw (en, es, ex, ey) at whole ∙ row_alike _ _ _ out
        (λ j lj. sym (row_shown (in_plane t.plane w) (in_plane t.plane c.left) (in_plane t.plane c.top) (in_plane t.plane (c.right - c.left)) m p t.run t.row j l lj)) in
        let count : k ≡ columns_of t.run c t.plane = ek ∙ ap (across t.run) en in
        rw (e, full, en', count)

-- ---- the plane whose turn it is

module _ (y u v : List ℕ) (k : ℕ) where
  pub lent_0 : k ≡ 0 → y ≡ plane_of k y u v
  lent_0 e = rw (eq-eqb k 0 e)

  pub lent_1 : k ≡ 1 → u ≡ plane_of k y u v
  lent_1 e = rw (ne_eqb k 0 (omega arith), eq-eqb k 1 e)

  pub lent_2 : (k ≡ 0 → ⊥) → (k ≡ 1 → ⊥) → v ≡ plane_of k y u v
  lent_2 p q = rw (ne_eqb k 0 p, ne_eqb k 1 q)

module _ (t : Turn) (plane row : ℕ) (f : Format) (w h y u v : ℕ) (c : Window) (out : ℕ) (a : Asked t plane row f w h y u v c out) where
  turn_tests : List Bool
  turn_tests = eqb plane t.plane ∷ eqb row t.row ∷ ltb t.plane (planes_of f) ∷ ltb t.row (rows_of t.run c t.plane) ∷ []

  length_tests_lem : List Bool
  length_tests_lem = eqb y (plane_length f 0 w h) ∷ eqb u (plane_length f 1 w h) ∷ eqb v (plane_length f 2 w h) ∷ eqb out w ∷ []

  pub same_turn : t.plane ≡ plane
  unfolding checks.turn_ok turn_tests
  same_turn = sym (eqb-true plane t.plane (all_at turn_tests 0 a.turn))

  pub there : t.plane < planes_of f
  unfolding checks.turn_ok turn_tests
  there = ltb-true t.plane (planes_of f) (all_at turn_tests 2 a.turn)

  pub row_there : t.row < rows_of t.run c t.plane
  unfolding checks.turn_ok turn_tests
  row_there = ltb-true t.row _ (all_at turn_tests 3 a.turn)

  three : (g : Format) → planes_of g ≤ 3
  three Grey = omega arith
  three Colour = omega arith

  pub long_0 : t.plane ≡ 0 → y ≡ plane_length f t.plane w h
  unfolding lengths_ok length_tests_lem
  long_0 e = eqb-true y _ (all_at length_tests_lem 0 a.lengths) ∙ ap (λ (k : ℕ). plane_length f k w h) (sym e)

  pub long_1 : t.plane ≡ 1 → u ≡ plane_length f t.plane w h
  unfolding lengths_ok length_tests_lem
  long_1 e = eqb-true u _ (all_at length_tests_lem 1 a.lengths) ∙ ap (λ (k : ℕ). plane_length f k w h) (sym e)

  pub long_2 : (t.plane ≡ 0 → ⊥) → (t.plane ≡ 1 → ⊥) → v ≡ plane_length f t.plane w h
  unfolding lengths_ok length_tests_lem
  long_2 p q =
      let e : t.plane ≡ 2 = omega (arith, there, three f) in
      eqb-true v _ (all_at length_tests_lem 2 a.lengths) ∙ ap (λ (k : ℕ). plane_length f k w h) (sym e)

  pub fits : (long : ℕ) → long ≡ plane_length f t.plane w h → Fits t w c long out
  unfolding lengths_ok length_tests_lem
  fits long e =
      let i = inside c w h a.window in
      let s = sides w h a.size in
      let k = t.plane in
      let o = eqb-true out w (all_at length_tests_lem 3 a.lengths) in
      let whole = length_there f k w h there in
      let part = mul-le-mul (part_le k c.bottom h i.high) (part_le k w w (omega arith)) in
      record {
        columns = i.columns;
        rows = i.rows;
        wide = i.wide;
        small = s.wide;
        low = omega (arith, i.high, s.high);
        lent = omega (arith, part, whole, e, mul_comm (in_plane k h) (in_plane k w));
        room = omega (arith, o);
        plane = omega (arith, there, three f);
        row = row_there;
      }

-- ---- the outcome

module _ (i : Input) (found : Answer)
    (e : found ≡ asked i.turn i.plane i.row i.format i.w i.h (length i.y) (length i.u) (length i.v) i.window (length i.out) (Ok tt)) where
  pub row_refused : (r : Refusal) → found ≡ Err r → Gives outcome i (record { reading = reading_of (refusal i.turn r); out = i.out })
  unfolding outcome
  row_refused r q = rw (stopped i.turn i.plane i.row i.format i.w i.h (length i.y) (length i.u) (length i.v) i.window (length i.out) _ r (sym e ∙ q))

  pub all_passed : found ≡ Ok tt → Asked i.turn i.plane i.row i.format i.w i.h (length i.y) (length i.u) (length i.v) i.window (length i.out)
  all_passed q = told i.turn i.plane i.row i.format i.w i.h (length i.y) (length i.u) (length i.v) i.window (length i.out) (sym e ∙ q)

  pub row_given : found ≡ Ok tt → (p : List ℕ) → p ≡ lent_plane i → (o : Outcome) → o ≡ given i.turn i.w i.window p i.out → Gives outcome i o
  unfolding outcome
  row_given q p d o g =
      g ∙ ap (λ (l : List ℕ). given i.turn i.w i.window l i.out) d
      ∙ rw
      (gone i.turn i.plane i.row i.format i.w i.h (length i.y) (length i.u) (length i.v) i.window (length i.out) (all_passed q)
      (unless (row_ok i.turn i.w i.window (lent_plane i)) (Err Sample) (Ok tt)))
