-- Runs of units: where all are intra, or all are what lies above them, the bytes of the rule are known; and a map is filled and judged run by run.
--     joins_if    the test of a map up to a run's end
--     scan_same    two tests that are the same at each place
--     column_run, above_column    a unit's column in a run
--     stored_none, stored_more    a loop that stores bytes from a place on
--     intra_byte    an intra unit's byte
--     above_byte    the byte of a unit of a run that is what lies above it
--     left_row, top_row, runs_there, first_rows, long_cleared, joined    any other unit's byte, by the rows of a run's edges
--     first_byte    the byte of a unit of the first row
--     right_more    a map that is right up to a run's end
-- Assumes nothing.
use Prim.Native.Nat.{ℕ, zero, suc, ◌+◌, ◌-◌, ◌*◌, ◌%◌, ◌≤◌, ◌<◌}
use mathlib.Core.Path.{◌≡◌, refl, sym, ap, ◌∙◌}
use mathlib.Core.Bool.{Bool, true, false, ◌&&◌, ◌||◌}
use mathlib.Core.List.{List}
use native.Mathlib.Nat.{mod-eq_of_lt, mod-add-mod, mod-add-div', mul-add-mod_self_right, add-zero}
use native.Mathlib.Decide.{dec_lt}
use native.Mathlib.Omega.{arith}
use borrow.Author.Tests.{eqb-true, eqb-false, eq-eqb, ne_eqb, ltb-true, lt-ltb, le-ltb, le-leb, lt-leb}
use lib.Dec.{eqb, ltb}
use lib.IntN.{ℤ, pos}
use lib.ListN.{length, get_or, set, length-set}
use lib.Seq.{get_or-set_same, get_or-set_other}
use Rattle.laws.specs.Bits.{field_of, with_field}
use Rattle.laws.specs.Index.{pick}
use Rattle.laws.specs.Scan.{all_below}
use Rattle.laws.proofs.Bools.{both_left, both_right}
use Rattle.laws.proofs.Scans.{scan_at}
use Rattle.def.specs.Word.{flag_at, intra_of, coded_of}
use Rattle.line.specs.Row.{motion_row, row_of}
use Rattle.line.proofs.Rows.{eq_z_same, motion_self}
use Rattle.split.specs.Edges.{Pass, vertical, horizontal}
use Rattle.df_rules.specs.Places.{step_across}
use Rattle.df_rules.specs.Strength.{motion_at, row_by}
use Rattle.row.specs.Between.{row_in}
use Rattle.row.specs.Runs.{runs_in, RunThere, rows_put}
use Rattle.row.proofs.Runs.{run_in, all_there, rows_long, rows_at}
use Rattle.rows_rules.specs.Inside.{Lent}
use Rattle.rows_rules.specs.Rule.{has_side, edge_row, rule_byte}
use Rattle.rows_rules.specs.Runs.{same_from, same_flags, units_from, self_row, first_byte, Run, RightBelow, FirstOf, Stored}
use Rattle.rows_rules.proofs.Sides.{past_row, byte_of, edge_few, no_edge, some_edge}

and_none : (a : Bool) → a ≡ (a && true)
and_none true = refl
and_none false = refl

and_more : (a b c : Bool) → ((a && b) && c) ≡ (a && (b && c))
and_more true b c = refl
and_more false b c = refl

or_self : (a : Bool) → (a || a) ≡ a
or_self true = refl
or_self false = refl

-- ---- flags

same_intra : (a b : ℕ) → same_flags a b ≡ true → intra_of a ≡ intra_of b
unfolding same_flags flag_at
same_intra a b e = ap (λ (z : ℕ). eqb z 1) (eqb-true (field_of 15 1 a) (field_of 15 1 b) (both_left (eqb (field_of 15 1 a) (field_of 15 1 b)) _ e))

same_coded : (a b : ℕ) → same_flags a b ≡ true → coded_of a ≡ coded_of b
unfolding same_flags flag_at
same_coded a b e = ap (λ (z : ℕ). eqb z 1) (eqb-true (field_of 24 1 a) (field_of 24 1 b) (both_right (eqb (field_of 15 1 a) (field_of 15 1 b)) _ e))

-- ---- runs

run_joins : (f : ℕ → Bool) (k n : ℕ) → all_below f (k + n) ≡ (all_below f k && all_below (λ (j : ℕ). f (k + j)) n)
unfolding all_below
run_joins f k zero = ap (all_below f) (add-zero k) ∙ and_none (all_below f k)
run_joins f k (suc n) =
    let e : k + suc n ≡ suc (k + n) = omega arith in
    rw (e, run_joins f k n) (and_more (all_below f k) (all_below (λ (j : ℕ). f (k + j)) n) (f (k + n)))

pub column_run : (c x k j : ℕ) → x ≡ k % c → x + j < c → x + j ≡ (k + j) % c
column_run c x k j e p = sym (mod-eq_of_lt p) ∙ ap (λ (z : ℕ). (z + j) % c) e ∙ mod-add-mod k c j

-- a unit stands in the column of the one above it
same_column : (c a b : ℕ) → a ≡ c + b → a % c ≡ b % c
same_column c a b e =
    let p : a ≡ 1 * c + b = omega arith in
    ap (λ (z : ℕ). z % c) p ∙ mul-add-mod_self_right 1 c b

pub above_column : (c x k : ℕ) → x ≡ k % c → c ≤ k → x ≤ k - c
above_column c x k e l = omega (arith, same_column c k (k - c) (omega arith), mod-add-div' (k - c) c)

-- a test of the runs before and of one more, which is known where those before pass
pub joins_if : (f : ℕ → Bool) (k n : ℕ) (ok r : Bool) → ok ≡ all_below f k → (((i : ℕ) → i < k → f i ≡ true) → r ≡ all_below (λ (j : ℕ). f (k + j)) n) → (ok && r) ≡ all_below f (k + n)
joins_if f k n true r e h = h (λ i l. scan_at f k i l (sym e)) ∙ ap (λ (b : Bool). b && all_below (λ (j : ℕ). f (k + j)) n) e ∙ sym (run_joins f k n)
joins_if f k n false r e h = ap (λ (b : Bool). b && all_below (λ (j : ℕ). f (k + j)) n) e ∙ sym (run_joins f k n)

pub scan_same : (f g : ℕ → Bool) (n : ℕ) → ((i : ℕ) → i < n → f i ≡ g i) → all_below f n ≡ all_below g n
unfolding all_below
scan_same f g zero h = refl
scan_same f g (suc n) h = λ i. scan_same f g n (λ j l. h j (omega arith)) i && h n (omega arith) i

pub long_cleared : (x : ℕ) (l m : List ℕ) → m ≡ pick (eqb x 0) (set l 0 0) l → length m ≡ length l
long_cleared x l m e = ap length e ∙ go (eqb x 0) where
  go : (b : Bool) → length (pick b (set l 0 0) l) ≡ length l
  go true = length-set l 0 0
  go false = refl

-- ---- bytes stored from k on

pub stored_none : (bytes : List ℕ) (k : ℕ) (l : List ℕ) → Stored bytes k 0 l l
stored_none bytes k l = record { long = refl; kept = λ i h. refl; new = λ j h. absurd (none j h) } where
  none : (j : ℕ) → j < 0 → ⊥
  none j h = omega arith

pub stored_more : (bytes : List ℕ) (k j : ℕ) (l₀ l : List ℕ) → k + j < length l → Stored bytes k j l₀ l → Stored bytes k (j + 1) l₀ (set l (k + j) (get_or bytes j 0))
stored_more bytes k j l₀ l h s =
    record {
      long = length-set l (k + j) _ ∙ s.long;
      kept = λ i p. get_or-set_other l (k + j) i _ 0 (λ q. before i p q) ∙ s.kept i p;
      new = λ i p. step i p (dec_lt i j);
    } where
      before : (i : ℕ) → i < k → i ≡ k + j → ⊥
      before i p q = omega arith

      step : (i : ℕ) → i < j + 1 → Dec (i < j) → get_or (set l (k + j) (get_or bytes j 0)) (k + i) 0 ≡ get_or bytes i 0
      step i p (yes q) = get_or-set_other l (k + j) (k + i) _ 0 (λ e. (omega arith)) ∙ s.new i q
      step i p (no q) =
          let r : i ≡ j = omega arith in
          rw r (get_or-set_same l (k + j) _ 0 h)

module _ (words : List ℕ) (motion refs : List ℤ) (c : ℕ) where
  -- ---- an intra unit's byte

  intra_row : (q p : ℕ) → intra_of (get_or words q 0) ≡ true → row_by words motion refs q p ≡ 0
  unfolding row_by row_of
  intra_row q p e = rw e

  intra_edge : (d : Pass) (k : ℕ) → intra_of (get_or words k 0) ≡ true → edge_row words motion refs c d k ≡ 0
  unfolding edge_row
  intra_edge d k e = go (has_side d c k) where
    go : (b : Bool) → pick b (row_by words motion refs k (k - step_across d c)) 0 ≡ 0
    go true = intra_row k (k - step_across d c) e
    go false = refl

  pub byte_rows : (l t k : ℕ) → edge_row words motion refs c vertical k ≡ l → edge_row words motion refs c horizontal k ≡ t → l ≤ 3 → rule_byte words motion refs c k ≡ 4 * t + l
  unfolding rule_byte
  byte_rows l t k e f h = (λ i. with_field 2 2 (f i) (with_field 0 2 (e i) 0)) ∙ sym (byte_of l t h)

  pub intra_byte : (k : ℕ) → intra_of (get_or words k 0) ≡ true → rule_byte words motion refs c k ≡ 0
  intra_byte k e = byte_rows 0 0 k (intra_edge vertical k e) (intra_edge horizontal k e) (omega arith)

  -- ---- units that are alike

  record Alike (a b : ℕ) : Type 0 where
    intra : intra_of (get_or words a 0) ≡ intra_of (get_or words b 0)
    coded : coded_of (get_or words a 0) ≡ coded_of (get_or words b 0)
    moves : motion_at motion refs a ≡ motion_at motion refs b

  -- numbers of a run that are the same
  number : (l : List ℤ) (a b m i x y : ℕ) → same_from l a b m ≡ true → i < m → x ≡ a + i → y ≡ b + i → get_or l x (pos 0) ≡ get_or l y (pos 0)
  number l a b m i x y s p e f = rw (e, f) (eq_z_same _ _ (scan_at _ m i p s))

  same_moves : (k p n j : ℕ) → j < n → same_from motion (4 * k) (4 * p) (4 * n) ≡ true → same_from refs (2 * k) (2 * p) (2 * n) ≡ true → motion_at motion refs (k + j) ≡ motion_at motion refs (p + j)
  same_moves k p n j l m r =
      let ref = number refs (2 * k) (2 * p) (2 * n) in
      let mv = number motion (4 * k) (4 * p) (4 * n) in
      λ t. record {
        refi0 = ref (2 * j) (2 * (k + j)) (2 * (p + j)) r (omega arith) (omega arith) (omega arith) t;
        refi1 = ref (2 * j + 1) (2 * (k + j) + 1) (2 * (p + j) + 1) r (omega arith) (omega arith) (omega arith) t;
        x0 = mv (4 * j) (4 * (k + j)) (4 * (p + j)) m (omega arith) (omega arith) (omega arith) t;
        y0 = mv (4 * j + 1) (4 * (k + j) + 1) (4 * (p + j) + 1) m (omega arith) (omega arith) (omega arith) t;
        x1 = mv (4 * j + 2) (4 * (k + j) + 2) (4 * (p + j) + 2) m (omega arith) (omega arith) (omega arith) t;
        y1 = mv (4 * j + 3) (4 * (k + j) + 3) (4 * (p + j) + 3) m (omega arith) (omega arith) (omega arith) t;
      }

  units_alike : (at from n i a b : ℕ) → units_from words motion refs at from n ≡ true → i < n → a ≡ at + i → b ≡ from + i → Alike a b
  unfolding units_from
  units_alike at from n i a b e l p q =
      let r = both_left (same_from refs (2 * at) (2 * from) (2 * n)) _ e in
      let rest = both_right (same_from refs (2 * at) (2 * from) (2 * n)) _ e in
      let m = both_left (same_from motion (4 * at) (4 * from) (4 * n)) _ rest in
      let f = scan_at _ n i l (both_right (same_from motion (4 * at) (4 * from) (4 * n)) _ rest) in
      rw (p, q) (record {
        intra = same_intra (get_or words (at + i) 0) (get_or words (from + i) 0) f;
        coded = same_coded (get_or words (at + i) 0) (get_or words (from + i) 0) f;
        moves = same_moves at from n i l m r;
      })

  -- the row between two units is that between two others that are alike
  row_alike : (q p q' p' : ℕ) → Alike q q' → Alike p p' → row_by words motion refs q p ≡ row_by words motion refs q' p'
  unfolding row_by row_of
  row_alike q p q' p' s t = λ i. pick (s.intra i || t.intra i) 0 (pick (s.coded i || t.coded i) 1 (motion_row (s.moves i) (t.moves i)))

  row_self : (q p : ℕ) → Alike q p → row_by words motion refs q p ≡ self_row (get_or words q 0)
  unfolding row_by row_of self_row
  row_self q p s =
      let w = get_or words q 0 in
      let m = motion_at motion refs q in
      (λ i. pick (intra_of w || sym s.intra i) 0 (pick (coded_of w || sym s.coded i) 1 (motion_row m (sym s.moves i))))
      ∙ (λ i. pick (or_self (intra_of w) i) 0 (pick (or_self (coded_of w) i) 1 (motion_self m i)))

  -- ---- a run that is what lies above it

  module _ (x k n left : ℕ) (some : 0 < c) (w : Run c (length words) x k n) (low : c ≤ k) (l : left ≤ x) (one : 0 < x → left ≡ 1)
      (e : units_from words motion refs (k - left) (k - c - left) (n + left) ≡ true) where
    column_below : (j : ℕ) → (k + j) % c ≡ (k - c + j) % c
    column_below j = same_column c (k + j) (k - c + j) (omega arith)

    x_left : x ≤ k - c
    x_left = above_column c x k w.column low

    unit_above : (j : ℕ) → j < n → Alike (k + j) (k - c + j)
    unit_above j h = units_alike (k - left) (k - c - left) (n + left) (left + j) (k + j) (k - c + j) e (omega arith) (omega (arith, x_left)) (omega (arith, x_left))

    -- past the first column the run's unit or the one left of it is there
    left_there : (j : ℕ) → 0 < x + j → Dec (0 < x) → 0 < left + j
    left_there j h (yes p) = omega (arith, one p)
    left_there j h (no p) = omega arith

    left_above : (j : ℕ) → j < n → edge_row words motion refs c vertical (k + j) ≡ edge_row words motion refs c vertical (k - c + j)
    unfolding edge_row
    left_above j h = go (has_side vertical c (k - c + j)) refl where
      go : (b : Bool) → has_side vertical c (k - c + j) ≡ b
          → pick (has_side vertical c (k + j)) (row_by words motion refs (k + j) (k + j - 1)) 0 ≡ pick (has_side vertical c (k - c + j)) (row_by words motion refs (k - c + j) (k - c + j - 1)) 0
      go false q = rw (ap (ltb 0) (column_below j) ∙ q, q)
      go true q =
          let at = column_run c x k j w.column (omega (arith, w.fits)) in
          let here = left_there j (omega (arith, at, column_below j, ltb-true 0 ((k - c + j) % c) q)) (dec_lt 0 x) in
          rw (ap (ltb 0) (column_below j) ∙ q, q)
          (row_alike (k + j) (k + j - 1) (k - c + j) (k - c + j - 1) (unit_above j h)
          (units_alike (k - left) (k - c - left) (n + left) (left + j - 1) (k + j - 1) (k - c + j - 1) e (omega arith) (omega (arith, x_left)) (omega (arith, x_left))))

    top_above : (j : ℕ) → j < n → edge_row words motion refs c horizontal (k + j) ≡ self_row (get_or words (k + j) 0)
    unfolding edge_row
    top_above j h =
        let p : k + j - c ≡ k - c + j = omega arith in
        rw (sym (past_row c (k + j) some) ∙ le-leb c (k + j) (omega arith), p) (row_self (k + j) (k - c + j) (unit_above j h))

    pub above_byte : (j : ℕ) → j < n → rule_byte words motion refs c (k + j) ≡ rule_byte words motion refs c (k - c + j) % 4 + 4 * self_row (get_or words (k + j) 0)
    above_byte j h =
        let l = edge_row words motion refs c vertical (k - c + j) in
        let few : l ≤ 3 = edge_few words motion refs c vertical (k - c + j) in
        let a = byte_rows l (self_row (get_or words (k + j) 0)) (k + j) (left_above j h) (top_above j h) few in
        let b = byte_rows l (edge_row words motion refs c horizontal (k - c + j)) (k - c + j) refl refl few in
        omega (arith, a, b)

  -- ---- a run, one side after the other

  edge_of_lem : (d : Pass) (q p : ℕ) → has_side d c q ≡ true → p ≡ q - step_across d c → row_by words motion refs q p ≡ edge_row words motion refs c d q
  unfolding edge_row
  edge_of_lem d q p s e = rw (s, e)

  module _ (x k n : ℕ) (some : 0 < c) (w : Run c (length words) x k n) (low : c ≤ k) where
    pub left_row : (l₀ l₁ l₂ : List ℕ) → FirstOf (λ (j : ℕ). row_by words motion refs (k + j) (k - 1 + j)) n l₀ l₁ → 0 < length l₁ → l₂ ≡ pick (eqb x 0) (set l₁ 0 0) l₁
        → (j : ℕ) → j < n → get_or l₂ j 0 ≡ edge_row words motion refs c vertical (k + j)
    left_row l₀ l₁ l₂ u h e j l = go (dec_lt 0 x) (dec_lt 0 j) where
      column : x + j ≡ (k + j) % c
      column = column_run c x k j w.column (omega (arith, w.fits))

      inner : 0 < x + j → get_or l₁ j 0 ≡ edge_row words motion refs c vertical (k + j)
      inner p = u.at j l ∙ edge_of_lem vertical (k + j) (k - 1 + j) (lt-ltb 0 ((k + j) % c) (omega (arith, column))) (omega arith)

      go : Dec (0 < x) → Dec (0 < j) → get_or l₂ j 0 ≡ edge_row words motion refs c vertical (k + j)
      go (yes p) d =
          let same : pick (eqb x 0) (set l₁ 0 0) l₁ ≡ l₁ = rw (ne_eqb x 0 (λ q. (omega arith))) in
          ap (λ (l : List ℕ). get_or l j 0) (e ∙ same) ∙ inner (omega arith)
      go (no p) (yes q) =
          let z : x ≡ 0 = omega arith in
          let cleared : pick (eqb x 0) (set l₁ 0 0) l₁ ≡ set l₁ 0 0 = rw (eq-eqb x 0 z) in
          ap (λ (l : List ℕ). get_or l j 0) (e ∙ cleared) ∙ get_or-set_other l₁ 0 j 0 0 (λ r. (omega arith)) ∙ inner (omega arith)
      go (no p) (no q) =
          let z : x ≡ 0 = omega arith in
          let j₀ : j ≡ 0 = omega arith in
          let cleared : pick (eqb x 0) (set l₁ 0 0) l₁ ≡ set l₁ 0 0 = rw (eq-eqb x 0 z) in
          ap (λ (l : List ℕ). get_or l j 0) (e ∙ cleared) ∙ ap (λ (i : ℕ). get_or (set l₁ 0 0) i 0) j₀ ∙ get_or-set_same l₁ 0 0 0 h
          ∙ no_edge words motion refs c vertical (k + j) false (sym (ap (ltb 0) (sym column) ∙ le-ltb 0 (x + j) (omega arith))) refl

    pub top_row : (l₀ l₁ : List ℕ) → FirstOf (λ (j : ℕ). row_by words motion refs (k + j) (k - c + j)) n l₀ l₁
        → (j : ℕ) → j < n → get_or l₁ j 0 ≡ edge_row words motion refs c horizontal (k + j)
    top_row l₀ l₁ u j l = u.at j l ∙ edge_of_lem horizontal (k + j) (k - c + j) (sym (past_row c (k + j) some) ∙ le-leb c (k + j) (omega arith)) (omega arith)

  -- both runs are there, and there is room
  pub runs_there : Lent c words motion refs → (rows q p n : ℕ) → q + n ≤ length words → p + n ≤ length words → n ≤ rows → true ≡ runs_in (length words) (length motion) (length refs) rows q p n
  runs_there l rows q p n hq hp h = all_there (length words) (length motion) (length refs) rows q p n h (run_in words motion refs q n (there q hq)) (run_in words motion refs p n (there p hp)) where
    there : (k : ℕ) → k + n ≤ length words → RunThere words motion refs k n
    there k h = record { word = h; mv = omega (arith, l.long_motion); refi = omega (arith, l.long_refs) }

  pub first_rows : (q p n : ℕ) (l₀ l₁ : List ℕ) → true ≡ runs_in (length words) (length motion) (length refs) (length l₀) q p n → l₁ ≡ rows_put words motion refs q p n l₀ → n ≤ length l₀
      → FirstOf (λ (j : ℕ). row_by words motion refs (q + j) (p + j)) n l₀ l₁
  first_rows q p n l₀ l₁ e f h = record { long = rows_long words motion refs q p n l₀ l₁ e f; at = rows_at words motion refs q p n l₀ l₁ e f h }

  pub joined : (k l t : ℕ) → l ≡ edge_row words motion refs c vertical k → t ≡ edge_row words motion refs c horizontal k → 4 * t + l ≡ rule_byte words motion refs c k
  joined k l t e f = sym (byte_rows l t k (sym e) (sym f) (omega (arith, e, edge_few words motion refs c vertical k)))

  -- ---- a unit of the first row of units

  left_of_first : (l : Lent c words motion refs) (k : ℕ) → k < c → k < length words → first_byte words motion refs k ≡ edge_row words motion refs c vertical k
  unfolding first_byte
  left_of_first l k p h = go (eqb k 0) refl where
    column : k % c ≡ k
    column = mod-eq_of_lt p

    go : (b : Bool) → eqb k 0 ≡ b → pick b 0 (row_in words motion refs k (k - 1)) ≡ edge_row words motion refs c vertical k
    go true e = no_edge words motion refs c vertical k false (sym (ap (ltb 0) column ∙ le-ltb 0 k (omega (arith, eqb-true k 0 e)))) refl
    go false e = some_edge l vertical k (k - 1) _ true h (sym (ap (ltb 0) column ∙ lt-ltb 0 k (some_unit (eqb-false k 0 e)))) refl refl refl where
      some_unit : (k ≡ 0 → ⊥) → 0 < k
      some_unit n = omega arith

  pub first_byte_lem : (l : Lent c words motion refs) (k b : ℕ) → k < c → k < length words → b ≡ first_byte words motion refs k → b ≡ rule_byte words motion refs c k
  first_byte_lem l k b p h e =
      let none : 0 ≡ edge_row words motion refs c horizontal k = no_edge words motion refs c horizontal k false (sym (sym (past_row c k l.some) ∙ lt-leb c k p)) refl in
      let sum : b ≡ 4 * 0 + b = omega arith in
      sum ∙ joined k b 0 (e ∙ left_of_first l k p h) none

  -- ---- a map filled up to a run's end

  pub right_more : (k n : ℕ) (l₀ l₁ b₀ b₁ : List ℕ) → RightBelow words motion refs c l₀ k → Stored b₁ k n l₀ l₁ → FirstOf (λ (j : ℕ). rule_byte words motion refs c (k + j)) n b₀ b₁
      → RightBelow words motion refs c l₁ (k + n)
  right_more k n l₀ l₁ b₀ b₁ r s u i l = go (dec_lt i k) where
    go : Dec (i < k) → get_or l₁ i 0 ≡ rule_byte words motion refs c i
    go (yes p) = s.kept i p ∙ r i p
    go (no p) =
        let e : i ≡ k + (i - k) = omega arith in
        let h : i - k < n = omega arith in
        ap (λ (z : ℕ). get_or l₁ z 0) e ∙ s.new (i - k) h ∙ u.at (i - k) h ∙ ap (rule_byte words motion refs c) (sym e)
