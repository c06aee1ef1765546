-- All rows of a run, called in turn: what each call gives, and what they come to.
--     tall    a plane has rows
--     row_given    a row whose turn it is
--     At, start, step, steps    after k calls: which turn it is, and what came out
--     whole    what all of them come to
-- Assumes nothing.
use Rattle.std.specs.Prelude.{Ok, Err}
use mathlib.Core.Bool.{Bool, true, false}
use mathlib.Core.List.{List, [], ◌∷◌, ◌++◌, append_assoc, append-nil}
use mathlib.Core.Path.{◌≡◌, refl, sym, ap, ap₂, ◌∙◌, subst}
use Prim.Native.Nat.{ℕ, zero, suc, ◌+◌, ◌-◌, ◌*◌, ◌/◌, ◌%◌, ◌≤◌, ◌<◌}
use native.Mathlib.Decide.{dec_lt}
use native.Mathlib.Nat.{zero-add, suc-add, zero-mul}
use native.Mathlib.Numerals.{add-one}
use native.Mathlib.Omega.{arith}
use borrow.Author.Tests.{ltb-true, eqb-true, eq-eqb, lt-ltb, le-ltb}
use lib.Dec.{ltb, eqb}
use lib.ListN.{length, get_or, take}
use Rattle.laws.specs.Call.{unless}
use Rattle.laws.specs.Index.{pick, tabulate}
use Rattle.laws.proofs.Calls.{all_at, all_fails}
use Rattle.laws.proofs.Flat.{next_row, row_below}
use Rattle.decoder.proofs.Face.{sample_any}
use Rattle.decoder.specs.Face.{Format}
use Rattle.decoder.specs.Face.formats.{Grey, Colour}
use Rattle.decoder.specs.Face.refusals.{Sample}
use Rattle.ward_check.specs.Checks as checks
use Rattle.ward_check.specs.Checks.{lengths_ok, window_ok, window_tests}
use Rattle.ward_check.specs.Sizes.{across, planes_of, in_plane, columns_of, rows_of}
use Rattle.ward_check.specs.declared.Run.{Run}
use Rattle.ward_check.specs.declared.Run.TheVariants.{Full, Preview}
use Rattle.ward_check.specs.declared.Window.{Window}
use Rattle.ward_check.proofs.Ladder.{inside}
use Rattle.ward_check.proofs.Sizes.{part_small, across_small}
use Rattle.ward.specs.RowCall.{Outcome, plane_of, row_ok, done, outcome}
use Rattle.ward.specs.Turns.{next_turn}
use Rattle.ward.specs.Whole.{Lent, Fine, asking, in_turn, samples_of, played, shown_plane, shown_planes, rows_up_to, row_count, Whole}
use Rattle.ward.specs.declared.Turn.{Turn}
use Rattle.ward.proofs.Ladder.{Asked, gone}
use Rattle.ward.proofs.Planes.{length_shown}
use Rattle.ward.proofs.Stores.{made_fine}
use Rattle.ward.proofs.Takes.{row_first, take_more, take_all}
use Rattle.ward.proofs.Turns.{same_plane, next_plane}

-- ---- rows

some_planes : (f : Format) → 0 < planes_of f
some_planes Grey = omega arith
some_planes Colour = omega arith

-- four luma rows are some rows of each plane, in both runs
some_rows : (run : Run) (k n : ℕ) → 4 ≤ n → 0 < across run (in_plane k n)
some_rows Full k n h = go (eqb k 0) where
  go : (t : Bool) → 0 < pick t n (n / 2)
  go true = omega arith
  go false = omega arith
some_rows Preview k n h = go (eqb k 0) where
  go : (t : Bool) → 0 < pick t n (n / 2) / 2
  go true = omega arith
  go false = omega arith

tall : (run : Run) (c : Window) (w h k : ℕ) → window_ok c w h ≡ true → 0 < rows_of run c k
unfolding window_ok
tall run c w h k e =
    let top = eqb-true (c.top % 4) 0 (all_at (window_tests c w h) 1 e) in
    let bottom = eqb-true (c.bottom % 4) 0 (all_at (window_tests c w h) 3 e) in
    let some = ltb-true c.top c.bottom (all_at (window_tests c w h) 6 e) in
    some_rows run k (c.bottom - c.top) (omega arith)

-- the rows of some planes are among those of more
rows_more : (l : Lent) (run : Run) (a d : ℕ) → rows_up_to l run a ≤ rows_up_to l run (d + a)
unfolding rows_up_to
rows_more l run a zero = rw zero-add (omega arith)
rows_more l run a (suc d) = rw suc-add (omega (arith, rows_more l run a d))

rows_le : (l : Lent) (run : Run) (a b : ℕ) → a ≤ b → rows_up_to l run a ≤ rows_up_to l run b
rows_le l run a b h =
    let e : b - a + a ≡ b = omega arith in
    subst (λ (k : ℕ). rows_up_to l run a ≤ rows_up_to l run k) e (rows_more l run a (b - a))

module _ (l : Lent) (fine : Fine l) (run : Run) where
  abbrev turn_at : (a b : ℕ) → Turn
  turn_at a b = record { run = run; plane = a; row = b }

  -- ---- a row whose turn it is

  small : (a : ℕ) (k : ℕ) → get_or (plane_of a l.y l.u l.v) k 0 ≤ 1023
  small a k = go (eqb a 0) (eqb a 1) where
    go : (t s : Bool) → get_or (pick t l.y (pick s l.u l.v)) k 0 ≤ 1023
    go true s = sample_any l.y k fine.y_small
    go false true = sample_any l.u k fine.u_small
    go false false = sample_any l.v k fine.v_small

  lengths : (out : List ℕ) → length out ≡ l.w → lengths_ok l.format l.w l.h (length l.y) (length l.u) (length l.v) (length out) ≡ true
  unfolding lengths_ok
  lengths out e =
      rw (eq-eqb _ _ fine.y_long, eq-eqb _ _ fine.u_long, eq-eqb _ _ fine.v_long, eq-eqb _ _ e)

  module _ (a b : ℕ) (ha : a < planes_of l.format) (hb : b < rows_of run l.window a) (out : List ℕ) (e : length out ≡ l.w) where
    passed : Asked (turn_at a b) a b l.format l.w l.h (length l.y) (length l.u) (length l.v) l.window (length out)
    unfolding checks.turn_ok
    passed =
        record {
          size = fine.size;
          lengths = lengths out e;
          window = fine.window;
          turn = rw (eq-eqb a a refl, eq-eqb b b refl, lt-ltb a _ ha, lt-ltb b _ hb);
        }

    row_given : outcome (in_turn l (turn_at a b) out) ≡ done (turn_at a b) l.w l.window (plane_of a l.y l.u l.v) out
    unfolding outcome
    row_given =
        let p = plane_of a l.y l.u l.v in
        let ok : row_ok (turn_at a b) l.w l.window p ≡ true = made_fine p (small a) run _ _ _ _ b in
        rw (gone _ _ _ _ _ _ _ _ _ _ _ passed (unless (row_ok (turn_at a b) l.w l.window p) (Err Sample) (Ok tt)), ok)

    room : columns_of run l.window a ≤ length out
    room =
        let i = inside l.window l.w l.h fine.window in
        let n = l.window.right - l.window.left in
        omega (arith, i.columns, i.wide, across_small run (in_plane a n), part_small a n)

    -- its samples
    row_samples : samples_of (outcome (in_turn l (turn_at a b) out)) ≡ tabulate (columns_of run l.window a) (λ (j : ℕ). get_or (shown_plane l run a) (b * columns_of run l.window a + j) 0)
    row_samples = ap samples_of row_given ∙ row_first (columns_of run l.window a) _ out room

  -- ---- after k calls

  -- how far the run is: row b of plane a comes next, or none
  data Place (a b : ℕ) : Type 0 where
    within : a < planes_of l.format → b < rows_of run l.window a → Place a b
    ended : a ≡ planes_of l.format → b ≡ 0 → Place a b

  module _ (outs : ℕ → List ℕ) (buffers : (k : ℕ) → length (outs k) ≡ l.w) where
    record At (k : ℕ) : Type 0 where
      a : ℕ
      b : ℕ
      turn : (played l run outs k).turn ≡ turn_at a b
      got : (played l run outs k).got ≡ shown_planes l run a ++ take (b * columns_of run l.window a) (shown_plane l run a)
      rank : rows_up_to l run a + b ≡ k
      place : Place a b

    none : (n : ℕ) (p : List ℕ) → take (0 * n) p ≡ []
    none n p = rw (zero-mul n)

    start : At 0
    unfolding played shown_planes rows_up_to
    start =
        record {
          a = 0;
          b = 0;
          turn = refl;
          got = sym (none (columns_of run l.window 0) (shown_plane l run 0));
          rank = refl;
          place = within (some_planes l.format) (tall run l.window l.w l.h 0 fine.window);
        }

    -- a call in turn: the turn that it hands back, and what came out with it
    module _ (k a b : ℕ) (ha : a < planes_of l.format) (hb : b < rows_of run l.window a) (turn : (played l run outs k).turn ≡ turn_at a b)
        (got : (played l run outs k).got ≡ shown_planes l run a ++ take (b * columns_of run l.window a) (shown_plane l run a)) where
      called : outcome (in_turn l (played l run outs k).turn (outs k)) ≡ outcome (in_turn l (turn_at a b) (outs k))
      called = ap (λ (t : Turn). outcome (in_turn l t (outs k))) turn

      turned : (played l run outs (suc k)).turn ≡ next_turn l.window (turn_at a b)
      unfolding played
      turned = ap (λ (o : Outcome). o.reading.turn) (called ∙ row_given a b ha hb (outs k) (buffers k))

      long : length (shown_plane l run a) ≡ rows_of run l.window a * columns_of run l.window a
      long = length_shown run _ _ _ _ _ (plane_of a l.y l.u l.v)

      -- a row more of the plane
      more : (played l run outs (suc k)).got ≡ shown_planes l run a ++ take ((b + 1) * columns_of run l.window a) (shown_plane l run a)
      unfolding played
      more =
          let n = columns_of run l.window a in
          let s = shown_plane l run a in
          let fits : b * n + n ≤ length s = row_below b n (rows_of run l.window a) (length s) hb (omega (arith, long)) in
          ap₂ (λ (x y : List ℕ). x ++ y) got (ap samples_of called ∙ row_samples a b ha hb (outs k) (buffers k))
          ∙ append_assoc (shown_planes l run a) (take (b * n) s) _
          ∙ ap (λ (x : List ℕ). shown_planes l run a ++ x) (take_more s (b * n) n fits ∙ ap (λ (z : ℕ). take z s) (sym (next_row b n)))

    step : (k : ℕ) → k < row_count l run → At k → At (suc k)
    unfolding shown_planes rows_up_to
    step k h at = go at.place where
      rest : (a : ℕ) → Dec (a < planes_of l.format) → a ≤ planes_of l.format → Place a 0
      rest a (yes p) q = within p (tall run l.window l.w l.h a fine.window)
      rest a (no p) q = ended (omega arith) refl

      next : at.a < planes_of l.format → at.b < rows_of run l.window at.a → Dec (at.b + 1 < rows_of run l.window at.a) → At (suc k)
      next ha hb (yes p) =
          record {
            a = at.a;
            b = at.b + 1;
            turn = turned k at.a at.b ha hb at.turn at.got ∙ sym (same_plane l.window (turn_at at.a at.b) _ refl p);
            got = more k at.a at.b ha hb at.turn at.got;
            rank = omega (arith, at.rank);
            place = within ha p;
          }
      next ha hb (no p) =
          let a = at.a in
          let s = shown_plane l run a in
          let full : at.b + 1 ≡ rows_of run l.window a = omega arith in
          let rows : (at.b + 1) * columns_of run l.window a ≡ rows_of run l.window a * columns_of run l.window a = ap (λ (z : ℕ). z * columns_of run l.window a) full in
          let all = take_all s ((at.b + 1) * columns_of run l.window a) (omega (arith, rows, long k a at.b ha hb at.turn at.got)) in
          record {
            a = suc a;
            b = 0;
            turn =
                turned k a at.b ha hb at.turn at.got ∙ sym (next_plane l.window (turn_at a at.b) _ refl (omega arith))
                ∙ ap (λ (z : ℕ). turn_at z 0) (add-one a);
            got =
                more k a at.b ha hb at.turn at.got ∙ ap (λ (x : List ℕ). shown_planes l run a ++ x) all
                ∙ sym (ap (λ (x : List ℕ). shown_planes l run (suc a) ++ x) (none (columns_of run l.window (suc a)) (shown_plane l run (suc a))) ∙ append-nil (shown_planes l run (suc a)));
            rank = omega (arith, at.rank, full);
            place = rest (suc a) (dec_lt (suc a) (planes_of l.format)) ha;
          }

      go : Place at.a at.b → At (suc k)
      go (within ha hb) = next ha hb (dec_lt (at.b + 1) (rows_of run l.window at.a))
      go (ended ea eb) = absurd (let r = at.rank in let s = ap (rows_up_to l run) ea in omega arith)

    steps : (k : ℕ) → k ≤ row_count l run → At k
    steps zero h = start
    steps (suc k) h = step k (omega arith) (steps k (omega arith))

    -- ---- what they come to

    given_number : (k : ℕ) → k < row_count l run → At k → (outcome (in_turn l (played l run outs k).turn (outs k))).reading.number ≡ 0
    given_number k h at = go at.place where
      go : Place at.a at.b → (outcome (in_turn l (played l run outs k).turn (outs k))).reading.number ≡ 0
      go (within ha hb) =
          ap (λ (o : Outcome). o.reading.number) (called k at.a at.b ha hb at.turn at.got ∙ row_given at.a at.b ha hb (outs k) (buffers k))
      go (ended ea eb) = absurd (let r = at.rank in let s = ap (rows_up_to l run) ea in omega arith)

    -- after the last row the run is ended
    last : (at : At (row_count l run)) → Place at.a at.b → (at.a ≡ planes_of l.format) × (at.b ≡ 0)
    unfolding rows_up_to
    last at (within ha hb) = absurd (let r = at.rank in omega (arith, rows_le l run (suc at.a) (planes_of l.format) ha))
    last at (ended ea eb) = (ea, eb)

    late : (t : Turn) (plane row : ℕ) (out : List ℕ) → length out ≡ l.w → planes_of l.format ≤ t.plane → (outcome (asking l t plane row out)).reading.number ≡ 22
    unfolding outcome checks.asked checks.turn_ok
    late t plane row out e h =
        let tests = eqb plane t.plane ∷ eqb row t.row ∷ ltb t.plane (planes_of l.format) ∷ ltb t.row (rows_of t.run l.window t.plane) ∷ [] in
        rw (fine.size, lengths out e, fine.window, all_fails tests 2 (le-ltb _ _ h))

    pub whole : Whole l run outs
    whole =
        let at = steps (row_count l run) (omega arith) in
        let e = last at at.place in
        record {
          given = λ k h. given_number k h (steps k (omega arith));
          planes =
              at.got
              ∙ ap₂ (λ (a b : ℕ). shown_planes l run a ++ take (b * columns_of run l.window a) (shown_plane l run a)) e.0 e.1
              ∙ ap (λ (x : List ℕ). shown_planes l run (planes_of l.format) ++ x) (none (columns_of run l.window (planes_of l.format)) (shown_plane l run (planes_of l.format)))
              ∙ append-nil _;
          over = λ plane row out f. late (played l run outs (row_count l run)).turn plane row out f (omega (arith, ap (λ (t : Turn). t.plane) at.turn, e.0));
        }
