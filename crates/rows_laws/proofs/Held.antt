-- Maps of edge rows, filled and edited: `kept`.
-- Assumes nothing.
use Rattle.std.specs.Prelude.{Ok, Err}
use Prim.Native.Nat.{ℕ, ◌+◌, ◌-◌, ◌*◌, ◌/◌, ◌%◌, ◌≤◌, ◌<◌}
use mathlib.Core.Path.{◌≡◌, refl, sym, ap, ◌∙◌, subst}
use mathlib.Core.Bool.{Bool, true, false, ◌&&◌, ◌||◌}
use mathlib.Core.List.{List, [], ◌∷◌}
use native.Mathlib.Nat.{add-zero}
use native.Mathlib.Decide.{dec_lt}
use native.Mathlib.Omega.{arith}
use borrow.Author.Tests.{eqb-true, eqb-false, ltb-true}
use lib.Dec.{eqb}
use lib.IntN.{ℤ, pos}
use lib.ListN.{length, get_or, set, get_or-eq_default}
use lib.Seq.{get_or-set_other}
use Rattle.laws.specs.Bits.{field_of, with_field}
use Rattle.laws.specs.Index.{pick, tabulate}
use Rattle.laws.specs.Orders.{run}
use Rattle.laws.proofs.Bits.{field_same, field_above, field_below}
use Rattle.laws.proofs.Tabulate.{length_tabulate, get_d_tabulate, is_tabulate}
use Rattle.def.specs.Answers.{after_checks}
use Rattle.def.specs.Picture.{unit_count}
use Rattle.def.specs.Answers.{Answer}
use Rattle.def.proofs.Answers.{number_some}
use Rattle.line.specs.declared.Motion.{Motion}
use Rattle.line.specs.Row.{row_of}
use Rattle.split.specs.Edges.{Pass, vertical, horizontal}
use Rattle.df_rules.specs.Places.{step_across}
use Rattle.df_rules.specs.Strength.{motion_at, row_by}
use Rattle.rows_rules.specs.FillCall as fill
use Rattle.unit_edits.specs.FlagCall as flag
use Rattle.rows_laws.specs.Held.{Held, Right, fill_of, Edit, moves, flags, edit_place, motion_input, flag_input, number_of, after, Near, itself, right, lower, Sets, Kept}
use Rattle.rows_rules.specs.MotionCall as move
use Rattle.rows_rules.specs.Rule.{has_side, first_bit, edge_row, rule_byte, RightMap, edge_of, edited_byte, edited_map}
use Rattle.rows_rules.proofs.Sides.{before, byte_of, edge_few}

-- ---- an edit of any map, by the maps that it leaves

module _ (words : List ℕ) (motion refs : List ℤ) (c a : ℕ) where
  abbrev row : Pass → ℕ → ℕ
  row d k = edge_row words motion refs c d k

  row_small : (d : Pass) (k : ℕ) → row d k < 4
  row_small d k = omega (arith, edge_few words motion refs c d k)

  length_edited : (rows : List ℕ) → length (edited_map words motion refs c a rows) ≡ length rows
  unfolding edited_map
  length_edited rows = length_tabulate _ (length rows)

  edited_at : (rows : List ℕ) (k : ℕ) → k < length rows → get_or (edited_map words motion refs c a rows) k 0 ≡ edited_byte words motion refs c a k (get_or rows k 0)
  unfolding edited_map
  edited_at rows k l = get_d_tabulate _ (length rows) k 0 l

  -- a byte's left row, its top row and what lies above, after one of them is set
  module _ (v t : Bool) (l r b : ℕ) (few : l < 4) (less : r < 4) where
    left_set : ℕ
    left_set = pick v (with_field 0 2 l b) b

    left_read : field_of 0 2 (pick t (with_field 2 2 r left_set) left_set) ≡ pick v l (field_of 0 2 b)
    unfolding left_set
    left_read = outer t ∙ inner v where
      outer : (s : Bool) → field_of 0 2 (pick s (with_field 2 2 r left_set) left_set) ≡ field_of 0 2 left_set
      outer true = field_below 2 2 r left_set 0 2 (omega arith)
      outer false = refl

      inner : (s : Bool) → field_of 0 2 (pick s (with_field 0 2 l b) b) ≡ pick s l (field_of 0 2 b)
      inner true = field_same 0 2 l b few
      inner false = refl

    -- a field past the left row
    past : (p n : ℕ) → 2 ≤ p → (s : Bool) → field_of p n (pick s (with_field 0 2 l b) b) ≡ field_of p n b
    past p n h true = field_above 0 2 l b p n few (omega arith)
    past p n h false = refl

    top_read : field_of 2 2 (pick t (with_field 2 2 r left_set) left_set) ≡ pick t r (field_of 2 2 b)
    unfolding left_set
    top_read = outer t where
      outer : (s : Bool) → field_of 2 2 (pick s (with_field 2 2 r left_set) left_set) ≡ pick s r (field_of 2 2 b)
      outer true = field_same 2 2 r left_set less
      outer false = past 2 2 (omega arith) v

    above_read : (p n : ℕ) → field_of (4 + p) n (pick t (with_field 2 2 r left_set) left_set) ≡ field_of (4 + p) n b
    unfolding left_set
    above_read p n = outer t ∙ past (4 + p) n (omega arith) v where
      outer : (s : Bool) → field_of (4 + p) n (pick s (with_field 2 2 r left_set) left_set) ≡ field_of (4 + p) n left_set
      outer true = field_above 2 2 r left_set (4 + p) n less (omega arith)
      outer false = refl

  rows_read : (d : Pass) (k b : ℕ) → field_of (first_bit d) 2 (edited_byte words motion refs c a k b) ≡ pick (edge_of d c a k) (row d k) (field_of (first_bit d) 2 b)
  unfolding left_set
  rows_read vertical k b = left_read (edge_of vertical c a k) (edge_of horizontal c a k) (row vertical k) (row horizontal k) b (row_small vertical k) (row_small horizontal k)
  rows_read horizontal k b = top_read (edge_of vertical c a k) (edge_of horizontal c a k) (row vertical k) (row horizontal k) b (row_small vertical k) (row_small horizontal k)

  high_read : (k b p n : ℕ) → field_of (4 + p) n (edited_byte words motion refs c a k b) ≡ field_of (4 + p) n b
  unfolding left_set
  high_read k b p n = above_read (edge_of vertical c a k) (edge_of horizontal c a k) (row vertical k) (row horizontal k) b (row_small vertical k) (row_small horizontal k) p n

  -- an edge of a is that of a, of its right neighbour or of its lower one
  edge_near : (d : Pass) (k : ℕ) → edge_of d c a k ≡ true → Near c a k
  edge_near d k e = go (eqb k a) refl e where
    behind : (d : Pass) (s : Bool) → has_side d c k ≡ s → (s && eqb (k - step_across d c) a) ≡ true → Near c a k
    behind vertical true f g = right (omega (arith, before vertical c k f, eqb-true (k - 1) a g)) (ltb-true 0 (k % c) f)
    behind horizontal true f g = lower (omega (arith, before horizontal c k f, eqb-true (k - c) a g))
    behind d false f g = absurd (let z : ◌≡◌ {A = ℕ} 0 1 = cc in omega arith)

    go : (s : Bool) → eqb k a ≡ s → (s || (has_side d c k && eqb (k - step_across d c) a)) ≡ true → Near c a k
    go true f g = itself (eqb-true k a f)
    go false f g = behind d (has_side d c k) refl g

  same_byte : (k b : ℕ) → (Near c a k → ⊥) → edited_byte words motion refs c a k b ≡ b
  same_byte k b n = rw (off vertical (edge_of vertical c a k) refl, off horizontal (edge_of horizontal c a k) refl) where
    off : (d : Pass) (s : Bool) → edge_of d c a k ≡ s → edge_of d c a k ≡ false
    off d true e = absurd (n (edge_near d k e))
    off d false e = e

  edited_other : (rows : List ℕ) (k : ℕ) → (Near c a k → ⊥) → get_or (edited_map words motion refs c a rows) k 0 ≡ get_or rows k 0
  edited_other rows k n = go (dec_lt k (length rows)) where
    go : Dec (k < length rows) → get_or (edited_map words motion refs c a rows) k 0 ≡ get_or rows k 0
    go (yes l) = edited_at rows k l ∙ same_byte k (get_or rows k 0) n
    go (no l) = get_or-eq_default (edited_map words motion refs c a rows) 0 (omega (arith, length_edited rows)) ∙ sym (get_or-eq_default rows 0 (omega arith))

-- ---- an edit of a right map. The maps after it are those before but for unit a

record But (a : ℕ) (words : List ℕ) (motion refs : List ℤ) (words' : List ℕ) (motion' refs' : List ℤ) : Type 0 where
  word : (k : ℕ) → (k ≡ a → ⊥) → get_or words' k 0 ≡ get_or words k 0
  moved : (k : ℕ) → (k ≡ a → ⊥) → motion_at motion' refs' k ≡ motion_at motion refs k

-- a byte of the rule with another left row, or another top row
left_again : (l t m : ℕ) → l ≤ 3 → with_field 0 2 m (4 * t + l) ≡ 4 * t + m
unfolding with_field
left_again l t m p = omega arith

top_again : (l t m : ℕ) → l ≤ 3 → t ≤ 3 → with_field 2 2 m (4 * t + l) ≡ 4 * m + l
unfolding with_field
top_again l t m p q = omega arith

-- with new rows where they differ
fields : (l t l' t' : ℕ) (v h : Bool) → l ≤ 3 → t ≤ 3 → l' ≤ 3 → (v ≡ false → l' ≡ l) → (h ≡ false → t' ≡ t)
    → let b = with_field 2 2 t (with_field 0 2 l 0) in let x = pick v (with_field 0 2 l' b) b in pick h (with_field 2 2 t' x) x ≡ with_field 2 2 t' (with_field 0 2 l' 0)
fields l t l' t' true true p q r f g =
    ap (λ (z : ℕ). with_field 2 2 t' (with_field 0 2 l' z)) (sym (byte_of l t p)) ∙ ap (with_field 2 2 t') (left_again l t l' p) ∙ top_again l' t t' r q ∙ byte_of l' t' r
fields l t l' t' true false p q r f g =
    ap (with_field 0 2 l') (sym (byte_of l t p)) ∙ left_again l t l' p ∙ ap (λ (z : ℕ). 4 * z + l') (sym (g refl)) ∙ byte_of l' t' r
fields l t l' t' false true p q r f g =
    ap (with_field 2 2 t') (sym (byte_of l t p)) ∙ top_again l t t' p q ∙ ap (λ (z : ℕ). 4 * t' + z) (sym (f refl)) ∙ byte_of l' t' r
fields l t l' t' false false p q r f g =
    ap (λ (z : ℕ). with_field 2 2 z (with_field 0 2 l 0)) (sym (g refl)) ∙ ap (λ (z : ℕ). with_field 2 2 t' (with_field 0 2 z 0)) (sym (f refl))

module _ {a : ℕ} {words : List ℕ} {motion refs : List ℤ} {words' : List ℕ} {motion' refs' : List ℤ} (but : But a words motion refs words' motion' refs') (c : ℕ) where
  same_row : (q p : ℕ) → (q ≡ a → ⊥) → (p ≡ a → ⊥) → row_by words' motion' refs' q p ≡ row_by words motion refs q p
  unfolding row_by
  same_row q p m n = λ i. row_of (but.word q m i) (but.word p n i) (but.moved q m i) (but.moved p n i)

  same_edge_lem : (d : Pass) (k : ℕ) → edge_of d c a k ≡ false → edge_row words' motion' refs' c d k ≡ edge_row words motion refs c d k
  unfolding edge_row
  same_edge_lem d k e = go (has_side d c k) refl where
    not_a : (s : Bool) → eqb k a ≡ s → (s || (has_side d c k && eqb (k - step_across d c) a)) ≡ false → k ≡ a → ⊥
    not_a true f g h = let z : ◌≡◌ {A = ℕ} 0 1 = cc in omega arith
    not_a false f g h = eqb-false k a f h

    not_p : (s : Bool) → eqb k a ≡ s → (s || (true && eqb (k - step_across d c) a)) ≡ false → k - step_across d c ≡ a → ⊥
    not_p true f g h = let z : ◌≡◌ {A = ℕ} 0 1 = cc in omega arith
    not_p false f g h = eqb-false (k - step_across d c) a g h

    go : (s : Bool) → has_side d c k ≡ s → pick s (row_by words' motion' refs' k (k - step_across d c)) 0 ≡ pick s (row_by words motion refs k (k - step_across d c)) 0
    go true f =
        let g : (eqb k a || (true && eqb (k - step_across d c) a)) ≡ false = subst (λ (s : Bool). (eqb k a || (s && eqb (k - step_across d c) a)) ≡ false) f e in
        same_row k (k - step_across d c) (not_a (eqb k a) refl e) (not_p (eqb k a) refl g)
    go false f = refl

  ruled : (k : ℕ) → edited_byte words' motion' refs' c a k (rule_byte words motion refs c k) ≡ rule_byte words' motion' refs' c k
  unfolding rule_byte
  ruled k =
      fields (edge_row words motion refs c vertical k) (edge_row words motion refs c horizontal k) (edge_row words' motion' refs' c vertical k) (edge_row words' motion' refs' c horizontal k)
      (edge_of vertical c a k) (edge_of horizontal c a k)
      (edge_few words motion refs c vertical k) (edge_few words motion refs c horizontal k) (edge_few words' motion' refs' c vertical k)
      (same_edge_lem vertical k) (same_edge_lem horizontal k)

stays_right : (w h : ℕ) {a : ℕ} {words : List ℕ} {motion refs : List ℤ} {words' : List ℕ} {motion' refs' : List ℤ} (rows : List ℕ) → But a words motion refs words' motion' refs'
    → RightMap w h words motion refs rows → RightMap w h words' motion' refs' (edited_map words' motion' refs' (w / 4) a rows)
stays_right w h {a} {words} {motion} {refs} {words'} {motion'} {refs'} rows but g =
    record {
      long = length_edited words' motion' refs' (w / 4) a rows ∙ g.long;
      right = λ k l.
          edited_at words' motion' refs' (w / 4) a rows k (omega (arith, g.long)) ∙ ap (edited_byte words' motion' refs' (w / 4) a k) (g.right k l) ∙ ruled but (w / 4) k;
    }

-- ---- what the two edits leave of the maps

module _ (a : ℕ) (m : Motion) (words : List ℕ) (l r : List ℤ) where
  other_motion : (k i : ℕ) → (k ≡ a → ⊥) → i < 4 → get_or (move.with_motion a m l) (4 * k + i) (pos 0) ≡ get_or l (4 * k + i) (pos 0)
  other_motion k i n f =
      let l₁ = set l (4 * a) m.x0 in
      let l₂ = set l₁ (4 * a + 1) m.y0 in
      let l₃ = set l₂ (4 * a + 2) m.x1 in
      get_or-set_other l₃ (4 * a + 3) (4 * k + i) m.y1 (pos 0) (λ e. n (omega arith))
      ∙ get_or-set_other l₂ (4 * a + 2) (4 * k + i) m.x1 (pos 0) (λ e. n (omega arith))
      ∙ get_or-set_other l₁ (4 * a + 1) (4 * k + i) m.y0 (pos 0) (λ e. n (omega arith))
      ∙ get_or-set_other l (4 * a) (4 * k + i) m.x0 (pos 0) (λ e. n (omega arith))

  other_refs : (k i : ℕ) → (k ≡ a → ⊥) → i < 2 → get_or (move.with_refs a m r) (2 * k + i) (pos 0) ≡ get_or r (2 * k + i) (pos 0)
  other_refs k i n f =
      get_or-set_other (set r (2 * a) m.refi0) (2 * a + 1) (2 * k + i) m.refi1 (pos 0) (λ e. n (omega arith))
      ∙ get_or-set_other r (2 * a) (2 * k + i) m.refi0 (pos 0) (λ e. n (omega arith))

  but_moved : But a words l r words (move.with_motion a m l) (move.with_refs a m r)
  but_moved =
      record {
        word = λ k n. refl;
        moved = λ k n i.
            record {
              refi0 = rw (add-zero (2 * k)) at (other_refs k 0 n (omega arith)) i;
              refi1 = other_refs k 1 n (omega arith) i;
              x0 = rw (add-zero (4 * k)) at (other_motion k 0 n (omega arith)) i;
              y0 = other_motion k 1 n (omega arith) i;
              x1 = other_motion k 2 n (omega arith) i;
              y1 = other_motion k 3 n (omega arith) i;
            };
      }

but_flagged : (a word : ℕ) (words : List ℕ) (l r : List ℤ) → But a words l r (set words a word) l r
but_flagged a word words l r = record { word = λ k n. get_or-set_other words a k word 0 n; moved = λ k n. refl }

-- ---- the calls

edit_right : (w h : ℕ) (e : Edit) (s : Held) → Right w h s → Right w h (after w h e s)
unfolding move.outcome flag.outcome
edit_right w h (moves x y m) s g = go (move.check (motion_input w h s x y m)) where
  go : (k : Answer) → let o = after_checks (move.refused (motion_input w h s x y m)) (move.done (motion_input w h s x y m)) k in
      Right w h (record { words = s.words; motion = o.motion; refs = o.refs; rows = o.rows })
  go (Err r) = g
  go (Ok _) = stays_right w h s.rows (but_moved (y * (w / 4) + x) m s.words s.motion s.refs) g
edit_right w h (flags x y f on) s g = go (flag.check (flag_input w h s x y f on)) where
  go : (k : Answer) → let o = after_checks (flag.refused (flag_input w h s x y f on)) (flag.done (flag_input w h s x y f on)) k in
      Right w h (record { words = o.words; motion = s.motion; refs = s.refs; rows = o.rows })
  go (Err r) = g
  go (Ok _) = stays_right w h s.rows (but_flagged (y * (w / 4) + x) _ s.words s.motion s.refs) g

edits_right : (w h : ℕ) (es : List Edit) (s : Held) → Right w h s → Right w h (run (after w h) es s)
unfolding run
edits_right w h [] s g = g
edits_right w h (e ∷ es) s g = edits_right w h es (after w h e s) (edit_right w h e s g)

set_by : (c a : ℕ) (s : Held) (words : List ℕ) (motion refs : List ℤ) → Sets c a s (record { words = words; motion = motion; refs = refs; rows = edited_map words motion refs c a s.rows })
set_by c a s words motion refs =
    record {
      long = length_edited words motion refs c a s.rows;
      rows = λ d k l. ap (field_of (first_bit d) 2) (edited_at words motion refs c a s.rows k l) ∙ rows_read words motion refs c a d k (get_or s.rows k 0);
      above = λ p n k l. ap (field_of (4 + p) n) (edited_at words motion refs c a s.rows k l) ∙ high_read words motion refs c a k (get_or s.rows k 0) p n;
      others = λ k n. edited_other words motion refs c a s.rows k n;
    }

edit_sets : (w h : ℕ) (e : Edit) (s : Held) → number_of w h e s ≡ 0 → Sets (w / 4) (edit_place w e) s (after w h e s)
unfolding move.outcome flag.outcome
edit_sets w h (moves x y m) s z = go (move.check (motion_input w h s x y m)) z where
  go : (k : Answer) → let o = after_checks (move.refused (motion_input w h s x y m)) (move.done (motion_input w h s x y m)) k in
      o.number ≡ 0 → Sets (w / 4) (y * (w / 4) + x) s (record { words = s.words; motion = o.motion; refs = o.refs; rows = o.rows })
  go (Err r) z = absurd (omega (arith, number_some r))
  go (Ok _) z = set_by (w / 4) (y * (w / 4) + x) s _ _ _
edit_sets w h (flags x y f on) s z = go (flag.check (flag_input w h s x y f on)) z where
  go : (k : Answer) → let o = after_checks (flag.refused (flag_input w h s x y f on)) (flag.done (flag_input w h s x y f on)) k in
      o.number ≡ 0 → Sets (w / 4) (y * (w / 4) + x) s (record { words = o.words; motion = s.motion; refs = s.refs; rows = o.rows })
  go (Err r) z = absurd (omega (arith, number_some r))
  go (Ok _) z = set_by (w / 4) (y * (w / 4) + x) s _ _ _

abbrev fill_input : (w h : ℕ) → Held → fill.Input
fill_input w h s = record { w = w; h = h; words = s.words; motion = s.motion; refs = s.refs; rows = s.rows }

filled : (w h : ℕ) (s : Held) → (fill_of w h s).number ≡ 0 → (fill_of w h s).rows ≡ tabulate (unit_count w h) (rule_byte s.words s.motion s.refs (w / 4))
unfolding fill.outcome
filled w h s z = go (fill.check (fill_input w h s)) z where
  go : (k : Answer) → let o = after_checks (fill.refused (fill_input w h s)) (fill.done (fill_input w h s)) k in
      o.number ≡ 0 → o.rows ≡ tabulate (unit_count w h) (rule_byte s.words s.motion s.refs (w / 4))
  go (Err r) z = absurd (omega (arith, number_some r))
  go (Ok _) z = refl

pub kept : (w h : ℕ) → Kept w h
kept w h =
    record {
      fills = λ s z.
          let e = filled w h s z in
          record { long = ap length e ∙ length_tabulate _ (unit_count w h); right = λ k l. ap (λ (v : List ℕ). get_or v k 0) e ∙ get_d_tabulate _ (unit_count w h) k 0 l };
      one = λ s z g. is_tabulate _ (unit_count w h) s.rows 0 g.long g.right ∙ sym (filled w h s z);
      stays = edits_right w h;
      sets = edit_sets w h;
    }
