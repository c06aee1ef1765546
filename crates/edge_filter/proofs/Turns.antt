-- Turns over a list of edges, and how many it has.
--     edge_bare, edge_kept    an edge by its marks
--     none_done    before the first turn
--     turn_quiet, turn_edge, turn_pair    a turn that leaves an edge, that filters one, and that filters two at once
--     pair_none, pair_tried    two edges that are not tried at once, and that are; pair_left    those that were not filtered
--     count-wide, .. , count-unlike    how many edges are filtered
-- Assumes nothing.
use Prim.Native.Nat.{ℕ, ◌+◌, ◌*◌, ◌≤◌, ◌<◌, min}
use mathlib.Core.Bool.{Bool, true, false, not, ◌||◌}
use mathlib.Core.List.{List}
use mathlib.Core.Path.{◌≡◌, refl, sym, ap, ◌∙◌, subst}
use native.Mathlib.Decide.{dec_lt}
use native.Mathlib.Numerals.{add-one}
use native.Mathlib.Omega.{arith}
use borrow.Author.Tests.{eq-eqb, ne_eqb, le-leb, lt-leb}
use lib.ListN.{length, get_or}
use Rattle.laws.specs.Index.{pick}
use Rattle.def.specs.Components.{unit_side}
use Rattle.def.specs.declared.Component.{Component}
use Rattle.def.specs.declared.Component.TheVariants.{Luma, Chroma}
use Rattle.def.specs.declared.Format.{Format}
use Rattle.def.specs.declared.Format.TheVariants.{Grey, Colour}
use Rattle.line.specs.declared.Mask.{Mask}
use Rattle.line.specs.Line.{mask_of}
use Rattle.split.specs.Edges.{Pass}
use Rattle.window.specs.declared.Place.{Place}
use Rattle.window.specs.Lines.{lines_of}
use Rattle.window.specs.Window.{inside, lies, lies_apart, twice, window_of}
use Rattle.window.proofs.Rows.{lines_long}
use Rattle.window.proofs.Windows.{two_lines}
use Rattle.edge_filter.specs.Edges.{along_in, place_from}
use Rattle.edge_filter.specs.Filter.{mask_by, strength_in, edge_of, filter_by, count_luma, count_chroma}
use Rattle.edge_filter.specs.Turns.{Follows, Two, Paired, Turned}
use Rattle.edge_filter.proofs.Places.{lines_apart, next_place}

-- ---- one edge, by its marks

module _ (c : Component) (k st : ℕ) (p : Place) (xs : List ℕ) where
  pub edge_bare : (long : ℕ) (ys : List ℕ) → k ≡ 0 → long ≡ length xs
      → ys ≡ window_of (lies p (unit_side c) long) (mask_of c false false) (λ j. st) p (unit_side c) xs → ys ≡ edge_of c k st p xs
  unfolding edge_of
  edge_bare long ys e l w = rw e (w ∙ ap (λ (n : ℕ). window_of (lies p (unit_side c) n) (mask_of c false false) (λ j. st) p (unit_side c) xs) l)

  pub edge_kept : (m : Mask) (ys : List ℕ) → (k ≡ 0 → ⊥) → m ≡ mask_by c k
      → ys ≡ window_of (inside p (unit_side c) (length xs)) m (λ j. st) p (unit_side c) xs → ys ≡ edge_of c k st p xs
  unfolding edge_of
  edge_kept m ys e f w = rw (ne_eqb k 0 e) (w ∙ ap (λ (n : Mask). window_of (inside p (unit_side c) (length xs)) n (λ j. st) p (unit_side c) xs) f)

-- ---- two at once

module _ (c : Component) where
  bare_lines : (st : ℕ) (p : Place) (xs : List ℕ) → lies p (unit_side c) (length xs) ≡ true
      → edge_of c 0 st p xs ≡ lines_of (mask_of c false false) (λ j. st) p.step p.next p.at (unit_side c) xs
  unfolding edge_of window_of
  bare_lines st p xs t = rw t refl

  lines_as_long : (st : ℕ → ℕ) (p : Place) (n : ℕ) (xs : List ℕ) → length (lines_of (mask_of c false false) st p.step p.next p.at n xs) ≡ length xs
  unfolding lines_of
  lines_as_long st p n xs = lines_long (mask_of c false false) _ p.step p.next p.at n xs

  whole : (r : Bool) (st : ℕ → ℕ) (p : Place) (n : ℕ) (xs : List ℕ) → r ≡ true
      → window_of r (mask_of c false false) st p n xs ≡ lines_of (mask_of c false false) st p.step p.next p.at n xs
  unfolding window_of
  whole r st p n xs t = rw t refl

  -- q: the second's place
  edge_two : (s₀ s₁ : ℕ) (p q : Place) (r : Bool) (xs ys : List ℕ) → Two p (unit_side c) (length xs) → q ≡ record { at = p.at + unit_side c * p.next; step = p.step; next = p.next }
      → r ≡ true → ys ≡ window_of r (mask_of c false false) (twice (unit_side c) s₀ s₁) p (unit_side c + unit_side c) xs
      → ys ≡ edge_of c 0 s₁ q (edge_of c 0 s₀ p xs)
  edge_two s₀ s₁ p q r xs ys g e u w =
      let n = unit_side c in
      let m = mask_of c false false in
      let zs = lines_of m (λ (j : ℕ). s₀) p.step p.next p.at n xs in
      let o : Place = record { at = p.at + n * p.next; step = p.step; next = p.next } in
      let t : lies o n (length zs) ≡ true = ap (lies o n) (lines_as_long (λ (j : ℕ). s₀) p n xs) ∙ g.second in
      w ∙ whole r (twice n s₀ s₁) p (n + n) xs u
      ∙ two_lines m s₀ s₁ p.step p.next p.at n xs g.apart
      ∙ sym (bare_lines s₁ o zs t)
      ∙ sym (λ k. edge_of c 0 s₁ (e k) (bare_lines s₀ p xs g.first k))

-- ---- and tried at once

never : false ≡ true → ⊥
never t = omega (arith, ap {B = ℕ} (λ (b : Bool). pick b 1 0) t)

pub neither_not : (a b : Bool) → (not a || not b) ≡ false → (a ≡ true) × (b ≡ true)
neither_not true true e = (refl, refl)
neither_not true false e = (refl, sym e)
neither_not false b e = (sym e, cc)

side_some : (c : Component) → 1 ≤ unit_side c
side_some Luma = omega arith
side_some Chroma = omega arith

module _ (c : Component) (d : Pass) (l marks : List ℕ) (i j : ℕ) (p : Place) (s₀ s₁ : ℕ) (xs : List ℕ) where
  pub pair_none : (loud : Bool) → Paired loud c d l marks i j p s₀ s₁ false xs xs
  unfolding window_of
  pair_none loud = record { heard = λ t. cc; next = λ t. absurd (never t); two = λ t. absurd (never t); lines = refl }

  pub pair_tried : (loud : Bool) → loud ≡ true → Follows d l marks i j → (long : ℕ) → long ≡ length xs → (r : Bool) → r ≡ lies_apart p (unit_side c + unit_side c) long
      → (ys : List ℕ) → ys ≡ window_of r (mask_of c false false) (twice (unit_side c) s₀ s₁) p (unit_side c + unit_side c) xs
      → Paired loud c d l marks i j p s₀ s₁ r xs ys
  pair_tried loud h g long z r e ys w = record {
    heard = λ t. h;
    next = λ t. g;
    two = λ t. lines_apart p (unit_side c) (length xs) (side_some c) (ap (lies_apart p (unit_side c + unit_side c)) (sym z) ∙ sym e ∙ t);
    lines = w;
  }

-- where they were not filtered the plane is as it was, and edge i follows alone
pub pair_left : {loud : Bool} {c : Component} {d : Pass} {l marks : List ℕ} {i j s₀ s₁ : ℕ} {p : Place} {r : Bool} {xs ys : List ℕ}
    → r ≡ false → Paired loud c d l marks i j p s₀ s₁ r xs ys → ys ≡ xs
unfolding window_of
pair_left e z = z.lines ∙ rw e refl

-- ---- turns

module _ (quiet : ℕ → Bool) (t : List ℕ) (first : ℕ) (c : Component) (d : Pass) (w : ℕ) (l places marks : List ℕ) where
  abbrev by : ℕ → List ℕ → List ℕ
  by n zs = filter_by quiet t first c d w l places marks n zs

  -- edge i alone
  abbrev own : ℕ → List ℕ → List ℕ
  own i xs = edge_of c (get_or marks i 0) (strength_in t first places i) (place_from c d w l i) xs

  pub none_done : (zs : List ℕ) → zs ≡ by 0 zs
  unfolding filter_by
  none_done zs = refl

  left : (i : ℕ) (xs zs : List ℕ) → quiet i ≡ true → xs ≡ by i zs → xs ≡ by (i + 1) zs
  unfolding filter_by
  left i xs zs q e = rw (add-one i, q) e

  more : (i : ℕ) (xs ys zs : List ℕ) → quiet i ≡ false → ys ≡ own i xs → xs ≡ by i zs → ys ≡ by (i + 1) zs
  unfolding filter_by
  more i xs ys zs q f e = rw (add-one i, q) (f ∙ ap (own i) e)

  pub turn_quiet : (n i : ℕ) (xs : List ℕ) → i < n → quiet i ≡ true → Turned quiet t first c d w l places marks n i (i + 1) xs xs
  turn_quiet n i xs h q = record { on = omega arith; within = omega arith; done = λ zs e. left i xs zs q e }

  pub turn_edge : (n i st : ℕ) (p : Place) (xs ys : List ℕ) → i < n → quiet i ≡ false → st ≡ strength_in t first places i → p ≡ place_from c d w l i
      → ys ≡ edge_of c (get_or marks i 0) st p xs → Turned quiet t first c d w l places marks n i (i + 1) xs ys
  turn_edge n i st p xs ys h q e f s = record {
    on = omega arith;
    within = omega arith;
    done = λ zs. more i xs ys zs q (s ∙ (λ k. edge_of c (get_or marks i 0) (e k) (f k) xs));
  }

  pub turn_pair : (loud : Bool) (n i j s₀ s₁ : ℕ) (p : Place) (r : Bool) (xs ys : List ℕ) → i ≤ j → j ≤ i + 1 → j < n → quiet i ≡ false → (loud ≡ true → quiet j ≡ false)
      → s₀ ≡ strength_in t first places i → s₁ ≡ strength_in t first places j → p ≡ place_from c d w l i → r ≡ true → Paired loud c d l marks i j p s₀ s₁ r xs ys
      → Turned quiet t first c d w l places marks n i (j + 1) xs ys
  turn_pair loud n i j s₀ s₁ p r xs ys a b h q₀ q₁ e₀ e₁ f u z = go (dec_lt i j) where
    g : Follows d l marks i j
    g = z.next u

    next : place_from c d w l j ≡ record { at = p.at + unit_side c * p.next; step = p.step; next = p.next }
    next = next_place c d w l marks i j g ∙ sym (λ k. record { at = (f k).at + unit_side c * (f k).next; step = (f k).step; next = (f k).next })

    both : ys ≡ own j (own i xs)
    both = edge_two c s₀ s₁ p (place_from c d w l j) r xs ys (z.two u) next u z.lines
        ∙ (λ k. edge_of c (sym g.next_unmarked k) (e₁ k) (place_from c d w l j) (edge_of c (sym g.unmarked k) (e₀ k) (f k) xs))

    -- edge i does not follow itself
    never : j ≡ i → ⊥
    never y = let o : along_in d l i ≡ along_in d l i + 4 = subst (λ (k : ℕ). along_in d l k ≡ along_in d l i + 4) y g.along in omega arith

    go : Dec (i < j) → Turned quiet t first c d w l places marks n i (j + 1) xs ys
    go (yes m) =
        let y : j ≡ i + 1 = omega arith in
        record {
          on = omega arith;
          within = omega arith;
          done = λ zs e. more j (own i xs) ys zs (q₁ (z.heard u)) both (subst (λ (k : ℕ). own i xs ≡ by k zs) (sym y) (more i xs (own i xs) zs q₀ refl e));
        }
    go (no m) = absurd (never (omega arith))

-- ---- how many edges are filtered

pub count_wide : (w n : ℕ) → 1024 < w → 0 ≡ count_luma w n
unfolding count_luma
count_wide w n h = rw (lt-leb w 1024 h) refl

pub count_few : (w n r : ℕ) → w ≤ 1024 → r ≡ min n 256 → r ≡ count_luma w n
unfolding count_luma
count_few w n r h e = rw (le-leb w 1024 h) e

pub count_grey : (f : Format) (w n u v : ℕ) → f ≡ Grey → 0 ≡ count_chroma f w n u v
unfolding count_chroma
count_grey f w n u v e = rw e refl

pub count_colour : (f : Format) (w n u v r : ℕ) → f ≡ Colour → u ≡ v → r ≡ count_luma w n → r ≡ count_chroma f w n u v
unfolding count_chroma
count_colour f w n u v r e s c = rw (e, eq-eqb u v s) c

pub count_unlike : (f : Format) (w n u v : ℕ) → f ≡ Colour → (u ≡ v → ⊥) → 0 ≡ count_chroma f w n u v
unfolding count_chroma
count_unlike f w n u v e s = rw (e, ne_eqb u v s) refl
