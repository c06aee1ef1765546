-- The rows of a unit's four edges, set one after the other: together they are an edit of the map.
--     edge_of_lem    which edges are those of a unit, by its neighbours
--     four_edges    the code's four steps
-- Assumes nothing.
use Prim.Native.Nat.{ℕ, ◌+◌, ◌-◌, ◌*◌, ◌<◌}
use mathlib.Core.Path.{◌≡◌, refl, sym, ap, ◌∙◌, subst}
use mathlib.Core.Bool.{Bool, true, false, ◌&&◌, ◌||◌}
use mathlib.Core.List.{List}
use native.Mathlib.Omega.{arith}
use borrow.Author.Tests.{eqb-true, eqb-false, eq-eqb, ne_eqb, ltb-true, lt-ltb}
use lib.Dec.{eqb, ltb}
use lib.IntN.{ℤ}
use lib.ListN.{length, get_or, set, length-set}
use lib.Seq.{get_or-set_same, get_or-set_other}
use Rattle.laws.specs.Bits.{with_field}
use Rattle.laws.specs.Index.{pick}
use Rattle.laws.proofs.Bools.{and_false}
use Rattle.laws.proofs.Tabulate.{is_tabulate}
use Rattle.split.specs.Edges.{Pass, vertical, horizontal}
use Rattle.df_rules.specs.Places.{step_across}
use Rattle.rows_rules.specs.Inside.{UnitAt, edge_put}
use Rattle.rows_rules.specs.Rule.{has_side, first_bit, edge_row, edge_of, edited_byte, edited_map}
use Rattle.rows_rules.proofs.Sides.{before, right_in, right_side, lower_in, lower_side, lower_row, unit_in_map}

-- ---- a unit's edges, from the unit

-- k's unit on that side is a where k is the one after a
after_it : (d : Pass) (c a k : ℕ) → let s = step_across d c in (has_side d c k && eqb (k - s) a) ≡ (has_side d c (a + s) && eqb k (a + s))
after_it d c a k = go (eqb k (a + step_across d c)) refl where
  go : (b : Bool) → eqb k (a + step_across d c) ≡ b → (has_side d c k && eqb (k - step_across d c) a) ≡ (has_side d c (a + step_across d c) && b)
  go true e =
      let f : k ≡ a + step_across d c = eqb-true _ _ e in
      rw f (ap (λ (b : Bool). has_side d c (a + step_across d c) && b) (eq-eqb (a + step_across d c - step_across d c) a (omega arith)))
  go false e = side (has_side d c k) refl ∙ sym (and_false (has_side d c (a + step_across d c)) false refl) where
    side : (b : Bool) → has_side d c k ≡ b → (b && eqb (k - step_across d c) a) ≡ false
    side true g = ne_eqb (k - step_across d c) a (λ h. eqb-false k (a + step_across d c) e (omega (arith, before d c k g)))
    side false g = refl

module _ {c h n x y : ℕ} (u : UnitAt c h n x y) where
  abbrev a : ℕ
  a = y * c + x

  -- a neighbour is there, and is the unit k
  abbrev next : Pass → ℕ → Bool
  next vertical k = ltb (x + 1) c && eqb k (a + 1)
  next horizontal k = ltb (y + 1) h && eqb k (a + c)

  edge_of_lem : (d : Pass) (k : ℕ) → k < n → edge_of d c a k ≡ (eqb k a || next d k)
  edge_of_lem vertical k l = ap (λ (b : Bool). eqb k a || b) (after_it vertical c a k ∙ ap (λ (b : Bool). b && eqb k (a + 1)) (right_side u))
  edge_of_lem horizontal k l = ap (λ (b : Bool). eqb k a || b) (after_it horizontal c a k ∙ ap (λ (b : Bool). b && eqb k (a + c)) (lower_side u) ∙ inside (eqb k (a + c)) refl) where
    inside : (b : Bool) → eqb k (a + c) ≡ b → b ≡ (ltb (y + 1) h && b)
    inside true e = let f : k ≡ a + c = eqb-true _ _ e in sym (ap (λ (b : Bool). b && true) (lt-ltb (y + 1) h (lower_row u (subst (λ (j : ℕ). j < n) f l))))
    inside false e = sym (and_false (ltb (y + 1) h) false refl)

  apart : (d : Pass) (k : ℕ) → eqb k a ≡ true → next d k ≡ false
  apart vertical k e = and_false (ltb (x + 1) c) (eqb k (a + 1)) (ne_eqb k (a + 1) (λ f. (omega (arith, eqb-true k a e))))
  apart horizontal k e = and_false (ltb (y + 1) h) (eqb k (a + c)) (ne_eqb k (a + c) (λ f. (omega (arith, eqb-true k a e, u.column))))

-- ---- one step

-- f where the test holds
abbrev pub when : Bool → (ℕ → ℕ) → ℕ → ℕ
when t f b = pick t (f b) b

module _ (words : List ℕ) (motion refs : List ℤ) (c : ℕ) where
  -- a byte of unit j with its side's row
  abbrev ruled : Pass → ℕ → ℕ → ℕ
  ruled d j b = with_field (first_bit d) 2 (edge_row words motion refs c d j) b

  pub length_put : (d : Pass) (k : ℕ) (rows : List ℕ) → length (edge_put words motion refs c d k rows) ≡ length rows
  unfolding edge_put
  length_put d k rows = length-set rows k _

  put_at : (d : Pass) (k : ℕ) (rows : List ℕ) (j : ℕ) → k < length rows → get_or (edge_put words motion refs c d k rows) j 0 ≡ when (eqb j k) (ruled d j) (get_or rows j 0)
  unfolding edge_put
  put_at d k rows j l = go (eqb j k) refl where
    go : (b : Bool) → eqb j k ≡ b → get_or (set rows k (ruled d k (get_or rows k 0))) j 0 ≡ when b (ruled d j) (get_or rows j 0)
    go true e = let f : j ≡ k = eqb-true j k e in rw f (get_or-set_same rows k _ 0 l)
    go false e = get_or-set_other rows k j _ 0 (eqb-false j k e)

  -- the same, if at all
  abbrev pub put_if_lem : Bool → Pass → ℕ → List ℕ → List ℕ
  put_if_lem inside d k rows = pick inside (edge_put words motion refs c d k rows) rows

  length_if : (inside : Bool) (d : Pass) (k : ℕ) (rows : List ℕ) → length (put_if_lem inside d k rows) ≡ length rows
  length_if true d k rows = length_put d k rows
  length_if false d k rows = refl

  pub long_if : (inside : Bool) (d : Pass) (k : ℕ) (rows rows' : List ℕ) → rows' ≡ put_if_lem inside d k rows → length rows' ≡ length rows
  long_if inside d k rows rows' e = ap length e ∙ length_if inside d k rows

  put_if_at : (inside : Bool) (d : Pass) (k : ℕ) (rows : List ℕ) (j : ℕ) → (inside ≡ true → k < length rows) → get_or (put_if_lem inside d k rows) j 0 ≡ when (inside && eqb j k) (ruled d j) (get_or rows j 0)
  put_if_at true d k rows j l = put_at d k rows j (l refl)
  put_if_at false d k rows j l = refl

  -- ---- the four steps
  module _ {h n x y : ℕ} (u : UnitAt c h n x y) (rows : List ℕ) (long : length rows ≡ n) where
    abbrev k : ℕ
    k = y * c + x

    one : List ℕ
    one = edge_put words motion refs c vertical k rows

    two : List ℕ
    two = edge_put words motion refs c horizontal k one

    three : List ℕ
    three = put_if_lem (ltb (x + 1) c) vertical (k + 1) two

    four : List ℕ
    four = put_if_lem (ltb (y + 1) h) horizontal (k + c) three

    long_one : length one ≡ n
    unfolding one
    long_one = length_put vertical k rows ∙ long

    long_two : length two ≡ n
    unfolding two
    long_two = length_put horizontal k one ∙ long_one

    long_three : length three ≡ n
    unfolding three
    long_three = length_if (ltb (x + 1) c) vertical (k + 1) two ∙ long_two

    long_four : length four ≡ n
    unfolding four
    long_four = length_if (ltb (y + 1) h) horizontal (k + c) three ∙ long_three

    -- the order in which a byte's two rows are set
    order : (e v t : Bool) (f g : ℕ → ℕ) (b : ℕ) → (e ≡ true → v ≡ false) → (e ≡ true → t ≡ false)
        → when t g (when v f (when e g (when e f b))) ≡ when (e || t) g (when (e || v) f b)
    order true v t f g b p q = rw (p refl, q refl)
    order false v t f g b p q = refl

    each : (j : ℕ) → j < n → get_or four j 0 ≡ edited_byte words motion refs c k j (get_or rows j 0)
    unfolding one two three four
    each j l =
        put_if_at (ltb (y + 1) h) horizontal (k + c) three j (λ e. omega (arith, long_three, lower_in u (ltb-true (y + 1) h e)))
        ∙ ap (when (next u horizontal j) (ruled horizontal j))
        (put_if_at (ltb (x + 1) c) vertical (k + 1) two j (λ e. omega (arith, long_two, right_in u (ltb-true (x + 1) c e)))
        ∙ ap (when (next u vertical j) (ruled vertical j))
        (put_at horizontal k one j (omega (arith, long_one, unit_in_map u))
        ∙ ap (when (eqb j k) (ruled horizontal j)) (put_at vertical k rows j (omega (arith, unit_in_map u)))))
        ∙ order (eqb j k) (next u vertical j) (next u horizontal j) (ruled vertical j) (ruled horizontal j) (get_or rows j 0) (apart u vertical j) (apart u horizontal j)
        ∙ (λ i. when (sym (edge_of_lem u horizontal j l) i) (ruled horizontal j) (when (sym (edge_of_lem u vertical j l) i) (ruled vertical j) (get_or rows j 0)))

    edited : four ≡ edited_map words motion refs c k rows
    unfolding edited_map
    edited = is_tabulate _ (length rows) four 0 (long_four ∙ sym long) (λ j l. each j (omega arith))

    pub four_edges : (r₁ r₂ r₃ r₄ : List ℕ) → r₁ ≡ edge_put words motion refs c vertical k rows → r₂ ≡ edge_put words motion refs c horizontal k r₁
        → r₃ ≡ put_if_lem (ltb (x + 1) c) vertical (k + 1) r₂ → r₄ ≡ put_if_lem (ltb (y + 1) h) horizontal (k + c) r₃ → r₄ ≡ edited_map words motion refs c k rows
    unfolding one two three four
    four_edges r₁ r₂ r₃ r₄ e f g i =
        i ∙ ap (put_if_lem (ltb (y + 1) h) horizontal (k + c)) (g ∙ ap (put_if_lem (ltb (x + 1) c) vertical (k + 1)) (f ∙ ap (edge_put words motion refs c horizontal k) e)) ∙ edited
