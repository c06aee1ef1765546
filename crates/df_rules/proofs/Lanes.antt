-- Lines read at once and then written.
--     at_once       of lines that share no place, filtered so or one after the other
--     line_put      a line written sample by sample
--     put_more      a loop that writes lines; put_same    by lines that are the same
--     window_put    on samples that is their window, at strength 0 too
--     later_line    lines leave a later one's samples as they were; put-append    lines written in two parts
--     apart_ver, apart_hor    lines below each other share no place, nor do lines side by side
--     apart_lines    nor those of units' edges that follow each other; apart-pass    nor those of one
-- Assumes nothing.
use Prim.Native.Nat.{ℕ, zero, suc, ◌+◌, ◌-◌, ◌*◌, ◌≤◌, ◌<◌}
use mathlib.Core.Path.{◌≡◌, refl, sym, ap, ◌∙◌}
use mathlib.Core.Bool.{Bool, true, false}
use mathlib.Core.List.{List}
use native.Mathlib.Nat.{mul-le-mul_right, mul-le-mul, add-mul, add-zero, add-suc}
use native.Mathlib.Numerals.{add-one}
use native.Mathlib.Omega.{arith}
use borrow.Author.Tests.{eqb-true, eqb-false}
use lib.Dec.{eqb}
use lib.ListN.{get_or}
use lib.Seq.{get_or-set_other, set-get_or}
use Rattle.laws.proofs.Signs.{by_lt}
use Rattle.line.specs.declared.Mask.{Mask}
use Rattle.line.specs.declared.Quad.{Quad}
use Rattle.line.specs.Line.{line_of}
use Rattle.line.proofs.Lines.{line_zero}
use Rattle.split.specs.Edges.{Pass, vertical, horizontal}
use Rattle.split.proofs.Induct.{test}
use Rattle.df_rules.specs.Lent.{units_across, units_along}
use Rattle.df_rules.specs.Lanes.{samples_at, put_line, put_lines, Apart}
use Rattle.df_rules.specs.Places.{step_across, step_along}
use Rattle.df_rules.specs.Window.{quad_at, put_if, line_at, lines_at, window_at, Samples}
use Rattle.df_rules.proofs.Windows.{untouched, touched}

-- ---- lines that share no place

-- a place that the line at `at` does not have
record Off (step at i : ℕ) : Type 0 where
  a : i ≡ at → ⊥
  b : i ≡ at + step → ⊥
  c : i ≡ at + 2 * step → ⊥
  d : i ≡ at + 3 * step → ⊥

put_off : (w : Bool) (p v : ℕ) (xs : List ℕ) (i : ℕ) → (i ≡ p → ⊥) → get_or (put_if w p v xs) i 0 ≡ get_or xs i 0
put_off true p v xs i h = get_or-set_other xs p i v 0 h
put_off false p v xs i h = refl

line_off : (m : Mask) (step at : ℕ) (q : Quad) (xs : List ℕ) (i : ℕ) → Off step at i → get_or (put_line m step at q xs) i 0 ≡ get_or xs i 0
line_off m step at q xs i o =
    put_off m.d _ _ _ i o.d ∙ put_off m.c _ _ _ i o.c ∙ put_off m.b _ _ _ i o.b ∙ put_off m.a at q.a xs i o.a

-- such a place keeps its sample through n lines
lines_off : (m : Mask) (q : ℕ → Quad) (step next at n : ℕ) (xs : List ℕ) (i : ℕ) → ((k : ℕ) → k < n → Off step (at + k * next) i)
    → get_or (put_lines m q step next at n xs) i 0 ≡ get_or xs i 0
unfolding put_lines
lines_off m q step next at zero xs i h = refl
lines_off m q step next at (suc n) xs i h =
    line_off m step (at + n * next) (q n) (put_lines m q step next at n xs) i (h n (omega arith)) ∙ lines_off m q step next at n xs i (λ k l. h k (omega arith))

-- where lines share no place, those of line l are none of line k's
off : (step next at k l j : ℕ) → ((i : ℕ) → i ≤ 3 → l * next + j * step ≡ k * next + i * step → ⊥) → Off step (at + k * next) (at + l * next + j * step)
off step next at k l j f = record {
  a = λ (e : at + l * next + j * step ≡ at + k * next). f 0 (omega arith) (omega arith);
  b = λ (e : at + l * next + j * step ≡ at + k * next + step). f 1 (omega arith) (omega arith);
  c = λ (e : at + l * next + j * step ≡ at + k * next + 2 * step). f 2 (omega arith) (omega arith);
  d = λ (e : at + l * next + j * step ≡ at + k * next + 3 * step). f 3 (omega arith) (omega arith);
}

-- a line whose samples are the same is the same
same_line_lem : (step p : ℕ) (ys xs : List ℕ) → ((j : ℕ) → j ≤ 3 → get_or ys (p + j * step) 0 ≡ get_or xs (p + j * step) 0) → samples_at step p ys ≡ samples_at step p xs
same_line_lem step p ys xs keep =
    λ i. record { a = at₀ (keep 0 (omega arith)) i; b = at₁ (keep 1 (omega arith)) i; c = keep 2 (omega arith) i; d = keep 3 (omega arith) i }
  where
    at₀ : get_or ys (p + 0 * step) 0 ≡ get_or xs (p + 0 * step) 0 → get_or ys p 0 ≡ get_or xs p 0
    at₀ e = let z : p + 0 * step ≡ p = omega arith in rw z at e

    at₁ : get_or ys (p + 1 * step) 0 ≡ get_or xs (p + 1 * step) 0 → get_or ys (p + step) 0 ≡ get_or xs (p + step) 0
    at₁ e = let z : p + 1 * step ≡ p + step = omega arith in rw z at e

-- the first k lines leave the samples of a later one as they were
pub later_line : (m : Mask) (q : ℕ → Quad) (step next at k o l : ℕ) (xs : List ℕ) → Apart step next o → k ≤ l → l < o
    → samples_at step (at + l * next) (put_lines m q step next at k xs) ≡ samples_at step (at + l * next) xs
later_line m q step next at k o l xs g h i =
    let keep : (j : ℕ) → j ≤ 3 → get_or (put_lines m q step next at k xs) (at + l * next + j * step) 0 ≡ get_or xs (at + l * next + j * step) 0
    = λ j hj. lines_off m q step next at k xs (at + l * next + j * step) (λ n hn. off step next at n l j (λ r hr e. g.never n l r j (omega arith) i hr hj e)) in
    same_line_lem step (at + l * next) (put_lines m q step next at k xs) xs keep

-- and so what it becomes
later : (m : Mask) (q : ℕ → Quad) (st step next at k o l : ℕ) (xs : List ℕ) → Apart step next o → k ≤ l → l < o
    → quad_at st step (at + l * next) (put_lines m q step next at k xs) ≡ quad_at st step (at + l * next) xs
later m q st step next at k o l xs g h i = ap (λ (s : Quad). line_of s.a s.b s.c s.d st) (later_line m q step next at k o l xs g h i)

module _ (m : Mask) (st step next at : ℕ) (xs : List ℕ) where
  -- what line k becomes, read from xs
  abbrev read : ℕ → Quad
  read k = quad_at st step (at + k * next) xs

  upto : (n o : ℕ) → Apart step next o → n ≤ o → lines_at m st step next at n xs ≡ put_lines m read step next at n xs
  unfolding lines_at line_at put_lines
  upto zero o g h = refl
  upto (suc n) o g h =
      let ys = put_lines m read step next at n xs in
      ap (line_at m st step (at + n * next)) (upto n o g (omega arith))
      ∙ (λ i. put_line m step (at + n * next) (later m read st step next at n o n xs g (omega arith) (omega arith) i) ys)

  pub at_once : (n : ℕ) → Apart step next n → lines_at m st step next at n xs ≡ put_lines m read step next at n xs
  at_once n g = upto n n g (omega arith)

-- ---- strength 0

-- samples written where they were
put_own : (w : Bool) (p : ℕ) (xs : List ℕ) → put_if w p (get_or xs p 0) xs ≡ xs
put_own true p xs = set-get_or xs p 0
put_own false p xs = refl

still : (m : Mask) (step at : ℕ) (xs : List ℕ) → put_line m step at (samples_at step at xs) xs ≡ xs
still m step at xs =
    ap (λ (ys : List ℕ). put_if m.d (at + 3 * step) (get_or xs (at + 3 * step) 0)
    (put_if m.c (at + 2 * step) (get_or xs (at + 2 * step) 0) (put_if m.b (at + step) (get_or xs (at + step) 0) ys))) (put_own m.a at xs)
    ∙ ap (λ (ys : List ℕ). put_if m.d (at + 3 * step) (get_or xs (at + 3 * step) 0) (put_if m.c (at + 2 * step) (get_or xs (at + 2 * step) 0) ys)) (put_own m.b (at + step) xs)
    ∙ ap (put_if m.d (at + 3 * step) (get_or xs (at + 3 * step) 0)) (put_own m.c (at + 2 * step) xs)
    ∙ put_own m.d (at + 3 * step) xs

-- on samples the lines themselves leave the window untouched
quiet : (m : Mask) (step next at n : ℕ) (xs : List ℕ) → Samples xs → lines_at m 0 step next at n xs ≡ xs
unfolding lines_at line_at
quiet m step next at zero xs h = refl
quiet m step next at (suc n) xs h =
    let p = at + n * next in
    ap (line_at m 0 step p) (quiet m step next at n xs h)
    ∙ ap (λ (q : Quad). put_line m step p q xs) (line_zero _ _ _ _ (h p) (h (p + step)) (h (p + 2 * step)) (h (p + 3 * step)))
    ∙ still m step p xs

lines_window : (m : Mask) (st step next at n : ℕ) (xs : List ℕ) → Samples xs → lines_at m st step next at n xs ≡ window_at m st step next at n xs
lines_window m st step next at n xs h =
    test (eqb st 0)
    (λ t. let e = eqb-true st 0 t in rw e (quiet m step next at n xs h ∙ untouched m 0 step next at n xs refl))
    (λ t. touched m st step next at n xs (eqb-false st 0 t))

-- ---- the window

-- one line, sample by sample
pub line_put : (m : Mask) (step at : ℕ) (q : Quad) (xs x₁ x₂ x₃ x₄ : List ℕ) → x₁ ≡ put_if m.a at q.a xs → x₂ ≡ put_if m.b (at + step) q.b x₁
    → x₃ ≡ put_if m.c (at + 2 * step) q.c x₂ → x₄ ≡ put_if m.d (at + 3 * step) q.d x₃ → x₄ ≡ put_line m step at q xs
line_put m step at q xs x₁ x₂ x₃ x₄ a b c d =
    d ∙ ap (put_if m.d (at + 3 * step) q.d) (c ∙ ap (put_if m.c (at + 2 * step) q.c) (b ∙ ap (put_if m.b (at + step) q.b) a))

-- one line more
pub put_more : (m : Mask) (q : ℕ → Quad) (step next at k : ℕ) (r : Quad) (xs ys zs : List ℕ) → r ≡ q k → ys ≡ put_lines m q step next at k xs
    → zs ≡ put_line m step (at + k * next) r ys → zs ≡ put_lines m q step next at (k + 1) xs
unfolding put_lines
put_more m q step next at k r xs ys zs e f g = rw (add-one k) (g ∙ (λ i. put_line m step (at + k * next) (e i) (f i)))

-- by lines that are the same
pub put_same : (m : Mask) (q r : ℕ → Quad) (step next at n : ℕ) (xs : List ℕ) → ((k : ℕ) → k < n → q k ≡ r k)
    → put_lines m q step next at n xs ≡ put_lines m r step next at n xs
unfolding put_lines
put_same m q r step next at zero xs h = refl
put_same m q r step next at (suc n) xs h =
    λ i. put_line m step (at + n * next) (h n (omega arith) i) (put_same m q r step next at n xs (λ k l. h k (omega arith)) i)

-- the window, by what its lines become
pub window_put : (m : Mask) (q : ℕ → Quad) (st step next at n : ℕ) (xs : List ℕ) → Apart step next n → Samples xs
    → ((k : ℕ) → k < n → q k ≡ quad_at st step (at + k * next) xs) → put_lines m q step next at n xs ≡ window_at m st step next at n xs
window_put m q st step next at n xs g s h =
    put_same m q (λ (k : ℕ). quad_at st step (at + k * next) xs) step next at n xs h ∙ sym (at_once m st step next at xs n g) ∙ lines_window m st step next at n xs s

-- ---- lines written in two parts

pub put_append : (m : Mask) (q : ℕ → Quad) (step next at k n : ℕ) (xs : List ℕ)
    → put_lines m q step next at (k + n) xs ≡ put_lines m (λ (j : ℕ). q (k + j)) step next (at + k * next) n (put_lines m q step next at k xs)
unfolding put_lines
put_append m q step next at k zero xs = rw (add-zero k)
put_append m q step next at k (suc n) xs =
    let e : at + (k + n) * next ≡ at + k * next + n * next = omega (arith, add-mul k n next) in
    rw (add-suc k n) (λ i. put_line m step (e i) (q (k + n)) (put_append m q step next at k n xs i))

-- ---- the lines of a unit's edge

-- vertical: a line's samples are neighbours, and the rows are at least 4 long
pub apart_ver : (next n : ℕ) → 4 ≤ next → Apart 1 next n
apart_ver next n h = record { never = go } where
  go : (k l i j : ℕ) → k < l → l < n → i ≤ 3 → j ≤ 3 → l * next + j * 1 ≡ k * next + i * 1 → ⊥
  go k l i j hk hl hi hj e =
      let m : suc k * next ≤ l * next = mul-le-mul_right next hk in
      let s : suc k * next ≡ k * next + next = omega arith in
      omega arith

-- horizontal: the lines are neighbours, and there are no more of them than samples in a row
pub apart_hor : (step n : ℕ) → n ≤ step → Apart step 1 n
apart_hor step n h = record { never = go } where
  go : (k l i j : ℕ) → k < l → l < n → i ≤ 3 → j ≤ 3 → l * 1 + j * step ≡ k * 1 + i * step → ⊥
  go k l i j hk hl hi hj e =
      by_lt (λ t. ⊥) j i
      (λ lt.
      let m : suc j * step ≤ i * step = mul-le-mul_right step lt in
      let s : suc j * step ≡ j * step + step = omega arith in
      omega arith)
      (λ le. let m : i * step ≤ j * step = mul-le-mul_right step le in omega arith)

-- lines of units of n samples, where a unit has one before it across the edge: so there are two in a row, or two rows
pub apart_lines : (n o w h : ℕ) → 2 ≤ n → (d : Pass) (c : ℕ) → 1 ≤ c → c < units_across d w h → o ≤ n * units_along d w h
    → Apart (step_across d (n * w)) (step_along d (n * w)) o
apart_lines n o w h two vertical c p q r =
    let m : 2 * 2 ≤ n * w = mul-le-mul {n₁ = 2} {m₁ = 2} {n₂ = n} {m₂ = w} two (omega arith) in
    apart_ver (n * w) o (omega arith)
apart_lines n o w h two horizontal c p q r = apart_hor (n * w) o r

-- those of one
pub apart_pass : (n w h : ℕ) → 2 ≤ n → (d : Pass) (c a : ℕ) → 1 ≤ c → c < units_across d w h → a < units_along d w h
    → Apart (step_across d (n * w)) (step_along d (n * w)) n
apart_pass n w h two d c a p q r =
    let u = units_along d w h in
    let m : n * 1 ≤ n * u = mul-le-mul {n₁ = n} {m₁ = 1} {n₂ = n} {m₂ = u} (omega arith) (omega arith) in
    apart_lines n n w h two d c p q (omega arith)
