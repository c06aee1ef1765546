-- A root's marks stand among its 1,024 bytes, and their bytes are 0 or 1.
-- Assumes nothing.
use Rattle.std.specs.Prelude.{Ok, Err}
use mathlib.Core.List.Memᴰ
use mathlib.Core.List.{List, [], ◌∷◌, ◌++◌, Memᴰ}
use mathlib.Core.Logic.{⊎_elim}
use mathlib.Core.Path.{◌≡◌, refl, sym, ap, subst}
use Prim.Native.Nat.{ℕ, zero, suc, ◌+◌, ◌-◌, ◌*◌, ◌/◌, ◌%◌, ◌^◌, ◌≤◌, ◌<◌}
use native.Mathlib.Omega.{arith}
use Rattle.def.specs.Answers.{Answer}
use Rattle.split.specs.Walk.{place}
use Rattle.marks_rules.specs.Descent.{Descent, descend_on, descend_then, descents, descend}
use Rattle.marks_rules.specs.Marks.{Mark, mark, four, marks}
use Rattle.marks_rules.specs.Mended.{mend_byte, mend_marks}
use Rattle.marks_rules.proofs.Blocks.{part_x, part_y, by_start}
use Rattle.marks_rules.proofs.Descents.{part_of, descend_x, descend_y, descend_none, descend_leaf, descend_cut, descend_bad, unit_quiet}
use Rattle.marks_rules.proofs.Marks.{parts, marks_x, marks_y, marks_unit, marks_leaf, marks_cut, of_four}
use Rattle.marks_rules.proofs.Mended.{mended}

pub record Tidy (m : Mark) : Type 0 where
  pub inside : m.place < 1024
  pub bit : m.byte < 2

abbrev pub AllTidy : List Mark → Type 0
AllTidy l = (m : Mark) → Memᴰ m l → Tidy m

tidy : (k x y b : ℕ) → b < 2 → Tidy (mark (place k x y) b)
tidy k x y b l = record { inside = cell (3 - k) ((y + 2 ^ k) % 16) ((x + 2 ^ k) % 16) (omega arith) (omega arith) (omega arith); bit = l } where
  cell : (l r c : ℕ) → l < 4 → r < 16 → c < 16 → 256 * l + (16 * r + c) < 1024
  cell l r c p q s = omega arith

pub tidy_none : AllTidy []
tidy_none m i = absurd (Memᴰ.not-nil i)

pub tidy_cons : (n : Mark) (l : List Mark) → Tidy n → AllTidy l → AllTidy (n ∷ l)
tidy_cons n l t u m i = ⊎_elim (λ e. subst Tidy (sym e) t) (u m) (Memᴰ.cases_cons i)

pub tidy_append : (l k : List Mark) → AllTidy l → AllTidy k → AllTidy (l ++ k)
tidy_append l k t u m i = ⊎_elim (t m) (u m) (Memᴰ.append_cases l i)

tidy_as : {l k : List Mark} → l ≡ k → AllTidy k → AllTidy l
tidy_as e t = subst AllTidy (sym e) t

-- ---- marks from split bytes

pub tidy_mended : (s : List ℕ) (w h k x y : ℕ) → AllTidy (mend_marks s w h k x y)
tidy_mended s w h zero x y = tidy_as (marks_unit (mend_byte s w h) w h x y) tidy_none
tidy_mended s w h (suc k) x y =
    let f = mend_byte s w h in
    by_start w h x y (AllTidy (mend_marks s w h (suc k) x y))
    (λ p. tidy_as (marks_x f w h (suc k) x y p) tidy_none)
    (λ p q. tidy_as (marks_y f w h (suc k) x y p q) tidy_none)
    (λ p q. mended s w h k x y (AllTidy (mend_marks s w h (suc k) x y))
    (λ e. tidy_as (marks_cut f w h k x y p q e)
    (tidy_cons _ _ (tidy k x y 1 (omega arith)) (λ m i. of_four (parts f w h k x y) m (Tidy m) (λ j l u. tidy_mended s w h k (part_x k x j) (part_y k y j) m u) i)))
    (λ e a b. tidy_as (marks_leaf f w h k x y p q e) (tidy_cons _ _ (tidy k x y 0 (omega arith)) tidy_none)))

-- ---- marks from digits

tidy_then : (a : Descent) (g : List ℕ → Descent) → AllTidy a.marks → ((ds : List ℕ) → AllTidy (g ds).marks) → AllTidy (descend_then a g).marks
unfolding descend_on
tidy_then a g t u = by a.walk.answer where
  by : (z : Answer) → AllTidy (descend_on z a g).marks
  by (Ok _) = tidy_append a.marks (g a.left).marks t (u a.left)
  by (Err r) = t

pub tidy_descents : (f : ℕ → List ℕ → Descent) → ((i : ℕ) (ds : List ℕ) → AllTidy (f i ds).marks) → (n : ℕ) (ds : List ℕ) → AllTidy (descents f n ds).marks
unfolding descents
tidy_descents f t zero ds = tidy_none
tidy_descents f t (suc n) ds = tidy_then (descents f n ds) (f n) (tidy_descents f t n ds) (t n)

pub tidy_grown : (w h k x y : ℕ) (ds : List ℕ) → AllTidy (descend w h k x y ds).marks
tidy_grown w h zero x y ds = tidy_as (unit_quiet w h x y ds).none tidy_none
tidy_grown w h (suc k) x y ds =
    by_start w h x y (AllTidy (descend w h (suc k) x y ds).marks)
    (λ p. of (descend_x w h (suc k) x y ds p) tidy_none)
    (λ p q. of (descend_y w h (suc k) x y ds p q) tidy_none)
    (λ p q. inside p q ds (λ l. tidy_descents (part_of w h k x y) (λ i m. tidy_grown w h k (part_x k x i) (part_y k y i) m) 4 l)) where
      of : {a b : Descent} → a ≡ b → AllTidy b.marks → AllTidy a.marks
      of e t = subst (λ (d : Descent). AllTidy d.marks) (sym e) t

      inside : x < w → y < h → (ds : List ℕ) → ((l : List ℕ) → AllTidy (descents (part_of w h k x y) 4 l).marks) → AllTidy (descend w h (suc k) x y ds).marks
      inside p q [] f = of (descend_none w h k x y p q) tidy_none
      inside p q (zero ∷ ds) f = of (descend_leaf w h k x y ds p q) (tidy_cons _ _ (tidy k x y 0 (omega arith)) tidy_none)
      inside p q (suc zero ∷ ds) f = of (descend_cut w h k x y ds p q) (tidy_cons _ _ (tidy k x y 1 (omega arith)) (f ds))
      inside p q (suc (suc d) ∷ ds) f = of (descend_bad w h k x y d ds p q) tidy_none
