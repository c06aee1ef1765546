-- Lines no two of which share a place.
--     one_window    on samples, what a call leaves of them is the window of `df_rules`
--     two_lines    on any numbers, two edges' lines read at once are one edge's after the other's
-- Assumes nothing.
use Prim.Native.Nat.{ℕ, ◌+◌, ◌*◌, ◌<◌}
use mathlib.Core.Bool.{Bool, true}
use mathlib.Core.List.{List}
use mathlib.Core.Path.{◌≡◌, refl, sym, ap, ◌∙◌}
use native.Mathlib.Nat.{add-mul}
use native.Mathlib.Omega.{arith}
use borrow.Author.Tests.{lt-ltb, le-ltb}
use Rattle.line.specs.declared.Mask.{Mask}
use Rattle.line.specs.declared.Quad.{Quad}
use Rattle.lanes.specs.Lanes.{held_line}
use Rattle.lanes.proofs.ByLane.{on_samples}
use Rattle.df_rules.specs.Lanes.{samples_at, put_lines, Apart}
use Rattle.df_rules.specs.Window.{quad_at, window_at, Samples}
use Rattle.df_rules.proofs.Lanes.{put_same, window_put, later_line, put_append}
use Rattle.window.specs.declared.Place.{Place}
use Rattle.window.specs.Lines.{lines_of}
use Rattle.window.specs.Window.{twice, window_of}

module _ (so : Bool) (t : so ≡ true) (m : Mask) (p : Place) (xs : List ℕ) (all : Samples xs) where
  -- no sample is held
  read : (st k s : ℕ) → s ≡ st → held_line (samples_at p.step (p.at + k * p.next) xs) s ≡ quad_at st p.step (p.at + k * p.next) xs
  read st k s e =
      let i = p.at + k * p.next in
      ap (held_line (samples_at p.step i xs)) e ∙ on_samples _ _ _ _ st (all i) (all (i + p.step)) (all (i + 2 * p.step)) (all (i + 3 * p.step))

  pub one_window : (st n : ℕ) → Apart p.step p.next n → window_of so m (λ k. st) p n xs ≡ window_at m st p.step p.next p.at n xs
  unfolding window_of lines_of
  one_window st n g = rw t (window_put m _ st p.step p.next p.at n xs g all (λ k l. read st k st refl))

-- the lines of the second right after those of the first, and all of them apart: none of the second is touched by the first
pub two_lines : (m : Mask) (s₀ s₁ step next at n : ℕ) (xs : List ℕ) → Apart step next (n + n)
    → lines_of m (twice n s₀ s₁) step next at (n + n) xs ≡ lines_of m (λ k. s₁) step next (at + n * next) n (lines_of m (λ k. s₀) step next at n xs)
unfolding lines_of
two_lines m s₀ s₁ step next at n xs g =
    let read : ℕ → Quad = λ k. held_line (samples_at step (at + k * next) xs) (twice n s₀ s₁ k) in
    let ys = put_lines m read step next at n xs in
    let first : ys ≡ put_lines m (λ (k : ℕ). held_line (samples_at step (at + k * next) xs) s₀) step next at n xs
    = put_same m read _ step next at n xs (λ k l. rw (lt-ltb k n l)) in
    let second : (k : ℕ) → k < n → read (n + k) ≡ held_line (samples_at step (at + n * next + k * next) ys) s₁
    = λ k l. (rw (le-ltb (n + k) n (omega arith))
    (ap (λ (q : Quad). held_line q s₁) (sym (later_line m read step next at n (n + n) (n + k) xs g (omega arith) (omega arith))
    ∙ ap (λ (i : ℕ). samples_at step i ys) (omega (arith, add-mul n k next))))) in
    put_append m read step next at n n xs
    ∙ put_same m (λ (k : ℕ). read (n + k)) _ step next (at + n * next) n ys second
    ∙ ap (λ (zs : List ℕ). put_lines m (λ (k : ℕ). held_line (samples_at step (at + n * next + k * next) zs) s₁) step next (at + n * next) n zs) first
