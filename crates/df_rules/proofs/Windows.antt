-- Laws of windows: what a strength of 0 leaves, and any other filters.
-- Assumes nothing.
use Prim.Native.Nat.{ℕ}
use mathlib.Core.Path.{◌≡◌}
use mathlib.Core.List.{List}
use borrow.Author.Tests.{eq-eqb, ne_eqb}
use Rattle.line.specs.declared.Mask.{Mask}
use Rattle.df_rules.specs.Window.{lines_at, window_at}

pub untouched : (m : Mask) (st step next at n : ℕ) (xs : List ℕ) → st ≡ 0 → xs ≡ window_at m st step next at n xs
unfolding window_at
untouched m st step next at n xs e = rw (eq-eqb st 0 e)

pub touched : (m : Mask) (st step next at n : ℕ) (xs : List ℕ) → (st ≡ 0 → ⊥) → lines_at m st step next at n xs ≡ window_at m st step next at n xs
unfolding window_at
touched m st step next at n xs e = rw (ne_eqb st 0 e)
