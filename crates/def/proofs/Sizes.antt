-- What the size test tells.
-- Assumes nothing.
use Prim.Native.Nat.{ℕ, ◌≤◌, ◌%◌}
use mathlib.Core.Path.{◌≡◌}
use mathlib.Core.Bool.{true}
use borrow.Author.Tests.{leb-true, eqb-true}
use Rattle.laws.proofs.Calls.{all_at}
use Rattle.def.specs.Picture.{size_ok, size_tests}

pub record Sized (w h : ℕ) : Type 0 where
  pub some_wide : 4 ≤ w
  pub wide : w ≤ 4096
  pub by_four : w % 4 ≡ 0
  pub some_high : 4 ≤ h
  pub high : h ≤ 4096
  pub by_four_down : h % 4 ≡ 0

pub sized : (w h : ℕ) → size_ok w h ≡ true → Sized w h
unfolding size_ok
sized w h e =
    record {
      some_wide = leb-true 4 w (all_at (size_tests w h) 0 e);
      wide = leb-true w 4096 (all_at (size_tests w h) 1 e);
      by_four = eqb-true (w % 4) 0 (all_at (size_tests w h) 2 e);
      some_high = leb-true 4 h (all_at (size_tests w h) 3 e);
      high = leb-true h 4096 (all_at (size_tests w h) 4 e);
      by_four_down = eqb-true (h % 4) 0 (all_at (size_tests w h) 5 e);
    }
