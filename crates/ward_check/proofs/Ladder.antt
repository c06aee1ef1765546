-- The ladder of a row's checks, and what its first tests tell.
--     sides, inside    what the tests of the size and of the window tell
--     at_size, at_length, at_window, at_turn, at_end    its rungs down to 22
-- Assumes nothing.
use Rattle.std.specs.Prelude.{Err}
use mathlib.Core.Bool.{Bool, true, false, not}
use mathlib.Core.Path.{◌≡◌, refl}
use Prim.Native.Nat.{ℕ, ◌≤◌, ◌<◌}
use borrow.Author.Tests.{leb-true, ltb-true}
use Rattle.laws.proofs.Calls.{all_at, stops, goes_on}
use Rattle.decoder.specs.Face.{size_ok, size_tests, Answer, Format}
use Rattle.decoder.specs.Face.refusals.{Size, Length, Window as OffWindow, Turn as OutOfTurn}
use Rattle.ward_check.specs.Checks.{lengths_ok, window_ok, window_tests, turn_ok, asked}
use Rattle.ward_check.specs.declared.Run.{Run}
use Rattle.ward_check.specs.declared.Window.{Window}

-- ---- the size and the window

pub record Sides (w h : ℕ) : Type 0 where
  pub wide : w ≤ 4096
  pub high : h ≤ 4096

pub sides : (w h : ℕ) → size_ok w h ≡ true → Sides w h
unfolding size_ok
sides w h e = record { wide = leb-true w 4096 (all_at (size_tests w h) 1 e); high = leb-true h 4096 (all_at (size_tests w h) 4 e) }

pub record Inside (c : Window) (w h : ℕ) : Type 0 where
  pub columns : c.left < c.right
  pub wide : c.right ≤ w
  pub rows : c.top < c.bottom
  pub high : c.bottom ≤ h

pub inside : (c : Window) (w h : ℕ) → window_ok c w h ≡ true → Inside c w h
unfolding window_ok
inside c w h e =
    record {
      columns = ltb-true _ _ (all_at (window_tests c w h) 4 e);
      wide = leb-true _ _ (all_at (window_tests c w h) 5 e);
      rows = ltb-true _ _ (all_at (window_tests c w h) 6 e);
      high = leb-true _ _ (all_at (window_tests c w h) 7 e);
    }

-- ---- the rungs

module _ (run : Run) (k nth plane row : ℕ) (f : Format) (w h y u v : ℕ) (c : Window) (out : ℕ) where
  module _ (after : Answer) (s : Bool) (e : s ≡ size_ok w h) where
    pub at_size : not s ≡ true → Err Size ≡ asked run k nth plane row f w h y u v c out after
    unfolding asked
    at_size p = stops s (size_ok w h) _ _ e p

    module _ (ps : not s ≡ false) (l : Bool) (g : l ≡ lengths_ok f w h y u v out) where
      pub at_length : not l ≡ true → Err Length ≡ asked run k nth plane row f w h y u v c out after
      unfolding asked
      at_length p = goes_on s (size_ok w h) _ _ _ e ps (stops l _ _ _ g p)

      module _ (pl : not l ≡ false) (n : Bool) (q : n ≡ window_ok c w h) where
        pub at_window : not n ≡ true → Err OffWindow ≡ asked run k nth plane row f w h y u v c out after
        unfolding asked
        at_window p = goes_on s (size_ok w h) _ _ _ e ps (goes_on l _ _ _ _ g pl (stops n _ _ _ q p))

        module _ (pn : not n ≡ false) (o : Bool) (r : o ≡ turn_ok run k nth plane row f c) where
          pub at_turn : not o ≡ true → Err OutOfTurn ≡ asked run k nth plane row f w h y u v c out after
          unfolding asked
          at_turn p = goes_on s (size_ok w h) _ _ _ e ps (goes_on l _ _ _ _ g pl (goes_on n _ _ _ _ q pn (stops o _ _ _ r p)))

          pub at_end : not o ≡ false → after ≡ asked run k nth plane row f w h y u v c out after
          unfolding asked
          at_end p = goes_on s (size_ok w h) _ _ _ e ps (goes_on l _ _ _ _ g pl (goes_on n _ _ _ _ q pn (goes_on o _ _ _ _ r p refl)))
