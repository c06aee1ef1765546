-- What a row's call refuses before it looks at a sample, in its order: 1, 2, 21 for the window, 22 for a row out of turn.
-- Assumes nothing: these are definitions.
use Rattle.std.specs.Prelude.{ℕ, ◌%◌, Bool, List, [], ◌∷◌, leb, ltb, eqb, Err}
use Rattle.laws.specs.Call.{unless, all_of}
use Rattle.decoder.specs.Face.{size_ok, Answer, Format}
use Rattle.decoder.specs.Face.refusals.{Size, Length, Window as OffWindow, Turn as OutOfTurn}
use Rattle.ward_check.specs.Sizes.{planes_of, plane_length, rows_of}
use Rattle.ward_check.specs.declared.Run.{Run}
use Rattle.ward_check.specs.declared.Window.{Window}

-- the planes have the lengths of their format, and the row's buffer has w bytes
unfoldable pub lengths_ok : Format → (w h y u v out : ℕ) → Bool
lengths_ok f w h y u v out =
    all_of (eqb y (plane_length f 0 w h) ∷ eqb u (plane_length f 1 w h) ∷ eqb v (plane_length f 2 w h) ∷ eqb out w ∷ [])

-- edges on multiples of 4, some columns and some rows, inside
abbrev pub window_tests : Window → (w h : ℕ) → List Bool
window_tests c w h =
    eqb (c.left % 4) 0 ∷ eqb (c.top % 4) 0 ∷ eqb (c.right % 4) 0 ∷ eqb (c.bottom % 4) 0
    ∷ ltb c.left c.right ∷ leb c.right w ∷ ltb c.top c.bottom ∷ leb c.bottom h ∷ []

unfoldable pub window_ok : Window → (w h : ℕ) → Bool
window_ok c w h = all_of (window_tests c w h)

-- the row that is asked for is the run's next, row `nth` of plane k; the format has such a plane, and the window such a row
unfoldable pub turn_ok : Run → (k nth plane row : ℕ) → Format → Window → Bool
turn_ok run k nth plane row f c = all_of (eqb plane k ∷ eqb row nth ∷ ltb k (planes_of f) ∷ ltb nth (rows_of run c k) ∷ [])

-- the ladder down to 22, and what comes after it
unfoldable pub asked : Run → (k nth plane row : ℕ) → Format → (w h y u v : ℕ) → Window → (out : ℕ) → Answer → Answer
asked run k nth plane row f w h y u v c out after =
    unless (size_ok w h) (Err Size)
    (unless (lengths_ok f w h y u v out) (Err Length)
    (unless (window_ok c w h) (Err OffWindow)
    (unless (turn_ok run k nth plane row f c) (Err OutOfTurn) after)))
