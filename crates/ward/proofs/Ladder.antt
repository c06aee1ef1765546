-- The ladder of the call, and what is known where it found nothing.
--     stopped, gone    what comes after it
--     Asked, told    what it tells
-- Assumes nothing.
use Rattle.std.specs.Prelude.{Ok, Err}
use mathlib.Core.Bool.{Bool, true, false}
use mathlib.Core.Path.{◌≡◌, refl}
use Prim.Native.Nat.{ℕ}
use Rattle.laws.specs.Call.{unless}
use Rattle.decoder.specs.Face.{size_ok, Answer, Format, Refusal}
use Rattle.decoder.specs.Face.refusals.{Size, Length, Window as OffWindow, Turn as OutOfTurn}
use Rattle.ward_check.specs.Checks as checks
use Rattle.ward_check.specs.Checks.{lengths_ok, window_ok}
use Rattle.ward_check.specs.declared.Window.{Window}
use Rattle.ward.specs.RowCall.{turn_ok, asked}
use Rattle.ward.specs.declared.Turn.{Turn}

module _ (t : Turn) (plane row : ℕ) (f : Format) (w h y u v : ℕ) (c : Window) (out : ℕ) where
  -- ---- what comes after it

  -- four tests of a ladder that goes on, one by one
  module _ (k : Answer) where
    pub stopped : (r : Refusal) → asked t plane row f w h y u v c out (Ok tt) ≡ Err r → asked t plane row f w h y u v c out k ≡ Err r
    unfolding checks.asked
    stopped r = go (size_ok w h) (lengths_ok f w h y u v out) (window_ok c w h) (turn_ok t plane row f c) where
      go : (a b d e : Bool) → ◌≡◌ {A = Answer} (unless a (Err Size) (unless b (Err Length) (unless d (Err OffWindow) (unless e (Err OutOfTurn) (Ok tt))))) (Err r)
          → unless a (Err Size) (unless b (Err Length) (unless d (Err OffWindow) (unless e (Err OutOfTurn) k))) ≡ Err r
      go false b d e p = p
      go true false d e p = p
      go true true false e p = p
      go true true true false p = p
      go true true true true p = cc

  -- ---- what it tells

  pub record Asked : Type 0 where
    pub size : size_ok w h ≡ true
    pub lengths : lengths_ok f w h y u v out ≡ true
    pub window : window_ok c w h ≡ true
    pub turn : turn_ok t plane row f c ≡ true

  pub told : asked t plane row f w h y u v c out (Ok tt) ≡ Ok tt → Asked
  unfolding checks.asked
  told p =
      let g = go (size_ok w h) (lengths_ok f w h y u v out) (window_ok c w h) (turn_ok t plane row f c) p in
      record { size = g.0; lengths = g.1; window = g.2; turn = g.3 }
    where
      go : (a b d e : Bool) → ◌≡◌ {A = Answer} (unless a (Err Size) (unless b (Err Length) (unless d (Err OffWindow) (unless e (Err OutOfTurn) (Ok tt))))) (Ok tt)
          → (a ≡ true) × (b ≡ true) × (d ≡ true) × (e ≡ true)
      go false b d e p = (cc, cc, cc, cc)
      go true false d e p = (cc, cc, cc, cc)
      go true true false e p = (cc, cc, cc, cc)
      go true true true false p = (cc, cc, cc, cc)
      go true true true true p = (refl, refl, refl, refl)

  pub gone : Asked → (k : Answer) → asked t plane row f w h y u v c out k ≡ k
  unfolding checks.asked
  gone a k = rw (a.size, a.lengths, a.window, a.turn)
