-- 7 never comes for planes that deblocking finished, whatever else is asked: the ladder's other rungs have other numbers.
-- Assumes nothing.
use Rattle.std.specs.Prelude.{Ok, Err}
use mathlib.Core.Bool.{Bool, true, false}
use mathlib.Core.Path.{◌≡◌, ap, ◌∙◌}
use Prim.Native.Nat.{ℕ, ◌≤◌}
use native.Mathlib.Omega.{arith}
use lib.Dec.{eqb}
use lib.ListN.{length, get_or}
use Rattle.laws.specs.Call.{unless}
use Rattle.laws.specs.Index.{pick}
use Rattle.decoder.specs.Face.{after_checks, samples_ok, size_ok}
use Rattle.decoder.specs.Face.bands.{Plane, luma_plane, u_plane, v_plane}
use Rattle.decoder.specs.Face.deblocking as deblocking
use Rattle.decoder.specs.Face.refusals.{Size, Length, Window as OffWindow, Turn as OutOfTurn}
use Rattle.decoder.proofs.Face.{sample_any, finished}
use Rattle.ward_check.specs.Checks.{lengths_ok, window_ok, asked}
use Rattle.ward.specs.Finished.{lent_as, Never7}
use Rattle.ward.specs.RowCall.{Input, turn_ok, row_ok, refused, done, lent_plane, outcome}
use Rattle.ward.proofs.Stores.{made_fine}

module _ (j : Input) (small : (x : Plane) → samples_ok (lent_as x j) ≡ true) where
  lent_small : (k : ℕ) → get_or (lent_plane j) k 0 ≤ 1023
  lent_small k = go (eqb j.turn.plane 0) (eqb j.turn.plane 1) where
    go : (t s : Bool) → get_or (pick t j.y (pick s j.u j.v)) k 0 ≤ 1023
    go true s = sample_any j.y k (small luma_plane)
    go false true = sample_any j.u k (small u_plane)
    go false false = sample_any j.v k (small v_plane)

  row_fine : row_ok j.turn j.w j.window (lent_plane j) ≡ true
  row_fine = made_fine (lent_plane j) lent_small j.turn.run _ _ _ _ j.turn.row

  -- four tests, and then none
  not_7 : (outcome j).reading.number ≡ 7 → ⊥
  unfolding outcome asked
  not_7 e =
      go (size_ok j.w j.h) (lengths_ok j.format j.w j.h (length j.y) (length j.u) (length j.v) (length j.out)) (window_ok j.window j.w j.h)
      (turn_ok j.turn j.plane j.row j.format j.window) (rw row_fine at e)
    where
      go : (a b c d : Bool)
          → (after_checks (refused j.turn j.out) (done j.turn j.w j.window (lent_plane j) j.out)
          (unless a (Err Size) (unless b (Err Length) (unless c (Err OffWindow) (unless d (Err OutOfTurn) (Ok tt)))))).reading.number ≡ 7 → ⊥
      go false b c d p = omega arith
      go true false c d p = omega arith
      go true true false d p = omega arith
      go true true true false p = omega arith
      go true true true true p = omega arith

pub never_7 : (i : deblocking.Input) (j : Input) → Never7 i j
never_7 i j =
    record {
      whole = λ e same. not_7 j (λ x. ap samples_ok (same x) ∙ (finished i).small e x);
      by_bands = λ e same. not_7 j (λ x. ap samples_ok (same x) ∙ (finished i).small_by_bands e x);
    }
