-- What is promised of the calls: over their contracts as the checker reads them from the source, the arguments determine the answer; which refusals
-- `checked_row` gives, in the order of its ladder, each with an input that meets it; and that it does not refuse always.
--     across_run_once, in_plane_once, checked_row_once
--     checked_row_refusals, checked_row_accepted
-- Assumes nothing.
use Rattle.std.specs.Prelude.{Ok}
use mathlib.Core.List.{[], ◌∷◌}
use mathlib.Core.Path.{◌≡◌, refl, sym, ◌∙◌}
use Prim.Native.Nat.{ℕ}
use Rattle.decoder.proofs.Refusing.{last, rung, by_checks}
use Rattle.decoder.specs.Face.{after_checks, number_of, size_ok, Answer, Format}
use Rattle.decoder.specs.Face.formats.{Colour}
use Rattle.decoder.specs.Face.refusals.{Size, Length, Window as OffWindow, Turn as OutOfTurn}
use Rattle.decoder.specs.Promise.{Sole, Refuses}
use Rattle.ward_check.specs.Checks.{lengths_ok, window_ok, turn_ok, asked}
use Rattle.ward_check.specs.Sizes.{plane_length}
use Rattle.ward_check.specs.declared.Run.{Run}
use Rattle.ward_check.specs.declared.Run.TheVariants.{Full}
use Rattle.ward_check.specs.declared.Window.{Window}
use Rattle.ward_check.proofs.across_run.Kinds as across-run-kinds
use Rattle.ward_check.proofs.across_run.Reads as across-run-reads
use Rattle.ward_check.proofs.checked_row.Kinds as checked-row-kinds
use Rattle.ward_check.proofs.checked_row.Reads as checked-row-reads
use Rattle.ward_check.proofs.in_plane.Kinds as in-plane-kinds
use Rattle.ward_check.proofs.in_plane.Reads as in-plane-reads

pub across_run_once : Sole 0 across-run-kinds.ps across-run-kinds.r across-run-reads.Post (λ κs r x. r)
across_run_once κs a r r' x x' p q = p ∙ sym q

pub in_plane_once : Sole 0 in-plane-kinds.ps in-plane-kinds.r in-plane-reads.Post (λ κs r x. r)
in_plane_once κs a r r' x x' p q = p ∙ sym q

pub checked_row_once : Sole 0 checked-row-kinds.ps checked-row-kinds.r checked-row-reads.Post (λ κs r x. r)
checked_row_once κs a r r' x x' p q = p ∙ sym q

-- ---- the refusals

-- what the call takes
record Asking : Type 0 where
  run : Run
  k : ℕ
  nth : ℕ
  plane : ℕ
  row : ℕ
  format : Format
  w : ℕ
  h : ℕ
  y : ℕ
  u : ℕ
  v : ℕ
  c : Window
  out : ℕ

abbrev checking : Asking → Answer
checking i = asked i.run i.k i.nth i.plane i.row i.format i.w i.h i.y i.u i.v i.c i.out (Ok tt)

-- the first row of Y, asked for as one of a plane, of a picture of w by 4 in colour, with a window up to a column and a buffer of so many bytes
abbrev first : (w plane right out : ℕ) → Asking
first w plane right out =
    record {
      run = Full;
      k = 0;
      nth = 0;
      plane = plane;
      row = 0;
      format = Colour;
      w = w;
      h = 4;
      y = 16;
      u = 4;
      v = 4;
      c = record { left = 0; top = 0; right = right; bottom = 4 };
      out = out;
    }

pub checked_row_refusals : Refuses checking (after_checks number_of 0) (Size ∷ Length ∷ OffWindow ∷ OutOfTurn ∷ [])
unfolding asked lengths_ok window_ok turn_ok plane_length size_ok
checked_row_refusals =
    record {
      only = λ i.
          by_checks (λ n. n) number_of 0 (Size ∷ Length ∷ OffWindow ∷ OutOfTurn ∷ []) (checking i) (λ r. refl) refl
          (rung (size_ok i.w i.h) Size _
          (rung (lengths_ok i.format i.w i.h i.y i.u i.v i.out) Length _
          (rung (window_ok i.c i.w i.h) OffWindow _
          (rung (turn_ok i.run i.k i.nth i.plane i.row i.format i.c) OutOfTurn _ last))));
      shown = first 0 1 3 0 ∷ first 4 1 3 0 ∷ first 4 1 3 4 ∷ first 4 1 4 4 ∷ [];
      given = refl;
    }

-- and it does not refuse always
pub checked_row_accepted : checking (first 4 0 4 4) ≡ Ok tt
unfolding asked lengths_ok window_ok turn_ok plane_length size_ok
checked_row_accepted = refl
