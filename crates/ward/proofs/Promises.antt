-- What is promised of the calls: over their contracts as the checker reads them from the source, the arguments determine the answer and the row's buffer; which
-- refusals `row` gives, in the order of its ladder, each with an input that meets it; and that it does not refuse always.
--     row_once, first_once
--     row_refusals
--     accepted
-- The answer is determined, and not its reading alone, because the reading tells all answers apart: `reading_apart`.
-- Assumes nothing.
use Rattle.std.specs.Prelude.{Result, Ok, Err}
use mathlib.Core.List.{List, [], ◌∷◌}
use mathlib.Core.Path.{◌≡◌, refl, sym, ap, ap₂, ◌∙◌}
use Prim.Native.Nat.{ℕ}
use native.Mathlib.Omega.{arith}
use lib.ListN.{length, replicate}
use Rattle.laws.specs.Scan.{all_below}
use Rattle.decoder.proofs.Face.{number_apart, number_some}
use Rattle.decoder.specs.Face.{size_ok, Refusal}
use Rattle.decoder.specs.Face.formats.{Grey, Colour}
use Rattle.decoder.specs.Face.refusals.{Size, Length, Sample, Window as OffWindow, Turn as OutOfTurn}
use Rattle.decoder.specs.Promise.{ended, Sole, Refuses}
use Rattle.decoder.proofs.Refusing.{last, rung, by_checks}
use Rattle.decoder.proofs.Settled.{settled}
use Rattle.ward_check.specs.Checks as checks
use Rattle.ward_check.specs.Sizes.{plane_length}
use Rattle.ward_check.specs.declared.Run.{Run}
use Rattle.ward_check.specs.declared.Run.TheVariants.{Full, Preview}
use Rattle.ward_check.specs.declared.Window.{Window}
use Rattle.ward_rows.specs.Rows.{made_ok}
use Rattle.ward_rows.specs.Samples.{run_ok}
use Rattle.ward.specs.RowCall as call
use Rattle.ward.specs.Turns.{first_turn}
use Rattle.ward.specs.declared.Rowed.{Rowed}
use Rattle.ward.specs.declared.Turn.{Turn}
use Rattle.ward.proofs.Turn.first.Kinds as first-kinds
use Rattle.ward.proofs.Turn.first.Reads as first_reads
use Rattle.ward.proofs.Turn.row.Kinds as row-kinds
use Rattle.ward.proofs.Turn.row.Reads as row_reads

written_apart : (t s : Turn) (a b : Result ℕ Refusal) → call.reading_by t a ≡ call.reading_by s b → a ≡ b
written_apart t s (Ok n) (Ok m) e = ap Ok (ap (λ (o : call.Reading). o.written) e)
written_apart t s (Ok n) (Err r) e = absurd (let z = ap (λ (o : call.Reading). o.number) e in omega (arith, number_some r))
written_apart t s (Err r) (Ok m) e = absurd (let z = ap (λ (o : call.Reading). o.number) e in omega (arith, number_some r))
written_apart t s (Err r) (Err q) e = ap Err (number_apart r q (ap (λ (o : call.Reading). o.number) e))

turn_of : (t : Turn) (a : Result ℕ Refusal) → (call.reading_by t a).turn ≡ t
turn_of t (Ok n) = refl
turn_of t (Err r) = refl

pub reading_apart : (a b : Rowed) → call.reading_of a ≡ call.reading_of b → a ≡ b
reading_apart a b e =
    ap₂ (λ (w : Result ℕ Refusal) (t : Turn). record { written = w; next = t }) (written_apart a.next b.next a.written b.written e)
    (sym (turn_of a.next a.written) ∙ ap (λ (o : call.Reading). o.turn) e ∙ turn_of b.next b.written)

pub first_once : Sole 0 first-kinds.ps first-kinds.r first_reads.Post (λ κs r x. r)
first_once κs a r r' x x' p q = p ∙ sym q

pub row_once : Sole 4 row-kinds.ps row-kinds.r row_reads.Post (λ κs r x. ended r (x.1.1.1.1.1.1.1.1.1.1.0.now ∷ []))
row_once κs a r r' x x' p q = settled call.outcome (λ o. o.reading) (λ o. o.out ∷ []) p q (reading_apart r r')

-- ---- the refusals

-- the first row of a picture of 4 by 4 whose samples are all alike
abbrev up_to : ℕ → Window
up_to right = record { left = 0; top = 0; right = right; bottom = 4 }

abbrev asking : Run → (w : ℕ) → (plane right sample : ℕ) → List ℕ → call.Input
asking run w plane right sample out =
    record {
      turn = first_turn run;
      plane = plane;
      row = 0;
      format = Colour;
      w = w;
      h = 4;
      y = replicate 16 sample;
      u = replicate 4 sample;
      v = replicate 4 sample;
      window = up_to right;
      out = out;
    }

pub row_refusals : Refuses call.outcome (λ o. o.reading.number) (Size ∷ Length ∷ OffWindow ∷ OutOfTurn ∷ Sample ∷ [])
unfolding call.outcome checks.asked checks.lengths_ok checks.window_ok checks.turn_ok plane_length made_ok run_ok size_ok all_below
row_refusals =
    record {
      only = λ i.
          by_checks (λ o. o.reading.number) (call.refused i.turn i.out) (call.done i.turn i.w i.window (call.lent_plane i) i.out)
          (Size ∷ Length ∷ OffWindow ∷ OutOfTurn ∷ Sample ∷ []) (call.check i) (λ r. refl) refl
          (rung (size_ok i.w i.h) Size _
          (rung (checks.lengths_ok i.format i.w i.h (length i.y) (length i.u) (length i.v) (length i.out)) Length _
          (rung (checks.window_ok i.window i.w i.h) OffWindow _
          (rung (call.turn_ok i.turn i.plane i.row i.format i.window) OutOfTurn _
          (rung (call.row_ok i.turn i.w i.window (call.lent_plane i)) Sample _ last)))));
      shown =
          asking Full 0 1 3 1024 []
          ∷ asking Full 4 1 3 1024 []
          ∷ asking Full 4 1 3 1024 (replicate 4 0)
          ∷ asking Full 4 1 4 1024 (replicate 4 0)
          ∷ asking Full 4 0 4 1024 (replicate 4 0)
          ∷ [];
      given = refl;
    }

-- ---- it does not refuse always: either run, and a grey picture

abbrev grey : call.Input
grey =
    record {
      turn = first_turn Full;
      plane = 0;
      row = 0;
      format = Grey;
      w = 4;
      h = 4;
      y = replicate 16 1023;
      u = [];
      v = [];
      window = up_to 4;
      out = replicate 4 0;
    }

pub accepted :
    (call.outcome (asking Full 4 0 4 1023 (replicate 4 0))).reading.number
    ∷ (call.outcome (asking Preview 4 0 4 1023 (replicate 4 0))).reading.number
    ∷ (call.outcome grey).reading.number
    ∷ []
    ≡ replicate 3 0
unfolding call.outcome checks.asked checks.lengths_ok checks.window_ok checks.turn_ok plane_length made_ok run_ok size_ok all_below
accepted = refl
