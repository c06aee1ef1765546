-- What the call that takes a map from bits tells of the digits of a sheet.
--     told, taken    by its answer: the descent's, the place after the digits, and the map
--     picture_met, picture_stopped
-- Assumes nothing.
use Rattle.std.specs.Prelude.{Ok, Err}
use mathlib.Core.List.{List}
use mathlib.Core.Path.{◌≡◌, refl, sym, ap, ◌∙◌}
use Prim.Native.Nat.{ℕ, ◌-◌, ◌*◌, ◌/◌, ◌≤◌}
use native.Mathlib.Nat.{zero-add}
use native.Mathlib.Omega.{arith}
use borrow.Author.Tests.{le-leb, eq-eqb}
use lib.ListN.{length, drop, length-drop, length-map}
use Rattle.def.specs.Answers.{answer_number, after_checks}
use Rattle.def.specs.Picture.{root_count}
use Rattle.def.specs.Answers.{Answer}
use Rattle.def.specs.declared.Refusal.{Refusal}
use Rattle.def.proofs.Answers.{answer_apart}
use Rattle.marks_rules.specs.Descent.{root_descent}
use Rattle.marks_rules.specs.Pictures.{upto, map_of}
use Rattle.marks_rules.proofs.Descents.{descend_take, descents_take}
use Rattle.pack_rules.specs.TakeCall as take-call
use Rattle.pack_rules.proofs.Grown.{map_walked}
use Rattle.split.specs.Picture.{roots, root_x, root_y, picture_walk}
use Rattle.sheet.specs.Descent.{values_of, picture_descent, as_sheet}
use Rattle.sheet.specs.Taken.{Sides, Met, Stopped, Pictured}
use Rattle.sheet.proofs.Lists.{size_fits}
use Rattle.sheet.proofs.Pictures.{count_roots}

-- the number of an outcome is that of its checks
numbered : (i : take-call.Input) → (take-call.outcome i).number ≡ answer_number (take-call.check i)
unfolding take-call.outcome
numbered i = by (take-call.check i) where
  by : (a : Answer) → (after_checks (take-call.refused i) (take-call.done i) a).number ≡ answer_number a
  by (Ok _) = refl
  by (Err r) = refl

module _ (w h : ℕ) (digits bits map : List ℕ) (s : Sides w h) (few : length digits ≤ 4096) (long : length map ≡ 1024 * roots (w / 4) (h / 4)) where
  abbrev asked : take-call.Input
  asked = record { w = w; h = h; src = bits; from = 0; to = length digits; map = map }

  checked : take-call.check asked ≡ (take-call.descent asked).walk.answer
  unfolding take-call.check take-call.places_ok
  checked =
      rw (
        size_fits w h s,
        eq-eqb (length map) (1024 * root_count w h) (long ∙ ap (λ (n : ℕ). 1024 * n) (sym (count_roots w h s).0)),
        le-leb 0 (length digits) (omega arith),
        le-leb (length digits) 4611686018427387904 (omega arith),
      )

  module _ (a : Answer) (at : ℕ) (m : List ℕ) (p : record { number = answer_number a; at = at; map = m } ≡ take-call.outcome asked) (e : take-call.digits asked ≡ values_of digits) where
    told : (picture_descent (w / 4) (h / 4) digits).walk.answer ≡ a
    told =
        ap (λ (ds : List ℕ). (upto (w / 4) (h / 4) ds (roots (w / 4) (h / 4))).walk.answer) (sym e) ∙ sym checked
        ∙ sym (answer_apart a (take-call.check asked) (ap (λ (o : take-call.Outcome). o.number) p ∙ numbered asked))

    pub picture_stopped : (r q : Refusal) → a ≡ Err r → q ≡ as_sheet r → Stopped (w / 4) (h / 4) digits q
    picture_stopped r q d f = record { why = r; found = told ∙ d; said = f }

    module _ (d : a ≡ Ok tt) where
      finished : record { number = answer_number a; at = at; map = m } ≡ take-call.done asked
      unfolding take-call.outcome
      finished = p ∙ ap (after_checks (take-call.refused asked) (take-call.done asked)) (sym (answer_apart a (take-call.check asked) (ap (λ (o : take-call.Outcome). o.number) p ∙ numbered asked)) ∙ d)

      place : at ≡ length (picture_descent (w / 4) (h / 4) digits).marks
      place =
          ap (λ (o : take-call.Outcome). o.at) finished ∙ zero-add _
          ∙ ap (λ (ds : List ℕ). length (upto (w / 4) (h / 4) ds (roots (w / 4) (h / 4))).marks) e

      given : m ≡ map_of (w / 4) (h / 4) (values_of digits)
      given = ap (λ (o : take-call.Outcome). o.map) finished ∙ ap (map_of (w / 4) (h / 4)) e

      left : (picture_descent (w / 4) (h / 4) digits).left ≡ drop at (values_of digits)
      left =
          descents_take (root_descent (w / 4) (h / 4)) (λ i l. descend_take (w / 4) (h / 4) 4 (root_x (w / 4) i) (root_y (w / 4) i) l) (roots (w / 4) (h / 4)) (values_of digits) (told ∙ d)
          ∙ ap (λ (n : ℕ). drop n (values_of digits)) (sym place)

      pub picture_met : Met (w / 4) (h / 4) digits m at
      picture_met =
          record {
            done = told ∙ d;
            left = ap length left ∙ length-drop at (values_of digits) ∙ ap (λ (n : ℕ). n - at) (length-map digits (λ (c : ℕ). c - 48));
            reads = ap (λ (t : List ℕ). picture_walk t (w / 4) (h / 4)) given ∙ map_walked (w / 4) (h / 4) (values_of digits) (told ∙ d);
          }
