-- The outcomes of `get_map` and `take_map`, by what their checks find.
-- Assumes nothing.
use Rattle.std.specs.Prelude.{Ok, Err}
use mathlib.Core.Bool.{Bool, true, false}
use mathlib.Core.List.{List, []}
use mathlib.Core.Path.{◌≡◌, refl, sym, ap, ◌∙◌}
use Prim.Native.Nat.{ℕ, ◌-◌, ◌/◌, ◌<◌}
use native.Mathlib.Nat.{mul-pos}
use native.Mathlib.Omega.{arith}
use borrow.Author.Tests.{eq-eqb}
use lib.ListN.{length}
use Rattle.bits.specs.Bits.{bits_from}
use Rattle.def.proofs.Sizes.{sized}
use Rattle.def.specs.Answers.{after_checks}
use Rattle.def.specs.Refusals.{number_of}
use Rattle.def.specs.declared.Refusal.{Refusal}
use Rattle.def.specs.declared.Refusal.TheVariants.{Bits}
use Rattle.laws.specs.Call.{unless}
use Rattle.laws.specs.Index.{tabulate_from}
use Rattle.marks_rules.specs.Pictures.{upto}
use Rattle.pack_rules.specs.Form.{bits_in, start_of, digits_from, fill_ok}
use Rattle.pack_rules.specs.GetCall as get-call
use Rattle.pack_rules.specs.TakeCall as take-call
use Rattle.split.proofs.Roots.{some_wide}
use Rattle.split.specs.Picture.{across, roots}
use Rattle.pack_rules.specs.Taken.{Mapped}
use Rattle.unpack.proofs.Reading.{none_read}

-- ---- get_map

module _ (i : get-call.Input) where
  pub get_refused : (r : Refusal) → Err r ≡ get-call.check i → record { number = number_of r; at = i.at; map = i.map } ≡ get-call.outcome i
  unfolding get-call.outcome
  get_refused r e = rw (sym e)

  module _ (z : Mapped i.w i.h (length i.map)) where
    get_checked : get-call.check i ≡ after_checks Err (unless (fill_ok i.src i.at (get-call.count i)) (Err Bits) (Ok tt)) (get-call.descent i).walk.answer
    unfolding get-call.check
    get_checked = rw (z.size, eq-eqb _ _ z.bytes)

    pub get_stopped : (r : Refusal) → (get-call.descent i).walk.answer ≡ Err r → record { number = number_of r; at = i.at; map = i.map } ≡ get-call.outcome i
    get_stopped r e = get_refused r (sym (get_checked ∙ ap (after_checks Err (unless (fill_ok i.src i.at (get-call.count i)) (Err Bits) (Ok tt))) e))

    module _ (d : (get-call.descent i).walk.answer ≡ Ok tt) where
      filled : (t : Bool) → fill_ok i.src i.at (get-call.count i) ≡ t → get-call.check i ≡ unless t (Err Bits) (Ok tt)
      filled t e = get_checked ∙ ap (after_checks Err (unless (fill_ok i.src i.at (get-call.count i)) (Err Bits) (Ok tt))) d ∙ ap (λ (b : Bool). unless b (Err Bits) (Ok tt)) e

      -- a fill bit is not 0
      pub get_unfilled : fill_ok i.src i.at (get-call.count i) ≡ false → record { number = 16; at = i.at; map = i.map } ≡ get-call.outcome i
      get_unfilled e = get_refused Bits (sym (filled false e))

      pub get_done : (o : get-call.Outcome) → fill_ok i.src i.at (get-call.count i) ≡ true → o ≡ get-call.done i → o ≡ get-call.outcome i
      unfolding get-call.outcome
      get_done o e f = f ∙ sym (ap (after_checks (get-call.refused i) (get-call.done i)) (filled true e))

    -- a position past the buffer: no digit is there
    pub get_past : bits_in (length i.src) < i.at → record { number = 16; at = i.at; map = i.map } ≡ get-call.outcome i
    unfolding tabulate_from
    get_past l =
        let s = sized _ _ z.size in
        let e : bits_in (length i.src) - start_of i.at ≡ 0 = omega arith in
        let none : digits_from i.src i.at ≡ [] = ap (bits_from i.src (start_of i.at)) e in
        let some : 0 < roots (i.w / 4) (i.h / 4) = mul-pos {m = across (i.w / 4)} {n = across (i.h / 4)} (omega (arith, s.some_wide)) (omega (arith, s.some_high)) in
        get_stopped Bits
        (ap (λ (ds : List ℕ). (upto (i.w / 4) (i.h / 4) ds (roots (i.w / 4) (i.h / 4))).walk.answer) none
        ∙ none_read (i.w / 4) (i.h / 4) (roots (i.w / 4) (i.h / 4)) (some_wide s) refl some)

-- ---- take_map

module _ (i : take-call.Input) where
  pub take_refused : (r : Refusal) → Err r ≡ take-call.check i → record { number = number_of r; at = i.from; map = i.map } ≡ take-call.outcome i
  unfolding take-call.outcome
  take_refused r e = rw (sym e)

  module _ (z : Mapped i.w i.h (length i.map)) where
    take_checked : (t : Bool) → take-call.places_ok i.from i.to ≡ t → take-call.check i ≡ unless t (Err Bits) (take-call.descent i).walk.answer
    unfolding take-call.check
    take_checked t e = rw (z.size, eq-eqb _ _ z.bytes, e)

    -- places that no slice has
    pub take_off : take-call.places_ok i.from i.to ≡ false → record { number = 16; at = i.from; map = i.map } ≡ take-call.outcome i
    take_off e = take_refused Bits (sym (take_checked false e))

    module _ (e : take-call.places_ok i.from i.to ≡ true) where
      pub take_stopped : (r : Refusal) → (take-call.descent i).walk.answer ≡ Err r → record { number = number_of r; at = i.from; map = i.map } ≡ take-call.outcome i
      take_stopped r f = take_refused r (sym (take_checked true e ∙ f))

      pub take_done : (o : take-call.Outcome) → (take-call.descent i).walk.answer ≡ Ok tt → o ≡ take-call.done i → o ≡ take-call.outcome i
      unfolding take-call.outcome
      take_done o d f = f ∙ sym (ap (after_checks (take-call.refused i) (take-call.done i)) (take_checked true e ∙ d))
