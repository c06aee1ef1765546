-- The outcome of `put_map`, by what its checks find.
-- Assumes nothing.
use Rattle.std.specs.Prelude.{Ok, Err}
use mathlib.Core.Bool.{Bool, true, false}
use mathlib.Core.List.{List}
use mathlib.Core.Path.{◌≡◌, sym, ap, ap₂, ◌∙◌}
use Prim.Native.Nat.{ℕ, ◌/◌, ◌≤◌, ◌<◌}
use borrow.Author.Tests.{eq-eqb, le-leb, lt-leb}
use lib.ListN.{length}
use Rattle.def.specs.Answers.{after_checks}
use Rattle.def.specs.Refusals.{number_of}
use Rattle.def.specs.declared.Refusal.{Refusal}
use Rattle.def.specs.declared.Refusal.TheVariants.{Bits}
use Rattle.laws.specs.Call.{unless}
use Rattle.pack_rules.specs.Form.{bits_in, end_of, packed, room_ok}
use Rattle.pack_rules.specs.PutCall as put-call
use Rattle.split.specs.Picture.{picture_walk}
use Rattle.pack_rules.specs.Taken.{Mapped, Accepted}

module _ (i : put-call.Input) where
  pub put_refused : (r : Refusal) → Err r ≡ put-call.check i → record { number = number_of r; at = i.at; buf = i.buf } ≡ put-call.outcome i
  unfolding put-call.outcome
  put_refused r e = rw (sym e)

  module _ (z : Mapped i.w i.h (length i.splits)) where
    put_checked : put-call.check i
        ≡ after_checks Err (unless (room_ok (length i.buf) i.at (length (put-call.digits i))) (Err Bits) (Ok tt)) (picture_walk i.splits (i.w / 4) (i.h / 4)).answer
    unfolding put-call.check
    put_checked = rw (z.size, eq-eqb _ _ z.bytes)

    -- the walk is refused
    pub put_stopped : (r : Refusal) → (picture_walk i.splits (i.w / 4) (i.h / 4)).answer ≡ Err r → record { number = number_of r; at = i.at; buf = i.buf } ≡ put-call.outcome i
    put_stopped r e =
        put_refused r
        (sym (put_checked ∙ ap (after_checks Err (unless (room_ok (length i.buf) i.at (length (put-call.digits i))) (Err Bits) (Ok tt))) e))

  module _ {n : ℕ} (a : Accepted i.w i.h i.splits n) where
    checked : (t : Bool) → room_ok (length i.buf) i.at n ≡ t → put-call.check i ≡ unless t (Err Bits) (Ok tt)
    checked t e =
        put_checked a.mapped ∙ ap (after_checks Err (unless (room_ok (length i.buf) i.at (length (put-call.digits i))) (Err Bits) (Ok tt))) a.done
        ∙ ap (λ (b : Bool). unless b (Err Bits) (Ok tt)) (ap (room_ok (length i.buf) i.at) (sym a.count) ∙ e)

    -- the room is less than the map's own bytes
    pub put_short : bits_in (length i.buf) < end_of i.at n → record { number = 16; at = i.at; buf = i.buf } ≡ put-call.outcome i
    unfolding room_ok
    put_short l = put_refused Bits (sym (checked false (lt-leb _ _ l)))

    pub put_done : (at : ℕ) (buf : List ℕ) → end_of i.at n ≤ bits_in (length i.buf) → at ≡ end_of i.at n → buf ≡ packed i.buf i.at (put-call.digits i)
        → record { number = 0; at = at; buf = buf } ≡ put-call.outcome i
    unfolding room_ok put-call.outcome
    put_done at buf l e f =
        sym (ap (after_checks (put-call.refused i) (put-call.done i)) (checked true (le-leb _ _ l))
        ∙ ap₂ (λ (k : ℕ) (b : List ℕ). record { number = 0; at = k; buf = b }) (ap (end_of i.at) (sym a.count) ∙ sym e) (sym f))
