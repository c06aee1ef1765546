-- What the driver leaves of a picture is accepted by deblocking: none of 1, 4 and 5, no 2 for the planes, the words, the
-- keep marks and the split bytes, no 15, no 6 for a luma QP, and no 7.
-- Assumes nothing.
use Rattle.std.specs.Prelude.{Ok}
use Prim.Native.Nat.{ℕ, ◌*◌, ◌/◌}
use native.Mathlib.Nat.{mul-zero}
use mathlib.Core.Bool.{true}
use mathlib.Core.Path.{◌≡◌, sym, ap, ◌∙◌}
use borrow.Author.Tests.{eq-eqb}
use lib.ListN.{length}
use native.Mathlib.Omega.{arith}
use Rattle.def.specs.Formats.{in_format}
use Rattle.def.specs.Picture.{size_ok, unit_count, root_count, luma_length, chroma_length}
use Rattle.samples.specs.Samples.{samples_ok}
use Rattle.split.specs.Picture.{picture_walk}
use Rattle.driver_rules.specs.Call as driver
use Rattle.driver_rules.proofs.Checks.{all_passed}
use Rattle.driver_rules.proofs.Finished.{last, finished}
use Rattle.df_check.specs.Checks as deblocking
use Rattle.df_check.proofs.Formats.{none_before}
use Rattle.decoder.specs.Joined.{Follows, Lent, Joined}

module _ (i : driver.Input) (fine : driver.check i ≡ Ok tt) where
  left : driver.outcome i ≡ driver.done i
  unfolding driver.outcome
  left = rw fine

  module _ (j : deblocking.Input) (f : Follows i j) (l : Lent j) where
    is_y : j.y ≡ (driver.end i).y
    is_y = f.y ∙ ap (λ (o : driver.Outcome). o.y) left

    is_u : j.u ≡ (driver.end i).u
    is_u = f.u ∙ ap (λ (o : driver.Outcome). o.u) left

    is_v : j.v ≡ (driver.end i).v
    is_v = f.v ∙ ap (λ (o : driver.Outcome). o.v) left

    is_keep : j.keep ≡ (driver.end i).keep
    is_keep = f.keep ∙ ap (λ (o : driver.Outcome). o.keep) left

    is_words : j.words ≡ (driver.end i).words
    is_words = f.words ∙ ap (λ (o : driver.Outcome). o.words) left

    sides : size_ok j.w j.h ≡ true
    sides = (λ k. size_ok (f.w k) (f.h k)) ∙ (all_passed i fine).accepted.size

    walked : (picture_walk j.splits (j.w / 4) (j.h / 4)).answer ≡ Ok tt
    walked = (λ k. (picture_walk (f.splits k) (f.w k / 4) (f.h k / 4)).answer) ∙ (all_passed i fine).accepted.walked

    long_y : length j.y ≡ luma_length j.w j.h
    long_y =
        let a : i.given.w / 1 ≡ j.w = omega (arith, f.w) in
        let b : i.given.h / 1 ≡ j.h = omega (arith, f.h) in
        ap length is_y ∙ (last i fine).y_long ∙ (λ k. a k * b k)

    long_u : length j.u ≡ deblocking.colour_length j.settings.format j.w j.h
    long_u = ap length is_u ∙ (last i fine).u_long ∙ (λ k. in_format (sym f.format k) (chroma_length (sym f.w k) (sym f.h k)))

    long_v : length j.v ≡ deblocking.colour_length j.settings.format j.w j.h
    long_v = ap length is_v ∙ (last i fine).v_long ∙ (λ k. in_format (sym f.format k) (chroma_length (sym f.w k) (sym f.h k)))

    long_words : length j.words ≡ unit_count j.w j.h
    long_words = ap length is_words ∙ (last i fine).words_long ∙ (λ k. unit_count (sym f.w k) (sym f.h k))

    long_keep : length j.keep ≡ unit_count j.w j.h
    long_keep = ap length is_keep ∙ (last i fine).keep_long ∙ (λ k. unit_count (sym f.w k) (sym f.h k))

    long_splits : length j.splits ≡ 1024 * root_count j.w j.h
    long_splits = ap length f.splits ∙ (all_passed i fine).accepted.long ∙ (λ k. 1024 * root_count (sym f.w k) (sym f.h k))

    lengths : deblocking.lengths_ok j.settings.format j.w j.h j.h (deblocking.lengths_of j) ≡ true
    unfolding deblocking.lengths_ok
    lengths =
        rw (
          eq-eqb _ _ long_y,
          eq-eqb _ _ long_u,
          eq-eqb _ _ long_v,
          eq-eqb _ _ long_words,
          eq-eqb _ _ long_splits,
          eq-eqb _ _ l.motion,
          eq-eqb _ _ l.refs,
          eq-eqb _ _ long_keep,
          eq-eqb _ _ l.table0,
          eq-eqb _ _ l.table1,
          eq-eqb _ _ l.strengths,
        )

    marks : deblocking.keep_ok j.keep ≡ true
    unfolding deblocking.keep_ok
    marks = rw is_keep (finished i fine).keeps

    qps : deblocking.qps_ok j.words ≡ true
    unfolding deblocking.qps_ok
    qps = rw is_words (finished i fine).qps

    samples : deblocking.planes_ok j.y j.u j.v ≡ true
    unfolding deblocking.planes_ok
    samples =
        let e = finished i fine in
        rw (ap samples_ok is_y ∙ e.y_small, ap samples_ok is_u ∙ e.u_small, ap samples_ok is_v ∙ e.v_small)

    accepts : deblocking.check_of j ≡ Ok tt
    unfolding deblocking.check_of deblocking.from_lengths
    accepts = rw (mul-zero j.w, none_before j.settings.format j.w, mul-zero (j.w / 4), sides, lengths, l.settings, walked, marks, qps, samples)

pub joined : Joined
joined = accepts
