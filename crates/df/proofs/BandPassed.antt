-- The call of a band: what holds of a band that passed its checks.
--     check_done    its number is 0 only where the checks found nothing
--     outcome_done    and then its outcome is that of the rule
--     band_passed    each check, as a fact of what is lent
--     at_next, next_few    the band is the position's next, and its number is small
-- Assumes nothing.
use Rattle.std.specs.Prelude.{Ok, Err}
use Prim.Native.Nat.{ℕ, ◌+◌, ◌*◌, ◌/◌, ◌≤◌}
use mathlib.Core.Path.{◌≡◌, refl, sym, ap, ◌∙◌}
use mathlib.Core.Bool.{true}
use mathlib.Core.List.{List}
use native.Mathlib.Omega.{arith}
use borrow.Author.Tests.{eqb-true, ltb-true}
use lib.Dec.{eqb}
use lib.ListN.{length, drop, length-drop}
use Rattle.def.proofs.Sizes.{sized}
use Rattle.band_rows.specs.Rows.{band_ok}
use Rattle.df_check.specs.BandCheck as band-check
use Rattle.df_check.proofs.Passed.{rest_passed}
use Rattle.def.specs.declared.Component.{Component}
use Rattle.def.specs.declared.Component.TheVariants.{Luma, Chroma}
use Rattle.def.specs.Formats.{in_format}
use Rattle.def.specs.declared.Format.{Format}
use Rattle.def.specs.declared.Format.TheVariants.{Grey, Colour}
use Rattle.bands_rules.specs.Bands.{places_of}
use Rattle.def.specs.Answers.{after_checks}
use Rattle.def.specs.Picture.{size_ok, roots_along, root_count, chroma_length}
use Rattle.def.specs.Answers.{Answer}
use Rattle.def.proofs.Answers.{number_some}
use Rattle.def.proofs.Ladders.{passes}
use Rattle.df_check.specs.Checks.{settings_ok, keep_ok, qps_ok}
use Rattle.samples.specs.Samples.{samples_ok}
use Rattle.samples.proofs.Samples.{samples_pass}
use Rattle.split.specs.Picture.{picture_walk}
use Rattle.split.proofs.Sides.{and-true}
use Rattle.df.specs.Band as band
use Rattle.df.proofs.Lengths.{luma_places, chroma_places, unit_places}

pub check_done : (j : band.Input) → (band.outcome j).reading.number ≡ 0 → band.check j ≡ Ok tt
unfolding band.outcome
check_done j e = go (band.check j) refl e where
  go : (a : Answer) → band.check j ≡ a → (after_checks (band.refused j) (band.done j) a).reading.number ≡ 0 → band.check j ≡ Ok tt
  go (Ok _) q z = q
  go (Err r) q z = absurd (let n = number_some r in omega arith)

pub outcome_done : (j : band.Input) → band.check j ≡ Ok tt → band.outcome j ≡ band.done j
unfolding band.outcome
outcome_done j e = ap (after_checks (band.refused j) (band.done j)) e

pub record BandPassed (j : band.Input) : Type 0 where
  pub size : size_ok j.w j.h ≡ true
  pub position : band_ok j.next j.band j.h ≡ true
  pub settings : settings_ok j.settings ≡ true
  pub long_y : length j.y ≡ places_of Luma (band.wide j) (band.top j + band.rows j)
  pub long_u : length j.u ≡ in_format j.settings.format (places_of Chroma (band.wide j) (band.top j + band.rows j))
  pub long_v : length j.v ≡ in_format j.settings.format (places_of Chroma (band.wide j) (band.top j + band.rows j))
  pub long_words : length j.words ≡ (band.top j + band.rows j) * band.wide j
  pub long_splits : length j.splits ≡ 1024 * root_count j.w (4 * band.rows j)
  pub long_motion : length j.motion ≡ 4 * ((band.top j + band.rows j) * band.wide j)
  pub long_refs : length j.refs ≡ 2 * ((band.top j + band.rows j) * band.wide j)
  pub long_keep : length j.keep ≡ (band.top j + band.rows j) * band.wide j
  pub long_strengths : length j.strengths ≡ 208
  pub walk : (picture_walk j.splits (band.wide j) (band.rows j)).answer ≡ Ok tt
  pub marks : keep_ok (band.checked_marks j) ≡ true
  pub qps : qps_ok (band.checked_words j) ≡ true
  pub y : samples_ok (band.checked_plane j Luma j.y) ≡ true
  pub u : samples_ok (band.checked_plane j Chroma j.u) ≡ true
  pub v : samples_ok (band.checked_plane j Chroma j.v) ≡ true

-- the samples of colour that are judged, by the format
colour_small : (f : Format) (n m l : ℕ) (p : List ℕ) → m ≡ n → length p ≡ in_format f l → samples_ok (drop (in_format f m) p) ≡ true → samples_ok (drop n p) ≡ true
colour_small Grey n m l p q e g = samples_pass (drop n p) (λ k h. absurd (omega (arith, length-drop n p)))
colour_small Colour n m l p q e g = ap (λ (k : ℕ). samples_ok (drop k p)) (sym q) ∙ g

-- rows of units, as rows of samples and back
in_units : (n : ℕ) → 4 * n / 4 ≡ n
in_units n = omega arith

pub band_passed : (j : band.Input) → band.check j ≡ Ok tt → BandPassed j
unfolding band-check.check_of
band_passed j e =
    let size = passes _ _ _ e in
    let next = passes _ _ _ size.rest in
    let rest = rest_passed _ _ _ _ next.rest in
    let whole = (sized j.w j.h size.holds).by_four in
    let r = band.top j + band.rows j in
    let f = j.settings.format in
    let n = rest.lengths in
    let small : (c : Component) (p : List ℕ) (m : ℕ) → m ≡ places_of c (band.wide j) (band.unchecked j) → samples_ok (drop m p) ≡ true → samples_ok (band.checked_plane j c p) ≡ true =
    λ c p m q g. ap (λ (k : ℕ). samples_ok (drop k p)) (sym q) ∙ g in
    record {
      size = size.holds;
      position = next.holds;
      settings = rest.settings;
      long_y = n.y ∙ luma_places j.w r whole;
      long_u = n.u ∙ ap (in_format f) (chroma_places j.w r whole);
      long_v = n.v ∙ ap (in_format f) (chroma_places j.w r whole);
      long_words = n.words ∙ unit_places j.w r whole;
      long_splits = n.splits;
      long_motion = n.motion ∙ ap (λ (k : ℕ). 4 * k) (unit_places j.w r whole);
      long_refs = n.refs ∙ ap (λ (k : ℕ). 2 * k) (unit_places j.w r whole);
      long_keep = n.keep ∙ unit_places j.w r whole;
      long_strengths = n.strengths;
      walk = ap (λ (k : ℕ). (picture_walk j.splits (band.wide j) k).answer) (sym (in_units (band.rows j))) ∙ rest.walk;
      marks = ap (λ (k : ℕ). keep_ok (drop k j.keep)) (sym (unit_places j.w (band.unchecked j) whole)) ∙ rest.marks;
      qps = ap (λ (k : ℕ). qps_ok (drop k j.words)) (sym (unit_places j.w (band.unchecked j) whole)) ∙ rest.qps;
      y = small Luma j.y _ (luma_places j.w (band.unchecked j) whole) rest.y;
      u = colour_small f _ _ (chroma_length j.w (4 * r)) j.u (chroma_places j.w (band.unchecked j) whole) n.u rest.u;
      v = colour_small f _ _ (chroma_length j.w (4 * r)) j.v (chroma_places j.w (band.unchecked j) whole) n.v rest.v;
    }

-- the band is the position's next
pub at_next : {j : band.Input} → BandPassed j → j.band ≡ j.next
unfolding band_ok
at_next {j} t = eqb-true _ _ (and-true _ _ t.position).0

pub next_few : {j : band.Input} → BandPassed j → j.next ≤ 64
unfolding band_ok
next_few {j} t =
    let e = at_next t in
    let l = ltb-true j.band (roots_along j.h) (and-true (eqb j.band j.next) _ t.position).1 in
    omega (arith, (sized j.w j.h t.size).high)
