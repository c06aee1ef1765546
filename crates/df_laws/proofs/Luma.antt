-- Two calls that are lent the same luma data agree in luma; and a picture without its colour is accepted. What a call does in luma asks nothing of colour:
-- it is what it does for the picture without it, and that picture is the same for both.
-- Assumes nothing.
use Rattle.std.specs.Prelude.{Ok}
use Prim.Native.Nat.{ℕ, zero, suc, ◌<◌}
use mathlib.Core.Path.{◌≡◌, refl, sym, ap, ◌∙◌}
use mathlib.Core.Bool.{true}
use mathlib.Core.List.{[]}
use native.Mathlib.Omega.{arith}
use borrow.Author.Tests.{eq-eqb}
use lib.IntN.{pos}
use Rattle.def.specs.declared.Format.TheVariants.{Grey}
use Rattle.samples.specs.Samples.{samples_ok}
use Rattle.samples.proofs.Samples.{samples_pass}
use Rattle.df_check.specs.Checks as checks
use Rattle.df_check.specs.Checks.{lengths_ok, settings_ok, offset_ok, planes_ok}
use Rattle.df_check.proofs.Passed.{Passed, passed, Rest, rest_passed}
use Rattle.df.specs.Band as band
use Rattle.df_laws.specs.Bands.{State, start, state_after, input_of, after, AcceptedTo}
use Rattle.df.specs.Deblock.{Input, Outcome, pass_edges, checked, check, done}
use Rattle.df_laws.specs.Luma.{SameLuma, LumaAgrees, BandsAgree, without_colour}
use Rattle.df_laws.proofs.Demand3.{is_done}
use Rattle.df.proofs.BandPassed.{check_done, outcome_done as band_done}
use Rattle.df_laws.proofs.Parted.{size, onward}

-- what a state has of luma
abbrev luma_of : State → State
luma_of s = record { y = s.y; u = []; v = []; words = s.words; next = s.next; vertical = s.vertical; horizontal = s.horizontal }

-- a band's call in luma, and that it is the same without colour
abbrev luma_after : Input → ℕ → State → State
luma_after i k s = luma_of (after i k s (band.done (input_of i k s)))

no_colour : (i : Input) (k : ℕ) (s : State) → luma_after i k s ≡ luma_after (without_colour i) k (luma_of s)
no_colour i k s = refl

module _ {i j : Input} (s : SameLuma i j) where
  -- both pictures without their colour are one
  grey_same : without_colour i ≡ without_colour j
  grey_same t =
      record {
        w = s.w t;
        h = s.h t;
        y = s.y t;
        u = [];
        v = [];
        words = s.words t;
        splits = s.splits t;
        motion = s.motion t;
        refs = s.refs t;
        keep = s.keep t;
        table0 = [];
        table1 = [];
        strengths = s.strengths t;
        settings = record { limit = s.limit t; u_offset = pos 0; v_offset = pos 0; format = Grey };
      }

  pub same_luma : check i ≡ Ok tt → check j ≡ Ok tt → LumaAgrees i j
  same_luma a b =
      let e = is_done i a in
      let f = sym (is_done j b) in
      record {
        lists = λ d. ap (pass_edges d) grey_same;
        reading = ap (λ (o : Outcome). o.reading) e ∙ ap (λ (k : Input). (done k).reading) grey_same ∙ ap (λ (o : Outcome). o.reading) f;
        y = ap (λ (o : Outcome). o.y) e ∙ ap (λ (k : Input). (done k).y) grey_same ∙ ap (λ (o : Outcome). o.y) f;
        words = ap (λ (o : Outcome). o.words) e ∙ ap (λ (k : Input). (done k).words) grey_same ∙ ap (λ (o : Outcome). o.words) f;
      }

  -- ---- band by band

  Agree : (n : ℕ) → AcceptedTo i n → AcceptedTo j n → luma_of (state_after i n) ≡ luma_of (state_after j n)
  unfolding state_after
  Agree zero a b = ap (λ (k : Input). luma_of (start k)) grey_same
  Agree (suc n) a b =
      let here : n < suc n = omega arith in
      let before = Agree n (λ k l. a k (omega arith)) (λ k l. b k (omega arith)) in
      ap (λ (o : band.Outcome). luma_of (after i n (state_after i n) o)) (band_done _ (check_done _ (a n here)))
      ∙ no_colour i n (state_after i n) ∙ (λ t. luma_after (grey_same t) n (before t)) ∙ sym (no_colour j n (state_after j n))
      ∙ ap (λ (o : band.Outcome). luma_of (after j n (state_after j n) o)) (sym (band_done _ (check_done _ (b n here))))

  pub same_bands : (n : ℕ) → AcceptedTo i n → AcceptedTo j n → BandsAgree i j n
  same_bands n a b =
      let e = Agree n a b in
      record {
        y = ap (λ (t : State). t.y) e;
        words = ap (λ (t : State). t.words) e;
        next = ap (λ (t : State). t.next) e;
        vertical = ap (λ (t : State). t.vertical) e;
        horizontal = ap (λ (t : State). t.horizontal) e;
      }

-- ---- a picture without its colour

module _ (i : Input) (ok : check i ≡ Ok tt) where
  abbrev told : Passed (checked i)
  told = passed (checked i) ok

  abbrev left : Rest i.h i.h 0 (checked i)
  left = rest_passed i.h i.h 0 (checked i) (onward i ok)

  grey_lengths : lengths_ok Grey i.w i.h i.h (checks.lengths_of (checked (without_colour i))) ≡ true
  unfolding lengths_ok
  grey_lengths =
      let n = told.lengths in
      rw (eq-eqb _ _ n.y, eq-eqb _ _ n.words, eq-eqb _ _ n.splits, eq-eqb _ _ n.motion, eq-eqb _ _ n.refs, eq-eqb _ _ n.keep, eq-eqb _ _ n.strengths) refl

  grey_settings : settings_ok (without_colour i).settings ≡ true
  unfolding settings_ok offset_ok
  grey_settings = rw told.limit refl

  no_sample : samples_ok [] ≡ true
  no_sample = samples_pass [] (λ k h. absurd (omega arith))

  pub stays_accepted : check (without_colour i) ≡ Ok tt
  unfolding checks.check_of checks.from_lengths planes_ok
  stays_accepted = rw (size i ok, grey_lengths, grey_settings, left.walk, left.marks, left.qps, left.y, no_sample) refl

-- a grey picture agrees in luma with the picture in colour
pub grey_luma : (i : Input) → SameLuma i (without_colour i)
grey_luma i = record { w = refl; h = refl; y = refl; words = refl; splits = refl; motion = refl; refs = refl; keep = refl; strengths = refl; limit = refl }
