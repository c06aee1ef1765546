-- `df_check::check::from_lengths` meets its contract: a row of checks. `past1` to `past5` are what a check, passed, leaves of the row. Assumes nothing.
use Rattle.std.specs.Prelude.{Ok, Err}
use Prim.Native.Nat.{ℕ, ◌-◌, ◌/◌, ◌≤◌}
use mathlib.Core.Bool.{Bool, true, false, not}
use mathlib.Core.Path.{◌≡◌, refl, sym, ap, ◌∙◌}
use mathlib.Core.List.{List}
use native.Mathlib.Nat.{mul-le-mul}
use native.Mathlib.Omega.{arith}
use borrow.Rule.Slice.PartMut.{mid_of}
use lib.ListN.{length, drop}
use Rattle.std.proofs.lemmas.Result.{err_from_is_err_and}
use Rattle.laws.specs.Call.{unless}
use Rattle.laws.proofs.Calls.{stops, goes_on}
use Rattle.def.specs.Answers.{Answer, after_checks}
use Rattle.def.specs.Picture.{size_ok, luma_length, chroma_length, unit_count}
use Rattle.def.specs.declared.Format.{Format}
use Rattle.def.specs.declared.Refusal.TheVariants.{Length, Setting, Keep, Qp, Sample}
use Rattle.def.proofs.Answers.{on_refusal, on_done}
use Rattle.def.proofs.Sizes.{sized}
use Rattle.split.specs.Picture.{picture_walk}
use Rattle.df_check.specs.Checks.{Input, colour_length, lengths_of, lengths_ok, settings_ok, keep_ok, qps_ok, planes_ok, from_lengths}
use Rattle.df_check.proofs.Formats.{in_order, at_most}
use Rattle.df_check.proofs.Fronts.{whole_end}
use Rattle.df_check.proofs.Passed.{lengths_told}
use Rattle.df_check.proofs.Walked.{walked}
use Rattle.df_check.proofs.check.from_lengths.Goals as goal

-- ---- the row past its first check, its second, and so on

module _ (n own b : ℕ) (i : Input) where
  abbrev rest5 : Answer
  rest5 =
      let c = colour_length i.settings.format i.w b in
      unless (planes_ok (drop (luma_length i.w b) i.y) (drop c i.u) (drop c i.v)) (Err Sample) (Ok tt)

  abbrev rest4 : Answer
  rest4 = unless (qps_ok (drop (unit_count i.w b) i.words)) (Err Qp) rest5

  abbrev rest3 : Answer
  rest3 = unless (keep_ok (drop (unit_count i.w b) i.keep)) (Err Keep) rest4

  abbrev rest2 : Answer
  rest2 = after_checks Err rest3 (picture_walk i.splits (i.w / 4) (own / 4)).answer

  abbrev rest1 : Answer
  rest1 = unless (settings_ok i.settings) (Err Setting) rest2

  abbrev asked : Answer
  asked = from_lengths n own b i

  no_lengths : {t : Bool} → t ≡ lengths_ok i.settings.format i.w n own (lengths_of i) → t ≡ false → Err Length ≡ asked
  unfolding from_lengths
  no_lengths e f = stops _ _ _ _ e (ap not f)

  module _ {t : Bool} (e : t ≡ lengths_ok i.settings.format i.w n own (lengths_of i)) (f : t ≡ true) where
    past1 : (r : Answer) → r ≡ rest1 → r ≡ asked
    unfolding from_lengths
    past1 r p = goes_on _ _ _ _ r e (ap not f) p

    no_settings : {s : Bool} → s ≡ settings_ok i.settings → s ≡ false → Err Setting ≡ asked
    no_settings g h = past1 _ (stops _ _ _ _ g (ap not h))

    module _ {s : Bool} (g : s ≡ settings_ok i.settings) (h : s ≡ true) where
      past2 : (r : Answer) → r ≡ rest2 → r ≡ asked
      past2 r p = past1 r (goes_on _ _ _ _ r g (ap not h) p)

      module _ {a : Answer} (j : a ≡ (picture_walk i.splits (i.w / 4) (own / 4)).answer) (k : a ≡ Ok tt) where
        past3 : (r : Answer) → r ≡ rest3 → r ≡ asked
        past3 r p = past2 r (on_done Err _ _ _ r j k p)

        module _ {m : Bool} (l : m ≡ keep_ok (drop (unit_count i.w b) i.keep)) (o : m ≡ true) where
          past4 : (r : Answer) → r ≡ rest4 → r ≡ asked
          past4 r p = past3 r (goes_on _ _ _ _ r l (ap not o) p)

          module _ {q : Bool} (u : q ≡ qps_ok (drop (unit_count i.w b) i.words)) (v : q ≡ true) where
            past5 : (r : Answer) → r ≡ rest5 → r ≡ asked
            past5 r p = past4 r (goes_on _ _ _ _ r u (ap not v) p)

-- ---- what is not judged lies in what is lent

record Before (f : Format) (w n b : ℕ) : Type 0 where
  units : unit_count w b ≤ unit_count w n
  luma : luma_length w b ≤ luma_length w n
  chroma : colour_length f w b ≤ colour_length f w n
  few_units : unit_count w b ≤ 1048576
  few_luma : luma_length w b ≤ 16777216
  few_chroma : chroma_length w b ≤ 4194304
  few_colour : colour_length f w b ≤ 4194304

before : (f : Format) (w n b : ℕ) → size_ok w n ≡ true → b ≤ n → Before f w n b
before f w n b s l =
    let z = sized _ _ s in
    let wide = z.wide in
    let high = z.high in
    let small : chroma_length w b ≤ 4194304 = mul-le-mul {n₁ = w / 2} {m₁ = b / 2} {n₂ = 2048} {m₂ = 2048} (omega arith) (omega arith) in
    record {
      units = mul-le-mul {n₁ = w / 4} {m₁ = b / 4} {n₂ = w / 4} {m₂ = n / 4} (omega arith) (omega arith);
      luma = mul-le-mul {n₁ = w} {m₁ = b} {n₂ = w} {m₂ = n} (omega arith) l;
      chroma = in_order f _ _ (mul-le-mul {n₁ = w / 2} {m₁ = b / 2} {n₂ = w / 2} {m₂ = n / 2} (omega arith) (omega arith));
      few_units = mul-le-mul {n₁ = w / 4} {m₁ = b / 4} {n₂ = 1024} {m₂ = 1024} (omega arith) (omega arith);
      few_luma = mul-le-mul {n₁ = w} {m₁ = b} {n₂ = 4096} {m₂ = 4096} wide (omega arith);
      few_chroma = small;
      few_colour = at_most f _ _ small;
    }

-- the end of a slice that is judged
ended : {n m : ℕ} (l : List ℕ) → n ≡ m → mid_of n (length l - n) l ≡ drop m l
ended {n = n} l e = whole_end n l ∙ ap (λ (k : ℕ). drop k l) e

-- ---- the goals

pub lengths_ok-requires : goal.lengths_ok-requires
lengths_ok-requires c = let p = c.requires in (sized _ _ p.0, sized _ _ p.1)

pub returns-then-not-lengths_ok : goal.returns-then-not-lengths_ok
returns-then-not-lengths_ok c = no_lengths _ _ _ _ c.lengths_ok.ensures c.if-not-lengths_ok.true

pub returns-then-not-settings_ok : goal.returns-then-not-settings_ok
returns-then-not-settings_ok c = no_settings _ _ _ _ c.lengths_ok.ensures c.if-not-lengths_ok.false c.settings_ok.ensures c.if-not-settings_ok.true

pub returns-in_err-check : goal.returns-in_err-check
returns-in_err-check c =
    let l = lengths_told _ _ _ _ _ (sym c.lengths_ok.ensures ∙ c.if-not-lengths_ok.false) in
    let p = err_from_is_err_and c.from_residual.result c.from_residual.ensures.1 in
    rw (p.1, p.2)
    (past2 _ _ _ _ c.lengths_ok.ensures c.if-not-lengths_ok.false c.settings_ok.ensures c.if-not-settings_ok.false _
    (on_refusal Err _ _ _ _ (walked _ _ _ _ c.requires.1 l.splits c.check.ensures) c.in_err-check.was))

pub overflow_mul-units : goal.overflow_mul-units
overflow_mul-units c = let p = c.requires in omega (arith, (before c.args.settings.format _ _ _ p.0 p.2).few_units)

pub slice_bounds-keep_ok-count : goal.slice_bounds-keep_ok-count
slice_bounds-keep_ok-count c =
    let p = c.requires in
    omega (arith, (before c.args.settings.format _ _ _ p.0 p.2).units, (lengths_told _ _ _ _ _ (sym c.lengths_ok.ensures ∙ c.if-not-lengths_ok.false)).keep)

pub slice_bounds-keep_ok-start : goal.slice_bounds-keep_ok-start
slice_bounds-keep_ok-start c =
    let p = c.requires in
    omega (arith, (before c.args.settings.format _ _ _ p.0 p.2).units, (lengths_told _ _ _ _ _ (sym c.lengths_ok.ensures ∙ c.if-not-lengths_ok.false)).keep)

pub returns-then-not-keep_ok : goal.returns-then-not-keep_ok
returns-then-not-keep_ok c =
    let l = lengths_told _ _ _ _ _ (sym c.lengths_ok.ensures ∙ c.if-not-lengths_ok.false) in
    past3 _ _ _ _ c.lengths_ok.ensures c.if-not-lengths_ok.false c.settings_ok.ensures c.if-not-settings_ok.false
    (walked _ _ _ _ c.requires.1 l.splits c.check.ensures) c.in_ok-check.was _
    (stops _ _ _ _ (c.keep_ok.ensures ∙ ap keep_ok (ended c.args.keep.now refl)) (ap not c.if-not-keep_ok.true))

pub offset_bounds-words-units : goal.offset_bounds-words-units
offset_bounds-words-units c = let p = c.requires in omega (arith, (before c.args.settings.format _ _ _ p.0 p.2).few_units)

pub slice_bounds-qps_ok-count : goal.slice_bounds-qps_ok-count
slice_bounds-qps_ok-count c =
    let p = c.requires in
    omega (arith, (before c.args.settings.format _ _ _ p.0 p.2).units, (lengths_told _ _ _ _ _ (sym c.lengths_ok.ensures ∙ c.if-not-lengths_ok.false)).words)

pub slice_bounds-qps_ok-start : goal.slice_bounds-qps_ok-start
slice_bounds-qps_ok-start c =
    let p = c.requires in
    omega (arith, (before c.args.settings.format _ _ _ p.0 p.2).units, (lengths_told _ _ _ _ _ (sym c.lengths_ok.ensures ∙ c.if-not-lengths_ok.false)).words)

pub returns-then-not-qps_ok : goal.returns-then-not-qps_ok
returns-then-not-qps_ok c =
    let l = lengths_told _ _ _ _ _ (sym c.lengths_ok.ensures ∙ c.if-not-lengths_ok.false) in
    past4 _ _ _ _ c.lengths_ok.ensures c.if-not-lengths_ok.false c.settings_ok.ensures c.if-not-settings_ok.false
    (walked _ _ _ _ c.requires.1 l.splits c.check.ensures) c.in_ok-check.was
    (c.keep_ok.ensures ∙ ap keep_ok (ended c.args.keep.now refl)) c.if-not-keep_ok.false _
    (stops _ _ _ _ (c.qps_ok.ensures ∙ ap qps_ok (ended c.args.words.now refl)) (ap not c.if-not-qps_ok.true))

pub overflow_mul-luma : goal.overflow_mul-luma
overflow_mul-luma c = let p = c.requires in omega (arith, (before c.args.settings.format _ _ _ p.0 p.2).few_luma)

pub overflow_mul-w : goal.overflow_mul-w
overflow_mul-w c = let p = c.requires in omega (arith, (before c.args.settings.format _ _ _ p.0 p.2).few_chroma)

pub offset_bounds-y-luma : goal.offset_bounds-y-luma
offset_bounds-y-luma c = let p = c.requires in omega (arith, (before c.args.settings.format _ _ _ p.0 p.2).few_luma)

pub slice_bounds-planes_ok-count : goal.slice_bounds-planes_ok-count
slice_bounds-planes_ok-count c =
    let p = c.requires in
    omega (arith, (before c.args.settings.format _ _ _ p.0 p.2).luma, (lengths_told _ _ _ _ _ (sym c.lengths_ok.ensures ∙ c.if-not-lengths_ok.false)).y)

pub slice_bounds-planes_ok-start : goal.slice_bounds-planes_ok-start
slice_bounds-planes_ok-start c =
    let p = c.requires in
    omega (arith, (before c.args.settings.format _ _ _ p.0 p.2).luma, (lengths_told _ _ _ _ _ (sym c.lengths_ok.ensures ∙ c.if-not-lengths_ok.false)).y)

pub offset_bounds-u-chroma : goal.offset_bounds-u-chroma
offset_bounds-u-chroma c = let p = c.requires in omega (arith, c.in_format-chroma.ensures, (before c.args.settings.format _ _ _ p.0 p.2).few_colour)

pub slice_bounds-planes_ok-count-2 : goal.slice_bounds-planes_ok-count-2
slice_bounds-planes_ok-count-2 c =
    let p = c.requires in
    omega (arith, c.in_format-chroma.ensures, (before c.args.settings.format _ _ _ p.0 p.2).chroma, (lengths_told _ _ _ _ _ (sym c.lengths_ok.ensures ∙ c.if-not-lengths_ok.false)).u)

pub slice_bounds-planes_ok-start-2 : goal.slice_bounds-planes_ok-start-2
slice_bounds-planes_ok-start-2 c =
    let p = c.requires in
    omega (arith, c.in_format-chroma.ensures, (before c.args.settings.format _ _ _ p.0 p.2).chroma, (lengths_told _ _ _ _ _ (sym c.lengths_ok.ensures ∙ c.if-not-lengths_ok.false)).u)

pub offset_bounds-v-chroma : goal.offset_bounds-v-chroma
offset_bounds-v-chroma c = let p = c.requires in omega (arith, c.in_format-chroma.ensures, (before c.args.settings.format _ _ _ p.0 p.2).few_colour)

pub slice_bounds-planes_ok-count-3 : goal.slice_bounds-planes_ok-count-3
slice_bounds-planes_ok-count-3 c =
    let p = c.requires in
    omega (arith, c.in_format-chroma.ensures, (before c.args.settings.format _ _ _ p.0 p.2).chroma, (lengths_told _ _ _ _ _ (sym c.lengths_ok.ensures ∙ c.if-not-lengths_ok.false)).v)

pub slice_bounds-planes_ok-start-3 : goal.slice_bounds-planes_ok-start-3
slice_bounds-planes_ok-start-3 c =
    let p = c.requires in
    omega (arith, c.in_format-chroma.ensures, (before c.args.settings.format _ _ _ p.0 p.2).chroma, (lengths_told _ _ _ _ _ (sym c.lengths_ok.ensures ∙ c.if-not-lengths_ok.false)).v)

pub returns-then-not-planes_ok : goal.returns-then-not-planes_ok
returns-then-not-planes_ok c =
    let l = lengths_told _ _ _ _ _ (sym c.lengths_ok.ensures ∙ c.if-not-lengths_ok.false) in
    let e = c.in_format-chroma.ensures in
    let planes = c.planes_ok.ensures ∙ (λ k. planes_ok (ended {n = luma_length c.args.w c.args.before} c.args.y.now refl k) (ended c.args.u.now e k) (ended c.args.v.now e k)) in
    past5 _ _ _ _ c.lengths_ok.ensures c.if-not-lengths_ok.false c.settings_ok.ensures c.if-not-settings_ok.false
    (walked _ _ _ _ c.requires.1 l.splits c.check.ensures) c.in_ok-check.was
    (c.keep_ok.ensures ∙ ap keep_ok (ended c.args.keep.now refl)) c.if-not-keep_ok.false
    (c.qps_ok.ensures ∙ ap qps_ok (ended c.args.words.now refl)) c.if-not-qps_ok.false _
    (stops _ _ _ _ planes (ap not c.if-not-planes_ok.true))

pub returns : goal.returns
returns c =
    let l = lengths_told _ _ _ _ _ (sym c.lengths_ok.ensures ∙ c.if-not-lengths_ok.false) in
    let e = c.in_format-chroma.ensures in
    let planes = c.planes_ok.ensures ∙ (λ k. planes_ok (ended {n = luma_length c.args.w c.args.before} c.args.y.now refl k) (ended c.args.u.now e k) (ended c.args.v.now e k)) in
    past5 _ _ _ _ c.lengths_ok.ensures c.if-not-lengths_ok.false c.settings_ok.ensures c.if-not-settings_ok.false
    (walked _ _ _ _ c.requires.1 l.splits c.check.ensures) c.in_ok-check.was
    (c.keep_ok.ensures ∙ ap keep_ok (ended c.args.keep.now refl)) c.if-not-keep_ok.false
    (c.qps_ok.ensures ∙ ap qps_ok (ended c.args.words.now refl)) c.if-not-qps_ok.false _
    (goes_on _ _ _ _ _ planes (ap not c.if-not-planes_ok.false) refl)
