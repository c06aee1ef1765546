-- What checks that found nothing tell of all that is lent.
--     lengths_told    the lengths, one by one
--     rest_passed    what comes from the lengths on, from `from_lengths .. i ≡ Done`
--     passed    everything, from `check_of i ≡ Done`
--     word_any, mark_any    a QP and a keep mark read at any place, since past the map there is 0
-- Assumes nothing.
use Rattle.std.specs.Prelude.{Ok, Err}
use Prim.Native.Nat.{ℕ, ◌*◌, ◌/◌, ◌≤◌, ◌<◌}
use mathlib.Core.Path.{◌≡◌, refl, subst}
use mathlib.Core.Bool.{Bool, true}
use mathlib.Core.List.{List, [], ◌∷◌}
use native.Mathlib.Nat.{mul-zero}
use native.Mathlib.Decide.{dec_lt}
use native.Mathlib.Omega.{arith}
use borrow.Author.Tests.{eqb-true, leb-true, le-leb}
use lib.Dec.{leb}
use lib.IntN.{ℤ}
use lib.ListN.{length, get_or, drop, get_or-eq_default}
use lib.Signed.{le_z}
use Rattle.laws.specs.Bits.{field_of}
use Rattle.laws.specs.Scan.{all_in}
use Rattle.laws.proofs.Calls.{all_at}
use Rattle.laws.proofs.Scans.{scan_at}
use Rattle.def.specs.Answers.{after_checks}
use Rattle.def.specs.Picture.{size_ok, luma_length, unit_count, root_count}
use Rattle.def.specs.Word.{qp_of}
use Rattle.def.specs.declared.Format.{Format}
use Rattle.def.specs.Answers.{Answer}
use Rattle.def.proofs.Ladders.{passes}
use Rattle.samples.specs.Samples.{samples_ok}
use Rattle.samples.proofs.Samples.{sample_any}
use Rattle.split.specs.ListCall.{limit_ok}
use Rattle.split.specs.Picture.{picture_walk}
use Rattle.df_check.specs.Checks.{Input, colour_length, table_length, length_tests, lengths_of, lengths_ok, least_offset, most_offset, offset_ok, settings_ok, keep_ok, qps_ok}
use Rattle.df_check.specs.Checks.{planes_ok, from_lengths, check_of}
use Rattle.df_check.specs.declared.check.Lengths.{Lengths}
use Rattle.df_check.proofs.Formats.{none_before}

-- ---- 2

pub record LengthsTold (f : Format) (w lent own : ℕ) (n : Lengths) : Type 0 where
  pub y : n.y ≡ luma_length w lent
  pub u : n.u ≡ colour_length f w lent
  pub v : n.v ≡ colour_length f w lent
  pub words : n.words ≡ unit_count w lent
  pub splits : n.splits ≡ 1024 * root_count w own
  pub motion : n.motion ≡ 4 * unit_count w lent
  pub refs : n.refs ≡ 2 * unit_count w lent
  pub keep : n.keep ≡ unit_count w lent
  pub table0 : n.table0 ≡ table_length f
  pub table1 : n.table1 ≡ table_length f
  pub strengths : n.strengths ≡ 208

pub lengths_told : (f : Format) (w lent own : ℕ) (n : Lengths) → lengths_ok f w lent own n ≡ true → LengthsTold f w lent own n
unfolding lengths_ok
lengths_told f w lent own n e =
    record {
      y = eqb-true _ _ (all_at (length_tests f w lent own n) 0 e);
      u = eqb-true _ _ (all_at (length_tests f w lent own n) 1 e);
      v = eqb-true _ _ (all_at (length_tests f w lent own n) 2 e);
      words = eqb-true _ _ (all_at (length_tests f w lent own n) 3 e);
      splits = eqb-true _ _ (all_at (length_tests f w lent own n) 4 e);
      motion = eqb-true _ _ (all_at (length_tests f w lent own n) 5 e);
      refs = eqb-true _ _ (all_at (length_tests f w lent own n) 6 e);
      keep = eqb-true _ _ (all_at (length_tests f w lent own n) 7 e);
      table0 = eqb-true _ _ (all_at (length_tests f w lent own n) 8 e);
      table1 = eqb-true _ _ (all_at (length_tests f w lent own n) 9 e);
      strengths = eqb-true _ _ (all_at (length_tests f w lent own n) 10 e);
    }

-- ---- all of them

-- an offset in the format's range
pub record Offset (f : Format) (z : ℤ) : Type 0 where
  pub least : le_z (least_offset f) z ≡ true
  pub most : le_z z (most_offset f) ≡ true

offset_told : (f : Format) (z : ℤ) → offset_ok f z ≡ true → Offset f z
unfolding offset_ok
offset_told f z e =
    let tests = le_z (least_offset f) z ∷ le_z z (most_offset f) ∷ [] in
    record { least = all_at tests 0 e; most = all_at tests 1 e }

-- the walk was accepted, and what came after it found nothing
record Onward (walk k : Answer) : Type 0 where
  accepted : walk ≡ Ok tt
  rest : k ≡ Ok tt

onward : (walk k : Answer) → after_checks Err k walk ≡ Ok tt → Onward walk k
onward (Ok _) k e = record { accepted = refl; rest = e }
onward (Err r) k e = record { accepted = e; rest = cc }

-- from the lengths on
pub record Rest (lent own before : ℕ) (i : Input) : Type 0 where
  pub lengths : LengthsTold i.settings.format i.w lent own (lengths_of i)
  pub settings : settings_ok i.settings ≡ true
  pub walk : (picture_walk i.splits (i.w / 4) (own / 4)).answer ≡ Ok tt
  pub marks : keep_ok (drop (unit_count i.w before) i.keep) ≡ true
  pub qps : qps_ok (drop (unit_count i.w before) i.words) ≡ true
  pub y : samples_ok (drop (luma_length i.w before) i.y) ≡ true
  pub u : samples_ok (drop (colour_length i.settings.format i.w before) i.u) ≡ true
  pub v : samples_ok (drop (colour_length i.settings.format i.w before) i.v) ≡ true

pub rest_passed : (lent own before : ℕ) (i : Input) → from_lengths lent own before i ≡ Ok tt → Rest lent own before i
unfolding from_lengths planes_ok
rest_passed lent own before i e =
    let lengths = passes _ _ _ e in
    let settings = passes _ _ _ lengths.rest in
    let walk = onward _ _ settings.rest in
    let marks = passes _ _ _ walk.rest in
    let qps = passes _ _ _ marks.rest in
    let planes = (passes _ _ _ qps.rest).holds in
    let c = colour_length i.settings.format i.w before in
    let samples = samples_ok (drop (luma_length i.w before) i.y) ∷ samples_ok (drop c i.u) ∷ samples_ok (drop c i.v) ∷ [] in
    record {
      lengths = lengths_told i.settings.format i.w lent own (lengths_of i) lengths.holds;
      settings = settings.holds;
      walk = walk.accepted;
      marks = marks.holds;
      qps = qps.holds;
      y = all_at samples 0 planes;
      u = all_at samples 1 planes;
      v = all_at samples 2 planes;
    }

-- the QP of no word
no_word : qp_of 0 ≤ 51
unfolding field_of
no_word = omega arith

-- at any place: past a map there is 0
any_in : (f : ℕ → Bool) (l : List ℕ) → f 0 ≡ true → all_in 0 f l ≡ true → (k : ℕ) → f (get_or l k 0) ≡ true
any_in f l z e k = go (dec_lt k (length l)) where
  go : Dec (k < length l) → f (get_or l k 0) ≡ true
  go (yes h) = scan_at (λ (j : ℕ). f (get_or l j 0)) (length l) k h e
  go (no h) = let out : length l ≤ k = omega arith in rw (get_or-eq_default l 0 out) z

pub word_any : (l : List ℕ) → qps_ok l ≡ true → (k : ℕ) → qp_of (get_or l k 0) ≤ 51
unfolding qps_ok
word_any l e k = leb-true _ _ (any_in (λ (v : ℕ). leb (qp_of v) 51) l (le-leb (qp_of 0) 51 no_word) e k)

pub mark_any : (l : List ℕ) → keep_ok l ≡ true → (k : ℕ) → get_or l k 0 ≤ 1
unfolding keep_ok
mark_any l e k = leb-true _ _ (any_in (λ (v : ℕ). leb v 1) l refl e k)

pub record Passed (i : Input) : Type 0 where
  pub size : size_ok i.w i.h ≡ true
  pub lengths : LengthsTold i.settings.format i.w i.h i.h (lengths_of i)
  pub limit : limit_ok i.settings.limit ≡ true
  pub u_offset : Offset i.settings.format i.settings.u_offset
  pub v_offset : Offset i.settings.format i.settings.v_offset
  pub walk : (picture_walk i.splits (i.w / 4) (i.h / 4)).answer ≡ Ok tt
  pub mark : (k : ℕ) → get_or i.keep k 0 ≤ 1
  pub qp : (k : ℕ) → qp_of (get_or i.words k 0) ≤ 51
  pub y : (k : ℕ) → get_or i.y k 0 ≤ 1023
  pub u : (k : ℕ) → get_or i.u k 0 ≤ 1023
  pub v : (k : ℕ) → get_or i.v k 0 ≤ 1023

pub passed : (i : Input) → check_of i ≡ Ok tt → Passed i
unfolding check_of settings_ok
passed i e =
    let s = i.settings in
    let size = passes _ _ _ e in
    let rest = rest_passed i.h i.h 0 i size.rest in
    let words : qps_ok i.words ≡ true = subst (λ (n : ℕ). qps_ok (drop n i.words) ≡ true) (mul-zero (i.w / 4)) rest.qps in
    let tests = limit_ok s.limit ∷ offset_ok s.format s.u_offset ∷ offset_ok s.format s.v_offset ∷ [] in
    record {
      size = size.holds;
      lengths = rest.lengths;
      limit = all_at tests 0 rest.settings;
      u_offset = offset_told s.format s.u_offset (all_at tests 1 rest.settings);
      v_offset = offset_told s.format s.v_offset (all_at tests 2 rest.settings);
      walk = rest.walk;
      mark = mark_any i.keep (subst (λ (n : ℕ). keep_ok (drop n i.keep) ≡ true) (mul-zero (i.w / 4)) rest.marks);
      qp = word_any i.words words;
      y = λ k. sample_any i.y k (subst (λ (n : ℕ). samples_ok (drop n i.y) ≡ true) (mul-zero i.w) rest.y);
      u = λ k. sample_any i.u k (subst (λ (n : ℕ). samples_ok (drop n i.u) ≡ true) (none_before s.format i.w) rest.u);
      v = λ k. sample_any i.v k (subst (λ (n : ℕ). samples_ok (drop n i.v) ≡ true) (none_before s.format i.w) rest.v);
    }
