-- What the checks of the call tell where they find nothing, and the outcome by what they found.
--     read_told, written_told    the lengths
--     all_passed, outcome_done    the whole input
--     walk_answer, onward    the answer of the walk, where size and splits passed
--     data_row_lem, records_long    the data's checks, by where the walk ended
-- Assumes nothing.
use Rattle.std.specs.Prelude.{Ok, Err}
use Prim.Native.Nat.{ℕ, ◌+◌, ◌*◌, ◌/◌, ◌≤◌, ◌<◌}
use mathlib.Core.Path.{◌≡◌, refl, sym, ap, ◌∙◌}
use mathlib.Core.Bool.{true}
use mathlib.Core.List.{List}
use native.Mathlib.Nat.{div-one, le_of_eq, zero-add}
use native.Mathlib.Decide.{dec_lt}
use native.Mathlib.Omega.{arith}
use borrow.Author.Tests.{eqb-true, eq-eqb, leb-true}
use lib.Dec.{leb}
use lib.ListN.{length, get_or-eq_default}
use Rattle.laws.specs.Index.{tabulate}
use Rattle.laws.specs.Call.{unless}
use Rattle.laws.proofs.Calls.{all_at}
use Rattle.laws.proofs.Scans.{scan_at}
use Rattle.laws.proofs.Tabulate.{length_tabulate}
use Rattle.def.specs.Answers.{after_checks}
use Rattle.def.specs.Components.{plane_length}
use Rattle.def.specs.Formats.{in_format}
use Rattle.def.specs.Picture.{size_ok, luma_length, root_count, unit_count}
use Rattle.def.specs.Answers.{Answer}
use Rattle.def.specs.declared.Component.TheVariants.{Luma, Chroma}
use Rattle.def.specs.declared.Format.{Format}
use Rattle.def.specs.declared.Format.TheVariants.{Colour}
use Rattle.def.specs.declared.Refusal.TheVariants.{Size, Length, Record, Mode, Qp, Sample}
use Rattle.def.proofs.Ladders.{passes}
use Rattle.samples.specs.Samples.{samples_ok}
use Rattle.split.specs.CheckCall as check-call
use Rattle.split.specs.Picture.{picture_walk}
use Rattle.split.specs.Walk.{Leaf}
use Rattle.driver_rules.specs.Asked.{Small, LentAsked, GivenAsked, StateAsked, Reaches, Accepted}
use Rattle.driver_rules.specs.Call.{Input, colour_length, read_tests, read_ok, written_tests, written_ok, record_tests, records_ok, lent_tests, lent_ok, data_check, check_of}
use Rattle.driver_rules.specs.Call.{check, leaves_of, start, done, outcome}
use Rattle.driver_rules.specs.Records.{byte_at, record_mask, bytes_ok, most_mask, Place, first, passed}
use Rattle.driver_rules.proofs.Places.{passed_count}
use Rattle.driver_rules.proofs.Small.{done_none}

-- ---- the walk

pub walk_answer : (w h : ℕ) (s : List ℕ) → size_ok w h ≡ true → length s ≡ 1024 * root_count w h → check-call.check (record { w = w; h = h; splits = s }) ≡ (picture_walk s (w / 4) (h / 4)).answer
unfolding check-call.check
walk_answer w h s z e = rw (z, eq-eqb _ _ e)

-- a walk that is not refused, and what is asked after it
pub record Onward (k a : Answer) : Type 0 where
  pub walked : a ≡ Ok tt
  pub rest : k ≡ Ok tt

pub onward : (k a : Answer) → after_checks Err k a ≡ Ok tt → Onward k a
onward k (Ok _) e = record { walked = refl; rest = e }
onward k (Err r) e = record { walked = cc; rest = cc }

-- ---- the lengths

luma : (w h n : ℕ) → n ≡ luma_length w h → n ≡ plane_length Luma w h
luma w h n e = rw (div-one w, div-one h) e

pub record Read (w h : ℕ) (f : Format) (splits py pu pv : ℕ) : Type 0 where
  pub splits_long : splits ≡ 1024 * root_count w h
  pub y_long : py ≡ plane_length Luma w h
  pub u_long : pu ≡ colour_length f w h
  pub v_long : pv ≡ colour_length f w h

pub read_told : (w h : ℕ) (f : Format) (splits py pu pv : ℕ) → read_ok w h f splits py pu pv ≡ true → Read w h f splits py pu pv
unfolding read_ok
read_told w h f splits py pu pv e =
    let t = read_tests w h f splits py pu pv in
    record { splits_long = eqb-true _ _ (all_at t 0 e); y_long = luma w h py (eqb-true _ _ (all_at t 1 e)); u_long = eqb-true _ _ (all_at t 2 e); v_long = eqb-true _ _ (all_at t 3 e) }

pub record Written (w h : ℕ) (f : Format) (y u v words modes keep : ℕ) : Type 0 where
  pub y_long : y ≡ plane_length Luma w h
  pub u_long : u ≡ in_format f (plane_length Chroma w h)
  pub v_long : v ≡ in_format f (plane_length Chroma w h)
  pub words_long : words ≡ unit_count w h
  pub modes_long : modes ≡ unit_count w h
  pub keep_long : keep ≡ unit_count w h

pub written_told : (w h : ℕ) (f : Format) (y u v words modes keep : ℕ) → written_ok w h f y u v words modes keep ≡ true → Written w h f y u v words modes keep
unfolding written_ok
written_told w h f y u v words modes keep e =
    let t = written_tests w h f y u v words modes keep in
    record {
      y_long = luma w h y (eqb-true _ _ (all_at t 0 e));
      u_long = eqb-true _ _ (all_at t 1 e);
      v_long = eqb-true _ _ (all_at t 2 e);
      words_long = eqb-true _ _ (all_at t 3 e);
      modes_long = eqb-true _ _ (all_at t 4 e);
      keep_long = eqb-true _ _ (all_at t 5 e);
    }

-- ---- the call's input, where its checks find nothing

pub record Passed (i : Input) : Type 0 where
  pub given : GivenAsked i.given
  pub state : StateAsked i.given (start i)
  pub accepted : Accepted i.given.w i.given.h i.splits
  pub reaches : Reaches i.given.leaves (length i.given.residual) (passed i.given.leaves (leaves_of i.given.w i.given.h i.splits) first)
  pub written : written_ok i.given.w i.given.h i.given.format (length i.y) (length i.u) (length i.v) (length i.words) (length i.modes) (length i.keep) ≡ true
  pub records : length i.given.leaves ≡ 4 * length (leaves_of i.given.w i.given.h i.splits)
  pub spares : bytes_ok i.given.leaves (length (leaves_of i.given.w i.given.h i.splits)) 3 1 ≡ true
  pub kinds : bytes_ok i.given.leaves (length (leaves_of i.given.w i.given.h i.splits)) 0 5 ≡ true
  pub qps : bytes_ok i.given.leaves (length (leaves_of i.given.w i.given.h i.splits)) 1 51 ≡ true

-- a plane of the lent prediction, where the picture has it
lent_colour : (w h : ℕ) (f : Format) (lent : List ℕ) → length lent ≡ colour_length f w h → samples_ok lent ≡ true → f ≡ Colour → LentAsked Chroma w h lent
lent_colour w h f lent e s c = record { long = rw c at e; small = s }

-- a mask past the records is 0
masks_most : (r : List ℕ) (n m : ℕ) → length r ≡ 4 * n → bytes_ok r n 2 m ≡ true → (k : ℕ) → record_mask r k ≤ m
unfolding bytes_ok
masks_most r n m e b k = go (dec_lt k n) where
  go : Dec (k < n) → record_mask r k ≤ m
  go (yes p) = leb-true _ _ (scan_at (λ (j : ℕ). leb (byte_at r j 2) m) n k p b)
  go (no p) = let z = get_or-eq_default r 0 {n = 4 * k + 2} (omega arith) in omega (arith, z)

pub all_passed : (i : Input) → check i ≡ Ok tt → Passed i
unfolding check_of data_check records_ok lent_ok
all_passed i e =
    let g = i.given in
    let l = leaves_of g.w g.h i.splits in
    let size = passes _ Size _ e in
    let read = passes _ Length _ size.rest in
    let written = passes _ Length _ read.rest in
    let walk = onward _ (picture_walk i.splits (g.w / 4) (g.h / 4)).answer written.rest in
    let records = passes (records_ok g.format g.leaves (length g.residual) (passed g.leaves l first).at (length l)) Record _ walk.rest in
    let modes = passes (bytes_ok g.leaves (length l) 0 5) Mode _ records.rest in
    let qps = passes (bytes_ok g.leaves (length l) 1 51) Qp _ modes.rest in
    let lent = passes (lent_ok g.pred_y g.pred_u g.pred_v) Sample (Ok tt) qps.rest in
    let r = read_told _ _ g.format _ _ _ _ read.holds in
    let w = written_told _ _ g.format _ _ _ _ _ _ written.holds in
    let tests = lent_tests g.pred_y g.pred_u g.pred_v in
    let lists = record_tests g.format g.leaves (length g.residual) (passed g.leaves l first).at (length l) in
    let four : length g.leaves ≡ 4 * length l = eqb-true _ _ (all_at lists 0 records.holds) in
    let all : length g.residual ≡ (passed g.leaves l first).at = eqb-true _ _ (all_at lists 1 records.holds) in
    let long : length (tabulate {A = ℕ} (length i.words) (λ (k : ℕ). 0)) ≡ length i.words = length_tabulate _ (length i.words) in
    record {
      given =
          record {
            size = size.holds;
            lent_y = record { long = r.y_long; small = all_at tests 0 lent.holds };
            lent_u = lent_colour _ _ g.format _ r.u_long (all_at tests 1 lent.holds);
            lent_v = lent_colour _ _ g.format _ r.v_long (all_at tests 2 lent.holds);
            masks = masks_most g.leaves (length l) (most_mask g.format) four (all_at lists 2 records.holds);
          };
      state =
          record {
            y_long = w.y_long;
            u_long = w.u_long;
            v_long = w.v_long;
            words_long = long ∙ w.words_long;
            modes_long = w.modes_long;
            keep_long = w.keep_long;
            y_done = done_none Luma _ _ Small i.y i.y _ size.holds w.words_long;
            u_done = done_none Chroma _ _ Small i.u i.u _ size.holds w.words_long;
            v_done = done_none Chroma _ _ Small i.v i.v _ size.holds w.words_long;
          };
      accepted = record { size = size.holds; long = r.splits_long; walked = walk.walked };
      reaches =
          record {
            records = rw (passed_count g.leaves l first) (omega (arith, four));
            residuals = le_of_eq (sym all);
          };
      written = written.holds;
      records = four;
      spares = all_at lists 3 records.holds;
      kinds = modes.holds;
      qps = qps.holds;
    }

pub outcome_done : (i : Input) → check i ≡ Ok tt → outcome i ≡ done i
unfolding outcome
outcome_done i e = rw e

-- ---- the data's checks, by where the walk ended

abbrev pub data_row : Format → (r : List ℕ) (residual at n : ℕ) (py pu pv : List ℕ) → Answer
data_row f r residual at n py pu pv =
    unless (records_ok f r residual at n) (Err Record)
    (unless (bytes_ok r n 0 5) (Err Mode)
    (unless (bytes_ok r n 1 51) (Err Qp)
    (unless (lent_ok py pu pv) (Err Sample)
    (Ok tt))))

pub data_row_lem : (f : Format) (r : List ℕ) (residual at n : ℕ) (py pu pv : List ℕ) (l : List Leaf) → record { at = at; k = n } ≡ passed r l first
    → data_row f r residual at n py pu pv ≡ data_check f r residual py pu pv l
unfolding data_check
data_row_lem f r residual at n py pu pv l e =
    let a : at ≡ (passed r l first).at = ap (λ (t : Place). t.at) e in
    let b : n ≡ length l = ap (λ (t : Place). t.k) e ∙ passed_count r l first ∙ zero-add (length l) in
    rw (a, b)

-- as many records as leaves
pub records_long : (f : Format) (r : List ℕ) (residual at n : ℕ) → records_ok f r residual at n ≡ true → length r ≡ 4 * n
unfolding records_ok
records_long f r residual at n e = eqb-true _ _ (all_at (record_tests f r residual at n) 0 e)
