-- What the calls' checks tell where they find nothing, and how the two ladders hang together.
--     maps_accepted, unit_accepted
--     unit_refused, unit_goes    the checks of a unit are those of the maps, and then 8
--     right_refused, right_done_lem, fill_refused, fill_done, motion_refused, motion_done    the test and the outcomes by what the checks found
--     lent_moved, lent_flagged    what an edit leaves of the maps
-- Assumes nothing.
use Rattle.std.specs.Prelude.{Ok, Err}
use Prim.Native.Nat.{ℕ, ◌*◌, ◌/◌}
use mathlib.Core.Path.{◌≡◌, refl, sym, ap, ◌∙◌}
use mathlib.Core.Bool.{Bool, true, false}
use mathlib.Core.List.{List}
use native.Mathlib.Omega.{arith}
use borrow.Author.Tests.{eqb-true}
use lib.IntN.{ℤ}
use lib.ListN.{length, length-set}
use Rattle.laws.specs.Call.{Gives, unless}
use Rattle.laws.proofs.Calls.{all_at}
use Rattle.def.specs.Answers.{after_checks}
use Rattle.def.specs.Blocks.{unit_ok}
use Rattle.def.specs.Picture.{size_ok, unit_count}
use Rattle.def.specs.declared.Refusal.{Refusal}
use Rattle.def.specs.declared.Refusal.TheVariants.{Size, Length, Block}
use Rattle.def.specs.Answers.{Answer}
use Rattle.def.proofs.Answers.{on_refusal, on_done}
use Rattle.def.proofs.Blocks.{placed}
use Rattle.def.proofs.Ladders.{passes}
use Rattle.def.proofs.Sizes.{sized}
use Rattle.def.proofs.Units.{few_units}
use Rattle.line.specs.declared.Motion.{Motion}
use Rattle.rows_rules.specs.Checks.{length_tests, lengths_ok, check_maps, right_ok, check_unit}
use Rattle.rows_rules.specs.FillCall as fill
use Rattle.rows_rules.specs.Inside.{Lent, UnitAt}
use Rattle.rows_rules.specs.MotionCall as move
use Rattle.rows_rules.specs.Rule.{rule_map, right_bytes, edited_map}

module _ (w h : ℕ) (words : List ℕ) (motion refs : List ℤ) (rows : List ℕ) where
  pub record Accepted : Type 0 where
    pub lent : Lent (w / 4) words motion refs
    pub rows_long : length rows ≡ length words
    pub units : length words ≡ unit_count w h

  lengths : size_ok w h ≡ true → lengths_ok w h (length words) (length motion) (length refs) (length rows) ≡ true → Accepted
  unfolding lengths_ok
  lengths s e =
      let tests = length_tests w h (length words) (length motion) (length refs) (length rows) in
      let z = sized w h s in
      let a : length words ≡ unit_count w h = eqb-true _ _ (all_at tests 0 e) in
      let b : length motion ≡ 4 * unit_count w h = eqb-true _ _ (all_at tests 1 e) in
      let d : length refs ≡ 2 * unit_count w h = eqb-true _ _ (all_at tests 2 e) in
      let f : length rows ≡ unit_count w h = eqb-true _ _ (all_at tests 3 e) in
      record {
        lent =
            record {
              some = omega (arith, z.some_wide);
              wide = omega (arith, z.wide);
              few = omega (arith, few_units w h z.wide z.high);
              long_motion = omega arith;
              long_refs = omega arith;
            };
        rows_long = f ∙ sym a;
        units = a;
      }

  pub maps_accepted : check_maps w h (length words) (length motion) (length refs) (length rows) ≡ Ok tt → Accepted
  unfolding check_maps
  maps_accepted e =
      let p = passes (size_ok w h) Size _ e in
      let q = passes _ Length _ p.rest in
      lengths p.holds q.holds

  pub record UnitAccepted (x y : ℕ) : Type 0 where
    pub maps : Accepted
    pub unit : UnitAt (w / 4) (h / 4) (length words) x y

  pub unit_accepted : (x y : ℕ) → check_unit w h (length words) (length motion) (length refs) (length rows) x y ≡ Ok tt → UnitAccepted x y
  unfolding check_unit
  unit_accepted x y e =
      let p = passes (size_ok w h) Size _ e in
      let q = passes _ Length _ p.rest in
      let r = passes _ Block _ q.rest in
      let m = lengths p.holds q.holds in
      let k = placed w h x y r.holds in
      record { maps = m; unit = record { column = k.column; row = k.row; high = omega (arith, (sized w h p.holds).high); whole = m.units } }

-- ---- the test of a map

module _ (w h : ℕ) (words : List ℕ) (motion refs : List ℤ) (rows : List ℕ) where
  pub right_refused : (k : Answer) (r : Refusal) → k ≡ check_maps w h (length words) (length motion) (length refs) (length rows) → k ≡ Err r → false ≡ right_ok w h words motion refs rows
  unfolding right_ok
  right_refused k r e q = on_refusal (λ r. false) _ k _ r e q

  pub right_done_lem : (k : Answer) → k ≡ check_maps w h (length words) (length motion) (length refs) (length rows) → k ≡ Ok tt
      → right_bytes words motion refs (w / 4) rows ≡ right_ok w h words motion refs rows
  unfolding right_ok
  right_done_lem k e q = on_done (λ r. false) _ k _ _ e q refl

-- ---- the two ladders

module _ (w h words motion refs rows x y : ℕ) where
  abbrev rest : Answer
  rest = unless (unit_ok w h x y) (Err Block) (Ok tt)

  ladder : after_checks (λ r. Err r) rest (check_maps w h words motion refs rows) ≡ check_unit w h words motion refs rows x y
  unfolding check_unit check_maps
  ladder = go (size_ok w h) (lengths_ok w h words motion refs rows) where
    go : (a b : Bool) → after_checks (λ r. Err r) rest (unless a (Err Size) (unless b (Err Length) (Ok tt))) ≡ unless a (Err Size) (unless b (Err Length) rest)
    go true true = refl
    go true false = refl
    go false b = refl

  pub unit_refused : (k : Answer) (r : Refusal) → k ≡ check_maps w h words motion refs rows → k ≡ Err r → Err r ≡ check_unit w h words motion refs rows x y
  unit_refused k r e q = on_refusal (λ r. Err r) rest k (check_maps w h words motion refs rows) r e q ∙ ladder

  pub unit_goes : (k a : Answer) → k ≡ check_maps w h words motion refs rows → k ≡ Ok tt → a ≡ rest → a ≡ check_unit w h words motion refs rows x y
  unit_goes k a e q p = on_done (λ r. Err r) rest k (check_maps w h words motion refs rows) a e q p ∙ ladder

-- ---- outcomes: k is what the checks answered

module _ (i : fill.Input) (k : Answer) (e : k ≡ fill.check i) where
  pub fill_refused : (r : Refusal) → k ≡ Err r → Gives fill.outcome i (fill.refused i r)
  unfolding fill.outcome
  fill_refused r q = on_refusal (fill.refused i) (fill.done i) k (fill.check i) r e q

  pub fill_done : (rows : List ℕ) → k ≡ Ok tt → rows ≡ rule_map i.words i.motion i.refs (i.w / 4) (length i.rows) → Gives fill.outcome i (record { number = 0; rows = rows })
  unfolding fill.outcome
  fill_done rows q p =
      let a = maps_accepted i.w i.h i.words i.motion i.refs i.rows (sym e ∙ q) in
      on_done (fill.refused i) (fill.done i) k (fill.check i) _ e q
      (λ t. record { number = 0; rows = (p ∙ ap (rule_map i.words i.motion i.refs (i.w / 4)) (a.rows_long ∙ a.units)) t })

module _ (i : move.Input) (k : Answer) (e : k ≡ move.check i) where
  pub motion_refused : (r : Refusal) → k ≡ Err r → Gives move.outcome i (move.refused i r)
  unfolding move.outcome
  motion_refused r q = on_refusal (move.refused i) (move.done i) k (move.check i) r e q

  pub motion_done : (m r : List ℤ) (rows : List ℕ) → k ≡ Ok tt → m ≡ move.with_motion (move.place i) i.moved i.motion → r ≡ move.with_refs (move.place i) i.moved i.refs
      → rows ≡ edited_map i.words m r (i.w / 4) (move.place i) i.rows → Gives move.outcome i (record { number = 0; motion = m; refs = r; rows = rows })
  unfolding move.outcome
  motion_done m r rows q f g p =
      on_done (move.refused i) (move.done i) k (move.check i) _ e q
      (λ t. record { number = 0; motion = f t; refs = g t; rows = (p ∙ (λ s. edited_map i.words (f s) (g s) (i.w / 4) (move.place i) i.rows)) t })

-- ---- maps after an edit have their lengths

module _ {c : ℕ} {words : List ℕ} {motion refs : List ℤ} (l : Lent c words motion refs) (a : ℕ) where
  long_moved : (m : Motion) → length (move.with_motion a m motion) ≡ length motion
  long_moved m = simp length-set

  long_refs : (m : Motion) → length (move.with_refs a m refs) ≡ length refs
  long_refs m = simp length-set

  pub lent_moved : (m : Motion) (motion' refs' : List ℤ) → motion' ≡ move.with_motion a m motion → refs' ≡ move.with_refs a m refs → Lent c words motion' refs'
  lent_moved m motion' refs' e f =
      record { some = l.some; wide = l.wide; few = l.few; long_motion = ap length e ∙ long_moved m ∙ l.long_motion; long_refs = ap length f ∙ long_refs m ∙ l.long_refs }

  pub lent_flagged : (words' : List ℕ) → length words' ≡ length words → Lent c words' motion refs
  lent_flagged words' e = record { some = l.some; wide = l.wide; few = omega (arith, l.few); long_motion = omega (arith, l.long_motion); long_refs = omega (arith, l.long_refs) }
