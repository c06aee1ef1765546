-- The outcomes of the public calls, by what their checks find.
-- Assumes nothing.
use Rattle.std.specs.Prelude.{Ok, Err, Result}
use mathlib.Core.Bool.{Bool, true, false, ◌&&◌}
use mathlib.Core.List.{List, [], ◌∷◌}
use mathlib.Core.Path.{◌≡◌, refl, sym, ap, ap₂, ◌∙◌}
use Prim.Native.Nat.{ℕ, ◌*◌, ◌/◌, ◌%◌, ◌≤◌, ◌<◌}
use native.Mathlib.Nat.{zero-add}
use native.Mathlib.Omega.{arith}
use borrow.Author.Tests.{eqb-true, ltb-true, ltb-false, eq-eqb, lt-ltb, le-ltb}
use lib.Arith.{digits_div, digits_mod}
use lib.Dec.{ltb, eqb}
use lib.ListN.{length, take}
use lib.Seq.{sets}
use Rattle.def.specs.Answers.{answer_number, after_checks}
use Rattle.def.specs.Picture.{size_ok, roots_along, root_count}
use Rattle.def.specs.Refusals.{number_of}
use Rattle.def.specs.Answers.{Answer}
use Rattle.def.specs.declared.Refusal.{Refusal}
use Rattle.def.specs.declared.Refusal.TheVariants.{Size, Length, Block}
use Rattle.def.proofs.Sizes.{Sized, sized}
use Rattle.laws.specs.Call.{unless}
use Rattle.laws.specs.Index.{pick}
use Rattle.laws.specs.Orders.{each}
use Rattle.laws.proofs.Calls.{all_at}
use Rattle.split.specs.CheckCall as check-call
use Rattle.split.specs.LeavesCall as leaves-call
use Rattle.split.specs.Picture.{root_bytes, root_walk}
use Rattle.split.specs.RootLeavesCall as root-leaves-call
use Rattle.split.specs.Stored.{leaf_numbers, counted, Stored}
use Rattle.split.proofs.Induct.{test}
use Rattle.split.proofs.Roots.{few_roots, number_column, number_below, root_row}
use Rattle.split.proofs.Stores.{take_sets, thrice, counted_done, counted_refused}
use Rattle.split.proofs.Walks.{not_done, few_leaves}

-- ---- check

by_number : (k : Answer) → check-call.numbered (answer_number k) ≡ after_checks (λ r. check-call.numbered (number_of r)) (check-call.numbered 0) k
by_number (Ok _) = refl
by_number (Err r) = refl

pub check_gives : (i : check-call.Input) (a : Answer) → a ≡ check-call.check i → check-call.numbered (answer_number a) ≡ check-call.outcome i
unfolding check-call.outcome
check_gives i a e = rw e (by_number (check-call.check i))

-- ---- leaves

-- a ladder that ends in done has passed its first rung
pub past : (t : Bool) (r : Refusal) (k : Answer) → unless t (Err r) k ≡ Ok tt → (t ≡ true) × (k ≡ Ok tt)
past true r k e = (refl, e)
past false r k e = absurd (not_done r e)

module _ (w h : ℕ) (s : List ℕ) (x y out : ℕ) where
  abbrev at : ℕ
  at = leaves-call.root_index w x y

  few_met : length (leaves-call.leaves_at w h s x y) ≤ 256
  few_met = (few_leaves (root_bytes s at) (w / 4) (h / 4) 4 _ _).few

  pub met_refused : (list : List ℕ) (r : Refusal) → Err r ≡ leaves-call.check_of w h s x y out → leaves-call.Met w h s x y out list (Err r)
  met_refused list r e = record { answer = ap (counted _) e; listed = λ d. absurd (not_done r (e ∙ d)); few = few_met }

  pub met_walked : (list₀ list : List ℕ) (r : Result ℕ Refusal) → length list₀ ≡ 768 → (root_walk s (w / 4) (h / 4) at).answer ≡ leaves-call.check_of w h s x y out
      → Stored (root_walk s (w / 4) (h / 4) at) list₀ 0 list r → leaves-call.Met w h s x y out list r
  met_walked list₀ list r n e d =
      let l = leaves-call.leaves_at w h s x y in
      record {
        answer = d.answer ∙ ap₂ counted (zero-add (length l)) e;
        listed = λ q. ap (take (3 * length l)) d.stored ∙ take_sets (each leaf_numbers l) list₀ (3 * length l) (thrice l) (omega (arith, few_met));
        few = few_met;
      }

-- what the tests tell
pub lengths_told : (w h splits out : ℕ) → leaves-call.lengths_ok w h splits out ≡ true → (splits ≡ 1024 * root_count w h) × (out ≡ 768)
unfolding leaves-call.lengths_ok
lengths_told w h splits out e =
    let l = eqb splits (1024 * root_count w h) ∷ eqb out 768 ∷ [] in
    (eqb-true _ _ (all_at l 0 e), eqb-true _ _ (all_at l 1 e))

pub root_told : (w h x y : ℕ) → leaves-call.root_ok w h x y ≡ true → (x % 64 ≡ 0) × (y % 64 ≡ 0) × (x < w) × (y < h)
unfolding leaves-call.root_ok
root_told w h x y e =
    let l = leaves-call.root_tests w h x y in
    (eqb-true _ _ (all_at l 0 e), eqb-true _ _ (all_at l 1 e), ltb-true _ _ (all_at l 2 e), ltb-true _ _ (all_at l 3 e))

-- where the checks pass
pub record LeavesPassed (w h : ℕ) (s : List ℕ) (x y out : ℕ) : Type 0 where
  pub size : Sized w h
  pub bytes : length s ≡ 1024 * root_count w h
  pub room : out ≡ 768
  pub column : x < w
  pub row : y < h
  pub walked : (root_walk s (w / 4) (h / 4) (leaves-call.root_index w x y)).answer ≡ Ok tt

pub leaves_passed : (w h : ℕ) (s : List ℕ) (x y out : ℕ) → leaves-call.check_of w h s x y out ≡ Ok tt → LeavesPassed w h s x y out
unfolding leaves-call.check_of
leaves_passed w h s x y out e =
    let t = leaves-call.lengths_ok w h (length s) out in
    let k = (root_walk s (w / 4) (h / 4) (leaves-call.root_index w x y)).answer in
    let rest = unless (leaves-call.root_ok w h x y) (Err Block) k in
    let a = past (size_ok w h) Size (unless t (Err Length) rest) e in
    let b = past t Length rest a.1 in
    let c = past (leaves-call.root_ok w h x y) Block k b.1 in
    let l = lengths_told w h (length s) out b.0 in
    let r = root_told w h x y c.0 in
    record { size = sized w h a.0; bytes = l.0; room = l.1; column = r.2; row = r.3; walked = c.1 }

pub met_room : {w h : ℕ} {s : List ℕ} {x y out : ℕ} {list : List ℕ} {r : Result ℕ Refusal} (n : ℕ) → leaves-call.Met w h s x y out list r → r ≡ Ok n → (n ≤ 256) × (out ≡ 768)
met_room {w} {h} {s} {x} {y} {out} n m e =
    let k = counted_done n _ (leaves-call.check_of w h s x y out) (sym e ∙ m.answer) in
    (omega (arith, k.1, m.few), (leaves_passed w h s x y out k.0).room)

-- n is what the walk counted
pub leaves_done : (i : leaves-call.Input) (list : List ℕ) (n : ℕ) (r : Result ℕ Refusal) (o : List ℕ)
    → leaves-call.Met i.w i.h i.splits i.x i.y (length i.out) list r → r ≡ Ok n → o ≡ sets i.out 0 (take (3 * n) list)
    → leaves-call.after (Ok n) o ≡ leaves-call.outcome i
unfolding leaves-call.outcome
leaves_done i list n r o m e q =
    let k = counted_done n _ (leaves-call.check i) (sym e ∙ m.answer) in
    rw (k.0, q, k.1, m.listed k.0)

pub leaves_refused : (i : leaves-call.Input) (list : List ℕ) (q : Refusal) (r : Result ℕ Refusal)
    → leaves-call.Met i.w i.h i.splits i.x i.y (length i.out) list r → r ≡ Err q → leaves-call.after (Err q) i.out ≡ leaves-call.outcome i
unfolding leaves-call.outcome
leaves_refused i list q r m e = rw (counted_refused q _ (leaves-call.check i) (sym e ∙ m.answer))

-- ---- leaves, by a root's number

-- a number's place is a root's where a root has the number
pub root_fits : {w h : ℕ} → Sized w h → (i : ℕ) → leaves-call.root_ok w h (64 * (i % roots_along w)) (64 * (i / roots_along w)) ≡ ltb i (root_count w h)
unfolding leaves-call.root_ok
root_fits {w} {h} z i =
    let cx : 64 * (i % roots_along w) % 64 ≡ 0 = omega arith in
    let cy : 64 * (i / roots_along w) % 64 ≡ 0 = omega arith in
    let px = lt-ltb _ _ (number_column z i) in
    test (ltb i (root_count w h))
    (λ t. rw (eq-eqb _ _ cx, eq-eqb _ _ cy, px, lt-ltb _ _ (root_row z i (ltb-true _ _ t)), t))
    (λ t. rw (eq-eqb _ _ cx, eq-eqb _ _ cy, px, le-ltb _ _ (number_below z i (ltb-false _ _ t)), t))

-- the call at a place is the one for the number of the root there, and for a number that no root has where none stands there
module _ (w h : ℕ) (s : List ℕ) (x y : ℕ) (out : List ℕ) where
  abbrev at_place : leaves-call.Input
  at_place = record { w = w; h = h; splits = s; x = x; y = y; out = out }

  abbrev at_number : ℕ → root-leaves-call.Input
  at_number n = record { w = w; h = h; splits = s; root = n; out = out }

  no_size : (n : ℕ) → size_ok w h ≡ false → root-leaves-call.outcome (at_number n) ≡ leaves-call.outcome at_place
  unfolding leaves-call.outcome leaves-call.check_of
  no_size n e = rw e

  no_root : size_ok w h ≡ true → leaves-call.root_ok w h x y ≡ false → root-leaves-call.outcome (at_number 4096) ≡ leaves-call.outcome at_place
  unfolding leaves-call.outcome leaves-call.check_of
  no_root e f =
      let z = sized w h e in
      let g = root_fits z 4096 ∙ le-ltb 4096 (root_count w h) (few_roots w h z.wide z.high) in
      test (leaves-call.lengths_ok w h (length s) (length out)) (λ t. rw (e, t, f, g)) (λ t. rw (e, t))

  some_root : leaves-call.root_ok w h x y ≡ true → root-leaves-call.outcome (at_number (leaves-call.root_index w x y)) ≡ leaves-call.outcome at_place
  some_root e =
      let r = root_told w h x y e in
      let l : x / 64 < roots_along w = omega (arith, r.2) in
      let a : 64 * (leaves-call.root_index w x y % roots_along w) ≡ x = ap (λ (n : ℕ). 64 * n) (digits_mod (y / 64) l) ∙ omega (arith, r.0) in
      let b : 64 * (leaves-call.root_index w x y / roots_along w) ≡ y = ap (λ (n : ℕ). 64 * n) (digits_div (y / 64) l) ∙ omega (arith, r.1) in
      λ j. leaves-call.outcome (record { w = w; h = h; splits = s; x = a j; y = b j; out = out })

  pub by_root : (n : ℕ) → n ≡ pick (size_ok w h && leaves-call.root_ok w h x y) (leaves-call.root_index w x y) 4096 → root-leaves-call.outcome (at_number n) ≡ leaves-call.outcome at_place
  by_root n q =
      test (size_ok w h)
      (λ e. test (leaves-call.root_ok w h x y)
      (λ f. ap (λ (m : ℕ). root-leaves-call.outcome (at_number m)) (q ∙ rw (e, f)) ∙ some_root f)
      (λ f. ap (λ (m : ℕ). root-leaves-call.outcome (at_number m)) (q ∙ rw (e, f)) ∙ no_root e f))
      (no_size n)
