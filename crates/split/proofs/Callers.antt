-- What a caller learns from the contracts of `leaves`, `root_leaves` and `check`.
--     check_told    a picture that `check` does not refuse is accepted
--     check_answer    where size and length are right, what `check` answers is what the walk finds
--     leaves_told    a list that `leaves` filled reads back as the root's leaves
--     leaves_given    of an accepted picture `leaves` refuses no root
--     leaves_met    where its checks pass, `leaves` does not refuse
--     index_back    the number of the root at the place of root i is i
--     root_met, root_told    of an accepted picture `root_leaves` does not refuse root i, and its list holds the root's leaves
-- Assumes nothing.
use Rattle.std.specs.Prelude.{Ok, Err, Result}
use mathlib.Core.Bool.{true}
use mathlib.Core.List.Memᴰ
use mathlib.Core.List.{List, Memᴰ}
use mathlib.Core.Path.{◌≡◌, refl, sym, ap, ◌∙◌, subst}
use Prim.Native.Nat.{ℕ, zero, suc, ◌+◌, ◌*◌, ◌/◌, ◌%◌, ◌≤◌, ◌<◌}
use native.Mathlib.Nat.{zero-add, div-add-mod'}
use native.Mathlib.Omega.{arith}
use borrow.Author.Tests.{eq-eqb, lt-ltb, eqb-true, eqb-false}
use lib.Dec.{eqb}
use lib.ListN.{length, get_or}
use lib.Seq.{sets, length-sets}
use Rattle.def.specs.Answers.{answer_number, after_checks}
use Rattle.def.specs.Picture.{size_ok, roots_along, root_count}
use Rattle.def.specs.Refusals.{number_of}
use Rattle.def.specs.Answers.{Answer}
use Rattle.def.specs.declared.Refusal.{Refusal}
use Rattle.def.proofs.Answers.{number_some, answer_apart}
use Rattle.def.proofs.Sizes.{sized}
use Rattle.laws.specs.Call.{Gives}
use Rattle.laws.specs.Orders.{each}
use Rattle.split.specs.CheckCall as check-call
use Rattle.split.specs.LeavesCall as leaves-call
use Rattle.split.specs.Picture.{roots, root_walk, root_leaves, picture_walk}
use Rattle.split.specs.RootLeavesCall as root-leaves-call
use Rattle.split.specs.Stored.{leaf_numbers, counted, leaf_from, leaves_from, LeafAt, Ready, Stored}
use Rattle.split.proofs.Induct.{test}
use Rattle.split.proofs.Listing.{read_back, ready}
use Rattle.split.proofs.Outcomes.{LeavesPassed, leaves_passed}
use Rattle.split.proofs.Places.{sound_at, stands_at}
use Rattle.split.proofs.Ranks.{Stands}
use Rattle.split.proofs.Roots.{index_in, roots_units, some_wide, root_column, root_row}
use Rattle.split.proofs.Walks.{each_done}

-- ---- check

accepted : (k : Answer) → check-call.numbered 0 ≡ after_checks (λ r. check-call.numbered (number_of r)) (check-call.numbered 0) k → k ≡ Ok tt
accepted (Ok _) e = refl
accepted (Err r) e = absurd (omega (arith, number_some r, ap (λ (o : check-call.Outcome). o.number) e))

pub check_told : (i : check-call.Input) → Gives check-call.outcome i (check-call.numbered 0) → check-call.check i ≡ Ok tt
unfolding check-call.outcome
check_told i e = accepted (check-call.check i) e

answered : (a k : Answer) → check-call.numbered (answer_number a) ≡ after_checks (λ r. check-call.numbered (number_of r)) (check-call.numbered 0) k → a ≡ k
answered a (Ok _) e = answer_apart a (Ok tt) (ap (λ (o : check-call.Outcome). o.number) e)
answered a (Err r) e = answer_apart a (Err r) (ap (λ (o : check-call.Outcome). o.number) e)

pub check_answer : (w h : ℕ) (s : List ℕ) (a : Answer) → size_ok w h ≡ true → length s ≡ 1024 * root_count w h
    → Gives check-call.outcome (record { w = w; h = h; splits = s }) (check-call.numbered (answer_number a)) → a ≡ (picture_walk s (w / 4) (h / 4)).answer
unfolding check-call.outcome check-call.check
check_answer w h s a z l e = answered a (picture_walk s (w / 4) (h / 4)).answer (rw (z, eq-eqb _ _ l) at e)

-- ---- leaves

-- the list o, of which n leaves were answered
pub record Told (i : leaves-call.Input) (o : List ℕ) (n : ℕ) : Type 0 where
  pub passed : LeavesPassed i.w i.h i.splits i.x i.y (length i.out)
  pub count : n ≡ length (leaves-call.leaves_at i.w i.h i.splits i.x i.y)
  pub back : leaves_from o n ≡ leaves-call.leaves_at i.w i.h i.splits i.x i.y
  pub leaves : Ready o n
  pub same_long : length o ≡ length i.out

record Given (i : leaves-call.Input) (o : List ℕ) (n : ℕ) (k : Answer) : Type 0 where
  done : k ≡ Ok tt
  count : n ≡ length (leaves-call.leaves_at i.w i.h i.splits i.x i.y)
  out : o ≡ sets i.out 0 (each leaf_numbers (leaves-call.leaves_at i.w i.h i.splits i.x i.y))

given : (i : leaves-call.Input) (o : List ℕ) (n : ℕ) (k : Answer) → leaves-call.after (Ok n) o ≡ after_checks (leaves-call.refused i) (leaves-call.done i) k → Given i o n k
given i o n (Ok _) e =
    record { done = refl; count = ap (λ (q : leaves-call.Outcome). q.reading.count) e; out = ap (λ (q : leaves-call.Outcome). q.out) e }
given i o n (Err r) e = absurd (omega (arith, number_some r, ap (λ (q : leaves-call.Outcome). q.reading.number) e))

pub leaves_told : (i : leaves-call.Input) (o : List ℕ) (n : ℕ) → Gives leaves-call.outcome i (leaves-call.after (Ok n) o) → Told i o n
unfolding leaves-call.outcome
leaves_told i o n e =
    let g = given i o n (leaves-call.check i) e in
    let p = leaves_passed i.w i.h i.splits i.x i.y (length i.out) g.done in
    let z = p.size in
    let at = leaves-call.root_index i.w i.x i.y in
    let d : Stored (root_walk i.splits (i.w / 4) (i.h / 4) at) i.out 0 o (Ok n) =
    record { answer = ap Ok (g.count ∙ sym (zero-add _)) ∙ sym (ap (counted _) p.walked); stored = g.out } in
    record {
      passed = p;
      count = g.count;
      back = read_back i.splits (i.w / 4) (i.h / 4) at p.walked d p.room n refl;
      leaves = ready i.splits (i.w / 4) (i.h / 4) at p.walked d p.room n refl (omega (arith, z.wide)) (omega (arith, z.high));
      same_long = ap length g.out ∙ simp length-sets;
    }

-- the number of the root at the place of root i
pub index_back : (w i : ℕ) → leaves-call.root_index w (64 * (i % roots_along w)) (64 * (i / roots_along w)) ≡ i
index_back w i =
    let a : 64 * (i % roots_along w) / 64 ≡ i % roots_along w = omega arith in
    let b : 64 * (i / roots_along w) / 64 ≡ i / roots_along w = omega arith in
    rw (a, b) (div-add-mod' i (roots_along w))

-- every check of `leaves` passes at each root of an accepted picture
pub leaves_given : (w h : ℕ) (s : List ℕ) (x y : ℕ) → size_ok w h ≡ true → length s ≡ 1024 * root_count w h → (picture_walk s (w / 4) (h / 4)).answer ≡ Ok tt
    → x % 64 ≡ 0 → y % 64 ≡ 0 → x < w → y < h → leaves-call.check_of w h s x y 768 ≡ Ok tt
unfolding leaves-call.check_of leaves-call.lengths_ok leaves-call.root_ok
leaves_given w h s x y z e d cx cy px py =
    let at = leaves-call.root_index w x y in
    let g : at < roots (w / 4) (h / 4) = rw (roots_units (sized w h z)) (index_in (sized w h z) x y px py) in
    let f = each_done (root_walk s (w / 4) (h / 4)) (roots (w / 4) (h / 4)) d at g in
    rw (z, eq-eqb _ _ e, eq-eqb _ _ cx, eq-eqb _ _ cy, lt-ltb _ _ px, lt-ltb _ _ py) f

pub leaves_met : (i : leaves-call.Input) (r : Result ℕ Refusal) (o : List ℕ) (q : Refusal) → leaves-call.check i ≡ Ok tt → Gives leaves-call.outcome i (leaves-call.after r o) → r ≡ Err q → ⊥
unfolding leaves-call.outcome
leaves_met i r o q d e z =
    let f : leaves-call.after (Err q) o ≡ leaves-call.done i = ap (λ (a : Result ℕ Refusal). leaves-call.after a o) (sym z) ∙ e ∙ ap (after_checks (leaves-call.refused i) (leaves-call.done i)) d in
    omega (arith, number_some q, ap (λ (p : leaves-call.Outcome). p.reading.number) f)

-- ---- the roots of an accepted picture

-- leaf j of a list, in a picture of w by h units
pub record Leafed (w h : ℕ) (list : List ℕ) (j : ℕ) : Type 0 where
  pub numbers : LeafAt (get_or list (3 * j) 0) (get_or list (3 * j + 1) 0) (get_or list (3 * j + 2) 0)
  pub stands : Stands (leaf_from list j)
  pub columns : (leaf_from list j).x + (leaf_from list j).side ≤ w
  pub rows : (leaf_from list j).y + (leaf_from list j).side ≤ h

-- the list of root i, of which n leaves were answered
pub record RootTold (w h : ℕ) (s : List ℕ) (i : ℕ) (list : List ℕ) (n : ℕ) : Type 0 where
  pub same : leaves_from list n ≡ root_leaves s (w / 4) (h / 4) i
  pub long : length list ≡ 768
  pub few : n ≤ 256
  pub leaves : (j : ℕ) → j < n → Leafed (w / 4) (h / 4) list j

pub from_in : (list : List ℕ) (n j : ℕ) → j < n → Memᴰ (leaf_from list j) (leaves_from list n)
unfolding leaves_from
from_in list zero j l = absurd (omega arith)
from_in list (suc n) j l =
    test (eqb j n) (λ t. Memᴰ.append_right (leaves_from list n) (Memᴰ.head (ap (leaf_from list) (eqb-true j n t))))
    (λ t. let ne = eqb-false j n t in Memᴰ.append_left _ (from_in list n j (omega arith)))

module _ (w h : ℕ) (s : List ℕ) (size : size_ok w h ≡ true) (bytes : length s ≡ 1024 * root_count w h) (walked : (picture_walk s (w / 4) (h / 4)).answer ≡ Ok tt) (i : ℕ) (early : i < root_count w h)
    (out list : List ℕ) (r : Result ℕ Refusal) (room : length out ≡ 768) (g : Gives root-leaves-call.outcome (record { w = w; h = h; splits = s; root = i; out = out }) (leaves-call.after r list)) where
  pub root_met : (q : Refusal) → r ≡ Err q → ⊥
  root_met q =
      let z = sized w h size in
      let d = leaves_given w h s _ _ size bytes walked (omega arith) (omega arith) (root_column z i early) (root_row z i early) in
      leaves_met _ r list q (rw room d) g

  pub root_told : (n : ℕ) → r ≡ Ok n → RootTold w h s i list n
  root_told n e =
      let z = sized w h size in
      let t = leaves_told _ list n (rw e at g) in
      let same : leaves_from list n ≡ root_leaves s (w / 4) (h / 4) i = t.back ∙ ap (root_leaves s (w / 4) (h / 4)) (index_back w i) in
      let long = t.same_long ∙ room in
      let fine = each_done (root_walk s (w / 4) (h / 4)) (roots (w / 4) (h / 4)) walked in
      let in_time : i < roots (w / 4) (h / 4) = rw (roots_units z) early in
      record {
        same = same;
        long = long;
        few = omega (arith, t.leaves.long);
        leaves = λ j l.
            let m = subst (Memᴰ (leaf_from list j)) same (from_in list n j l) in
            let d = sound_at s (w / 4) (h / 4) (some_wide z) fine i in_time _ m in
            record { numbers = t.leaves.leaves j l; stands = stands_at s (w / 4) (h / 4) (some_wide z) fine i in_time _ m; columns = d.columns; rows = d.rows };
      }
