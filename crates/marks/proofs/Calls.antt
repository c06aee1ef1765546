-- A root's marks, in luma samples and in units, and the outcomes of the public calls by what their checks find.
-- Assumes nothing.
use Rattle.std.specs.Prelude.{Ok, Err, Result}
use mathlib.Core.Bool.{true}
use mathlib.Core.List.{List, [], ◌∷◌}
use mathlib.Core.Path.{◌≡◌, sym, ap, ap₂, ◌∙◌, subst}
use Prim.Native.Nat.{ℕ, ◌+◌, ◌-◌, ◌*◌, ◌/◌, ◌%◌, ◌≤◌, ◌<◌}
use native.Mathlib.Nat.{zero-add}
use native.Mathlib.Omega.{arith}
use borrow.Author.Tests.{eqb-true}
use lib.Dec.{eqb}
use lib.ListN.{length, take, drop, length-map}
use lib.Seq.{sets, length-sets}
use Rattle.bits.specs.Bits.{bits_from}
use Rattle.def.specs.Picture.{roots_along, root_count}
use Rattle.def.specs.declared.Refusal.{Refusal}
use Rattle.def.proofs.Sizes.{Sized}
use Rattle.laws.proofs.Calls.{all_at}
use Rattle.split.proofs.Roots.{across_units, root_block}
use Rattle.split.proofs.Stores.{take_sets}
use Rattle.marks_rules.proofs.Descents.{few_grown}
use Rattle.marks_rules.specs.Descent.{descend, root_descent}
use Rattle.marks_rules.specs.Marks.{blocks_in}
use Rattle.marks_rules.specs.Mended.{mend_marks}
use Rattle.split.specs.Picture.{root_x, root_y}
use Rattle.split.specs.Stored.{Block}
use Rattle.marks.specs.ListCall as list-call
use Rattle.marks.specs.TakeCall as take-call
use Rattle.marks.specs.Stored.{mark_number, numbers, Listed, Grew}
use Rattle.marks.proofs.Growing.{counted_done, counted_refused}

-- ---- a root

module _ {w h : ℕ} (z : Sized w h) (i : ℕ) where
  abbrev column : ℕ
  column = 64 * (i % roots_along w)

  abbrev row : ℕ
  row = 64 * (i / roots_along w)

  column_is : column / 4 ≡ root_x (w / 4) i
  column_is = let e = across_units z in let a : column / 4 ≡ 16 * (i % roots_along w) = omega arith in a ∙ ap (λ (n : ℕ). 16 * (i % n)) (sym e)

  row_is : row / 4 ≡ root_y (w / 4) i
  row_is = let e = across_units z in let a : row / 4 ≡ 16 * (i / roots_along w) = omega arith in a ∙ ap (λ (n : ℕ). 16 * (i / n)) (sym e)

  -- x, y: its place, as the code has it
  pub root_at : {x y : ℕ} → i < root_count w h → x ≡ column → y ≡ row → Block w h x y 64 0
  root_at l e f = rw (e, f) (root_block z i l)

  -- its bytes, as the code takes them
  pub root_listed : {x y : ℕ} (s : List ℕ) → x ≡ column → y ≡ row
      → list-call.root_marks w h s i ≡ mend_marks (take (1024 * i + 1024 - 1024 * i) (drop (1024 * i) s)) (w / 4) (h / 4) 4 (x / 4) (y / 4)
  root_listed s e f = let n : 1024 * i + 1024 - 1024 * i ≡ 1024 = omega arith in rw (e, f, column_is, row_is, n)

  pub root_grown : {x y : ℕ} (ds : List ℕ) → x ≡ column → y ≡ row → root_descent (w / 4) (h / 4) i ds ≡ descend (w / 4) (h / 4) 4 (x / 4) (y / 4) ds
  root_grown ds e f = rw (e, f, column_is, row_is)

-- as many digits as lie from one place up to another
pub grew_between : (w h i from to : ℕ) (s : List ℕ) {n : ℕ} {list₀ list : List ℕ} {r : Result ℕ Refusal} → n ≡ to - from
    → Grew (root_descent w h i (bits_from s from n)) (bits_from s from n) list₀ 0 list r → Grew (root_descent w h i (bits_from s from (to - from))) (bits_from s from (to - from)) list₀ 0 list r
grew_between w h i from to s {n} {list₀} {list} {r} e d = subst (λ (k : ℕ). Grew (root_descent w h i (bits_from s from k)) (bits_from s from k) list₀ 0 list r) e d

-- ---- list_marks

module _ (i : list-call.Input) where
  pub list_refused : (r : Refusal) → Err r ≡ list-call.check i → record { reading = list-call.reading_of (Err r); out = i.out } ≡ list-call.outcome i
  unfolding list-call.outcome
  list_refused r e = rw (sym e)

  pub list_done : (n : ℕ) (o : List ℕ) → (Ok tt) ≡ list-call.check i → Listed (list-call.root_marks i.w i.h i.splits i.root) i.out 0 o n
      → record { reading = list-call.reading_of (Ok n); out = o } ≡ list-call.outcome i
  unfolding list-call.outcome
  list_done n o e d = rw (sym e) (ap₂ (λ (k : ℕ) (l : List ℕ). record { reading = list-call.reading_of (Ok k); out = l }) (d.count ∙ zero-add _) d.stored)

pub lengths_told : (w h splits out : ℕ) → list-call.lengths_ok w h splits out ≡ true → (splits ≡ 1024 * root_count w h) × (out ≡ 85)
unfolding list-call.lengths_ok
lengths_told w h splits out e =
    let l = eqb splits (1024 * root_count w h) ∷ eqb out 85 ∷ [] in
    (eqb-true _ _ (all_at l 0 e), eqb-true _ _ (all_at l 1 e))

-- ---- take_marks

module _ (i : take-call.Input) where
  pub take_refused : (r : Refusal) → Err r ≡ take-call.check i → record { reading = list-call.reading_of (Err r); out = i.out } ≡ take-call.outcome i
  unfolding take-call.outcome
  take_refused r e = rw (sym e)

  -- the marks are in a list of the call's own, of which the first n are copied
  module _ {list₀ list : List ℕ} {r : Result ℕ Refusal} (d : Grew (take-call.descent i) (bits_from i.src i.from (i.to - i.from)) list₀ 0 list r) where
    pub taken_few : (n : ℕ) → r ≡ Ok n → n ≤ 85
    unfolding blocks_in
    taken_few n e =
        let k = counted_done n _ (take-call.descent i).walk.answer (sym e ∙ d.answer) in
        omega (arith, few_grown (i.w / 4) (i.h / 4) 4 (root_x (i.w / 4) i.root) (root_y (i.w / 4) i.root) (bits_from i.src i.from (i.to - i.from)))

    -- the list is as long as it was
    pub taken_long : (n : ℕ) → r ≡ Ok n → length list ≡ length list₀
    taken_long n e = let k = counted_done n _ (take-call.descent i).walk.answer (sym e ∙ d.answer) in ap length (d.stored k.0) ∙ length-sets list₀ 0 (numbers (take-call.descent i).marks)

    pub take_stopped : (q : Refusal) → r ≡ Err q → (take-call.descent i).walk.answer ≡ take-call.check i
        → record { reading = list-call.reading_of r; out = i.out } ≡ take-call.outcome i
    take_stopped q e f =
        ap (λ (m : Result ℕ Refusal). record { reading = list-call.reading_of m; out = i.out }) e
        ∙ take_refused q (sym (counted_refused q _ (take-call.descent i).walk.answer (sym e ∙ d.answer)) ∙ f)

    pub take_done : (n : ℕ) (o : List ℕ) → length list₀ ≡ 85 → r ≡ Ok n → (take-call.descent i).walk.answer ≡ take-call.check i
        → o ≡ sets i.out 0 (take n list) → record { reading = list-call.reading_of (Ok n); out = o } ≡ take-call.outcome i
    unfolding take-call.outcome
    take_done n o long e f q =
        let l = (take-call.descent i).marks in
        let k = counted_done n _ (take-call.descent i).walk.answer (sym e ∙ d.answer) in
        let m : n ≡ length l = k.1 ∙ zero-add (length l) in
        let t : take n list ≡ numbers l =
        ap (take n) (d.stored k.0) ∙ take_sets (numbers l) list₀ n (length-map l mark_number ∙ sym m) (omega (arith, taken_few n e)) in
        rw (sym (sym k.0 ∙ f))
        (ap₂ (λ (a : ℕ) (b : List ℕ). record { reading = list-call.reading_of (Ok a); out = b }) m (q ∙ ap (sets i.out 0) t))
