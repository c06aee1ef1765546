-- What the functions that read a map come to. w and h are the picture's sides in units; its digits are the bits of src from place `from` up to place `to`.
--     At, at_none, at_more, at_stop, at_few, root_is    the roots so far
--     every_root    where none is refused
--     fill_more, map_more    marks that are put, and roots that are filled
--     none_read    without digits a picture is refused
-- Assumes nothing.
use Rattle.std.specs.Prelude.{Ok, Err}
use mathlib.Core.List.{List, [], ◌∷◌, ◌++◌, append_assoc}
use mathlib.Core.Path.{◌≡◌, refl, sym, ap, ap₂, ◌∙◌, subst}
use Prim.Native.Nat.{ℕ, zero, suc, ◌+◌, ◌-◌, ◌*◌, ◌≤◌, ◌<◌}
use native.Mathlib.Nat.{not-suc-le-zero, eq-or-lt_of_le, le_of_suc-le-suc}
use native.Mathlib.Numerals.{add-one}
use native.Mathlib.Omega.{arith}
use mathlib.Core.Logic.{⊎_elim}
use borrow.Rule.Slice.PartMut.{put_mid, post_of}
use lib.ListN.{length, get_or, set, take, drop, replicate, length-append, length-replicate}
use lib.Seq.{length-take-le, take_at}
use Rattle.bits.specs.Bits.{bits_from}
use Rattle.bits.proofs.Laws.{drop_bits}
use Rattle.def.specs.Answers.{Answer}
use Rattle.def.specs.declared.Refusal.{Refusal}
use Rattle.def.specs.declared.Refusal.TheVariants.{Bits}
use Rattle.laws.specs.Orders.{run}
use Rattle.laws.proofs.Orders.{run_append}
use Rattle.marks.specs.Stored.{mark_from, marks_in}
use Rattle.marks.proofs.Callers.{marks_more}
use Rattle.marks_rules.specs.Descent.{Descent, grown, descend_on, descend_then, descents, run_out, root_descent}
use Rattle.marks_rules.specs.Marks.{Mark, put_all, blocks_in}
use Rattle.marks_rules.specs.Pictures.{joined, upto, root_by, root_map}
use Rattle.marks_rules.proofs.Descents.{descend_none, descend_take, descents_none, descents_more, descents_stop, descents_take, few_grown, few_descents, then_done}
use Rattle.marks_rules.proofs.Puts.{length_put}
use Rattle.split.specs.Picture.{roots, root_x, root_y}
use Rattle.split.specs.Walk.{Walk, nothing}
use Rattle.split.proofs.Roots.{column_in, row_in_lem}
use Rattle.split.proofs.Walks.{not_done, onward_done}

-- ---- the roots so far

module _ (w h : ℕ) (src : List ℕ) (from to : ℕ) where
  abbrev pub bits : List ℕ
  bits = bits_from src from (to - from)

  -- i roots have taken `used` digits
  pub record At (i used : ℕ) : Type 0 where
    pub done : (upto w h bits i).walk.answer ≡ Ok tt
    pub count : used ≡ length (upto w h bits i).marks

  -- root i, by the bits that the code hands on
  abbrev pub root_from : (i used : ℕ) → Descent
  root_from i used = root_descent w h i (bits_from src (from + used) (to - (from + used)))

  pub at_none : At 0 0
  unfolding descents
  at_none = record { done = refl; count = refl }

  module _ {i used : ℕ} (a : At i used) where
    pub at_few : used ≤ 85 * i
    unfolding blocks_in
    at_few = omega (arith, a.count, few_descents (root_descent w h) 85 (λ j l. few_grown w h 4 (root_x w j) (root_y w j) l) i bits)

    left_is : (upto w h bits i).left ≡ bits_from src (from + used) (to - (from + used))
    left_is =
        let e : to - from - used ≡ to - (from + used) = omega arith in
        descents_take (root_descent w h) (λ j l. descend_take w h 4 (root_x w j) (root_y w j) l) i bits a.done
        ∙ ap (λ (n : ℕ). drop n bits) (sym a.count) ∙ drop_bits src from (to - from) used ∙ ap (bits_from src (from + used)) e

    pub root_is : root_by w h bits i ≡ root_from i used
    root_is = ap (root_descent w h i) left_is

    step : upto w h bits (suc i)
        ≡ descend_then (upto w h bits i) (root_descent w h i)
    step = descents_more (root_descent w h) i bits

    pub at_more : (root_from i used).walk.answer ≡ Ok tt → (n : ℕ) → n ≡ length (root_from i used).marks → At (i + 1) (used + n)
    at_more d n q =
        let u = upto w h bits i in
        let e = step ∙ then_done u (root_descent w h i) (root_from i used) a.done root_is in
        subst (λ (k : ℕ). At k (used + n)) (sym (add-one i))
        (record {
          done = ap (λ (z : Descent). z.walk.answer) e ∙ ap (λ (v : Walk). v.answer) (onward_done u.walk.answer u.walk.list (root_from i used).walk a.done) ∙ d;
          count = omega (arith, a.count, q, ap (λ (z : Descent). length z.marks) e, length-append u.marks (root_from i used).marks);
        })

    pub at_stop : (q : Refusal) (n : ℕ) → i < n → (root_from i used).walk.answer ≡ Err q → (upto w h bits n).walk.answer ≡ Err q
    at_stop q n l d =
        let u = upto w h bits i in
        let e = step ∙ then_done u (root_descent w h i) (root_from i used) a.done root_is in
        let f : (upto w h bits (suc i)).walk.answer ≡ Err q =
        ap (λ (z : Descent). z.walk.answer) e ∙ ap (λ (v : Walk). v.answer) (onward_done u.walk.answer u.walk.list (root_from i used).walk a.done) ∙ d in
        let j : suc i + (n - suc i) ≡ n = omega arith in
        ap (λ (k : ℕ). (upto w h bits k).walk.answer) (sym j) ∙ ap (λ (z : Descent). z.walk.answer) (descents_stop (root_descent w h) (suc i) (n - suc i) q bits f) ∙ f

-- where none is refused, none of them is
then_each : (a : Descent) (g : List ℕ → Descent) → (descend_then a g).walk.answer ≡ Ok tt → (a.walk.answer ≡ Ok tt) × ((g a.left).walk.answer ≡ Ok tt)
unfolding descend_on
then_each a g d = by a.walk.answer refl d where
  by : (z : Answer) → a.walk.answer ≡ z → (descend_on z a g).walk.answer ≡ Ok tt → (a.walk.answer ≡ Ok tt) × ((g a.left).walk.answer ≡ Ok tt)
  by (Ok _) e q = (e, sym (ap (λ (v : Walk). v.answer) (onward_done a.walk.answer a.walk.list (g a.left).walk e)) ∙ q)
  by (Err r) e q = absurd (not_done r (sym e ∙ q))

pub every_root : (w h : ℕ) (ds : List ℕ) (n : ℕ) → (upto w h ds n).walk.answer ≡ Ok tt → (i : ℕ) → i < n → (root_by w h ds i).walk.answer ≡ Ok tt
unfolding descents
every_root w h ds zero d i l = absurd (not-suc-le-zero l)
every_root w h ds (suc n) d i l =
    let t = then_each (upto w h ds n) (root_descent w h n) d in
    ⊎_elim (λ q. subst (λ (j : ℕ). (root_by w h ds j).walk.answer ≡ Ok tt) (sym q) t.1) (λ g. every_root w h ds n t.0 i g) (eq-or-lt_of_le (le_of_suc-le-suc l))

-- without digits the first root's first block is refused
pub none_read : (w h n : ℕ) → 1 ≤ w → n ≡ roots w h → 0 < n → (upto w h [] n).walk.answer ≡ Err Bits
none_read w h n p e l =
    let f = root_descent w h in
    let c : root_x w 0 < w = column_in w 0 p in
    let r : root_y w 0 < h = row_in_lem w h 0 p (subst (λ (k : ℕ). 0 < k) e l) in
    let o : f 0 [] ≡ run_out = descend_none w h 3 (root_x w 0) (root_y w 0) c r in
    let a : (descents f 1 []).walk.answer ≡ Err Bits =
    ap (λ (z : Descent). z.walk.answer) (descents_more f 0 [] ∙ ap (λ (z : Descent). descend_then z (f 0)) (descents_none f []) ∙ then_done (grown nothing [] []) (f 0) run_out refl o)
    ∙ ap (λ (v : Walk). v.answer) (onward_done (Ok tt) [] run_out.walk refl) in
    let j : 1 + (n - 1) ≡ n = omega arith in
    ap (λ (k : ℕ). (upto w h [] k).walk.answer) (sym j) ∙ ap (λ (z : Descent). z.walk.answer) (descents_stop f 1 (n - 1) Bits [] a) ∙ a

-- ---- marks that are put, one after the other

pub fill_more : (list s : List ℕ) (j : ℕ) → j < length list
    → set (put_all (marks_in list j) s) (mark_from (get_or list j 0)).place (mark_from (get_or list j 0)).byte ≡ put_all (marks_in list (j + 1)) s
unfolding put_all run
fill_more list s j l =
    sym (ap (λ (z : List Mark). put_all z s) (marks_more list j l)
    ∙ run_append (λ (m : Mark) (t : List ℕ). set t m.place m.byte) (marks_in list j) (mark_from (get_or list j 0) ∷ []) s)

-- ---- roots that are filled: the first i of a map

pub map_more : (w h : ℕ) (ds map ys : List ℕ) (i k : ℕ) → 1024 * i + 1024 ≤ length map → take (1024 * i) map ≡ joined (root_map w h ds) i → ys ≡ root_map w h ds i
    → take (1024 * (i + 1)) (put_mid (1024 * i) k map ys) ≡ joined (root_map w h ds) (i + 1)
unfolding joined
map_more w h ds map ys i k room e f =
    let a = take (1024 * i) map in
    let l = length-take-le (1024 * i) map (omega arith) in
    let long : length ys ≡ 1024 = ap length f ∙ length_put (root_by w h ds i).marks (replicate 1024 0) ∙ length-replicate {A = ℕ} 1024 0 in
    let n : length (a ++ ys) ≡ 1024 * (i + 1) = length-append a ys ∙ omega arith in
    ap (take (1024 * (i + 1))) (sym (append_assoc a ys (post_of (1024 * i) k map))) ∙ take_at (a ++ ys) (post_of (1024 * i) k map) (1024 * (i + 1)) n
    ∙ ap₂ (λ (x y : List ℕ). x ++ y) e f ∙ ap (joined (root_map w h ds)) (sym (add-one i))
