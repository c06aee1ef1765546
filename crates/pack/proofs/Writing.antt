-- What the functions that write a map come to.
--     judge_more, judge_wrong    the marks of a list, judged one after the other
--     own_digits, root_judged    a root's digits, and its walk's answer
--     put_next    the digits of the next root, after those of the roots before it
--     filled    zeros after the last digit
-- Assumes nothing.
use Rattle.std.specs.Prelude.{Ok, Err, Result}
use mathlib.Core.Bool.{true}
use mathlib.Core.List.{List, [], ◌∷◌, ◌++◌}
use mathlib.Core.Path.{◌≡◌, sym, ap, ap₂, ◌∙◌, subst}
use Prim.Native.Nat.{ℕ, ◌+◌, ◌-◌, ◌*◌, ◌/◌, ◌%◌, ◌≤◌, ◌<◌}
use native.Mathlib.Numerals.{add-one}
use native.Mathlib.Omega.{arith}
use lib.ListN.{length, get_or, take, drop, length-append, length-map, get_or-append, get_or-eq_default}
use lib.Seq.{get_or-append-add}
use Rattle.bits.specs.Bits.{with_bits}
use Rattle.bits.proofs.Laws.{with_same, with_join}
use Rattle.def.proofs.Sizes.{sized}
use Rattle.def.specs.Picture.{size_ok, root_count}
use Rattle.def.specs.Answers.{Answer}
use Rattle.def.specs.declared.Refusal.{Refusal}
use Rattle.marks.specs.ListCall as list-call
use Rattle.marks.specs.Stored.{mark_from, marks_in}
use Rattle.marks.proofs.Callers.{roots_told, Told, marks_more, marks_rest, bits_back}
use Rattle.marks_rules.specs.Marks.{Mark, bytes, digits}
use Rattle.marks_rules.specs.Mended.{wrong, judge}
use Rattle.marks_rules.specs.Pictures.{joined, root_digits, digits_of, picture_digits}
use Rattle.marks_rules.proofs.Mended.{stop, judge_none, judge_same, judge_other, judge_append, judged, own_marks}
use Rattle.marks_rules.proofs.Pictures.{split_at}
use Rattle.laws.specs.Index.{pick}
use Rattle.pack_rules.specs.Form.{digit_at, packed, start_of}
use Rattle.split.proofs.Roots.{few_roots, roots_units}
use Rattle.split.specs.Picture.{roots, root_bytes, root_x, root_y, root_walk}

-- ---- the marks of a list, judged one after the other

module _ (s list : List ℕ) (j : ℕ) (d : judge s (marks_in list j) ≡ Ok tt) where
  abbrev m : Mark
  m = mark_from (get_or list j 0)

  judge_next : (l : List Mark) → judge s (marks_in list j ++ l) ≡ judge s l
  unfolding stop
  judge_next l = judge_append s (marks_in list j) l ∙ ap (λ (a : Answer). stop a (judge s l)) d

  pub judge_more : j < length list → get_or s m.place 0 ≡ m.byte → judge s (marks_in list (j + 1)) ≡ Ok tt
  judge_more l e = ap (judge s) (marks_more list j l) ∙ judge_next (m ∷ []) ∙ judge_same s m [] e ∙ judge_none s

  pub judge_wrong : (n : ℕ) → j < n → n ≤ length list → (get_or s m.place 0 ≡ m.byte → ⊥) → judge s (marks_in list n) ≡ Err (wrong (get_or s m.place 0))
  judge_wrong n l k e = let a = marks_rest list j n l k in ap (judge s) a.split ∙ judge_next (m ∷ a.rest) ∙ judge_other s m a.rest e

-- ---- root i of a map

-- root i's bytes, as the code takes them
pub bytes_of_lem : (s : List ℕ) (i : ℕ) → take (1024 * i + 1024 - 1024 * i) (drop (1024 * i) s) ≡ root_bytes s i
bytes_of_lem s i = let e : 1024 * i + 1024 - 1024 * i ≡ 1024 = omega arith in ap (λ (n : ℕ). take n (drop (1024 * i) s)) e

module _ (w h : ℕ) (s : List ℕ) (i : ℕ) where
  abbrev pub own : List Mark
  own = list-call.root_marks w h s i

  pub root_judged : (root_walk s (w / 4) (h / 4) i).answer ≡ judge (root_bytes s i) own
  root_judged = judged (root_bytes s i) (w / 4) (h / 4) 4 (root_x (w / 4) i) (root_y (w / 4) i)

  -- where the walk is not refused, the marks are those of the bytes
  pub own_digits : (root_walk s (w / 4) (h / 4) i).answer ≡ Ok tt → root_digits s (w / 4) (h / 4) i ≡ bytes own
  unfolding digits
  own_digits d = ap bytes (sym (own_marks (root_bytes s i) (w / 4) (h / 4) 4 (root_x (w / 4) i) (root_y (w / 4) i) d))

  pub own_long : (root_walk s (w / 4) (h / 4) i).answer ≡ Ok tt → length (root_digits s (w / 4) (h / 4) i) ≡ length own
  own_long d = ap length (own_digits d) ∙ length-map own (λ (m : Mark). m.byte)

  -- a list that has them
  module _ {list : List ℕ} (t : Told own list) where
    pub own_bit : (root_walk s (w / 4) (h / 4) i).answer ≡ Ok tt → (k : ℕ) → k < length own → get_or list k 0 % 2 ≡ digit_at (root_digits s (w / 4) (h / 4) i) k
    own_bit d k l =
        sym (bits_back list k (length own) l) ∙ ap (λ (z : List Mark). get_or (bytes z) k 0) t.back ∙ ap (λ (z : List ℕ). get_or z k 0) (sym (own_digits d))

    pub own_answer : (a : Answer) (n : ℕ) → n ≡ length own → a ≡ judge (take (1024 * i + 1024 - 1024 * i) (drop (1024 * i) s)) (marks_in list n) → a ≡ (root_walk s (w / 4) (h / 4) i).answer
    own_answer a n q f = f ∙ ap₂ judge (bytes_of_lem s i) (ap (marks_in list) q ∙ t.back) ∙ sym root_judged

-- an answer that tells of marks is not a refusal
pub not_both : {A : Type 0} (r : Result ℕ Refusal) (n : ℕ) (q : Refusal) → r ≡ Ok n → r ≡ Err q → A
not_both r n q e f = absurd (let z : ◌≡◌ {A = ℕ} 0 1 = cc in omega arith)

-- ---- the digits of one root after another

module _ (s : List ℕ) (w h : ℕ) (i : ℕ) (l : i < roots w h) where
  abbrev ds : List ℕ
  ds = picture_digits s w h

  abbrev u : ℕ
  u = length (digits_of s w h i)

  -- root i's digits among all
  digit_of : (k : ℕ) → k < length (root_digits s w h i) → digit_at (root_digits s w h i) k ≡ digit_at ds (u + k)
  digit_of k m =
      let a = split_at (root_digits s w h) (roots w h) i l in
      sym (ap (λ (z : List ℕ). get_or z (u + k) 0) a.split ∙ get_or-append-add (digits_of s w h i) (root_digits s w h i ++ a.rest) k 0
      ∙ get_or-append (root_digits s w h i) a.rest 0 k m)

  pub more_long : length (digits_of s w h (i + 1)) ≡ u + length (root_digits s w h i)
  unfolding joined
  more_long = ap (λ (n : ℕ). length (digits_of s w h n)) (add-one i) ∙ length-append (digits_of s w h i) (root_digits s w h i)

  pub put_next : (buf₀ buf buf' : List ℕ) (at n used : ℕ) → used ≡ u → n ≡ length (root_digits s w h i) → buf ≡ with_bits buf₀ at (digit_at ds) used
      → buf' ≡ with_bits buf (at + used) (digit_at (root_digits s w h i)) n → buf' ≡ with_bits buf₀ at (digit_at ds) (used + n)
  put_next buf₀ buf buf' at n used eu en e f =
      f ∙ ap (λ (z : List ℕ). with_bits z (at + used) (digit_at (root_digits s w h i)) n) e
      ∙ with_same (with_bits buf₀ at (digit_at ds) used) (at + used) (digit_at (root_digits s w h i)) (λ (k : ℕ). digit_at ds (used + k)) n
      (λ k m. digit_of k (subst (λ (z : ℕ). k < z) en m) ∙ ap (λ (z : ℕ). digit_at ds (z + k)) (sym eu))
      ∙ with_join buf₀ at (digit_at ds) used n

-- ---- zeros after the last digit

pub filled : (buf buf₁ buf₂ ds : List ℕ) (at n : ℕ) → n ≡ length ds → buf₁ ≡ with_bits buf (start_of at) (digit_at ds) (length ds)
    → buf₂ ≡ with_bits buf₁ (start_of at + n) (λ (i : ℕ). 0) (start_of at + (n + 7) / 8 * 8 - (start_of at + n)) → buf₂ ≡ packed buf at ds
unfolding packed
filled buf buf₁ buf₂ ds at n en e f =
    let m = (n + 7) / 8 * 8 - n in
    let q : start_of at + (n + 7) / 8 * 8 - (start_of at + n) ≡ m = omega arith in
    let t : n + m ≡ (n + 7) / 8 * 8 = omega arith in
    f ∙ ap (with_bits buf₁ (start_of at + n) (λ (i : ℕ). 0)) q
    ∙ ap (λ (z : List ℕ). with_bits z (start_of at + n) (λ (i : ℕ). 0) m) (e ∙ ap (with_bits buf (start_of at) (digit_at ds)) (sym en))
    ∙ with_same (with_bits buf (start_of at) (digit_at ds) n) (start_of at + n) (λ (i : ℕ). 0) (λ (i : ℕ). digit_at ds (n + i)) m
    (λ i l. sym (get_or-eq_default ds 0 (omega arith)))
    ∙ with_join buf (start_of at) (digit_at ds) n m
    ∙ ap (with_bits buf (start_of at) (digit_at ds)) (t ∙ ap (λ (k : ℕ). (k + 7) / 8 * 8) en)

-- ---- the size, and what follows of it

pub few_of : (w h : ℕ) → size_ok w h ≡ true → root_count w h ≤ 4096
few_of w h z = let s = sized w h z in few_roots w h s.wide s.high

pub count_units : (w h r : ℕ) → size_ok w h ≡ true → r ≡ pick (size_ok w h) (root_count w h) 0 → r ≡ roots (w / 4) (h / 4)
count_units w h r z e = roots_told w h r z e ∙ sym (roots_units (sized w h z))
