-- `kept`: what is proved of every map that is mended; `mends`: of every call that is not refused.
-- Assumes nothing.
use Rattle.std.specs.Prelude.{Ok, Err}
use mathlib.Core.Bool.{true}
use mathlib.Core.List.Memᴰ
use mathlib.Core.List.{List, [], ◌∷◌, ◌++◌, append_assoc, append-nil, Memᴰ}
use mathlib.Core.Logic.{⊎_elim}
use mathlib.Core.Path.{◌≡◌, refl, sym, ap, ap₂, ◌∙◌, subst}
use Prim.Native.Nat.{ℕ, zero, suc, ◌+◌, ◌*◌, ◌/◌, ◌%◌, ◌≤◌, ◌<◌}
use native.Mathlib.Omega.{arith}
use borrow.Author.Tests.{eq-eqb}
use lib.ListN.{length, get_or, set, take, drop, length-set, length-take, length-drop, take-append-drop, drop_of_length-le}
use lib.Seq.{set-append_left, take-set-le, drop-set-add, take_at, drop_at, drop-drop, take-length, take-add, length-take-le, get_or-take, get_or-drop}
use Rattle.def.specs.Answers.{after_checks}
use Rattle.def.specs.Picture.{size_ok, root_count}
use Rattle.def.specs.Refusals.{number_of}
use Rattle.def.specs.Answers.{Answer}
use Rattle.def.specs.declared.Refusal.TheVariants.{Size, Length}
use Rattle.def.proofs.Answers.{number_some}
use Rattle.def.proofs.Ladders.{passes}
use Rattle.def.proofs.Sizes.{sized}
use Rattle.laws.specs.Orders.{run, each}
use Rattle.laws.proofs.Orders.{run_append}
use Rattle.marks_rules.specs.Marks.{Mark}
use Rattle.marks_rules.specs.Mended.{mend_byte}
use Rattle.marks_rules.specs.Pictures.{joined}
use Rattle.marks_rules.proofs.Descents.{all_done_lem}
use Rattle.marks_rules.proofs.Mended.{judged}
use Rattle.marks_rules.proofs.Pictures.{part_back, length_joined}
use Rattle.marks_rules.proofs.Puts.{formed, one_byte, at_root, length_put, put_same, all_there}
use Rattle.marks_rules.proofs.Tidy.{tidy_mended}
use Rattle.split.proofs.Roots.{roots_units}
use Rattle.split.proofs.Walks.{each_done}
use Rattle.split.specs.CheckCall as check-call
use Rattle.split.specs.Picture.{across, roots, root_bytes, root_x, root_y, root_walk, picture_walk}
use Rattle.split.specs.Walk.{walk}
use Rattle.mend.specs.Changes.{Change, root_marks, mend_root, mend_map, root_changes, changes_of, all_changes}
use Rattle.mend.specs.Kept.{change_place, put_each, Real, Kept, as_it_was, Mends}
use Rattle.mend.specs.MendCall as mend-call
use Rattle.mend.proofs.Calls.{few_changes, lengths_told}
use Rattle.mend.proofs.Torn.{walked, judge_all, no_change, in_root, put_in, new_of, old_of, place_back, of_mark, One, new_put, new_else, length_new, old_put}

-- ---- among a map's bytes the changes of root i move that root's alone

set_behind : (a b : List ℕ) (n i v : ℕ) → length a ≡ n → set (a ++ b) (n + i) v ≡ a ++ set b i v
set_behind a b n i v e =
    sym (take-append-drop n (set (a ++ b) (n + i) v))
    ∙ ap₂ (λ (x y : List ℕ). x ++ y) (take-set-le n (a ++ b) (n + i) v (omega arith) ∙ take_at a b n e)
    (drop-set-add n (a ++ b) i v ∙ ap (λ (z : List ℕ). set z i v) (drop_at a b n e))

abbrev Own : ℕ → List Change → Type 0
Own i l = (c : Change) → Memᴰ c l → (c.root ≡ i) × (in_root c < 1024)

put_own : (v : Change → ℕ) (i : ℕ) (l : List Change) (a b t : List ℕ) → length a ≡ 1024 * i → length b ≡ 1024 → Own i l
    → put_each v l (a ++ (b ++ t)) ≡ a ++ (put_in v l b ++ t)
unfolding run
put_own v i [] a b t m n o = refl
put_own v i (c ∷ l) a b t m n o =
    let p = in_root c in
    let k = o c (Memᴰ.head refl) in
    ap (put_each v l)
    (ap (λ (r : ℕ). set (a ++ (b ++ t)) (1024 * r + p) (v c)) k.0 ∙ set_behind a (b ++ t) (1024 * i) p (v c) m
    ∙ ap (λ (z : List ℕ). a ++ z) (set-append_left b t p (v c) (omega (arith, n, k.1))))
    ∙ put_own v i l a (set b p (v c)) t m (length-set b p (v c) ∙ n) (λ d j. o d (Memᴰ.tail j))

-- ---- the picture

module _ (s : List ℕ) (w h : ℕ) (long : length s ≡ 1024 * roots w h) where
  root_long : (i : ℕ) → i < roots w h → length (root_bytes s i) ≡ 1024
  root_long i l = length-take 1024 (drop (1024 * i) s) ∙ (let e = length-drop (1024 * i) s in omega arith)

  mended_long : (i : ℕ) → i < roots w h → length (mend_root s w h i) ≡ 1024
  mended_long i l = length_put (root_marks s w h i) (root_bytes s i) ∙ root_long i l

  map_long : length (mend_map s w h) ≡ 1024 * roots w h
  map_long = length_joined (mend_root s w h) (roots w h) mended_long

  there : (i : ℕ) → i < roots w h → (m : Mark) → Memᴰ m (root_marks s w h i) → get_or (mend_root s w h i) m.place 0 ≡ m.byte
  there i l = all_there (mend_byte (root_bytes s i) w h) w h (i % across w) (i / across w) (root_bytes s i) (root_long i l)

  accepted : (picture_walk (mend_map s w h) w h).answer ≡ Ok tt
  accepted =
      all_done_lem (root_walk (mend_map s w h) w h) (roots w h)
      (λ i l. ap (λ (z : List ℕ). (walk z w h 4 (root_x w i) (root_y w i)).answer) (part_back (mend_root s w h) (roots w h) mended_long i l)
      ∙ walked (root_bytes s i) w h (mend_root s w h i) 4 (root_x w i) (root_y w i) (there i l))

  -- two marks of a root at one place have one byte, and it lies among the root's
  one : (i : ℕ) → i < roots w h → One (root_bytes s i) i (root_marks s w h i)
  one i l m n u v e =
      let f = mend_byte (root_bytes s i) w h in
      let r = at_root f w h (i % across w) (i / across w) (root_bytes s i) (root_long i l) in
      one_byte f w h (i % across w) (i / across w)
      (formed f w h (i % across w) (i / across w) 4 (root_x w i) (root_y w i) r m u) (formed f w h (i % across w) (i / across w) 4 (root_x w i) (root_y w i) r n v) e

  inside : (i : ℕ) (m : Mark) → Memᴰ m (root_marks s w h i) → m.place < 1024
  inside i m u = (tidy_mended (root_bytes s i) w h 4 (root_x w i) (root_y w i) m u).inside

  own : (i : ℕ) → Own i (root_changes s w h i)
  own i c k =
      let o = of_mark (root_bytes s i) i (root_marks s w h i) c k in
      (ap (λ (d : Change). d.root) o.is, subst (λ (n : ℕ). n < 1024) (sym (ap in_root o.is ∙ place_back (root_bytes s i) i o.one)) (inside i o.one o.listed))

  -- a root: the new values put in, and the old ones
  root_listed : (i : ℕ) → i < roots w h → mend_root s w h i ≡ put_in new_of (root_changes s w h i) (root_bytes s i)
  root_listed i l = new_put (root_bytes s i) i (root_marks s w h i) (root_bytes s i) (one i l) (λ m u e. e)

  root_back : (i : ℕ) → i < roots w h → put_in old_of (root_changes s w h i) (mend_root s w h i) ≡ root_bytes s i
  root_back i l =
      let b = root_bytes s i in
      let c = root_changes s w h i in
      ap (put_in old_of c) (root_listed i l)
      ∙ old_put b i (root_marks s w h i) (put_in new_of c b) (length_new b i c b)
      (λ m u. subst (λ (n : ℕ). m.place < n) (sym (root_long i l)) (inside i m u))
      (λ p q f. new_else b i c b p f)

  -- the first n roots
  next : (n : ℕ) → 1024 * n + 1024 ≡ 1024 * suc n
  next n = omega arith

  new_first : (n : ℕ) → n ≤ roots w h → put_each new_of (changes_of s w h n) s ≡ joined (mend_root s w h) n ++ drop (1024 * n) s
  unfolding joined run
  new_first zero l = refl
  new_first (suc n) l =
      let f = mend_root s w h in
      let t = drop (1024 * suc n) s in
      run_append (λ (c : Change) (t : List ℕ). set t (change_place c) c.new) (changes_of s w h n) (root_changes s w h n) s
      ∙ ap (put_each new_of (root_changes s w h n))
      (new_first n (omega arith)
      ∙ ap (λ (z : List ℕ). joined f n ++ z)
      (sym (take-append-drop 1024 (drop (1024 * n) s)) ∙ ap (λ (z : List ℕ). root_bytes s n ++ z) (drop-drop 1024 (1024 * n) s ∙ ap (λ (k : ℕ). drop k s) (next n))))
      ∙ put_own new_of n (root_changes s w h n) (joined f n) (root_bytes s n) t (length_joined f n (λ i m. mended_long i (omega arith))) (root_long n l) (own n)
      ∙ ap (λ (z : List ℕ). joined f n ++ (z ++ t)) (sym (root_listed n l))
      ∙ sym (append_assoc (joined f n) (f n) t)

  listed : put_each new_of (all_changes s w h) s ≡ mend_map s w h
  listed =
      new_first (roots w h) (omega arith)
      ∙ ap (λ (z : List ℕ). mend_map s w h ++ z) (drop_of_length-le s {i = 1024 * roots w h} (omega (arith, long))) ∙ append-nil (mend_map s w h)

  old_first : (n : ℕ) → n ≤ roots w h → (t : List ℕ) → put_each old_of (changes_of s w h n) (joined (mend_root s w h) n ++ t) ≡ take (1024 * n) s ++ t
  unfolding joined run
  old_first zero l t = refl
  old_first (suc n) l t =
      let f = mend_root s w h in
      run_append (λ (c : Change) (t : List ℕ). set t (change_place c) c.old) (changes_of s w h n) (root_changes s w h n) ((joined f n ++ f n) ++ t)
      ∙ ap (put_each old_of (root_changes s w h n)) (ap (put_each old_of (changes_of s w h n)) (append_assoc (joined f n) (f n) t) ∙ old_first n (omega arith) (f n ++ t))
      ∙ put_own old_of n (root_changes s w h n) (take (1024 * n) s) (f n) t (length-take-le (1024 * n) s (omega (arith, long))) (mended_long n l) (own n)
      ∙ ap (λ (z : List ℕ). take (1024 * n) s ++ (z ++ t)) (root_back n l)
      ∙ sym (append_assoc (take (1024 * n) s) (root_bytes s n) t)
      ∙ ap (λ (z : List ℕ). z ++ t) (sym (take-add (1024 * n) 1024 s) ∙ ap (λ (k : ℕ). take k s) (next n))

  back : put_each old_of (all_changes s w h) (mend_map s w h) ≡ s
  back =
      ap (put_each old_of (all_changes s w h)) (sym (append-nil (mend_map s w h))) ∙ old_first (roots w h) (omega arith) []
      ∙ append-nil (take (1024 * roots w h) s) ∙ ap (λ (k : ℕ). take k s) (sym long) ∙ take-length s

  -- a listed change is some root's
  record In (n : ℕ) (c : Change) : Type 0 where
    root : ℕ
    below : root < n
    mine : Memᴰ c (root_changes s w h root)

  in_root_lem : (n : ℕ) (c : Change) → Memᴰ c (changes_of s w h n) → In n c
  unfolding joined
  in_root_lem zero c k = absurd (Memᴰ.not-nil k)
  in_root_lem (suc n) c k =
      ⊎_elim (λ j. let i = in_root_lem n c j in record { root = i.root; below = omega (arith, i.below); mine = i.mine })
      (λ j. record { root = n; below = omega arith; mine = j })
      (Memᴰ.append_cases (changes_of s w h n) k)

  -- byte p of root i of a map
  at : (t : List ℕ) (i p : ℕ) → p < 1024 → get_or t (1024 * i + p) 0 ≡ get_or (root_bytes t i) p 0
  at t i p l = sym (get_or-take 1024 (drop (1024 * i) t) p 0 l ∙ get_or-drop (1024 * i) t p 0)

  real : (c : Change) → Memᴰ c (all_changes s w h) → Real s (mend_map s w h) c
  real c k =
      let r = in_root_lem (roots w h) c k in
      let i = r.root in
      let b = root_bytes s i in
      let o = of_mark b i (root_marks s w h i) c r.mine in
      let m = o.one in
      let p : change_place c ≡ 1024 * i + m.place = ap₂ (λ (x y : ℕ). 1024 * x + y) (ap (λ (d : Change). d.root) o.is) (ap in_root o.is ∙ place_back b i m) in
      let l = inside i m o.listed in
      record {
        stood = ap (λ (n : ℕ). get_or s n 0) p ∙ at s i m.place l ∙ sym (ap old_of o.is);
        stands = ap (λ (n : ℕ). get_or (mend_map s w h) n 0) p ∙ at (mend_map s w h) i m.place l
            ∙ ap (λ (z : List ℕ). get_or z m.place 0) (part_back (mend_root s w h) (roots w h) mended_long i r.below) ∙ there i r.below m o.listed ∙ sym (ap new_of o.is);
        differs = λ e. o.differs (sym (ap old_of o.is) ∙ e ∙ ap new_of o.is);
      }

  -- where the walk is not refused
  module _ (d : (picture_walk s w h).answer ≡ Ok tt) where
    stands : (i : ℕ) → i < roots w h → (m : Mark) → Memᴰ m (root_marks s w h i) → get_or (root_bytes s i) m.place 0 ≡ m.byte
    stands i l =
        judge_all (root_bytes s i) (root_marks s w h i)
        (sym (judged (root_bytes s i) w h 4 (root_x w i) (root_y w i)) ∙ each_done (root_walk s w h) (roots w h) d i l)

    same_first : (n : ℕ) → n ≤ roots w h → joined (mend_root s w h) n ≡ take (1024 * n) s
    unfolding joined
    same_first zero l = refl
    same_first (suc n) l =
        ap₂ (λ (x y : List ℕ). x ++ y) (same_first n (omega arith)) (put_same (root_marks s w h n) (root_bytes s n) (stands n l))
        ∙ sym (take-add (1024 * n) 1024 s) ∙ ap (λ (k : ℕ). take k s) (next n)

    none_first : (n : ℕ) → n ≤ roots w h → changes_of s w h n ≡ []
    unfolding joined
    none_first zero l = refl
    none_first (suc n) l = ap₂ (λ (x y : List Change). x ++ y) (none_first n (omega arith)) (no_change (root_bytes s n) n (root_marks s w h n) (stands n l))

    unchanged : (mend_map s w h ≡ s) × (all_changes s w h ≡ [])
    unchanged = (same_first (roots w h) (omega arith) ∙ ap (λ (k : ℕ). take k s) (sym long) ∙ take-length s, none_first (roots w h) (omega arith))

pub kept : (s : List ℕ) (w h : ℕ) → length s ≡ 1024 * roots w h → Kept s w h
kept s w h long =
    record {
      accepted = accepted s w h long;
      unchanged = λ d. unchanged s w h long d;
      twice = unchanged (mend_map s w h) w h (map_long s w h long) (accepted s w h long);
      listed = listed s w h long;
      back = back s w h long;
      real = real s w h long;
      few = few_changes s w h (roots w h);
    }

-- ---- the call

-- 0 is the number of no refusal
done_told : (a : Answer) → after_checks (λ r. check-call.numbered (number_of r)) (check-call.numbered 0) a ≡ check-call.numbered 0 → a ≡ Ok tt
done_told (Ok _) e = refl
done_told (Err r) e = absurd (let z = ap (λ (o : check-call.Outcome). o.number) e in omega (arith, number_some r))

-- the walk's answer is that of `check`, where size and length are right
module _ (w h : ℕ) (s : List ℕ) (z : size_ok w h ≡ true) (long : length s ≡ 1024 * root_count w h) where
  abbrev checked : check-call.Input
  checked = record { w = w; h = h; splits = s }

  check_is : check-call.check checked ≡ (picture_walk s (w / 4) (h / 4)).answer
  unfolding check-call.check
  check_is = rw (z, eq-eqb (length s) (1024 * root_count w h) long)

  walk_told : check-call.outcome checked ≡ check-call.numbered 0 → (picture_walk s (w / 4) (h / 4)).answer ≡ Ok tt
  unfolding check-call.outcome
  walk_told e = sym check_is ∙ done_told (check-call.check checked) e

  told_walk : (picture_walk s (w / 4) (h / 4)).answer ≡ Ok tt → check-call.outcome checked ≡ check-call.numbered 0
  unfolding check-call.outcome
  told_walk e = ap (after_checks (λ r. check-call.numbered (number_of r)) (check-call.numbered 0)) (check_is ∙ e)

  -- and where it is done the call copies
  copied : (out list : List ℕ) → length out ≡ 1024 * root_count w h → length list ≡ 425 * root_count w h → (picture_walk s (w / 4) (h / 4)).answer ≡ Ok tt
      → mend-call.outcome (record { w = w; h = h; splits = s; out = out; list = list }) ≡ as_it_was s list
  unfolding mend-call.outcome mend-call.check mend-call.lengths_ok each
  copied out list m n d =
      let u = (kept s (w / 4) (h / 4) (long ∙ ap (λ (k : ℕ). 1024 * k) (sym (roots_units (sized w h z))))).unchanged d in
      rw (z, eq-eqb (length s) (1024 * root_count w h) long, eq-eqb (length out) (1024 * root_count w h) m, eq-eqb (length list) (425 * root_count w h) n, u.0, u.1)

module _ (i : mend-call.Input) (d : mend-call.check i ≡ Ok tt) where
  abbrev new : List ℕ
  new = (mend-call.outcome i).out

  tests : (size_ok i.w i.h ≡ true) × (mend-call.lengths_ok i.w i.h (length i.splits) (length i.out) (length i.list) ≡ true)
  unfolding mend-call.check
  tests = let a = passes (size_ok i.w i.h) Size _ d in (a.holds, (passes _ Length (Ok tt) a.rest).holds)

  lengths : (length i.splits ≡ 1024 * root_count i.w i.h) × (length i.out ≡ 1024 * root_count i.w i.h) × (length i.list ≡ 425 * root_count i.w i.h)
  lengths = lengths_told i.w i.h (length i.splits) (length i.out) (length i.list) tests.1

  units : 1024 * roots (i.w / 4) (i.h / 4) ≡ 1024 * root_count i.w i.h
  units = ap (λ (k : ℕ). 1024 * k) (roots_units (sized i.w i.h tests.0))

  new_is : new ≡ mend_map i.splits (i.w / 4) (i.h / 4)
  unfolding mend-call.outcome
  new_is = ap (λ (a : Answer). (after_checks (mend-call.refused i) (mend-call.done i) a).out) d

  new_long : length new ≡ 1024 * root_count i.w i.h
  new_long = ap length new_is ∙ map_long i.splits (i.w / 4) (i.h / 4) (lengths.0 ∙ sym units) ∙ units

  walks : (picture_walk new (i.w / 4) (i.h / 4)).answer ≡ Ok tt
  walks = ap (λ (t : List ℕ). (picture_walk t (i.w / 4) (i.h / 4)).answer) new_is ∙ (kept i.splits (i.w / 4) (i.h / 4) (lengths.0 ∙ sym units)).accepted

  pub mends : Mends i
  mends =
      let s = i.splits in
      record {
        accepted = told_walk i.w i.h new tests.0 new_long walks;
        unchanged = λ e. copied i.w i.h s tests.0 lengths.0 i.out i.list lengths.1 lengths.2 (walk_told i.w i.h s tests.0 lengths.0 e);
        twice = λ out list m n. copied i.w i.h new tests.0 new_long out list (m ∙ lengths.1) (n ∙ lengths.2) walks;
      }
