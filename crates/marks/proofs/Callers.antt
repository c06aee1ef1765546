-- What a caller learns from the contracts of the calls, and marks read back from the numbers that they are listed as.
--     list_told    `list_marks` of a right call is not refused, and its list has the root's marks
--     take_told    `take_marks` of a right call is refused where the descent is, and else its list has the descent's marks
--     roots_told    what `root_count` answers for a size that passes
--     numbers_back, marks_back, small_back, marks_none, marks_more, marks_rest, bits_back    the numbers of a list as marks
-- Assumes nothing.
use Rattle.std.specs.Prelude.{Ok, Err, Result}
use mathlib.Core.Bool.{Bool, true}
use mathlib.Core.List.{List, [], ◌∷◌, ◌++◌, map, Memᴰ}
use mathlib.Core.Path.{◌≡◌, refl, sym, ap, ap₂, ◌∙◌, subst}
use Prim.Native.Nat.{ℕ, zero, suc, ◌+◌, ◌-◌, ◌*◌, ◌/◌, ◌%◌, ◌≤◌, ◌<◌}
use native.Mathlib.Numerals.{add-one}
use native.Mathlib.Omega.{arith}
use borrow.Author.Tests.{eq-eqb, lt-ltb}
use lib.ListN.{length, get_or, take, drop, length-map, get_or-map}
use lib.Seq.{sets, length-sets, take-suc, take-add, drop-cons, get_or-take}
use Rattle.def.specs.Answers.{after_checks}
use Rattle.def.specs.Picture.{size_ok, root_count}
use Rattle.def.specs.Answers.{Answer}
use Rattle.def.specs.declared.Refusal.{Refusal}
use Rattle.def.proofs.Answers.{number_some, number_apart}
use Rattle.laws.specs.Call.{Gives}
use Rattle.laws.specs.Index.{pick}
use Rattle.split.proofs.Stores.{take_sets}
use Rattle.marks_rules.proofs.Descents.{few_grown}
use Rattle.marks_rules.proofs.Marks.{few}
use Rattle.marks_rules.proofs.Tidy.{Tidy, AllTidy, tidy_mended, tidy_grown}
use Rattle.marks_rules.specs.Mended.{mend_byte}
use Rattle.split.proofs.Walks.{not_done}
use Rattle.split.specs.Picture.{root_bytes, root_x, root_y}
use Rattle.bits.specs.Bits.{bits_from}
use Rattle.marks_rules.specs.Marks.{Mark, mark, bytes, blocks_in}
use Rattle.marks.specs.ListCall as list-call
use Rattle.marks.specs.TakeCall as take-call
use Rattle.marks.specs.Stored.{mark_number, numbers, counted, mark_from, marks_in, Small}

pub roots_told : (w h r : ℕ) → size_ok w h ≡ true → r ≡ pick (size_ok w h) (root_count w h) 0 → r ≡ root_count w h
roots_told w h r z e = e ∙ ap (λ (t : Bool). pick t (root_count w h) 0) z

-- ---- the numbers of a list as marks

number_back : (m : Mark) → Tidy m → mark_from (mark_number m) ≡ m
number_back m t =
    let p : (2 * m.place + m.byte) / 2 ≡ m.place = omega (arith, t.bit) in
    let b : (2 * m.place + m.byte) % 2 ≡ m.byte = omega (arith, t.bit) in
    ap₂ mark p b

pub numbers_back : (l : List Mark) → AllTidy l → map mark_from (numbers l) ≡ l
numbers_back [] t = refl
numbers_back (m ∷ l) t = ap₂ (λ (a : Mark) (b : List Mark). a ∷ b) (number_back m (t m (Memᴰ.head refl))) (numbers_back l (λ n i. t n (Memᴰ.tail i)))

small_numbers : (l : List Mark) → AllTidy l → (j : ℕ) → get_or (numbers l) j 0 < 2048
small_numbers [] t j = omega arith
small_numbers (m ∷ l) t zero = let u = t m (Memᴰ.head refl) in omega (arith, u.inside, u.bit)
small_numbers (m ∷ l) t (suc j) = small_numbers l (λ n i. t n (Memᴰ.tail i)) j

-- the numbers of marks, first in a list
module _ (l : List Mark) (t : AllTidy l) (out : List ℕ) (room : length l ≤ length out) where
  taken : take (length l) (sets out 0 (numbers l)) ≡ numbers l
  taken = take_sets (numbers l) out (length l) (length-map l mark_number) room

  pub marks_back : marks_in (sets out 0 (numbers l)) (length l) ≡ l
  marks_back = ap (map mark_from) taken ∙ numbers_back l t

  pub small_back : Small (sets out 0 (numbers l)) (length l)
  small_back j k =
      subst (λ (v : ℕ). v < 2048) (ap (λ (z : List ℕ). get_or z j 0) (sym taken) ∙ get_or-take (length l) (sets out 0 (numbers l)) j 0 k) (small_numbers l t j)

-- a list that has the marks l
pub record Told (l : List Mark) (list : List ℕ) : Type 0 where
  pub back : marks_in list (length l) ≡ l
  pub small : Small list (length l)
  pub long : length list ≡ 85
  pub few : length l ≤ 85

told_by_lem : (l : List Mark) → AllTidy l → length l ≤ 85 → (out list : List ℕ) → length out ≡ 85 → list ≡ sets out 0 (numbers l) → Told l list
told_by_lem l t f out list room e =
    subst (Told l) (sym e)
    (record {
      back = marks_back l t out (omega arith);
      small = small_back l t out (omega arith);
      long = length-sets out 0 (numbers l) ∙ room;
      few = f;
    })

-- ---- what an answer's reading tells

read_done : (r : Result ℕ Refusal) (n : ℕ) → list-call.reading_of r ≡ record { number = 0; count = n } → r ≡ Ok n
read_done (Ok m) n e = ap Ok (ap (λ (x : list-call.Reading). x.count) e)
read_done (Err q) n e = absurd (omega (arith, number_some q, ap (λ (x : list-call.Reading). x.number) e))

read_refused : (r : Result ℕ Refusal) (q : Refusal) → list-call.reading_of r ≡ list-call.reading_of (Err q) → r ≡ Err q
read_refused (Ok m) q e = absurd (omega (arith, number_some q, ap (λ (x : list-call.Reading). x.number) e))
read_refused (Err p) q e = ap Err (number_apart p q (ap (λ (x : list-call.Reading). x.number) e))

module _ (i : list-call.Input) (r : Result ℕ Refusal) (o : List ℕ) (z : size_ok i.w i.h ≡ true) (bytes : length i.splits ≡ 1024 * root_count i.w i.h)
    (room : length i.out ≡ 85) (inside : i.root < root_count i.w i.h)
    (g : Gives list-call.outcome i (record { reading = list-call.reading_of r; out = o })) where
  abbrev l : List Mark
  l = list-call.root_marks i.w i.h i.splits i.root

  passed : list-call.check i ≡ Ok tt
  unfolding list-call.check list-call.lengths_ok
  passed = rw (z, eq-eqb _ _ bytes, eq-eqb _ _ room, lt-ltb _ _ inside)

  is_done : record { reading = list-call.reading_of r; out = o } ≡ list-call.done i
  unfolding list-call.outcome
  is_done = g ∙ ap (after_checks (list-call.refused i) (list-call.done i)) passed

  root_few : length l ≤ 85
  unfolding blocks_in
  root_few = few (mend_byte (root_bytes i.splits i.root) (i.w / 4) (i.h / 4)) (i.w / 4) (i.h / 4) 4 (root_x (i.w / 4) i.root) (root_y (i.w / 4) i.root)

  pub list_told : (r ≡ Ok (length l)) × Told l o
  list_told = (
    read_done r (length l) (ap (λ (x : list-call.Outcome). x.reading) is_done),
    told_by_lem l (tidy_mended (root_bytes i.splits i.root) (i.w / 4) (i.h / 4) 4 (root_x (i.w / 4) i.root) (root_y (i.w / 4) i.root)) root_few i.out o room
        (ap (λ (x : list-call.Outcome). x.out) is_done),
  )

module _ (i : take-call.Input) (r : Result ℕ Refusal) (o : List ℕ) (z : size_ok i.w i.h ≡ true) (room : length i.out ≡ 85) (inside : i.root < root_count i.w i.h)
    (g : Gives take-call.outcome i (record { reading = list-call.reading_of r; out = o })) where
  abbrev d : Answer
  d = (take-call.descent i).walk.answer

  checked : take-call.check i ≡ d
  unfolding take-call.check
  checked = rw (z, eq-eqb _ _ room, lt-ltb _ _ inside)

  abbrev l' : List Mark
  l' = (take-call.descent i).marks

  grown_few : length l' ≤ 85
  unfolding blocks_in
  grown_few = few_grown (i.w / 4) (i.h / 4) 4 (root_x (i.w / 4) i.root) (root_y (i.w / 4) i.root) (bits_from i.src i.from (i.to - i.from))

  by : (a : Answer) → d ≡ a → (r ≡ counted (length l') a) × (a ≡ Ok tt → Told l' o)
  unfolding take-call.outcome
  by (Ok _) e =
      let f = g ∙ ap (after_checks (take-call.refused i) (take-call.done i)) (checked ∙ e) in (
        read_done r (length l') (ap (λ (x : list-call.Outcome). x.reading) f),
        λ q.
            told_by_lem l' (tidy_grown (i.w / 4) (i.h / 4) 4 (root_x (i.w / 4) i.root) (root_y (i.w / 4) i.root) (bits_from i.src i.from (i.to - i.from))) grown_few i.out o room
            (ap (λ (x : list-call.Outcome). x.out) f),
      )
  by (Err q) e =
      let f = g ∙ ap (after_checks (take-call.refused i) (take-call.done i)) (checked ∙ e) in
      (read_refused r q (ap (λ (x : list-call.Outcome). x.reading) f), λ d. absurd (not_done q d))

  pub take_told : (r ≡ counted (length l') d) × (d ≡ Ok tt → Told l' o)
  take_told = by d refl

-- the marks of a list, one after the other
module _ (list : List ℕ) where
  pub marks_none : marks_in list 0 ≡ []
  marks_none = refl

  map_append : (a b : List ℕ) → map mark_from (a ++ b) ≡ map mark_from a ++ map mark_from b
  map_append [] b = refl
  map_append (x ∷ a) b = ap (λ (z : List Mark). mark_from x ∷ z) (map_append a b)

  pub marks_more : (j : ℕ) → j < length list → marks_in list (j + 1) ≡ marks_in list j ++ (mark_from (get_or list j 0) ∷ [])
  marks_more j l = ap (λ (n : ℕ). map mark_from (take n list)) (add-one j) ∙ ap (map mark_from) (take-suc list j 0 l) ∙ map_append (take j list) _

  -- those before j, the one at j, and some more
  pub record Around (j n : ℕ) : Type 0 where
    pub rest : List Mark
    pub split : marks_in list n ≡ marks_in list j ++ (mark_from (get_or list j 0) ∷ rest)

  pub marks_rest : (j n : ℕ) → j < n → n ≤ length list → Around j n
  marks_rest j n l m =
      let e : j + suc (n - suc j) ≡ n = omega arith in
      record {
        rest = map mark_from (take (n - suc j) (drop (suc j) list));
        split = ap (λ (k : ℕ). map mark_from (take k list)) (sym e)
            ∙ ap (map mark_from) (take-add j (suc (n - suc j)) list ∙ ap (λ (z : List ℕ). take j list ++ take (suc (n - suc j)) z) (drop-cons list j 0 (omega arith)))
            ∙ map_append (take j list) _;
      }

  -- the bytes of its marks are the low bits of its numbers
  pub bits_back : (j n : ℕ) → j < n → get_or (bytes (marks_in list n)) j 0 ≡ get_or list j 0 % 2
  bits_back j n l =
      get_or-map (λ (m : Mark). m.byte) (map mark_from (take n list)) j (mark 0 0)
      ∙ ap (λ (m : Mark). m.byte) (get_or-map mark_from (take n list) j 0)
      ∙ ap (λ (v : ℕ). v % 2) (get_or-take n list j 0 l)
