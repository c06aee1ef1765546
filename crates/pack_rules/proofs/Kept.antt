-- `kept`: what is proved of every map that is written. `back` has what follows of the map alone.
-- Assumes nothing.
use Rattle.std.specs.Prelude.{Ok, Err}
use mathlib.Core.Bool.{Bool, true, false}
use mathlib.Core.List.Memᴰ
use mathlib.Core.List.{List, [], ◌∷◌, ◌++◌, append-nil}
use mathlib.Core.Logic.{◌⊎◌, inl, inr, ⊎_elim}
use mathlib.Core.Path.{◌≡◌, refl, sym, ap, ap₂, ◌∙◌, subst}
use Prim.Native.Nat.{ℕ, zero, suc, ◌+◌, ◌-◌, ◌*◌, ◌/◌, ◌%◌, ◌≤◌, ◌<◌, min}
use native.Mathlib.Omega.{arith}
use borrow.Author.Tests.{eq-eqb, eqb-true, leb-true}
use lib.Dec.{eqb, leb}
use lib.ListN.{length, get_or, set, take, drop, replicate, length-map, take-append-drop, length-replicate, length-take, get_or-eq_default}
use lib.Seq.{ext_get_or, get_or-take, get_or-set_other}
use Rattle.bits.specs.Bits.{bit_at, with_bit, with_bits, bits_from}
use Rattle.bits.proofs.Laws.{length_bits, bits_same, bits_other, drop_bits}
use Rattle.def.specs.Answers.{after_checks}
use Rattle.def.specs.Picture.{size_ok, root_count}
use Rattle.def.specs.Answers.{Answer}
use Rattle.def.specs.declared.Refusal.{Refusal}
use Rattle.def.specs.declared.Refusal.TheVariants.{Size, Length, Bits}
use Rattle.laws.specs.Call.{unless}
use Rattle.laws.specs.Scan.{all_below}
use Rattle.laws.proofs.ScanAll.{scan_pass}
use Rattle.laws.proofs.Tabulate.{length_tabulate, get_d_tabulate}
use Rattle.marks_rules.specs.Descent.{Descent, grown}
use Rattle.marks_rules.specs.Marks.{Mark, bytes, digits, put_all}
use Rattle.marks_rules.specs.Pictures.{joined, root_digits, digits_of, picture_digits, upto, root_map, map_of}
use Rattle.marks_rules.proofs.Pictures.{root_marks, marks_digits, few_digits, upto_back, picture_back, root_back, same_blocks, same_there, zero_else, told_apart}
use Rattle.split.proofs.Outcomes.{past}
use Rattle.split.proofs.Walks.{not_done, each_done}
use Rattle.marks_rules.proofs.Mended.{own_marks}
use Rattle.marks_rules.proofs.Tidy.{AllTidy, tidy_mended}
use Rattle.split.specs.Picture.{roots, root_bytes, root_x, root_y, root_walk, picture_walk}
use Rattle.pack_rules.specs.Form.{bits_in, start_of, end_of, digit_at, packed, room_ok, digits_from, zeros_ok, fill_ok}
use Rattle.pack_rules.specs.GetCall as get-call
use Rattle.pack_rules.specs.Kept.{reached, back_of, Holds, Back, Kept}
use Rattle.pack_rules.specs.PutCall as put-call

-- ---- the map alone

joined_same : (f g : ℕ → List ℕ) (n : ℕ) → ((i : ℕ) → i < n → f i ≡ g i) → joined f n ≡ joined g n
unfolding joined
joined_same f g zero e = refl
joined_same f g (suc n) e = ap₂ (λ (a b : List ℕ). a ++ b) (joined_same f g n (λ i l. e i (omega arith))) (e n (omega arith))

module _ (s : List ℕ) (w h : ℕ) (d : (picture_walk s w h).answer ≡ Ok tt) where
  -- whatever follows the digits
  map_is : (r : List ℕ) → map_of w h (picture_digits s w h ++ r) ≡ back_of s w h
  map_is r = joined_same _ _ (roots w h) (λ i l. ap (λ (m : List Mark). put_all m (replicate 1024 0)) (root_back s w h d r i l))

  pub back : Back s w h
  back =
      let e = map_is [] in
      let p = ap (λ (ds : List ℕ). upto w h ds (roots w h)) (sym (append-nil (picture_digits s w h))) ∙ picture_back s w h d [] in
      record {
        blocks = ap (λ (m : List ℕ). picture_walk m w h) (sym e) ∙ same_blocks s w h d [];
        there = λ i l m k. ap (λ (z : List ℕ). get_or (root_bytes z i) m.place 0) (sym e) ∙ same_there s w h d [] i l m k;
        zero = λ i l p q n. ap (λ (z : List ℕ). get_or (root_bytes z i) p 0) (sym e) ∙ zero_else s w h d [] i l p q n;
        walked = ap (λ (z : Descent). z.walk) p;
        whole = ap (λ (z : Descent). length z.left) p;
        few = few_digits s w h (roots w h);
        apart = λ t r r' dt q. told_apart w h s t d dt r r' q;
      }

  -- ---- read from any buffer that has it

  module _ (src : List ℕ) (p : ℕ) (k : Holds src p (picture_digits s w h)) where
    abbrev ds : List ℕ
    ds = picture_digits s w h

    abbrev all : List ℕ
    all = digits_from src p

    all_long : length all ≡ bits_in (length src) - start_of p
    all_long = length_tabulate (λ (i : ℕ). bit_at src (start_of p + i)) (bits_in (length src) - start_of p)

    enough : length ds ≤ bits_in (length src) - start_of p
    enough = let r = k.room in omega arith

    first : take (length ds) all ≡ ds
    first =
        ext_get_or 0 (take (length ds) all) ds (length-take (length ds) all ∙ omega (arith, all_long, enough))
        (λ i l.
        let m : i < length ds = omega (arith, l, length-take (length ds) all) in
        get_or-take (length ds) all i 0 m ∙ get_d_tabulate (λ (j : ℕ). bit_at src (start_of p + j)) (bits_in (length src) - start_of p) i 0 (omega (arith, enough)) ∙ k.bits i (omega arith))

    -- the digits, and what follows them
    abbrev rest : List ℕ
    rest = drop (length ds) all

    split_up : all ≡ ds ++ rest
    split_up = sym (take-append-drop (length ds) all) ∙ ap (λ (z : List ℕ). z ++ rest) first

    read_all : upto w h all (roots w h) ≡ grown (picture_walk s w h) (joined (root_marks s w h) (roots w h)) rest
    read_all = ap (λ (z : List ℕ). upto w h z (roots w h)) split_up ∙ picture_back s w h d rest

    count_is : length (upto w h all (roots w h)).marks ≡ length ds
    count_is =
        ap (λ (z : Descent). length z.marks) read_all
        ∙ sym (length-map (joined (root_marks s w h) (roots w h)) (λ (m : Mark). m.byte)) ∙ ap length (marks_digits s w h (roots w h))

    filled : fill_ok src p (length ds) ≡ true
    unfolding zeros_ok
    filled =
        scan_pass (λ (i : ℕ). eqb (bit_at src (start_of p + length ds + i)) 0) (end_of p (length ds) - (start_of p + length ds))
        (λ i l.
        let e : start_of p + length ds + i ≡ start_of p + (length ds + i) = omega arith in
        eq-eqb _ _ (ap (bit_at src) e ∙ k.bits (length ds + i) (omega arith) ∙ get_or-eq_default ds 0 (omega arith)))

-- ---- a byte that has none of the bits that are put

byte_other : (s : List ℕ) (p : ℕ) (f : ℕ → ℕ) (n j : ℕ) → ((k : ℕ) → k < n → (p + k) / 8 ≡ j → ⊥) → get_or (with_bits s p f n) j 0 ≡ get_or s j 0
unfolding with_bits with_bit
byte_other s p f zero j h = refl
byte_other s p f (suc n) j h =
    get_or-set_other (with_bits s p f n) ((p + n) / 8) j _ 0 (λ e. h n (omega arith) (sym e)) ∙ byte_other s p f n j (λ k l. h k (omega arith))

-- ---- a call that is accepted

past_walk : (a k : Answer) → after_checks Err k a ≡ Ok tt → (a ≡ Ok tt) × (k ≡ Ok tt)
past_walk (Ok _) k e = (refl, e)
past_walk (Err r) k e = absurd (not_done r e)

pub record Passed (i : put-call.Input) : Type 0 where
  pub size : size_ok i.w i.h ≡ true
  pub bytes : length i.splits ≡ 1024 * root_count i.w i.h
  pub walked : (picture_walk i.splits (i.w / 4) (i.h / 4)).answer ≡ Ok tt
  pub room : end_of i.at (length (put-call.digits i)) ≤ bits_in (length i.buf)

pub passed : (i : put-call.Input) → put-call.check i ≡ Ok tt → Passed i
unfolding put-call.check room_ok
passed i e =
    let t = eqb (length i.splits) (1024 * root_count i.w i.h) in
    let r = leb (end_of i.at (length (put-call.digits i))) (bits_in (length i.buf)) in
    let v = (picture_walk i.splits (i.w / 4) (i.h / 4)).answer in
    let k = after_checks Err (unless r (Err Bits) (Ok tt)) v in
    let a = past (size_ok i.w i.h) Size (unless t (Err Length) k) e in
    let b = past t Length k a.1 in
    let c = past_walk v (unless r (Err Bits) (Ok tt)) b.1 in
    let f = past r Bits (Ok tt) c.1 in
    record { size = a.0; bytes = eqb-true _ _ b.0; walked = c.0; room = leb-true _ _ f.0 }

-- ---- digits are bits

small_append : (a b : List ℕ) → ((j : ℕ) → get_or a j 0 < 2) → ((j : ℕ) → get_or b j 0 < 2) → (j : ℕ) → get_or (a ++ b) j 0 < 2
small_append [] b p q j = q j
small_append (x ∷ a) b p q zero = p zero
small_append (x ∷ a) b p q (suc j) = small_append a b (λ k. p (suc k)) q j

small_joined : (f : ℕ → List ℕ) (n : ℕ) → ((i : ℕ) → i < n → (j : ℕ) → get_or (f i) j 0 < 2) → (j : ℕ) → get_or (joined f n) j 0 < 2
unfolding joined
small_joined f zero e j = omega arith
small_joined f (suc n) e j = small_append (joined f n) (f n) (small_joined f n (λ i l. e i (omega arith))) (e n (omega arith)) j

small_bytes : (l : List Mark) → AllTidy l → (j : ℕ) → get_or (bytes l) j 0 < 2
small_bytes [] t j = omega arith
small_bytes (m ∷ l) t zero = (t m (Memᴰ.head refl)).bit
small_bytes (m ∷ l) t (suc j) = small_bytes l (λ n i. t n (Memᴰ.tail i)) j

digit_small : (s : List ℕ) (w h : ℕ) → (picture_walk s w h).answer ≡ Ok tt → (j : ℕ) → digit_at (picture_digits s w h) j < 2
unfolding digits
digit_small s w h d j =
    small_joined (root_digits s w h) (roots w h)
    (λ i l.
    let x = root_x w i in
    let y = root_y w i in
    small_bytes (reached s w h i)
    (subst AllTidy (own_marks (root_bytes s i) w h 4 x y (each_done (root_walk s w h) (roots w h) d i l)) (tidy_mended (root_bytes s i) w h 4 x y))) j

module _ (i : put-call.Input) (a : put-call.check i ≡ Ok tt) where
  abbrev w : ℕ
  w = i.w / 4

  abbrev h : ℕ
  h = i.h / 4

  abbrev o : put-call.Outcome
  o = put-call.outcome i

  p : Passed i
  p = passed i a

  out : o ≡ put-call.done i
  unfolding put-call.outcome
  out = ap (after_checks (put-call.refused i) (put-call.done i)) a

  abbrev n : ℕ
  n = length (put-call.digits i)

  -- the map's own bits, as many as its bytes have
  abbrev m : ℕ
  m = (n + 7) / 8 * 8

  own : o.buf ≡ with_bits i.buf (start_of i.at) (digit_at (put-call.digits i)) m
  unfolding packed
  own = ap (λ (z : put-call.Outcome). z.buf) out

  inside : start_of i.at + m ≤ 8 * length i.buf
  inside = let r = p.room in omega arith

  small : (j : ℕ) → digit_at (put-call.digits i) j < 2
  small = digit_small i.splits w h p.walked

  pub long_kept : length o.buf ≡ length i.buf
  long_kept = ap length own ∙ length_bits i.buf (start_of i.at) (digit_at (put-call.digits i)) m

  holds : Holds o.buf i.at (put-call.digits i)
  holds =
      record {
        bits = λ j l. ap (λ (z : List ℕ). bit_at z (start_of i.at + j)) own ∙ bits_same i.buf (start_of i.at) (digit_at (put-call.digits i)) small m inside j l;
        room = subst (λ (z : ℕ). end_of i.at n ≤ bits_in z) (sym long_kept) p.room;
      }

  -- bits before the map and behind it are as they were
  pub bits_kept : (q : ℕ) → (q < start_of i.at) ⊎ (end_of i.at n ≤ q) → bit_at o.buf q ≡ bit_at i.buf q
  bits_kept q e =
      ap (λ (z : List ℕ). bit_at z q) own
      ∙ bits_other i.buf (start_of i.at) (digit_at (put-call.digits i)) small m inside q (λ j l z. ⊎_elim (λ f. absurd (omega arith)) (λ f. absurd (omega arith)) e)

  others : (j : ℕ) → (j < start_of i.at / 8) ⊎ (end_of i.at n / 8 ≤ j) → get_or o.buf j 0 ≡ get_or i.buf j 0
  others j e = ap (λ (z : List ℕ). get_or z j 0) own ∙ byte_other i.buf (start_of i.at) (digit_at (put-call.digits i)) m j (λ k l z. ⊎_elim (λ f. absurd (omega arith)) (λ f. absurd (omega arith)) e)

  read : (src map : List ℕ) → Holds src i.at (put-call.digits i) → length map ≡ length i.splits
      → get-call.outcome (record { w = i.w; h = i.h; src = src; at = i.at; map = map }) ≡ record { number = 0; at = o.at; map = back_of i.splits w h }
  unfolding get-call.outcome get-call.check
  read src map k l =
      let s = i.splits in
      let all = digits_from src i.at in
      let c = count_is s w h p.walked src i.at k in
      let f : fill_ok src i.at (length (upto w h all (roots w h)).marks) ≡ true = ap (fill_ok src i.at) c ∙ filled s w h p.walked src i.at k in
      let v : (upto w h all (roots w h)).walk.answer ≡ (Ok tt) = ap (λ (z : Descent). z.walk.answer) (read_all s w h p.walked src i.at k) ∙ p.walked in
      let e : map_of w h all ≡ back_of s w h = ap (map_of w h) (split_up s w h p.walked src i.at k) ∙ map_is s w h p.walked (rest s w h p.walked src i.at k) in
      rw (p.size, eq-eqb (length map) (1024 * root_count i.w i.h) (l ∙ p.bytes), v, f)
      (ap₂ (λ (x : ℕ) (y : List ℕ). record { number = 0; at = x; map = y }) (ap (end_of i.at) c ∙ sym (ap (λ (z : put-call.Outcome). z.at) out)) e)

-- a map that is written behind another leaves it where it is
behind : (i k : put-call.Input) → put-call.check i ≡ Ok tt → put-call.check k ≡ Ok tt → k.buf ≡ (put-call.outcome i).buf → k.at ≡ (put-call.outcome i).at
    → Holds (put-call.outcome k).buf i.at (put-call.digits i)
behind i k a b e f =
    let g = holds i a in
    let at : k.at ≡ end_of i.at (length (put-call.digits i)) = f ∙ ap (λ (z : put-call.Outcome). z.at) (out i a) in
    record {
      bits = λ j l. bits_kept k b (start_of i.at + j) (inl (omega arith)) ∙ ap (λ (z : List ℕ). bit_at z (start_of i.at + j)) e ∙ g.bits j l;
      room = subst (λ (z : ℕ). end_of i.at (length (put-call.digits i)) ≤ bits_in z) (sym (long_kept k b ∙ ap length e)) g.room;
    }

pub kept : (i : put-call.Input) → put-call.check i ≡ Ok tt → Kept i
kept i a =
    record {
      back = back i.splits (i.w / 4) (i.h / 4) (passed i a).walked;
      holds = holds i a;
      others = others i a;
      read = read i a;
      next = λ k b e f. behind i k a b e f;
    }
