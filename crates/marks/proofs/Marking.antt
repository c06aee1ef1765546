-- The marks of a block from split bytes: each way through the code, and the loop over its four parts.
--     opened_none, opened    its own mark is listed
--     open_whole, open_cut, open_eight    its marks, by those of its parts
-- Assumes nothing.
use mathlib.Core.Bool.{Bool, true, false, ◌||◌}
use mathlib.Core.List.{List, [], ◌∷◌, ◌++◌, append-nil}
use mathlib.Core.Path.{◌≡◌, refl, sym, ap, ap₂, ◌∙◌, subst}
use Prim.Native.Nat.{ℕ, zero, suc, ◌+◌, ◌-◌, ◌*◌, ◌/◌, ◌%◌, ◌^◌, ◌≤◌, ◌<◌}
use native.Mathlib.Nat.{suc-mul, mul-le-mul_right}
use native.Mathlib.Numerals.{add-one}
use native.Mathlib.Omega.{arith}
use borrow.Author.Tests.{leb-true, leb-false}
use lib.Dec.{leb, eqb}
use lib.ListN.{length, get_or, take, drop, length-append, take-append-drop}
use Rattle.laws.specs.Index.{pick}
use Rattle.split.specs.Stored.{Block}
use Rattle.split.specs.Walk.{place}
use Rattle.marks_rules.proofs.Descents.{joined_four}
use Rattle.marks_rules.proofs.Marks.{parts, marks_x, marks_y, marks_unit, marks_leaf, marks_cut, few}
use Rattle.marks_rules.proofs.Mended.{mended}
use Rattle.marks_rules.specs.Marks.{Mark, mark, four, marks, blocks_in}
use Rattle.marks_rules.specs.Mended.{mend_by, mend_byte, mend_marks}
use Rattle.marks_rules.specs.Pictures.{joined}
use Rattle.marks.specs.Stored.{one, Listed, Opened}
use Rattle.marks.proofs.Blocks.{Halved, halved}
use Rattle.marks.proofs.Lists.{listed_none, listed_as, listed_then}

-- ---- the first parts of four: room for the next

module _ (g : ℕ → List Mark) (m : ℕ) (f : (i : ℕ) → length (g i) ≤ m) where
  pub few_joined : (i : ℕ) → length (joined g i) ≤ i * m
  unfolding joined
  few_joined zero = omega arith
  few_joined (suc i) =
      let a = few_joined i in
      let b = f i in
      omega (arith, length-append (joined g i) (g i), suc-mul i m)

-- count₀ marks, u more of i parts with at most m each; the room was for four
pub next_room : (i m u count count₀ long : ℕ) → i < 4 → u ≤ i * m → count ≡ count₀ + u → count₀ + 4 * m ≤ long → count + m ≤ long
next_room i m u count count₀ long l f e r =
    let q : suc i * m ≤ 4 * m = mul-le-mul_right m l in
    omega (arith, suc-mul i m)

-- a block that has a byte has room for its mark
pub room_one : {w h x y side level : ℕ} → Halved w h x y side level → (n m : ℕ) → n + blocks_in (4 - level) ≤ m → n < m
room_one b n m r = let e = b.room in omega arith

few_own : (l : List Mark) → length (take 1 l) ≤ 1
few_own [] = omega arith
few_own (m ∷ l) = omega arith

-- ---- each way through the code

module _ (s : List ℕ) {w h x y side level : ℕ} (b : Block w h x y side level) where
  abbrev pub here : List Mark
  here = mend_marks s (w / 4) (h / 4) (4 - level) (x / 4) (y / 4)

  abbrev pub part_marks : ℕ → List Mark
  part_marks = parts (mend_byte s (w / 4) (h / 4)) (w / 4) (h / 4) (3 - level) (x / 4) (y / 4)

  skip_by : (past : Bool) → leb w x ≡ past → (past || leb h y) ≡ true → here ≡ []
  skip_by true e p = let g = leb-true w x e in marks_x _ _ _ (4 - level) _ _ (omega arith)
  skip_by false e p =
      let f = leb-false w x e in
      let g = leb-true h y p in
      marks_y _ _ _ (4 - level) _ _ (omega arith) (omega arith)

  pub skip : (leb w x || leb h y) ≡ true → here ≡ []
  skip p = skip_by (leb w x) refl p

  module _ (deep : level < 4) (across : x < w) (down : y < h) (p byte : ℕ)
      (at : p ≡ 256 * level + (16 * ((y + side / 2) / 4 % 16) + (x + side / 2) / 4 % 16))
      (is : byte ≡ mend_by (get_or s p 0) (w / 4) (h / 4) (2 ^ (4 - level)) (x / 4) (y / 4)) where
    abbrev k : ℕ
    k = 3 - level

    abbrev f : ℕ → ℕ → ℕ → ℕ
    f = mend_byte s (w / 4) (h / 4)

    z : Halved w h x y side level
    z = halved b deep

    there : p ≡ place k (x / 4) (y / 4)
    there = at ∙ z.centre

    byte_is : byte ≡ f k (x / 4) (y / 4)
    byte_is = is ∙ ap₂ (λ (n m : ℕ). mend_by (get_or s n 0) (w / 4) (h / 4) (2 ^ m) (x / 4) (y / 4)) there z.log

    log : (P : List Mark → Type 0) → P (marks f (w / 4) (h / 4) (suc k) (x / 4) (y / 4)) → P here
    log P q = subst (λ (n : ℕ). P (marks f (w / 4) (h / 4) n (x / 4) (y / 4))) (sym z.log) q

    pub whole : byte ≡ 0 → here ≡ one p byte
    whole e =
        log (λ (l : List Mark). l ≡ one p byte)
        (marks_leaf f _ _ k _ _ (z.across across) (z.down down) (sym byte_is ∙ e) ∙ ap₂ one (sym there) (sym e))

    pub cut : (byte ≡ 0 → ⊥) → here ≡ one p byte ++ four (parts f (w / 4) (h / 4) k (x / 4) (y / 4))
    cut n =
        let e : f k (x / 4) (y / 4) ≡ 1 = mended s (w / 4) (h / 4) k (x / 4) (y / 4) (f k (x / 4) (y / 4) ≡ 1) (λ q. q) (λ q u v. absurd (n (byte_is ∙ q))) in
        log (λ (l : List Mark). l ≡ one p byte ++ four (parts f (w / 4) (h / 4) k (x / 4) (y / 4)))
        (marks_cut f _ _ k _ _ (z.across across) (z.down down) e
        ∙ ap₂ (λ (q c : ℕ). mark q c ∷ four (parts f (w / 4) (h / 4) k (x / 4) (y / 4))) (sym there) (sym (byte_is ∙ e)))

    -- its own mark, listed: the first of its marks, and its parts' are the others
    module _ {out out₁ : List ℕ} {n r : ℕ} (l : Listed (one p byte) out n out₁ r) where
      pub opened : byte < 2 → Opened here (four part_marks) out n out₁ r (eqb byte 1)
      opened small = by byte refl small where
        by : (b : ℕ) → byte ≡ b → b < 2 → Opened here (four part_marks) out n out₁ r (eqb b 1)
        by zero e q = subst (λ (k : List Mark). Opened k (four part_marks) out n out₁ r false) (sym (whole e)) (record { own = l; rest = refl })
        by (suc zero) e q = subst (λ (k : List Mark). Opened k (four part_marks) out n out₁ r true) (sym (cut (λ z. omega arith))) (record { own = l; rest = refl })
        by (suc (suc b)) e q = absurd (omega arith)

  pub opened_none : (leb w x || leb h y) ≡ true → (out : List ℕ) (n : ℕ) → Opened here (four part_marks) out n out n false
  opened_none p out n = subst (λ (k : List Mark). Opened k (four part_marks) out n out n false) (sym (skip p)) (record { own = listed_none out n; rest = refl })

  -- all of its marks: its own alone, or its parts' after it
  module _ {out out₁ : List ℕ} {n m : ℕ} {cut : Bool} (o : Opened here (four part_marks) out n out₁ m cut) where
    split_here : (parts : List Mark) → drop 1 here ≡ parts → here ≡ take 1 here ++ parts
    split_here parts e = sym (take-append-drop 1 here) ∙ ap (λ (l : List Mark). take 1 here ++ l) e

    pub open_none : pick cut (four part_marks) [] ≡ [] → Listed here out n out₁ m
    open_none e = listed_as (split_here [] (o.rest ∙ e) ∙ append-nil (take 1 here)) o.own

    pub open_count : m ≤ n + 1
    open_count = let z = few_own here in omega (arith, o.own.count)

    pub open_whole : cut ≡ false → Listed here out n out₁ m
    open_whole e = open_none (ap (λ (b : Bool). pick b (four part_marks) []) e)

    pub open_cut : {out₂ : List ℕ} {r : ℕ} → cut ≡ true → Listed (four part_marks) out₁ m out₂ r → Listed here out n out₂ r
    open_cut e l = listed_as (split_here (four part_marks) (o.rest ∙ ap (λ (b : Bool). pick b (four part_marks) []) e)) (listed_then o.own l)

    -- parts that are units have no marks
    pub open_eight : level ≡ 3 → Listed here out n out₁ m
    open_eight e = open_none (by cut) where
      none : four part_marks ≡ []
      none =
          let q : 3 - level ≡ 0 = omega arith in
          subst (λ (i : ℕ). four (parts (mend_byte s (w / 4) (h / 4)) (w / 4) (h / 4) i (x / 4) (y / 4)) ≡ []) (sym q)
          (simp (marks_unit (mend_byte s (w / 4) (h / 4)) (w / 4) (h / 4)))

      by : (b : Bool) → pick b (four part_marks) [] ≡ []
      by true = none
      by false = refl

  -- ---- the loop: i parts are listed

  pub few_parts : (i : ℕ) → length (joined part_marks i) ≤ i * blocks_in (3 - level)
  few_parts i = few_joined part_marks (blocks_in (3 - level)) (λ j. few (mend_byte s (w / 4) (h / 4)) _ _ (3 - level) _ _) i

  pub no_part : (out : List ℕ) (n : ℕ) → Listed (joined part_marks 0) out n out n
  unfolding joined
  no_part out n = listed_none out n

  module _ (deep : level < 4) (i : ℕ) {out₀ : List ℕ} {n : ℕ} {out : List ℕ} {count : ℕ} (d : Listed (joined part_marks i) out₀ n out count) where
    pub part_more : {px py r : ℕ} {out₁ : List ℕ} → px ≡ x + i % 2 * (side / 2) → py ≡ y + i / 2 * (side / 2)
        → Listed (mend_marks s (w / 4) (h / 4) (4 - (level + 1)) (px / 4) (py / 4)) out count out₁ r → Listed (joined part_marks (i + 1)) out₀ n out₁ r
    unfolding joined
    part_more e e' g =
        let z = halved b deep in
        let q = rw (e, e', z.next, z.column i, z.row i) at g in
        rw (add-one i) (listed_then d q)

    pub part_all : 4 ≤ i → i ≤ 4 → Listed (four part_marks) out₀ n out count
    part_all u v = let e : i ≡ 4 = omega arith in listed_as (sym (ap (joined part_marks) e ∙ joined_four part_marks)) d

-- the next part is a block
pub part_block : {w h x y side level : ℕ} → Halved w h x y side level → (i px py : ℕ) → i < 4 → px ≡ x + i % 2 * (side / 2) → py ≡ y + i / 2 * (side / 2)
    → Block w h px py (side / 2) (level + 1)
part_block z i px py l e f = rw (e, f) (z.block i l)
