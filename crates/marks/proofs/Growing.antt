-- The marks of a block from digits: each way through the code, and the loop over its four parts. ds are the root's digits, of which n are taken.
-- Assumes nothing.
use Rattle.std.specs.Prelude.{Ok, Err, Result}
use mathlib.Core.Bool.{Bool, true, false, ◌||◌}
use mathlib.Core.List.{List, [], ◌∷◌, ◌++◌}
use mathlib.Core.Path.{◌≡◌, refl, sym, ap, ap₂, ◌∙◌, subst}
use Prim.Native.Nat.{ℕ, suc, ◌+◌, ◌-◌, ◌*◌, ◌/◌, ◌%◌, ◌^◌, ◌≤◌, ◌<◌}
use native.Mathlib.Nat.{add-zero}
use native.Mathlib.Numerals.{add-one}
use native.Mathlib.Omega.{arith}
use borrow.Author.Tests.{leb-true, leb-false}
use lib.Dec.{leb}
use lib.ListN.{length, get_or, drop, length-append, drop_of_length-le}
use lib.Seq.{sets, drop-cons}
use Rattle.bits.specs.Bits.{bit_at, bits_from}
use Rattle.def.specs.Answers.{Answer}
use Rattle.def.specs.declared.Refusal.{Refusal}
use Rattle.def.specs.declared.Refusal.TheVariants.{Bits}
use Rattle.laws.proofs.Tabulate.{length_tabulate, get_d_tabulate}
use Rattle.split.proofs.Walks.{not_done, onward_done}
use Rattle.split.specs.Stored.{Block}
use Rattle.split.specs.Walk.{Walk, nothing, and_then, leaf_walk, place}
use Rattle.marks_rules.proofs.Descents.{part_of, descend_x, descend_y, descend_none, descend_leaf, descend_cut, descents_none, descents_more, descents_stop, then_done}
use Rattle.marks_rules.proofs.Descents.{Quiet, unit_quiet, all_quiet, few_grown, few_descents}
use Rattle.marks_rules.specs.Descent.{Descent, grown, descend_then, descents, run_out, after, descend}
use Rattle.marks_rules.specs.Marks.{Mark, mark, blocks_in}
use Rattle.marks.specs.Stored.{numbers, one, counted, Listed, Grew, Divided, Began, part_descents}
use Rattle.marks.proofs.Blocks.{Halved, halved}
use Rattle.marks.proofs.Lists.{sets_then}

-- ---- what an answer tells of its descent

pub counted_done : (m n : ℕ) (a : Answer) → Ok m ≡ counted n a → (a ≡ Ok tt) × (m ≡ n)
counted_done m n (Ok _) e = (refl, (cc))
counted_done m n (Err r) e = absurd (let z : ◌≡◌ {A = ℕ} 0 1 = cc in omega arith)

pub counted_refused : (r : Refusal) (n : ℕ) (a : Answer) → Err r ≡ counted n a → a ≡ Err r
counted_refused r n (Ok _) e = absurd (let z : ◌≡◌ {A = ℕ} 0 1 = cc in omega arith)
counted_refused r n (Err q) e = let z : r ≡ q = cc in ap Err (sym z)

-- ---- what is left behind: nothing met, digits that ran out, a mark and then more, one descent after another

module _ {ds : List ℕ} where
  pub grew_as : {g k : Descent} {out out₁ : List ℕ} {n : ℕ} {r : Result ℕ Refusal} → g ≡ k → Grew k ds out n out₁ r → Grew g ds out n out₁ r
  grew_as {out = out} {out₁ = out₁} {n = n} {r = r} e h = subst (λ (z : Descent). Grew z ds out n out₁ r) (sym e) h

  pub grew_count : {g : Descent} {out out₁ : List ℕ} {n m : ℕ} {r : Result ℕ Refusal} → r ≡ Ok m → Grew g ds out n out₁ r → m ≡ n + length g.marks
  grew_count {g} {m = m} e d = (counted_done m _ g.walk.answer (sym e ∙ d.answer)).1

  pub grew_quiet : {g : Descent} (out : List ℕ) (n : ℕ) → Quiet g (drop n ds) → Grew g ds out n out (Ok n)
  grew_quiet {g} out n q =
      let e : n + length g.marks ≡ n = ap (λ (l : List Mark). n + length l) q.none ∙ add-zero n in
      record {
        answer = sym (ap₂ counted e q.done);
        left = λ d. q.left ∙ ap (λ (i : ℕ). drop i ds) (sym e);
        stored = λ d. ap (λ (l : List Mark). sets out n (numbers l)) (sym q.none);
      }

  pub grew_short : (out : List ℕ) (n : ℕ) → Grew run_out ds out n out (Err Bits)
  grew_short out n = record { answer = refl; left = λ d. absurd (not_done Bits d); stored = λ d. absurd (not_done Bits d) }

  pub grew_after : {g : Descent} {p b : ℕ} {out out₁ out₂ : List ℕ} {n m : ℕ} {r : Result ℕ Refusal}
      → Listed (one p b) out n out₁ m → Grew g ds out₁ m out₂ r → Grew (after (mark p b) g) ds out n out₂ r
  grew_after {g} {p} {b} {out} {out₁} {out₂} {n} {m} {r} l d =
      let e : m + length g.marks ≡ n + suc (length g.marks) = omega (arith, l.count) in
      record {
        answer = d.answer ∙ ap (λ (i : ℕ). counted i g.walk.answer) e;
        left = λ q. d.left q ∙ ap (λ (i : ℕ). drop i ds) e;
        stored = λ q. d.stored q ∙ ap₂ (λ (z : List ℕ) (i : ℕ). sets z i (numbers g.marks)) l.stored l.count ∙ sets_then (one p b) g.marks out n;
      }

  -- f takes on with the digits that the first descent left
  pub grew_then : {a : Descent} (f : List ℕ → Descent) {out out₁ out₂ : List ℕ} {n m : ℕ} {r : Result ℕ Refusal}
      → Grew a ds out n out₁ (Ok m) → Grew (f (drop m ds)) ds out₁ m out₂ r → Grew (descend_then a f) ds out n out₂ r
  grew_then {a} f {out} {out₁} {out₂} {n} {m} {r} d g =
      let k = counted_done m _ a.walk.answer d.answer in
      let b = f (drop m ds) in
      let left : a.left ≡ drop m ds = d.left k.0 ∙ ap (λ (i : ℕ). drop i ds) (sym k.1) in
      let e = then_done a f b k.0 (ap f left) in
      let answer : (and_then a.walk b.walk).answer ≡ b.walk.answer = ap (λ (v : Walk). v.answer) (onward_done a.walk.answer a.walk.list b.walk k.0) in
      let long : m + length b.marks ≡ n + length (a.marks ++ b.marks) = omega (arith, k.1, length-append a.marks b.marks) in
      grew_as e
      (record {
        answer = g.answer ∙ ap₂ counted long (sym answer);
        left = λ q. g.left (sym answer ∙ q) ∙ ap (λ (i : ℕ). drop i ds) long;
        stored = λ q. g.stored (sym answer ∙ q) ∙ ap₂ (λ (z : List ℕ) (i : ℕ). sets z i (numbers b.marks)) (d.stored k.0) k.1 ∙ sets_then a.marks b.marks out n;
      })

-- ---- each way through the code

module _ (ds : List ℕ) (n : ℕ) {w h x y side level : ℕ} (b : Block w h x y side level) where
  abbrev here : Descent
  here = descend (w / 4) (h / 4) (4 - level) (x / 4) (y / 4) (drop n ds)

  quiet_here : here ≡ grown nothing [] (drop n ds) → Quiet here (drop n ds)
  quiet_here e = rw e (record { done = refl; none = refl; left = refl })

  skip_by : (past : Bool) → leb w x ≡ past → (past || leb h y) ≡ true → Quiet here (drop n ds)
  skip_by true e p = let g = leb-true w x e in quiet_here (descend_x _ _ (4 - level) _ _ _ (omega arith))
  skip_by false e p =
      let f = leb-false w x e in
      let g = leb-true h y p in
      quiet_here (descend_y _ _ (4 - level) _ _ _ (omega arith) (omega arith))

  pub skip : (leb w x || leb h y) ≡ true → Quiet here (drop n ds)
  skip p = skip_by (leb w x) refl p

  module _ (deep : level < 4) (across : x < w) (down : y < h) where
    abbrev k : ℕ
    k = 3 - level

    z : Halved w h x y side level
    z = halved b deep

    log : (P : Descent → Type 0) → P (descend (w / 4) (h / 4) (suc k) (x / 4) (y / 4) (drop n ds)) → P here
    log P q = subst (λ (i : ℕ). P (descend (w / 4) (h / 4) i (x / 4) (y / 4) (drop n ds))) (sym z.log) q

    pub short : length ds ≤ n → here ≡ run_out
    short l =
        log (λ (g : Descent). g ≡ run_out)
        (ap (descend (w / 4) (h / 4) (suc k) (x / 4) (y / 4)) (drop_of_length-le ds l) ∙ descend_none _ _ k _ _ (z.across across) (z.down down))

    module _ (some : n < length ds) (p byte : ℕ) (at : p ≡ 256 * level + (16 * ((y + side / 2) / 4 % 16) + (x + side / 2) / 4 % 16)) (is : byte ≡ get_or ds n 0) where
      there : p ≡ place k (x / 4) (y / 4)
      there = at ∙ z.centre

      next : (v : ℕ) → byte ≡ v → drop n ds ≡ v ∷ drop (n + 1) ds
      next v e = drop-cons ds n 0 some ∙ ap₂ (λ (d i : ℕ). d ∷ drop i ds) (sym is ∙ e) (sym (add-one n))

      pub whole : byte ≡ 0 → here ≡ after (mark p byte) (grown (leaf_walk (w / 4) (h / 4) (2 ^ (4 - level)) (x / 4) (y / 4)) [] (drop (n + 1) ds))
      whole e =
          log (λ (g : Descent). g ≡ after (mark p byte) (grown (leaf_walk (w / 4) (h / 4) (2 ^ (4 - level)) (x / 4) (y / 4)) [] (drop (n + 1) ds)))
          (ap (descend (w / 4) (h / 4) (suc k) (x / 4) (y / 4)) (next 0 e)
          ∙ descend_leaf _ _ k _ _ _ (z.across across) (z.down down)
          ∙ ap₂ (λ (i j : ℕ). after (mark i j) (grown (leaf_walk (w / 4) (h / 4) (2 ^ suc k) (x / 4) (y / 4)) [] (drop (n + 1) ds))) (sym there) (sym e)
          ∙ ap (λ (i : ℕ). after (mark p byte) (grown (leaf_walk (w / 4) (h / 4) (2 ^ i) (x / 4) (y / 4)) [] (drop (n + 1) ds))) (sym z.log))

      -- m: how many digits are taken after the block's own
      pub cut : (m : ℕ) → m ≡ n + 1 → byte ≡ 1 → here ≡ after (mark p byte) (descents (part_of (w / 4) (h / 4) k (x / 4) (y / 4)) 4 (drop m ds))
      cut m c e =
          rw c
          (log (λ (g : Descent). g ≡ after (mark p byte) (descents (part_of (w / 4) (h / 4) k (x / 4) (y / 4)) 4 (drop (n + 1) ds)))
          (ap (descend (w / 4) (h / 4) (suc k) (x / 4) (y / 4)) (next 1 e)
          ∙ descend_cut _ _ k _ _ _ (z.across across) (z.down down)
          ∙ ap₂ (λ (i j : ℕ). after (mark i j) (descents (part_of (w / 4) (h / 4) k (x / 4) (y / 4)) 4 (drop (n + 1) ds))) (sym there) (sym e)))

      -- its own mark is listed, and its parts' are to follow
      pub divided : {out out₁ : List ℕ} {m : ℕ} → Listed (one p byte) out n out₁ m → byte ≡ 1
          → Divided here (part_descents (w / 4) (h / 4) k (x / 4) (y / 4)) (place k (x / 4) (y / 4)) ds out n out₁ (Ok m)
      divided {out} {out₁} {m} l e = record {
        count = m;
        answer = refl;
        own = subst (λ (q : ℕ). Listed (one q 1) out n out₁ m) there (subst (λ (v : ℕ). Listed (one p v) out n out₁ m) e l);
        rest = cut m l.count e ∙ ap₂ (λ (i j : ℕ). after (mark i j) (descents (part_of (w / 4) (h / 4) k (x / 4) (y / 4)) 4 (drop m ds))) there e;
      }

  -- parts that are units take no digit
  pub last : level ≡ 3 → (l : List ℕ) → Quiet (descents (part_of (w / 4) (h / 4) (3 - level) (x / 4) (y / 4)) 4 l) l
  last e l =
      let q : 3 - level ≡ 0 = omega arith in
      subst (λ (i : ℕ). Quiet (descents (part_of (w / 4) (h / 4) i (x / 4) (y / 4)) 4 l) l) (sym q)
      (all_quiet (part_of (w / 4) (h / 4) 0 (x / 4) (y / 4)) (λ i t. unit_quiet (w / 4) (h / 4) _ _ t) 4 l)

-- a digit that is not 0
pub only_one : (byte : ℕ) → byte < 2 → (byte ≡ 0 → ⊥) → byte ≡ 1
only_one byte l n = omega arith

-- a leaf: its mark, and its walk's answer
pub grew_leaf : {ds : List ℕ} {v : Walk} {p b : ℕ} {out out₁ : List ℕ} {n m : ℕ} {r : Result ℕ Refusal}
    → Listed (one p b) out n out₁ m → r ≡ counted m v.answer → Grew (after (mark p b) (grown v [] (drop (n + 1) ds))) ds out n out₁ r
grew_leaf {ds} {v} {p} {b} {out} {out₁} {n} {m} {r} l e =
    grew_after l
    (record {
      answer = e ∙ ap (λ (i : ℕ). counted i v.answer) (sym (add-zero m));
      left = λ d. ap (λ (i : ℕ). drop i ds) (sym l.count ∙ sym (add-zero m));
      stored = λ d. refl;
    })

-- ---- what a digit comes to

module _ {g : Descent} {parts : List ℕ → Descent} {p : ℕ} {ds out : List ℕ} {n : ℕ} {out₁ : List ℕ} {r : Result ℕ Refusal} where
  pub began_whole : Grew g ds out n out₁ r → Began g parts p ds out n out₁ r false
  began_whole h = record { whole = λ e. h; divided = λ e. absurd (let z : ◌≡◌ {A = ℕ} 0 1 = cc in omega arith) }

  pub began_cut : Divided g parts p ds out n out₁ r → Began g parts p ds out n out₁ r true
  began_cut h = record { whole = λ e. absurd (let z : ◌≡◌ {A = ℕ} 0 1 = cc in omega arith); divided = λ e. h }

-- a block's own mark, and then its parts'
pub divided_then : {g : Descent} {parts : List ℕ → Descent} {p : ℕ} {ds out out₁ out₂ : List ℕ} {n : ℕ} {q r : Result ℕ Refusal} (d : Divided g parts p ds out n out₁ q)
    → Grew (parts (drop d.count ds)) ds out₁ d.count out₂ r → Grew g ds out n out₂ r
divided_then d h = grew_as d.rest (grew_after d.own h)

-- m marks are listed after a block's own digit
module _ {g : Descent} {parts : List ℕ → Descent} {p : ℕ} {ds out out₁ : List ℕ} {n m : ℕ} (d : Divided g parts p ds out n out₁ (Ok m)) where
  divided_same : m ≡ d.count
  divided_same = let e : ◌≡◌ {A = Result ℕ Refusal} (Ok m) (Ok d.count) = d.answer in cc

  pub divided_count : m ≡ n + 1
  divided_count = divided_same ∙ d.own.count

  pub divided_with : {out₂ : List ℕ} {r : Result ℕ Refusal} → Grew (parts (drop m ds)) ds out₁ m out₂ r → Grew g ds out n out₂ r
  divided_with {out₂} {r} h = divided_then d (subst (λ (k : ℕ). Grew (parts (drop k ds)) ds out₁ k out₂ r) divided_same h)

-- ---- the loop: i parts are taken

module _ (ds : List ℕ) {w h x y side level : ℕ} (b : Block w h x y side level) where
  abbrev pub taken : ℕ → ℕ → Descent
  taken i n = descents (part_of (w / 4) (h / 4) (3 - level) (x / 4) (y / 4)) i (drop n ds)

  pub few_taken : (i n : ℕ) → length (taken i n).marks ≤ i * blocks_in (3 - level)
  few_taken i n = few_descents (part_of (w / 4) (h / 4) (3 - level) (x / 4) (y / 4)) (blocks_in (3 - level)) (λ j l. few_grown _ _ (3 - level) _ _ l) i (drop n ds)

  pub no_part : (out : List ℕ) (n : ℕ) {r : Result ℕ Refusal} → r ≡ Ok n → Grew (taken 0 n) ds out n out r
  no_part out n e =
      subst (Grew (taken 0 n) ds out n out) (sym e)
      (grew_quiet out n (rw (descents_none (part_of (w / 4) (h / 4) (3 - level) (x / 4) (y / 4)) (drop n ds)) (record { done = refl; none = refl; left = refl })))

  module _ (deep : level < 4) (i : ℕ) {out₀ : List ℕ} {n : ℕ} {out : List ℕ} {r : Result ℕ Refusal} (d : Grew (taken i n) ds out₀ n out r) where
    pub part_more : {count px py : ℕ} {r₁ : Result ℕ Refusal} {out₁ : List ℕ} → r ≡ Ok count → px ≡ x + i % 2 * (side / 2) → py ≡ y + i / 2 * (side / 2)
        → Grew (descend (w / 4) (h / 4) (4 - (level + 1)) (px / 4) (py / 4) (drop count ds)) ds out count out₁ r₁ → Grew (taken (i + 1) n) ds out₀ n out₁ r₁
    part_more q e e' g =
        let z = halved b deep in
        let f = rw (e, e', z.next, z.column i, z.row i) at g in
        let before = subst (Grew (taken i n) ds out₀ n out) q d in
        rw (add-one i)
        (grew_as (descents_more (part_of (w / 4) (h / 4) (3 - level) (x / 4) (y / 4)) i (drop n ds)) (grew_then (part_of (w / 4) (h / 4) (3 - level) (x / 4) (y / 4) i) before f))

    -- a part that is refused ends the block
    pub part_refused : (q : Refusal) → i ≤ 4 → r ≡ Err q → Grew (taken 4 n) ds out₀ n out r
    part_refused q l s =
        let j : i + (4 - i) ≡ 4 = omega arith in
        let a = counted_refused q _ (taken i n).walk.answer (sym s ∙ d.answer) in
        let t = descents_stop (part_of (w / 4) (h / 4) (3 - level) (x / 4) (y / 4)) i (4 - i) q (drop n ds) a in
        grew_as (ap (λ (k : ℕ). taken k n) (sym j) ∙ t) d

    pub part_all : 4 ≤ i → i ≤ 4 → Grew (taken 4 n) ds out₀ n out r
    part_all u v = let e : i ≡ 4 = omega arith in subst (λ (k : ℕ). Grew (taken k n) ds out₀ n out r) e d

  -- a block of side 8 has its own digit alone
  pub began_eight : {n p : ℕ} {out out₁ : List ℕ} {r : Result ℕ Refusal} (cut : Bool) → level ≡ 3
      → Began (descend (w / 4) (h / 4) (4 - level) (x / 4) (y / 4) (drop n ds)) (part_descents (w / 4) (h / 4) (3 - level) (x / 4) (y / 4)) p ds out n out₁ r cut
      → Grew (descend (w / 4) (h / 4) (4 - level) (x / 4) (y / 4) (drop n ds)) ds out n out₁ r
  began_eight false e o = o.whole refl
  began_eight {n} true e o =
      let d = o.divided refl in
      subst (Grew (descend (w / 4) (h / 4) (4 - level) (x / 4) (y / 4) (drop n ds)) ds _ n _) (sym d.answer) (divided_then d (grew_quiet _ _ (last ds n b e _)))

-- ---- the digits

pub digit_at_lem : (s : List ℕ) (p n i : ℕ) → i < n → bit_at s (p + i) ≡ get_or (bits_from s p n) i 0
digit_at_lem s p n i l = sym (get_d_tabulate (λ (j : ℕ). bit_at s (p + j)) n i 0 l)

pub digits_long : (s : List ℕ) (p n : ℕ) → length (bits_from s p n) ≡ n
digits_long s p n = length_tabulate (λ (j : ℕ). bit_at s (p + j)) n
