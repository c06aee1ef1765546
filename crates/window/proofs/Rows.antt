-- Lines that lie side by side, written row by row.
--     row_none, row_more    a loop that writes a row
--     rows_copied    four rows, copied one after the other, are their lines
--     lines_long    lines leave a plane as long as it was
--     gathered    rows of a plane as lanes
-- Assumes nothing.
use Prim.Native.Nat.{ℕ, zero, suc, ◌+◌, ◌-◌, ◌*◌, ◌≤◌, ◌<◌}
use mathlib.Core.Path.{◌≡◌, refl, sym, ap, ◌∙◌, subst}
use mathlib.Core.Bool.{Bool, true, false}
use mathlib.Core.List.{List}
use native.Mathlib.Decide.{dec_lt}
use native.Mathlib.Nat.{mul-one}
use native.Mathlib.Numerals.{add-one}
use native.Mathlib.Omega.{arith}
use lib.ListN.{length, get_or, set, length-set}
use lib.Seq.{set_comm, ext_get_or, get_or-set_same, get_or-set_other}
use Rattle.laws.specs.Plane.{with_row}
use Rattle.laws.proofs.Planes.{rowed_none, rowed_all, length_row, get_d_row, within_yes, within_low, within_high}
use Rattle.def.specs.declared.Component.TheVariants.{Luma}
use Rattle.line.specs.declared.Mask.{Mask}
use Rattle.line.specs.declared.Quad.{Quad}
use Rattle.line.specs.Line.{mask_of}
use Rattle.lanes.specs.Lanes.{rows}
use Rattle.lanes.proofs.ByLane.{rows_spread}
use Rattle.df_rules.specs.Lanes.{samples_at, put_line, put_lines}
use Rattle.df_rules.specs.Window.{put_if}
use Rattle.window.specs.Lines.{Gathered, with_row_if}
use Rattle.window.proofs.Lanes.{gather_none, gather_more}

-- ---- a row

pub row_none : (to : ℕ) (g : ℕ → ℕ) (xs : List ℕ) → xs ≡ with_row 0 to 0 g xs
row_none to g xs = rowed_all 0 to 0 g xs xs 0 refl (rowed_none 0 to g xs)

-- place i of a row of one more
row_place_lem : (to k : ℕ) (g : ℕ → ℕ) (xs : List ℕ) (i : ℕ) → i < length xs → Dec (i < to) → Dec (i < to + k) → Dec (i < to + (k + 1))
    → get_or (set (with_row 0 to k g xs) (to + k) (g k)) i 0 ≡ get_or (with_row 0 to (k + 1) g xs) i 0
row_place_lem to k g xs i h (yes a) b c =
    get_or-set_other (with_row 0 to k g xs) (to + k) i (g k) 0 (λ (e : i ≡ to + k). omega arith)
    ∙ (simp (get_d_row 0 to k g xs i h, get_d_row 0 to (k + 1) g xs i h, within_low to k i a, within_low to (k + 1) i a))
row_place_lem to k g xs i h (no a) (yes b) c =
    get_or-set_other (with_row 0 to k g xs) (to + k) i (g k) 0 (λ (e : i ≡ to + k). omega arith)
    ∙ (simp (get_d_row 0 to k g xs i h, get_d_row 0 to (k + 1) g xs i h, within_yes to k i (omega arith) b, within_yes to (k + 1) i (omega arith) (omega arith)))
row_place_lem to k g xs i h (no a) (no b) (yes c) =
    let e : to + k ≡ i = omega arith in
    let f : k ≡ i - to = omega arith in
    ap (λ (m : ℕ). get_or (set (with_row 0 to k g xs) m (g k)) i 0) e ∙ get_or-set_same (with_row 0 to k g xs) i (g k) 0 (omega (arith, length_row 0 to k g xs))
    ∙ (simp (get_d_row 0 to (k + 1) g xs i h, within_yes to (k + 1) i (omega arith) c) (ap g f))
row_place_lem to k g xs i h (no a) (no b) (no c) =
    get_or-set_other (with_row 0 to k g xs) (to + k) i (g k) 0 (λ (e : i ≡ to + k). omega arith)
    ∙ (simp (get_d_row 0 to k g xs i h, get_d_row 0 to (k + 1) g xs i h, within_high to k i (omega arith), within_high to (k + 1) i (omega arith)))

row_longer : (to k : ℕ) (g : ℕ → ℕ) (xs : List ℕ) → set (with_row 0 to k g xs) (to + k) (g k) ≡ with_row 0 to (k + 1) g xs
row_longer to k g xs =
    let long : length (set (with_row 0 to k g xs) (to + k) (g k)) ≡ length xs = length-set (with_row 0 to k g xs) (to + k) (g k) ∙ length_row 0 to k g xs in
    ext_get_or 0 (set (with_row 0 to k g xs) (to + k) (g k)) (with_row 0 to (k + 1) g xs) (long ∙ sym (length_row 0 to (k + 1) g xs))
    (λ i h. row_place_lem to k g xs i (subst (λ (n : ℕ). i < n) long h) (dec_lt i to) (dec_lt i (to + k)) (dec_lt i (to + (k + 1))))

pub row_more : (to k : ℕ) (g : ℕ → ℕ) (xs ys : List ℕ) → ys ≡ with_row 0 to k g xs → set ys (to + k) (g k) ≡ with_row 0 to (k + 1) g xs
row_more to k g xs ys e = ap (λ (l : List ℕ). set l (to + k) (g k)) e ∙ row_longer to k g xs

-- ---- four rows, and their lines

-- a place before a row is written before it or after it
set_row : (to n : ℕ) (g : ℕ → ℕ) (i v : ℕ) (xs : List ℕ) → i < to → with_row 0 to n g (set xs i v) ≡ set (with_row 0 to n g xs) i v
set_row to zero g i v xs h = sym (row_none to g (set xs i v)) ∙ ap (λ (l : List ℕ). set l i v) (row_none to g xs)
set_row to (suc n) g i v xs h =
    rw (← add-one n)
    (sym (row_longer to n g (set xs i v)) ∙ ap (λ (l : List ℕ). set l (to + n) (g n)) (set_row to n g i v xs h)
    ∙ set_comm (with_row 0 to n g xs) i (to + n) v (g n) (λ (e : i ≡ to + n). omega arith) ∙ ap (λ (l : List ℕ). set l i v) (row_longer to n g xs))

put_row_lem : (w z : Bool) (to n : ℕ) (g : ℕ → ℕ) (i v : ℕ) → i < to → (xs : List ℕ) → with_row_if w to n g (put_if z i v xs) ≡ put_if z i v (with_row_if w to n g xs)
put_row_lem true true to n g i v h xs = set_row to n g i v xs h
put_row_lem true false to n g i v h xs = refl
put_row_lem false z to n g i v h xs = refl

-- a row of one sample more
longer : (w : Bool) (to n i : ℕ) (g : ℕ → ℕ) → to + n ≡ i → (xs : List ℕ) → with_row_if w to (suc n) g xs ≡ put_if w i (g n) (with_row_if w to n g xs)
longer true to n i g e xs = rw (← add-one n) (sym (row_longer to n g xs) ∙ ap (λ (j : ℕ). set (with_row 0 to n g xs) j (g n)) e)
longer false to n i g e xs = refl

-- of no sample
empty : (w : Bool) (to : ℕ) (g : ℕ → ℕ) (xs : List ℕ) → with_row_if w to 0 g xs ≡ xs
empty true to g xs = sym (row_none to g xs)
empty false to g xs = refl

-- the stores a, b, c pass the rows that are written after them
module _ (a b c d rb rc rd : List ℕ → List ℕ) (ba : (x : List ℕ) → rb (a x) ≡ a (rb x))
    (ca : (x : List ℕ) → rc (a x) ≡ a (rc x)) (cb : (x : List ℕ) → rc (b x) ≡ b (rc x))
    (da : (x : List ℕ) → rd (a x) ≡ a (rd x)) (db : (x : List ℕ) → rd (b x) ≡ b (rd x)) (dc : (x : List ℕ) → rd (c x) ≡ c (rd x)) where
  passed : (x : List ℕ) → d (rd (c (rc (b (rb (a x)))))) ≡ d (c (b (a (rd (rc (rb x))))))
  passed x =
      ap (λ (l : List ℕ). d (rd (c (rc (b l))))) (ba x)
      ∙ ap (λ (l : List ℕ). d (rd (c l))) (cb (a (rb x)) ∙ ap b (ca (rb x)))
      ∙ ap d (dc (b (a (rc (rb x)))) ∙ ap c (db (a (rc (rb x))) ∙ ap b (da (rc (rb x)))))

module _ (m : Mask) (q : ℕ → Quad) (step at : ℕ) where
  -- the rows of n lines
  abbrev ra : ℕ → List ℕ → List ℕ
  ra n xs = with_row_if m.a at n (λ (k : ℕ). (q k).a) xs

  abbrev rb : ℕ → List ℕ → List ℕ
  rb n xs = with_row_if m.b (at + step) n (λ (k : ℕ). (q k).b) xs

  abbrev rc : ℕ → List ℕ → List ℕ
  rc n xs = with_row_if m.c (at + 2 * step) n (λ (k : ℕ). (q k).c) xs

  abbrev rd : ℕ → List ℕ → List ℕ
  rd n xs = with_row_if m.d (at + 3 * step) n (λ (k : ℕ). (q k).d) xs

  rows_lines : (n : ℕ) (xs : List ℕ) → n ≤ step → rd n (rc n (rb n (ra n xs))) ≡ put_lines m q step 1 at n xs
  unfolding put_lines
  rows_lines zero xs h = simp empty
  rows_lines (suc n) xs h =
      let p = at + n * 1 in
      longer m.d (at + 3 * step) n (p + 3 * step) (λ (k : ℕ). (q k).d) (omega arith) _
      ∙ ap (λ (l : List ℕ). put_if m.d (p + 3 * step) (q n).d (rd n l))
      (longer m.c (at + 2 * step) n (p + 2 * step) (λ (k : ℕ). (q k).c) (omega arith) _
      ∙ ap (λ (l : List ℕ). put_if m.c (p + 2 * step) (q n).c (rc n l))
      (longer m.b (at + step) n (p + step) (λ (k : ℕ). (q k).b) (omega arith) _
      ∙ ap (λ (l : List ℕ). put_if m.b (p + step) (q n).b (rb n l)) (longer m.a at n p (λ (k : ℕ). (q k).a) (omega arith) xs)))
      ∙ passed (put_if m.a p (q n).a) (put_if m.b (p + step) (q n).b) (put_if m.c (p + 2 * step) (q n).c) (put_if m.d (p + 3 * step) (q n).d)
      (rb n) (rc n) (rd n)
      (put_row_lem m.b m.a _ n _ p (q n).a (omega arith)) (put_row_lem m.c m.a _ n _ p (q n).a (omega arith)) (put_row_lem m.c m.b _ n _ (p + step) (q n).b (omega arith))
      (put_row_lem m.d m.a _ n _ p (q n).a (omega arith)) (put_row_lem m.d m.b _ n _ (p + step) (q n).b (omega arith)) (put_row_lem m.d m.c _ n _ (p + 2 * step) (q n).c (omega arith))
      (ra n xs)
      ∙ ap (put_line m step p (q n)) (rows_lines n xs (omega arith))

-- ---- rows of a plane as lanes, and lanes as rows

put_long : (w : Bool) (i v : ℕ) (xs : List ℕ) → length (put_if w i v xs) ≡ length xs
put_long true i v xs = length-set xs i v
put_long false i v xs = refl

pub lines_long : (m : Mask) (q : ℕ → Quad) (step next at n : ℕ) (xs : List ℕ) → length (put_lines m q step next at n xs) ≡ length xs
unfolding put_lines
lines_long m q step next at zero xs = refl
lines_long m q step next at (suc n) xs = simp put_long (lines_long m q step next at n xs)

-- lanes lie 8 apart, side by side
lanes_put : (step at : ℕ) (xs t : List ℕ) (first n : ℕ) → first + n ≤ 8 → length t ≡ 32
    → Gathered rows step 1 at xs t first n (put_lines (mask_of Luma false false) (λ (k : ℕ). samples_at step (at + k) xs) 8 1 first n t)
unfolding put_lines
lanes_put step at xs t first zero h l = gather_none rows rows_spread step 1 at xs t first
lanes_put step at xs t first (suc n) h l =
    let r = put_lines (mask_of Luma false false) (λ (k : ℕ). samples_at step (at + k) xs) 8 1 first n t in
    let i : at + n ≡ at + n * 1 = rw (mul-one n) in
    rw (mul-one n, ← add-one n)
    (gather_more rows rows_spread step 1 at xs t r first n (samples_at step (at + n) xs) (omega arith) (lines_long (mask_of Luma false false) (λ (k : ℕ). samples_at step (at + k) xs) 8 1 first n t ∙ l)
    (ap (λ (j : ℕ). samples_at step j xs) i) (lanes_put step at xs t first n (omega arith) l))

pub gathered : (all : Mask) (step at : ℕ) (xs t r : List ℕ) (first n : ℕ) → all ≡ mask_of Luma false false → first + n ≤ 8 → length t ≡ 32
    → r ≡ put_lines all (λ (k : ℕ). samples_at step (at + k) xs) 8 1 first n t → Gathered rows step 1 at xs t first n r
gathered all step at xs t r first n m h l w =
    subst (Gathered rows step 1 at xs t first n) (sym (w ∙ ap (λ (a : Mask). put_lines a (λ (k : ℕ). samples_at step (at + k) xs) 8 1 first n t) m)) (lanes_put step at xs t first n h l)

-- rows of s, `step` apart, copied over those of xs, `apart` from each other: the lines of s over those of xs
pub rows_copied : (m : Mask) (to apart from step n : ℕ) (s xs x₁ x₂ x₃ x₄ : List ℕ) → n ≤ apart
    → x₁ ≡ with_row_if m.a to n (λ (k : ℕ). get_or s (from + k) 0) xs
    → x₂ ≡ with_row_if m.b (to + apart) n (λ (k : ℕ). get_or s (from + step + k) 0) x₁
    → x₃ ≡ with_row_if m.c (to + 2 * apart) n (λ (k : ℕ). get_or s (from + 2 * step + k) 0) x₂
    → x₄ ≡ with_row_if m.d (to + 3 * apart) n (λ (k : ℕ). get_or s (from + 3 * step + k) 0) x₃
    → x₄ ≡ put_lines m (λ (k : ℕ). samples_at step (from + k) s) apart 1 to n xs
rows_copied m to apart from step n s xs x₁ x₂ x₃ x₄ h ea eb ec ed =
    ed ∙ (λ i. with_row_if m.d (to + 3 * apart) n (λ (k : ℕ). get_or s (turn (3 * step) k i) 0)
    ((ec ∙ (λ i. with_row_if m.c (to + 2 * apart) n (λ (k : ℕ). get_or s (turn (2 * step) k i) 0)
    ((eb ∙ (λ i. with_row_if m.b (to + apart) n (λ (k : ℕ). get_or s (turn step k i) 0) (ea i))) i))) i))
    ∙ rows_lines m (λ (k : ℕ). samples_at step (from + k) s) apart to n xs h
  where
    turn : (j k : ℕ) → from + j + k ≡ from + k + j
    turn j k = omega arith
