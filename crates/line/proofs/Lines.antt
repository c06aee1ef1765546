-- The line filter by sign and magnitude: `line_is` is what the code computes; strength 0 leaves samples as they are; what a line becomes are samples.
-- Assumes nothing.
use mathlib.Core.Path.{◌≡◌, refl, sym, ap, ◌∙◌}
use mathlib.Core.Bool.{Bool, true, false, not}
use Prim.Native.Nat.{ℕ, ◌+◌, ◌-◌, ◌*◌, ◌/◌, ◌≤◌, min}
use native.Mathlib.Omega.{arith}
use lib.Dec.{ltb}
use lib.IntN.{ℤ, pos, neg_ℤ, ◌+ℤ◌, ◌-ℤ◌, +ℤ_assoc, +ℤ_comm, neg_ℤ-+ℤ}
use lib.Signed.{quot_z}
use Rattle.laws.specs.Clip.{clip_z, abs_z, with_sign, sample_z}
use Rattle.laws.specs.Sign.{sg, gap_n}
use Rattle.laws.proofs.Signs.{pos_sub, neg_sg, quot_sg, abs_sg, max_sub, max_twice, with_sg, clip_sg, moved_n, sample_sg, sample_le}
use Rattle.line.specs.declared.Quad.{Quad}
use Rattle.line.specs.Line.{step_of, limit_of, far_of, moved_by, line_z, line_of}

-- ---- c, of d = sg s m

abbrev pub limit_n : ℕ → ℕ → ℕ
limit_n m st = m - 2 * (m - st)

limit_sg : (s : Bool) (m st : ℕ) → limit_of (sg s m) (pos st) ≡ pos (limit_n m st)
unfolding limit_of abs_z
limit_sg s m st = simp (abs_sg, max_twice, max_sub)

-- ---- d and d2

regroup : (A X Y D : ℤ) → A -ℤ X +ℤ Y -ℤ D ≡ (A +ℤ Y) -ℤ (X +ℤ D)
regroup A X Y D = simp (neg_ℤ-+ℤ, +ℤ_assoc, swap)
  where
    swap : (x y z : ℤ) → x +ℤ (y +ℤ z) ≡ y +ℤ (x +ℤ z)
    swap x y z = sym (+ℤ_assoc x y z) ∙ ap (λ (w : ℤ). w +ℤ z) (+ℤ_comm x y) ∙ +ℤ_assoc y x z

step_sg : (a b c d : ℕ) → step_of (pos a) (pos b) (pos c) (pos d) ≡ sg (ltb (a + 4 * c) (4 * b + d)) (gap_n (a + 4 * c) (4 * b + d) / 8)
unfolding step_of
step_sg a b c d =
    ap (λ (z : ℤ). quot_z z (pos 8)) (regroup (pos a) (pos (4 * b)) (pos (4 * c)) (pos d) ∙ pos_sub (a + 4 * c) (4 * b + d))
    ∙ quot_sg (ltb (a + 4 * c) (4 * b + d)) (gap_n (a + 4 * c) (4 * b + d)) 7

far_sg : (a d c : ℕ) → far_of (pos a) (pos d) (pos c) ≡ sg (ltb a d) (min (gap_n a d / 4) (c / 2))
unfolding far_of
far_sg a d c =
    ap (λ (z : ℤ). clip_z (neg_ℤ (pos (c / 2))) (pos (c / 2)) z)
    (ap (λ (z : ℤ). quot_z z (pos 4)) (pos_sub a d) ∙ quot_sg (ltb a d) (gap_n a d) 3)
    ∙ clip_sg (ltb a d) (gap_n a d / 4) (c / 2)

-- ---- the line

-- the four new samples, of the signs and the magnitudes of d1 and d2
abbrev pub moves_n : (a b c d : ℕ) (s t : Bool) (h e : ℕ) → Quad
moves_n a b c d s t h e = record { a = moved_n (not t) a e; b = moved_n s b h; c = moved_n (not s) c h; d = moved_n t d e }

moved_sg : (a b c d : ℕ) (s t : Bool) (h e : ℕ) → moved_by (pos a) (pos b) (pos c) (pos d) (sg s h) (sg t e) ≡ moves_n a b c d s t h e
unfolding moved_by
moved_sg a b c d s t h e = λ i. record {
  a = (ap (λ (z : ℤ). sample_z (pos a +ℤ z)) (neg_sg t e) ∙ sample_sg (not t) a e) i;
  b = sample_sg s b h i;
  c = (ap (λ (z : ℤ). sample_z (pos c +ℤ z)) (neg_sg s h) ∙ sample_sg (not s) c h) i;
  d = sample_sg t d e i;
}

pub line_is : (a b c d st m h : ℕ) → m ≡ gap_n (a + 4 * c) (4 * b + d) / 8 → h ≡ limit_n m st
    → line_of a b c d st ≡ moves_n a b c d (ltb (a + 4 * c) (4 * b + d)) (ltb a d) h (min (gap_n a d / 4) (h / 2))
unfolding line_of line_z
line_is a b c d st m h p q =
    let s = ltb (a + 4 * c) (4 * b + d) in
    let eD : step_of (pos a) (pos b) (pos c) (pos d) ≡ sg s m = step_sg a b c d ∙ ap (sg s) (sym p) in
    let eC : limit_of (step_of (pos a) (pos b) (pos c) (pos d)) (pos st) ≡ pos h = ap (λ (z : ℤ). limit_of z (pos st)) eD ∙ limit_sg s m st ∙ ap pos (sym q) in
    (λ i. moved_by (pos a) (pos b) (pos c) (pos d)
    (((λ j. with_sign (eD j) (eC j)) ∙ with_sg s m h (omega arith)) i)
    ((ap (far_of (pos a) (pos d)) eC ∙ far_sg a d h) i))
    ∙ moved_sg a b c d s (ltb a d) h (min (gap_n a d / 4) (h / 2))

-- the line by the steps of the code: g is the gap of d, h its limit, f the gap of A and D, e its reach
pub line_made : (a b c d st g h f e a' b' c' d' : ℕ) → g ≡ gap_n (a + 4 * c) (4 * b + d) → h ≡ limit_n (g / 8) st → f ≡ gap_n a d → e ≡ min (f / 4) (h / 2)
    → a' ≡ moved_n (not (ltb a d)) a e → b' ≡ moved_n (ltb (a + 4 * c) (4 * b + d)) b h → c' ≡ moved_n (not (ltb (a + 4 * c) (4 * b + d))) c h → d' ≡ moved_n (ltb a d) d e
    → record { a = a'; b = b'; c = c'; d = d' } ≡ line_of a b c d st
line_made a b c d st g h f e a' b' c' d' pg ph pf pe pa pb pc pd =
    let s = ltb (a + 4 * c) (4 * b + d) in
    let far : e ≡ min (gap_n a d / 4) (h / 2) = pe ∙ ap (λ (n : ℕ). min (n / 4) (h / 2)) pf in
    (λ i. record { a = pa i; b = pb i; c = pc i; d = pd i })
    ∙ ap (moves_n a b c d s (ltb a d) h) far
    ∙ sym (line_is a b c d st (g / 8) h (ap (λ (n : ℕ). n / 8) pg) ph)

-- an eighth of a gap is at most 65535
pub eighth : (g : ℕ) → g ≤ 327675 → g / 8 ≤ 65535
eighth g p = omega arith

-- strength 0 leaves the samples as they are
pub line_zero : (a b c d : ℕ) → a ≤ 1023 → b ≤ 1023 → c ≤ 1023 → d ≤ 1023 → line_of a b c d 0 ≡ record { a = a; b = b; c = c; d = d }
line_zero a b c d ha hb hc hd =
    let s = ltb (a + 4 * c) (4 * b + d) in
    let t = ltb a d in
    line_is a b c d 0 _ 0 refl (none (gap_n (a + 4 * c) (4 * b + d) / 8))
    ∙ ap (moves_n a b c d s t 0) (nil (gap_n a d / 4))
    ∙ (λ i. record { a = still (not t) a ha i; b = still s b hb i; c = still (not s) c hc i; d = still t d hd i })
  where
    none : (m : ℕ) → 0 ≡ limit_n m 0
    none m = omega arith

    nil : (g : ℕ) → min g (0 / 2) ≡ 0
    nil g = omega arith

    still : (s : Bool) (x : ℕ) → x ≤ 1023 → moved_n s x 0 ≡ x
    still true x h = omega arith
    still false x h = omega arith

-- what a line becomes are samples
pub record Samples (q : Quad) : Type 0 where
  pub a : q.a ≤ 1023
  pub b : q.b ≤ 1023
  pub c : q.c ≤ 1023
  pub d : q.d ≤ 1023

pub line_samples : (a b c d st : ℕ) → Samples (line_of a b c d st)
unfolding line_of line_z moved_by
line_samples a b c d st = record { a = sample_le _; b = sample_le _; c = sample_le _; d = sample_le _ }
