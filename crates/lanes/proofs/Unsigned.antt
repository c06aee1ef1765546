-- The line filter without a sign: on samples, `line_of` is what `lane` computes.
-- Assumes nothing.
use mathlib.Core.Path.{◌≡◌, refl, sym, ap, ◌∙◌}
use mathlib.Core.Bool.{cond, not}
use Prim.Native.Nat.{ℕ, suc, ◌+◌, ◌-◌, ◌*◌, ◌/◌, ◌≤◌, ◌<◌, min}
use native.Mathlib.Omega.{arith}
use lib.Dec.{ltb}
use Rattle.laws.specs.Sign.{gap_n}
use Rattle.laws.proofs.Signs.{by_lt, moved_n}
use Rattle.line.specs.declared.Quad.{Quad}
use Rattle.line.specs.Line.{line_of}
use Rattle.line.proofs.Lines.{limit_n, line_is}
use Rattle.lanes.specs.Unsigned.{rise_of, ease_of}

-- ---- B and C move by h: where p < n by v alone, and else by u alone

module _ (p n u v h : ℕ) (below : p < n → (u ≡ 0) × (v ≡ h)) (above : n ≤ p → (u ≡ h) × (v ≡ 0)) where
  halved : h / 2 ≡ (u + v) / 2
  halved = by_lt (λ t. h / 2 ≡ (u + v) / 2) p n (λ l. let q = below l in omega arith) (λ l. let q = above l in omega arith)

  near : (x : ℕ) → moved_n (ltb p n) x h ≡ min ((x - v) + u) 1023
  near x =
      by_lt (λ t. min (cond t (x - h) (x + h)) 1023 ≡ min ((x - v) + u) 1023) p n (λ l. let q = below l in omega arith) (λ l. let q = above l in omega arith)

  turned : (x : ℕ) → moved_n (not (ltb p n)) x h ≡ min ((x - u) + v) 1023
  turned x =
      by_lt (λ t. min (cond (not t) (x - h) (x + h)) 1023 ≡ min ((x - u) + v) 1023) p n (λ l. let q = below l in omega arith) (λ l. let q = above l in omega arith)

-- ---- A and D close in on each other, by no more than a quarter of what lies between them

none : (x y k : ℕ) → x ≤ y → min ((x - y) / 4) k ≡ 0
none x y k h = omega arith

-- so x stays a sample where y is one
within : (x y k : ℕ) → x ≤ y → y ≤ 1023 → x + min ((y - x) / 4) k ≤ 1023
within x y k h g = omega arith

gap_up : (x y q : ℕ) → x ≤ y → gap_n x y / suc q ≡ (y - x) / suc q
gap_up x y q h = ap (λ (g : ℕ). g / suc q) (omega arith)

gap_down : (x y q : ℕ) → y ≤ x → gap_n x y / suc q ≡ (x - y) / suc q
gap_down x y q h = ap (λ (g : ℕ). g / suc q) (omega arith)

raised : (x g e f : ℕ) → g ≡ f → e ≡ 0 → x + f ≤ 1023 → min (x + g) 1023 ≡ (x - e) + f
raised x g e f p q r = omega arith

lowered : (x g e f : ℕ) → g ≡ e → f ≡ 0 → x ≤ 1023 → min (x - g) 1023 ≡ (x - e) + f
lowered x g e f p q r = omega arith

module _ (a d k : ℕ) (ha : a ≤ 1023) (hd : d ≤ 1023) where
  abbrev e : ℕ
  e = min (gap_n a d / 4) k

  at_up : a ≤ d → e ≡ min ((d - a) / 4) k
  at_up h = ap (λ (g : ℕ). min g k) (gap_up a d 3 h)

  at_down : d ≤ a → e ≡ min ((a - d) / 4) k
  at_down h = ap (λ (g : ℕ). min g k) (gap_down a d 3 h)

  far_a : moved_n (not (ltb a d)) a e ≡ (a - min ((a - d) / 4) k) + min ((d - a) / 4) k
  far_a =
      by_lt (λ t. min (cond (not t) (a - e) (a + e)) 1023 ≡ (a - min ((a - d) / 4) k) + min ((d - a) / 4) k) a d
      (λ l. let h : a ≤ d = omega arith in raised a _ _ _ (at_up h) (none a d k h) (within a d k h hd))
      (λ h. lowered a _ _ _ (at_down h) (none d a k h) ha)

  far_d : moved_n (ltb a d) d e ≡ (d - min ((d - a) / 4) k) + min ((a - d) / 4) k
  far_d =
      by_lt (λ t. min (cond t (d - e) (d + e)) 1023 ≡ (d - min ((d - a) / 4) k) + min ((a - d) / 4) k) a d
      (λ l. let h : a ≤ d = omega arith in lowered d _ _ _ (at_up h) (none a d k h) hd)
      (λ h. raised d _ _ _ (at_down h) (none d a k h) (within d a k h ha))

-- ---- the line

-- where d is not above 0, nothing raises B
flat : (x y st : ℕ) → x ≤ y → limit_n ((x - y) / 8) st ≡ 0
flat x y st h = let z : (x - y) / 8 ≡ 0 = omega arith in ap (λ (m : ℕ). limit_n m st) z ∙ nil st
  where
    nil : (st : ℕ) → limit_n 0 st ≡ 0
    nil st = omega arith

-- the four new samples, of what raises B and what lowers it
abbrev pub free_n : (a b c d u v : ℕ) → Quad
free_n a b c d u v = let h = (u + v) / 2 in record {
  a = (a - ease_of a d h) + ease_of d a h;
  b = min ((b - v) + u) 1023;
  c = min ((c - u) + v) 1023;
  d = (d - ease_of d a h) + ease_of a d h;
}

pub line_free : (a b c d st : ℕ) → a ≤ 1023 → b ≤ 1023 → c ≤ 1023 → d ≤ 1023
    → line_of a b c d st ≡ free_n a b c d (rise_of a b c d st) (rise_of d c b a st)
unfolding rise_of ease_of
line_free a b c d st ha hb hc hd =
    let p = a + 4 * c in
    let n = 4 * b + d in
    let u = rise_of a b c d st in
    let v = rise_of d c b a st in
    let h = limit_n (gap_n p n / 8) st in
    let other : (d + 4 * b) - (4 * c + a) ≡ n - p = omega arith in
    let below : p < n → (u ≡ 0) × (v ≡ h) = λ l. let le : p ≤ n = omega arith in
    (flat p n st le, ap (λ (m : ℕ). limit_n (m / 8) st) other ∙ ap (λ (m : ℕ). limit_n m st) (sym (gap_up p n 7 le))) in
    let above : n ≤ p → (u ≡ h) × (v ≡ 0) = λ le.
    (ap (λ (m : ℕ). limit_n m st) (sym (gap_down p n 7 le)), ap (λ (m : ℕ). limit_n (m / 8) st) other ∙ flat n p st le) in
    let k = halved p n u v h below above in
    line_is a b c d st _ _ refl refl
    ∙ (λ i. record {
      a = (ap (λ (x : ℕ). moved_n (not (ltb a d)) a (min (gap_n a d / 4) x)) k ∙ far_a a d ((u + v) / 2) ha hd) i;
      b = near p n u v h below above b i;
      c = turned p n u v h below above c i;
      d = (ap (λ (x : ℕ). moved_n (ltb a d) d (min (gap_n a d / 4) x)) k ∙ far_d a d ((u + v) / 2) ha hd) i;
    })

-- the same, by its steps
pub line_steps : (a b c d st u v e f b₁ c₁ : ℕ) → a ≤ 1023 → b ≤ 1023 → c ≤ 1023 → d ≤ 1023
    → u ≡ rise_of a b c d st → v ≡ rise_of d c b a st → e ≡ ease_of a d ((u + v) / 2) → f ≡ ease_of d a ((u + v) / 2)
    → b₁ ≡ min ((b - v) + u) 1023 → c₁ ≡ min ((c - u) + v) 1023
    → record { a = (a - e) + f; b = b₁; c = c₁; d = (d - f) + e } ≡ line_of a b c d st
line_steps a b c d st u v e f b₁ c₁ ha hb hc hd pu pv pe pf pb pc =
    (λ i. record { a = (a - pe i) + pf i; b = pb i; c = pc i; d = (d - pf i) + pe i })
    ∙ (λ i. free_n a b c d (pu i) (pv i)) ∙ sym (line_free a b c d st ha hb hc hd)
