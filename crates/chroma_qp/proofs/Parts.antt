-- A part between two pivots: what the code counts is what Mapping says, and how large it gets.
--     up_most, down_most      how far an entry lies from the part's start, in either direction
--     up_least, down_least, down_exact      and at its end, where a part that falls over two entries or more ends at most 1 above
--     entry_most, end_least, end_most
--     held_up, held_down      of the two quotients of an entry one is of 0
--     held_step     by 1 nothing is divided
--     between_held
-- Assumes nothing.
use mathlib.Core.Path.{◌≡◌, sym, ap, ◌∙◌}
use Prim.Native.Nat.{ℕ, suc, ◌+◌, ◌-◌, ◌*◌, ◌/◌, ◌≤◌, ◌<◌}
use native.Mathlib.Nat.{add-zero, add-mul, suc-mul, mul-le-mul_left, mul-le-mul_right, div-lt_iff_lt-mul, div-le_of_le-mul, le-div_iff_mul-le, mul_comm, zero-mul, zero-div}
use native.Mathlib.Decide.{dec_le, ℕ_discrete}
use native.Mathlib.Omega.{arith}
use lib.IntN.{ℤ, pos, ◌+ℤ◌, ◌-ℤ◌, ◌*ℤ◌}
use lib.Signed.{quot_z}
use Rattle.laws.proofs.Differences.{diff_same, diff_add, diff_mul, diff_quot, diff_none}
use Rattle.chroma_qp_check.specs.Pivots.{entry_qp}
use Rattle.chroma_qp_check.proofs.Offsets.{qp_sub}
use Rattle.chroma_qp.specs.Held.{held_between}
use Rattle.chroma_qp.specs.Mapping.{between}

-- x is no more than y and what is left of it
split_mul : (x y m : ℕ) → x * m ≤ y * m + (x - y) * m
split_mul x y m = omega (arith, mul-le-mul_right {m = x} {n = y + (x - y)} m (omega arith), add-mul y (x - y) m)

module _ (from to n m : ℕ) (some : 0 < n) (within : m ≤ n) where
  pub up_most : (to * m + n / 2 - from * m) / n ≤ to - from
  up_most =
      let d = to - from in
      let p : to * m ≤ from * m + d * m = split_mul to from m in
      let q : d * m ≤ d * n = mul-le-mul_left d within in
      let r : suc d * n ≡ d * n + n = suc-mul d n in
      let h : (to * m + n / 2 - from * m) / n < suc d = (div-lt_iff_lt-mul some).1 (omega arith) in
      omega arith

  pub down_most : (from * m - (to * m + n / 2)) / n ≤ from - to
  down_most =
      let d = from - to in
      let p : from * m ≤ to * m + d * m = split_mul from to m in
      let q : d * m ≤ d * n = mul-le-mul_left d within in
      let r : d * n ≡ n * d = mul_comm d n in
      div-le_of_le-mul n (omega arith)

module _ (from to n : ℕ) (some : 0 < n) where
  pub up_least : to - from ≤ (to * n + n / 2 - from * n) / n
  up_least = (le-div_iff_mul-le some).1 (go (dec_le from to)) where
    go : Dec (from ≤ to) → (to - from) * n ≤ to * n + n / 2 - from * n
    go (yes p) = let e : to * n ≡ from * n + (to - from) * n = ap (λ (k : ℕ). k * n) (omega arith) ∙ add-mul from (to - from) n in omega arith
    go (no p) = let e : (to - from) * n ≡ 0 = ap (λ (k : ℕ). k * n) (omega arith) ∙ zero-mul n in omega arith

  pub down_least : from - to ≤ (from * n - (to * n + n / 2)) / n + 1
  down_least = go (dec_le from to) where
    go : Dec (from ≤ to) → from - to ≤ (from * n - (to * n + n / 2)) / n + 1
    go (yes p) = omega arith
    go (no p) =
        let f = from - to - 1 in
        let e : from * n ≡ to * n + suc f * n = ap (λ (k : ℕ). k * n) (omega arith) ∙ add-mul to (suc f) n in
        let g : suc f * n ≡ f * n + n = suc-mul f n in
        let h : f ≤ (from * n - (to * n + n / 2)) / n = (le-div_iff_mul-le some).1 (omega arith) in
        omega arith

-- over one entry there is nothing to round
pub down_exact : (from to n : ℕ) → n ≡ 1 → from - to ≤ (from * n - (to * n + n / 2)) / n
down_exact from to n e = rw e (omega arith)

-- ---- what the code counts, by plain bounds

-- a part's entry, held, of a start that lies above its pivot's out by at most half of what lies below its in
module _ (i v from to n : ℕ) (some : 0 < n) (high : from ≤ v) (most : 2 * v ≤ 2 * from + i) where
  pub entry_most : (m : ℕ) → m ≤ n → i + n ≤ 69 → from ≤ 69 → to ≤ 69 → held_between v from to n m ≤ 103
  unfolding held_between
  entry_most m within a b c =
      small ((to * m + n / 2 - from * m) / n) ((from * m - (to * m + n / 2)) / n) (up_most from to n m some within) (down_most from to n m some within) where
        small : (x y : ℕ) → x ≤ to - from → y ≤ from - to → v + x - y ≤ 103
        small x y p q = omega arith

  -- the entry at the next pivot's in
  pub end_least : to ≤ held_between v from to n n
  unfolding held_between
  end_least =
      high_enough ((to * n + n / 2 - from * n) / n) ((from * n - (to * n + n / 2)) / n) (up_least from to n some) (down_most from to n n some (omega arith)) where
        high_enough : (x y : ℕ) → to - from ≤ x → y ≤ from - to → to ≤ v + x - y
        high_enough x y p q = omega arith

  pub end_most : 2 * held_between v from to n n ≤ 2 * to + (i + n)
  unfolding held_between
  end_most =
      low_enough ((to * n + n / 2 - from * n) / n) ((from * n - (to * n + n / 2)) / n) (up_most from to n n some (omega arith)) (down_least from to n some)
      (λ e. down_exact from to n e) (ℕ_discrete n 1) where
        low_enough : (x y : ℕ) → x ≤ to - from → from - to ≤ y + 1 → (n ≡ 1 → from - to ≤ y) → Dec (n ≡ 1) → 2 * (v + x - y) ≤ 2 * to + (i + n)
        low_enough x y p q one (yes e) = let h : from - to ≤ y = one e in omega arith
        low_enough x y p q one (no e) = omega arith

-- ---- and what it is

none : (x y n : ℕ) → x ≤ y → (x - y) / n ≡ 0
none x y n h = let e : x - y ≡ 0 = omega arith in rw e (zero-div n)

module _ (v from to n m : ℕ) where
  pub held_up : from * m ≤ to * m + n / 2 → v + (to * m + n / 2 - from * m) / n ≡ held_between v from to n m
  unfolding held_between
  held_up h = rw (none (from * m) (to * m + n / 2) n h) (omega arith)

  pub held_down : to * m + n / 2 < from * m → v - (from * m - (to * m + n / 2)) / n ≡ held_between v from to n m
  unfolding held_between
  held_down h = rw (none (to * m + n / 2) (from * m) n (omega arith)) (omega arith)

-- the next entry, where the next pivot's in is
pub held_step : (v from to : ℕ) → from ≤ v → v + to - from ≡ held_between v from to 1 (0 + 1)
unfolding held_between
held_step v from to h = omega arith

module _ (i v from to n m : ℕ) (some : 0 < n) (within : m ≤ n) (high : from ≤ v) where
  moved : entry_qp v +ℤ (pos ((to * m + n / 2 - from * m) / n) -ℤ pos ((from * m - (to * m + n / 2)) / n)) ≡ entry_qp (held_between v from to n m)
  unfolding entry_qp held_between
  moved =
      let x = (to * m + n / 2 - from * m) / n in
      let y = (from * m - (to * m + n / 2)) / n in
      let h : y ≤ from - to = down_most from to n m some within in
      diff_add v 12 x y ∙ diff_same (v + x) (12 + y) (v + x - y) 12 (omega arith)

  pub between_held : between (entry_qp v) (entry_qp to -ℤ entry_qp from) (pos n) (entry_qp (i + m) -ℤ entry_qp i) ≡ entry_qp (held_between v from to n m)
  unfolding between
  between_held =
      ap (λ (z : ℤ). entry_qp v +ℤ quot_z (z *ℤ (entry_qp (i + m) -ℤ entry_qp i) +ℤ pos (n / 2)) (pos n)) (qp_sub to from)
      ∙ ap (λ (z : ℤ). entry_qp v +ℤ quot_z ((pos to -ℤ pos from) *ℤ z +ℤ pos (n / 2)) (pos n)) (qp_sub (i + m) i ∙ diff_same (i + m) i m 0 (omega arith) ∙ sym (diff_none m))
      ∙ ap (λ (z : ℤ). entry_qp v +ℤ quot_z z (pos n))
      (ap (λ (z : ℤ). z +ℤ pos (n / 2)) (diff_mul to from m) ∙ ap (λ (z : ℤ). (pos (to * m) -ℤ pos (from * m)) +ℤ z) (diff_none (n / 2)) ∙ diff_add (to * m) (from * m) (n / 2) 0)
      ∙ ap (λ (z : ℤ). entry_qp v +ℤ z) (ap (λ (k : ℕ). quot_z (pos (to * m + n / 2) -ℤ pos k) (pos n)) (add-zero (from * m)) ∙ diff_quot (to * m + n / 2) (from * m) n)
      ∙ moved
