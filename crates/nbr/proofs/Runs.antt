-- The whole run from its three arms, written one after the other and joined.
--     run_of_lem, joined_of    the whole run written arm by arm, and joined
--     run_long, run_samples    what callers may cite: the run's length, and that its elements are samples
-- Assumes nothing.
use Prim.Native.Nat.{ℕ, ◌+◌, ◌-◌, ◌*◌, ◌/◌, ◌≤◌, ◌<◌}
use mathlib.Core.Path.{◌≡◌, sym, ap, ◌∙◌, subst}
use mathlib.Core.Bool.{true}
use mathlib.Core.List.{List}
use native.Mathlib.Nat.{zero-add}
use native.Mathlib.Omega.{arith}
use borrow.Author.Tests.{lt-ltb, le-ltb, leb-true, eqb-true}
use lib.Bits.{bit_or}
use lib.Dec.{leb}
use lib.ListN.{length, get_or}
use Rattle.laws.proofs.Calls.{all_at}
use Rattle.laws.proofs.Tabulate.{is_tabulate, length_tabulate, get_d_tabulate}
use Rattle.laws.specs.Plane.{with_row}
use Rattle.laws.proofs.Parts.{rowed_part, scan_alike}
use Rattle.laws.proofs.Planes.{Rowed, rowed_none}
use Rattle.laws.proofs.Scans.{scan_at}
use Rattle.def.specs.declared.Component.{Component}
use Rattle.samples.specs.Samples.{sample_ok}
use Rattle.nbr.specs.Gather.{Around, unit_side, side_of, run_at, run_of, run_length, samples_ok, length_tests, lengths_ok}
use Rattle.nbr.specs.declared.Arm.{Arm}
use Rattle.nbr.specs.Arms.{arm_at, Within, left_arm, corner_arm, up_arm, BlockOf, Lent}
use Rattle.nbr.proofs.Sides.{unit_sided}
use Rattle.nbr.proofs.Joins.{Joined, join_part}
use Rattle.nbr.proofs.Around.{Beside, beside, left_is, corner_is, up_is, left_within, corner_within, up_within}

module _ (i : Around) (b : Beside i.component i.w i.h i.x i.y i.side) where
  abbrev n : ℕ
  n = side_of i.component i.side

  -- samples of the left arm, and of the upper one
  abbrev m : ℕ
  m = i.side / 2 * unit_side i.component

  m_is : m ≡ 2 * n
  m_is = (unit_sided i.component i.side b.by_four).arm_long

  abbrev left : ℕ → ℕ
  left k = arm_at (left_arm i.component i.w i.h i.x i.y) (unit_side i.component) i.constrained i.plane i.words k

  abbrev corner : ℕ → ℕ
  corner k = arm_at (corner_arm i.component i.w i.x i.y) 1 i.constrained i.plane i.words k

  abbrev up : ℕ → ℕ
  up k = arm_at (up_arm i.component i.w i.x i.y) (unit_side i.component) i.constrained i.plane i.words k

  -- each arm's samples, by their numbers in the run
  left_run : (j : ℕ) → j < m → left j ≡ run_at i (0 + j)
  unfolding run_at
  left_run j p = left_is i b j ∙ sym (rw (zero-add j, lt-ltb j (2 * n) (omega (arith, m_is))))

  corner_run : (j : ℕ) → j < 1 * 1 → corner j ≡ run_at i (2 * n + j)
  unfolding run_at
  corner_run j p =
      let e : j ≡ 0 = omega arith in
      let f : 2 * n + 0 - 2 * n ≡ 0 = omega arith in
      rw e (corner_is i b ∙ sym (rw (le-ltb (2 * n + 0) (2 * n) (omega arith), f)))

  up_run : (j : ℕ) → j < m → up j ≡ run_at i (2 * n + 1 + j)
  unfolding run_at
  up_run j p =
      let f : 2 * n + 1 + j - 2 * n ≡ j + 1 = omega arith in
      up_is i b j ∙ sym (rw (le-ltb (2 * n + 1 + j) (2 * n) (omega arith), f))

  -- what is written into l arm by arm is the run
  run_written :
      (l l₁ l₂ l₃ : List ℕ)
      → length l ≡ run_length i.component i.side
      → l₁ ≡ with_row 0 0 m left l
      → l₂ ≡ with_row 0 (2 * n) (1 * 1) corner l₁
      → l₃ ≡ with_row 0 (2 * n + 1) m up l₂
      → l₃ ≡ run_of i
  unfolding run_of
  run_written l l₁ l₂ l₃ long h₁ h₂ h₃ =
      let e₁ : 0 + m ≡ 2 * n = omega (arith, m_is) in
      let r = subst (Rowed 0 0 (run_at i) l l₁) e₁ (rw h₁ (rowed_part 0 0 (run_at i) l l 0 m left (omega (arith, m_is)) left_run (rowed_none 0 0 (run_at i) l))) in
      let at₂ : l₂ ≡ with_row 0 (0 + 2 * n) (1 * 1) corner l₁ = rw (zero-add (2 * n)) h₂ in
      let s : Rowed 0 0 (run_at i) l l₂ (2 * n + 1 * 1) = rw at₂ (rowed_part 0 0 (run_at i) l l₁ (2 * n) (1 * 1) corner (omega arith) corner_run r) in
      let at₃ : l₃ ≡ with_row 0 (0 + (2 * n + 1)) m up l₂ = rw (zero-add (2 * n + 1)) h₃ in
      let t : Rowed 0 0 (run_at i) l l₃ (2 * n + 1 + m) = rw at₃ (rowed_part 0 0 (run_at i) l l₂ (2 * n + 1) m up (omega (arith, m_is)) up_run s) in
      is_tabulate (run_at i) (run_length i.component i.side) l₃ 0 (t.long ∙ long) (λ k p. rw (zero-add k) at (t.done k (omega (arith, m_is))))

  -- and what is joined arm by arm tests it
  run_joined : (d e f : ℕ) → Joined left d m → Joined corner e (1 * 1) → Joined up f m → sample_ok (bit_or (bit_or d e) f) ≡ samples_ok i
  unfolding samples_ok
  run_joined d e f h₁ h₂ h₃ =
      let r : Joined (run_at i) d (2 * n) = h₁ ∙ rw m_is (scan_alike _ _ (2 * n) (λ j p. ap sample_ok (left_run j (omega (arith, m_is)) ∙ ap (run_at i) (zero-add j)))) in
      let s = join_part (run_at i) corner d (2 * n) e (1 * 1) corner_run h₂ r in
      let t = join_part (run_at i) up (bit_or d e) (2 * n + 1) f m up_run h₃ s in
      let z : 2 * n + 1 + m ≡ run_length i.component i.side = omega (arith, m_is) in
      rw z at t

-- ---- the same, from what the code computed: the three arms, a unit's side and the block's

module _ (i : Around) (block : BlockOf i.w i.h i.x i.y i.side) (l c p : Arm) (u : ℕ)
    (el : l ≡ left_arm i.component i.w i.h i.x i.y) (ec : c ≡ corner_arm i.component i.w i.x i.y)
    (ep : p ≡ up_arm i.component i.w i.x i.y) (eu : u ≡ unit_side i.component) where
  abbrev of : Arm → ℕ → ℕ → ℕ
  of a n k = arm_at a n i.constrained i.plane i.words k

  pub run_of_lem :
      (n : ℕ) → n ≡ side_of i.component i.side → (r₀ r₁ r₂ r₃ : List ℕ)
      → length r₀ ≡ run_length i.component i.side
      → r₁ ≡ with_row 0 0 (i.side / 2 * u) (of l u) r₀
      → r₂ ≡ with_row 0 (2 * n) (1 * 1) (of c 1) r₁
      → r₃ ≡ with_row 0 (2 * n + 1) (i.side / 2 * u) (of p u) r₂
      → r₃ ≡ run_of i
  run_of_lem n en r₀ r₁ r₂ r₃ long h₁ h₂ h₃ =
      run_written i (beside _ _ _ _ _ _ block) r₀ r₁ r₂ r₃ long (rw (el, eu) at h₁) (rw (ec, en) at h₂) (rw (ep, eu, en) at h₃)

  pub joined_of : (d e f : ℕ) → Joined (of l u) d (i.side / 2 * u) → Joined (of c 1) e (1 * 1) → Joined (of p u) f (i.side / 2 * u) → sample_ok (bit_or (bit_or d e) f) ≡ samples_ok i
  joined_of d e f h₁ h₂ h₃ = run_joined i (beside _ _ _ _ _ _ block) d e f (rw (el, eu) at h₁) (rw ec at h₂) (rw (ep, eu) at h₃)

-- a plane and words that pass
pub lent_of : (c : Component) (w h : ℕ) (plane words : List ℕ) → lengths_ok c w h (length plane) (length words) ≡ true → Lent c w h plane words
unfolding lengths_ok
lent_of c w h plane words e =
    let tests = length_tests c w h (length plane) (length words) in
    record { plane_long = eqb-true _ _ (all_at tests 0 e); words_long = eqb-true _ _ (all_at tests 1 e) }

-- what is read of each arm
module _ (c : Component) (w h x y side : ℕ) (plane words : List ℕ) (block : BlockOf w h x y side) (lent : Lent c w h plane words) (a : Arm) where
  pub left_reads : (u : ℕ) → a ≡ left_arm c w h x y → u ≡ unit_side c → Within a u plane words
  left_reads u e f = rw (e, f) (left_within c w h x y side plane words (beside c w h x y side block) lent)

  pub corner_reads : a ≡ corner_arm c w x y → Within a 1 plane words
  corner_reads e = rw e (corner_within c w h x y side plane words (beside c w h x y side block) lent)

  pub up_reads : (u : ℕ) → a ≡ up_arm c w x y → u ≡ unit_side c → Within a u plane words
  up_reads u e f = rw (e, f) (up_within c w h x y side plane words (beside c w h x y side block) lent)

-- ---- what callers may cite

pub run_long : (i : Around) → length (run_of i) ≡ run_length i.component i.side
unfolding run_of
run_long i = length_tabulate (run_at i) (run_length i.component i.side)

pub run_samples : (i : Around) → samples_ok i ≡ true → (k : ℕ) → k < run_length i.component i.side → get_or (run_of i) k 0 ≤ 1023
unfolding run_of samples_ok
run_samples i e k p =
    let r = get_d_tabulate (run_at i) (run_length i.component i.side) k 0 p in
    let s : run_at i k ≤ 1023 = leb-true _ _ (scan_at (λ (k : ℕ). leb (run_at i k) 1023) (run_length i.component i.side) k p e) in
    rw r s
