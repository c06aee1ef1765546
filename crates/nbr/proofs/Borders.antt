-- The three arms of a block together.
--     reads_of, near_of    what is read of them lies within the plane and the words
--     all_pass, few_pass    where their join passes each of them does
--     near_joined, units_joined    what is joined of them tests the run
--     border_written, few_written, border_run    what is written of them, and that it is the run
-- Assumes nothing.
use Prim.Native.Nat.{ℕ, ◌+◌, ◌*◌, ◌/◌}
use mathlib.Core.Path.{◌≡◌, refl, ap, ◌∙◌}
use mathlib.Core.Bool.{Bool, true}
use mathlib.Core.List.{List}
use native.Mathlib.Omega.{arith}
use lib.Bits.{bit_or}
use lib.ListN.{length}
use Rattle.laws.specs.Plane.{with_row}
use Rattle.def.proofs.Blocks.{blocked}
use Rattle.samples.specs.Samples.{sample_ok}
use Rattle.nbr.specs.Gather.{side_of, run_of, run_length, samples_ok}
use Rattle.nbr.specs.declared.Block.{Block}
use Rattle.nbr.specs.declared.Border.{Border}
use Rattle.nbr.specs.Arms.{arm_at, Stands, LentTo, around_of, BorderOf, Passing, Near, AllPassing, Reads, border_in}
use Rattle.nbr.proofs.Around.{beside}
use Rattle.nbr.proofs.Joins.{Joined, each_passes, near_passes}
use Rattle.nbr.proofs.Runs.{run_of_lem, joined_of, left_reads, corner_reads, up_reads}
use Rattle.nbr.proofs.Sides.{unit_sided, unit_sizes}

-- ---- what is read

pub near_of : (a : Border) (plane words : List ℕ) → Reads a plane words → Near a plane
near_of a plane words r =
    record {
      small = r.left_within.small;
      few = r.few;
      sizes = r.sizes;
      left_in = r.left_within.samples_in_lem;
      corner_in = r.corner_within.samples_in_lem;
      up_in = r.up_within.samples_in_lem;
    }

pub reads_of : (b : Block) (plane words : List ℕ) (a : Border) → Stands b → LentTo b plane words → BorderOf b a → Reads a plane words
reads_of b plane words a stands lent o =
    record {
      few = omega (arith, o.units, (blocked _ _ _ _ _ stands.block).most);
      sizes = unit_sizes b.component _ o.n;
      left_within = left_reads b.component _ _ _ _ _ _ _ stands lent _ _ o.left o.n;
      corner_within = corner_reads b.component _ _ _ _ _ _ _ stands lent _ o.corner;
      up_within = up_reads b.component _ _ _ _ _ _ _ stands lent _ _ o.up o.n;
    }

-- ---- what is joined

module _ (a : Border) (plane : List ℕ) (d e f : ℕ) where
  pub all_pass :
      (sample_ok d ≡ true → Passing a.left a.units a.n plane)
      → (sample_ok e ≡ true → Passing a.corner 1 1 plane)
      → (sample_ok f ≡ true → Passing a.up a.units a.n plane)
      → sample_ok (bit_or (bit_or d e) f) ≡ true → AllPassing a plane
  all_pass g h k p =
      let each = each_passes d e f p in
      record { left_passes = g each.0; corner_passes = h each.1; up_passes = k each.2 }

  -- two units of m samples
  pub few_pass :
      (m : ℕ) → a.units ≡ 2 → a.n ≡ m
      → (sample_ok d ≡ true → Passing a.left 2 m plane)
      → (sample_ok e ≡ true → Passing a.corner 1 1 plane)
      → (sample_ok f ≡ true → Passing a.up 2 m plane)
      → sample_ok (bit_or (bit_or d e) f) ≡ true → AllPassing a plane
  few_pass m s t g h k p = all_pass (λ q. rw (s, t) (g q)) h (λ q. rw (s, t) (k q)) p

module _ (b : Block) (plane words : List ℕ) (constrained : Bool) (a : Border) (stands : Stands b) (o : BorderOf b a) where
  pub units_joined :
      (d e f : ℕ)
      → Joined (arm_at a.left a.n constrained plane words) d (a.units * a.n)
      → Joined (arm_at a.corner 1 constrained plane words) e (1 * 1)
      → Joined (arm_at a.up a.n constrained plane words) f (a.units * a.n)
      → sample_ok (bit_or (bit_or d e) f) ≡ samples_ok (around_of b plane words constrained)
  units_joined d e f g h k =
      joined_of (around_of b plane words constrained) stands _ _ _ _ o.left o.corner o.up o.n d e f (rw o.units at g) h (rw o.units at k)

  -- where all samples near the block pass, those of the run do
  pub near_joined : Reads a plane words → AllPassing a plane → true ≡ samples_ok (around_of b plane words constrained)
  near_joined r t =
      units_joined 0 0 0
      (near_passes _ _ _ constrained plane words r.left_within.some t.left_passes)
      (near_passes _ _ _ constrained plane words r.corner_within.some t.corner_passes)
      (near_passes _ _ _ constrained plane words r.up_within.some t.up_passes)

-- ---- what is written

module _ (a : Border) (constrained : Bool) (plane words r₀ r₁ r₂ r₃ : List ℕ) where
  pub border_written :
      r₁ ≡ with_row 0 0 (a.units * a.n) (arm_at a.left a.n constrained plane words) r₀
      → r₂ ≡ with_row 0 (a.units * a.n) (1 * 1) (arm_at a.corner 1 constrained plane words) r₁
      → r₃ ≡ with_row 0 (a.units * a.n + 1) (a.units * a.n) (arm_at a.up a.n constrained plane words) r₂
      → r₃ ≡ border_in a constrained plane words r₀
  border_written h₁ h₂ h₃ =
      h₃ ∙ ap (with_row 0 (a.units * a.n + 1) (a.units * a.n) (arm_at a.up a.n constrained plane words))
      (h₂ ∙ ap (with_row 0 (a.units * a.n) (1 * 1) (arm_at a.corner 1 constrained plane words)) h₁)

  pub few_written :
      (m : ℕ) → a.units ≡ 2 → a.n ≡ m
      → r₁ ≡ with_row 0 0 (2 * m) (arm_at a.left m constrained plane words) r₀
      → r₂ ≡ with_row 0 (2 * m) (1 * 1) (arm_at a.corner 1 constrained plane words) r₁
      → r₃ ≡ with_row 0 (2 * m + 1) (2 * m) (arm_at a.up m constrained plane words) r₂
      → r₃ ≡ border_in a constrained plane words r₀
  few_written m s t h₁ h₂ h₃ = border_written (rw (s, t) h₁) (rw (s, t) h₂) (rw (s, t) h₃)

module _ (b : Block) (a : Border) (stands : Stands b) (o : BorderOf b a) (run : List ℕ) (long : length run ≡ run_length b.component b.side) where
  -- samples of the left arm, and of the upper one
  arm_long : a.units * a.n ≡ 2 * side_of b.component b.side
  arm_long = rw (o.units, o.n) (unit_sided b.component b.side (beside b.component _ _ _ _ _ stands).by_four).arm_long

  pub border_long : length run ≡ 2 * (a.units * a.n) + 1
  border_long = omega (arith, arm_long, long)

  pub border_run : (constrained : Bool) (plane words : List ℕ) → border_in a constrained plane words run ≡ run_of (around_of b plane words constrained)
  border_run constrained plane words =
      let m = a.units * a.n in
      let left = with_row 0 0 m (arm_at a.left a.n constrained plane words) run in
      let corner = with_row 0 m (1 * 1) (arm_at a.corner 1 constrained plane words) left in
      let up = arm_at a.up a.n constrained plane words in
      let same : m ≡ b.side / 2 * a.n = ap (λ (k : ℕ). k * a.n) o.units in
      run_of_lem (around_of b plane words constrained) stands _ _ _ _ o.left o.corner o.up o.n (side_of b.component b.side) refl run left corner (with_row 0 (m + 1) m up corner) long
      (ap (λ (k : ℕ). with_row 0 0 k (arm_at a.left a.n constrained plane words) run) same)
      (ap (λ (k : ℕ). with_row 0 k (1 * 1) (arm_at a.corner 1 constrained plane words) left) arm_long)
      (ap (λ (k : ℕ). with_row 0 (k + 1) m up corner) arm_long ∙ ap (λ (k : ℕ). with_row 0 (2 * side_of b.component b.side + 1) k up corner) same)
