-- Samples joined by `|` part by part: what holds after c of them.
--     join-none at the start, join-part a part on
--     each_passes    three numbers whose join passes pass
--     near_passes    an arm whose samples in the picture all pass joins as nothing does
-- Assumes nothing.
use Prim.Native.Nat.{ℕ, ◌+◌, ◌*◌, ◌/◌, ◌<◌}
use mathlib.Core.Path.{◌≡◌, refl, sym, ap, ◌∙◌}
use mathlib.Core.Bool.{Bool, true, false}
use mathlib.Core.List.{List, [], ◌∷◌}
use native.Mathlib.Nat.{div-lt_iff_lt-mul}
use lib.Bits.{bit_or}
use lib.ListN.{get_or}
use Rattle.laws.specs.Index.{pick}
use Rattle.laws.specs.Scan.{all_below}
use Rattle.laws.proofs.Calls.{all_at}
use Rattle.laws.proofs.Parts.{scan_parts, scan_alike}
use Rattle.laws.proofs.Scans.{scan_none}
use Rattle.laws.proofs.ScanAll.{scan_pass}
use Rattle.samples.specs.Samples.{sample_ok}
use Rattle.samples.proofs.Samples.{joined}
use Rattle.nbr.specs.declared.Arm.{Arm}
use Rattle.nbr.specs.Arms.{present_in, arm_at}
use Rattle.nbr.proofs.Arms.{in_picture}

-- `all` is a sample exactly where each of the first c is
abbrev pub Joined : (ℕ → ℕ) → (all c : ℕ) → Type 0
Joined f all c = sample_ok all ≡ all_below (λ (k : ℕ). sample_ok (f k)) c

module _ (f : ℕ → ℕ) where
  pub join_none : Joined f 0 0
  join_none = sym (scan_none _)

  -- a part of m after the first c
  pub join_part : (g : ℕ → ℕ) (all c b m : ℕ) → ((j : ℕ) → j < m → g j ≡ f (c + j)) → Joined g b m → Joined f all c → Joined f (bit_or all b) (c + m)
  join_part g all c b m same h u =
      joined all b ∙ rw (u, h) (rw (scan_alike (λ (k : ℕ). sample_ok (g k)) (λ (k : ℕ). sample_ok (f (c + k))) m (λ j p. ap sample_ok (same j p))) (sym (scan_parts (λ (k : ℕ). sample_ok (f k)) c m)))

pub each_passes : (d e f : ℕ) → sample_ok (bit_or (bit_or d e) f) ≡ true → (sample_ok d ≡ true) × (sample_ok e ≡ true) × (sample_ok f ≡ true)
each_passes d e f h =
    let both = sym (joined (bit_or d e) f) ∙ h in
    let first = sym (joined d e) ∙ all_at (sample_ok (bit_or d e) ∷ sample_ok f ∷ []) 0 both in
    (all_at (sample_ok d ∷ sample_ok e ∷ []) 0 first, all_at (sample_ok d ∷ sample_ok e ∷ []) 1 first, all_at (sample_ok (bit_or d e) ∷ sample_ok f ∷ []) 1 both)

-- a sample of the arm is one of these, or 512
pub near_passes : (a : Arm) (n m : ℕ) (constrained : Bool) (plane words : List ℕ) → 0 < n
    → ((k : ℕ) → k < m → k < a.there * n → sample_ok (get_or plane (a.from + k * a.step) 0) ≡ true)
    → Joined (arm_at a n constrained plane words) 0 m
unfolding arm_at
near_passes a n m constrained plane words some h = sym (scan_pass _ m (λ k p. go k p (present_in a constrained words (k / n)) refl)) where
  go : (k : ℕ) → k < m → (b : Bool) → present_in a constrained words (k / n) ≡ b → sample_ok (pick b (get_or plane (a.from + k * a.step) 0) 512) ≡ true
  go k p true e = h k p ((div-lt_iff_lt-mul some).0 (in_picture a constrained words (k / n) e))
  go k p false e = refl
