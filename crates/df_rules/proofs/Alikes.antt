-- Words that differ in done alone: they give an edge the same strength.
-- Assumes nothing.
use Prim.Native.Nat.{ℕ, zero, suc, ◌+◌, ◌*◌, ◌≤◌, ◌<◌}
use mathlib.Core.Path.{◌≡◌, refl, sym, ◌∙◌, subst}
use mathlib.Core.Bool.{◌||◌}
use mathlib.Core.List.{List, [], ◌∷◌}
use native.Mathlib.Nat.{le_of_suc-le-suc}
use native.Mathlib.Decide.{dec_lt}
use native.Mathlib.Omega.{arith}
use lib.ListN.{length, get_or}
use Rattle.def.proofs.Words.{Alike}
use Rattle.laws.specs.Index.{pick}
use Rattle.line.specs.declared.Motion.{Motion}
use Rattle.line.specs.Row.{motion_row, row_of}
use Rattle.df_rules.specs.Strength.{Over, Maps, motion_at, row_by, strength_of}

pub record Alikes (l m : List ℕ) : Type 0 where
  pub long : length l ≡ length m
  pub same : (k : ℕ) → Alike (get_or l k 0) (get_or m k 0)

alike_refl : (v : ℕ) → Alike v v
alike_refl v = record { intra = refl; qp = refl; coded = refl }

past : (l : List ℕ) (k : ℕ) → length l ≤ k → get_or l k 0 ≡ 0
past [] k h = refl
past (x ∷ l) zero h = absurd (omega arith)
past (x ∷ l) (suc k) h = past l k (le_of_suc-le-suc h)

-- by the places that the lists have
pub alikes_at : (l m : List ℕ) → length l ≡ length m → ((k : ℕ) → k < length m → Alike (get_or l k 0) (get_or m k 0)) → Alikes l m
alikes_at l m e h = record { long = e; same = λ k. at k (dec_lt k (length m)) } where
  at : (k : ℕ) → Dec (k < length m) → Alike (get_or l k 0) (get_or m k 0)
  at k (yes p) = h k p
  at k (no p) = subst (λ (x : ℕ). Alike x (get_or m k 0)) (past m k (omega arith) ∙ sym (past l k (omega arith))) (alike_refl (get_or m k 0))

-- ---- strengths do not depend on done

row_alike : {a b a₁ b₁ : ℕ} (m n : Motion) → Alike a a₁ → Alike b b₁ → row_of a b m n ≡ row_of a₁ b₁ m n
unfolding row_of
row_alike m n p q = λ i. pick (p.intra i || q.intra i) 0 (pick (p.coded i || q.coded i) 1 (motion_row m n))

module _ (over : Over) (t : List ℕ) where
  abbrev by : List ℕ → Maps
  by l = record { words = l; over = over }

  pub strength_alike : {l m : List ℕ} → Alikes l m → (at : ℕ → ℕ) (q p : ℕ) → strength_of (by l) t at q p ≡ strength_of (by m) t at q p
  unfolding strength_of row_by
  strength_alike a at q p = λ i. 4 * get_or t (52 * row_alike (motion_at over.motion over.refs q) (motion_at over.motion over.refs p) (a.same q) (a.same p) i + at ((a.same q).qp i)) 0
