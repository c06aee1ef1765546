-- Rows of samples and residuals.
--     row_known    a row whose flag is known
--     row_whole, row_front    a row that is the whole block, and the samples of one at the front of a longer list
--     Placed, placed    row r of a block that fits a plane lies in the plane, and in what is lent for the block
-- Assumes nothing.
use Prim.Native.Nat.{ℕ, ◌+◌, ◌*◌, ◌≤◌, ◌<◌}
use mathlib.Core.Path.{◌≡◌, refl, sym, ap, ◌∙◌}
use mathlib.Core.Bool.{Bool}
use mathlib.Core.List.{List}
use native.Mathlib.Nat.{zero-add, sub-zero, le_of_eq}
use native.Mathlib.Omega.{arith}
use lib.IntN.{ℤ}
use lib.ListN.{length, get_or}
use Rattle.laws.specs.Index.{tabulate}
use Rattle.laws.specs.Plane.{with_row}
use Rattle.laws.proofs.Flat.{row_below}
use Rattle.laws.proofs.Planes.{within_yes, get_d_row}
use Rattle.laws.proofs.Whole.{row_same, whole_row}
use Rattle.recon.specs.Plane.{Fitting}
use Rattle.recon.specs.Recon.{recon_at}

module _ (coded : Bool) (pred : List ℕ) (coef : List ℤ) (l m : List ℕ) where
  pub row_known : (known : Bool) (at n from : ℕ) → coded ≡ known → m ≡ with_row 0 at n (λ (j : ℕ). recon_at known pred coef (from + j)) l
      → m ≡ with_row 0 at n (λ (j : ℕ). recon_at coded pred coef (from + j)) l
  row_known known at n from e p = p ∙ ap (λ (b : Bool). with_row 0 at n (λ (j : ℕ). recon_at b pred coef (from + j)) l) (sym e)

  pub row_whole : (n : ℕ) → length l ≡ n → m ≡ with_row 0 0 n (λ (j : ℕ). recon_at coded pred coef (0 + j)) l → m ≡ tabulate n (recon_at coded pred coef)
  row_whole n e p =
      p
      ∙ row_same 0 0 n (λ (j : ℕ). recon_at coded pred coef (0 + j)) (recon_at coded pred coef) l (λ j q. ap (recon_at coded pred coef) (zero-add j))
      ∙ whole_row 0 n (recon_at coded pred coef) l e

  pub row_front : (n k : ℕ) → n ≤ length l → k < n → m ≡ with_row 0 0 n (λ (j : ℕ). recon_at coded pred coef (0 + j)) l → get_or m k 0 ≡ recon_at coded pred coef k
  row_front n k fits p e =
      ap (λ (l : List ℕ). get_or l k 0) e
      ∙ get_d_row 0 0 n (λ (j : ℕ). recon_at coded pred coef (0 + j)) l k (omega arith)
      ∙ rw (within_yes 0 n k (omega arith) (omega arith), sub-zero, zero-add)

pub record Placed (w y n r long : ℕ) : Type 0 where
  pub plane : (y + r) * w + w ≤ long
  pub block : r * n + n ≤ n * n

pub placed : {w x y n : ℕ} {pred : List ℕ} {coef : List ℤ} {rec : List ℕ} (r : ℕ) → Fitting w x y n pred coef rec → r < n → Placed w y n r (length rec)
placed {w} {x} {y} {n} {pred} {coef} {rec} r f p =
    record { plane = row_below (y + r) w (y + n) (length rec) (omega arith) f.down; block = row_below r n n (n * n) p (le_of_eq refl) }
