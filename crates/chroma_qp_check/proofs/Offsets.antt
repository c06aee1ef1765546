-- QPs by their index in the table, 12 more than they are: sums, differences and orders of QPs are those of the indices.
-- Assumes nothing.
use mathlib.Core.Path.{◌≡◌, sym, ap, ◌∙◌}
use mathlib.Core.Bool.{true}
use Prim.Native.Nat.{ℕ, ◌+◌, ◌-◌, ◌≤◌}
use native.Mathlib.Omega.{arith}
use borrow.Author.Tests.{leb-true, le-leb}
use lib.Dec.{leb}
use lib.IntN.{ℤ, pos, ◌+ℤ◌, ◌-ℤ◌}
use lib.Signed.{le_z}
use Rattle.laws.proofs.Differences.{diff_same, diff_add, diff_sub, diff_le, diff_none, as_diff, leb_alike}
use Rattle.chroma_qp_check.specs.Pivots.{entry_qp}

pub qp_add : (k n : ℕ) → entry_qp k +ℤ pos n ≡ entry_qp (k + n)
unfolding entry_qp
qp_add k n = ap (λ (z : ℤ). (pos k -ℤ pos 12) +ℤ z) (diff_none n) ∙ diff_add k 12 n 0

pub qp_sub : (k l : ℕ) → entry_qp k -ℤ entry_qp l ≡ pos k -ℤ pos l
unfolding entry_qp
qp_sub k l = diff_sub k 12 l 12 ∙ diff_same (k + 12) (12 + l) k l (omega arith)

pub qp_le : (k l : ℕ) → le_z (entry_qp k) (entry_qp l) ≡ leb k l
unfolding entry_qp
qp_le k l = diff_le k 12 l 12 ∙ leb_alike (k + 12) (l + 12) k l (λ h. (omega arith)) (λ h. (omega arith))

-- what is held is 12 more
pub qp_held : (k : ℕ) → entry_qp k +ℤ pos 12 ≡ pos k
unfolding entry_qp
qp_held k = ap (λ (z : ℤ). (pos k -ℤ pos 12) +ℤ z) (diff_none 12) ∙ diff_add k 12 12 0 ∙ diff_same (k + 12) 12 k 0 (omega arith) ∙ sym (diff_none k)

pub qp_apart : (k l : ℕ) → entry_qp k ≡ entry_qp l → k ≡ l
qp_apart k l e = let p : pos k ≡ pos l = sym (qp_held k) ∙ ap (λ (z : ℤ). z +ℤ pos 12) e ∙ qp_held l in cc

-- a number that n more takes past 140 is a QP's
pub qp_of_lem : (q : ℕ) → 128 ≤ q → pos q -ℤ pos 140 ≡ entry_qp (q - 128)
unfolding entry_qp
qp_of_lem q h = diff_same q 140 (q - 128) 12 (omega arith)

-- what is at most a number is at most one that is larger
pub le_more : (z w : ℤ) (n : ℕ) → le_z z w ≡ true → le_z z (w +ℤ pos n) ≡ true
le_more z w n =
    as_diff (λ z. le_z z w ≡ true → le_z z (w +ℤ pos n) ≡ true)
    (λ a b.
    as_diff (λ w. le_z (pos a -ℤ pos b) w ≡ true → le_z (pos a -ℤ pos b) (w +ℤ pos n) ≡ true)
    (λ c d e.
    let h : a + d ≤ c + b = leb-true (a + d) (c + b) (sym (diff_le a b c d) ∙ e) in
    rw (diff_none n, diff_add c d n 0, diff_le a b (c + n) (d + 0)) (le-leb (a + (d + 0)) (c + n + b) (omega arith)))
    w)
    z
