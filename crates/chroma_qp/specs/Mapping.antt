-- The derived chroma QP mapping table: from a table's points and pivots its 70 entries. Whole numbers, with no bound.
-- Assumes nothing: these are definitions.
use Rattle.std.specs.Prelude.{ℕ, zero, suc, ◌-◌, List, ℤ, pos, negsuc, nat_abs, ◌+ℤ◌, ◌-ℤ◌, ◌*ℤ◌}
use Rattle.std.specs.Int.Signed.{le_z, quot_z}
use Rattle.laws.specs.Clip.{clip_z}
use Rattle.laws.specs.Index.{pick, tabulate}
use Rattle.chroma_qp_check.specs.Pivots.{Points, a_at, entry_qp, in_of, out_of}

-- clipped to -12..57
unfoldable pub clip_qp : ℤ → ℤ
clip_qp x = clip_z (negsuc 11) (pos 57) x

-- k steps below an entry t: one less a step, clipped
unfoldable pub below : ℤ → ℕ → ℤ
below t zero = t
below t (suc k) = clip_qp (below t k -ℤ pos 1)

-- k steps past an entry t: one more a step, clipped
unfoldable pub past : ℤ → ℕ → ℤ
past t zero = t
past t (suc k) = clip_qp (past t k +ℤ pos 1)

-- m steps past an entry t, on the way to a pivot n steps on whose out is d more: t + (d*m + n/2) / n, toward zero, with no clip
unfoldable pub between : (t d n m : ℤ) → ℤ
between t d n m = t +ℤ quot_z (d *ℤ m +ℤ quot_z n (pos 2)) n

-- T at a QP up to pivot j's in. T[in0] = out0, and below it one less a step; between two pivots the part starts from T at the earlier one's in.
-- (Between two whole numbers nat_abs counts the steps. What a `let` binds is computed only where it is picked.)
unfoldable pub up_to : ℤ → Points → ℕ → ℤ → ℤ
up_to s p zero qp = below (out_of s p 0) (nat_abs (in_of s p 0 -ℤ qp))
up_to s p (suc j) qp =
    let earlier = up_to s p j qp in
    let part = between (up_to s p j (in_of s p j)) (out_of s p (suc j) -ℤ out_of s p j) (a_at p (suc j) +ℤ pos 1) (qp -ℤ in_of s p j) in
    pick (le_z qp (in_of s p j)) earlier part

-- the last pivot's number
abbrev pub last_of : Points → ℕ
last_of p = p.count - 1

-- T at a QP: up to the last pivot, and past it one more a step
unfoldable pub table_at : ℤ → Points → ℤ → ℤ
table_at s p qp =
    let end = in_of s p (last_of p) in
    let earlier = up_to s p (last_of p) qp in
    let later = past (up_to s p (last_of p) end) (nat_abs (qp -ℤ end)) in
    pick (le_z qp end) earlier later

-- T's 70 entries, for the QPs -12..57
unfoldable pub table_of : ℤ → Points → List ℤ
table_of s p = tabulate 70 (λ (k : ℕ). table_at s p (entry_qp k))
