-- The entries that stand at pivots and between them.
--     Reached, reached_first, reached_next     a pivot in range, with its entry
--     at_below, at_between, settled, at_past   the table's entries
-- Assumes nothing.
use mathlib.Core.Path.{◌≡◌, ap, ◌∙◌}
use mathlib.Core.Bool.{true}
use Prim.Native.Nat.{ℕ, zero, suc, ◌+◌, ◌-◌, ◌*◌, ◌≤◌, ◌<◌}
use native.Mathlib.Nat.{add-suc, add-zero}
use native.Mathlib.Omega.{arith}
use borrow.Author.Tests.{le-leb, lt-leb}
use lib.IntN.{ℤ, pos, negsuc, ◌+ℤ◌}
use lib.Signed.{le_z}
use Rattle.laws.proofs.Differences.{diff_abs}
use Rattle.chroma_qp_check.specs.Pivots.{Points, a_at, entry_qp, in_of, out_of}
use Rattle.chroma_qp_check.proofs.Offsets.{qp_sub, qp_le, le_more}
use Rattle.chroma_qp_check.proofs.Pivots.{in_next}
use Rattle.chroma_qp.specs.Held.{held_below, held_between, held_past}
use Rattle.chroma_qp.specs.Mapping.{below, past, up_to, last_of, table_at}
use Rattle.chroma_qp.proofs.Clipped.{below_held, past_held}
use Rattle.chroma_qp.proofs.Parts.{entry_most, end_least, end_most, between_held}

module _ (s : ℤ) (p : Points) where
  -- ---- a pivot in range, and the entry at its in: never below its out, and above it by at most half of what lies below the in
  pub record Reached (j i o v : ℕ) : Type 0 where
    pub in_is : in_of s p j ≡ entry_qp i
    pub out_is : out_of s p j ≡ entry_qp o
    pub entry_is : up_to s p j (entry_qp i) ≡ entry_qp v
    pub in_most : i ≤ 69
    pub out_most : o ≤ 69
    pub least : o ≤ v
    pub most : 2 * v ≤ 2 * o + i

  -- the entries up to pivot 0
  pub at_below : (i o k : ℕ) → in_of s p 0 ≡ entry_qp i → out_of s p 0 ≡ entry_qp o → o ≤ 69 → k ≤ i → up_to s p 0 (entry_qp k) ≡ entry_qp (held_below i o k)
  unfolding up_to
  at_below i o k e f h q =
      rw (e, f, qp_sub i k, diff_abs i k)
      (ap (below (entry_qp o)) (omega arith) ∙ below_held i o k h q)

  pub reached_first : (i o : ℕ) → in_of s p 0 ≡ entry_qp i → out_of s p 0 ≡ entry_qp o → i ≤ 69 → o ≤ 69 → Reached 0 i o o
  unfolding held_below
  reached_first i o e f h k =
      record {
        in_is = e;
        out_is = f;
        entry_is = at_below i o i e f k (omega arith) ∙ ap entry_qp (omega arith);
        in_most = h;
        out_most = k;
        least = omega arith;
        most = omega arith;
      }

  -- the entries of the part that starts at pivot j
  module _ (j i o v : ℕ) (r : Reached j i o v) (x u : ℕ) (at_a : a_at p (suc j) ≡ pos x) (at_out : out_of s p (suc j) ≡ entry_qp u) where
    pub at_between : (m : ℕ) → 0 < m → m ≤ x + 1 → up_to s p (suc j) (entry_qp (i + m)) ≡ entry_qp (held_between v o u (x + 1) m)
    unfolding up_to
    at_between m h q =
        rw (r.in_is, at_a, at_out, r.out_is, r.entry_is, qp_le (i + m) i, lt-leb (i + m) i (omega arith))
        (between_held i v o u (x + 1) m (omega arith) q r.least)

    pub between_most : (m : ℕ) → m ≤ x + 1 → u ≤ 69 → i + (x + 1) ≤ 69 → held_between v o u (x + 1) m ≤ 103
    between_most m q h k = entry_most i v o u (x + 1) (omega arith) r.least r.most m q k r.out_most h

    pub reached_next : i + (x + 1) ≤ 69 → u ≤ 69 → Reached (suc j) (i + (x + 1)) u (held_between v o u (x + 1) (x + 1))
    reached_next h k =
        record {
          in_is = in_next s p j i x r.in_is at_a;
          out_is = at_out;
          entry_is = at_between (x + 1) (omega arith) (omega arith);
          in_most = h;
          out_most = k;
          least = end_least i v o u (x + 1) (omega arith) r.least r.most;
          most = end_most i v o u (x + 1) (omega arith) r.least r.most;
        }

  -- ---- the table's entries are those up to each pivot

  -- of every a that counts, it is known that it is not below 0
  module _ (rises : (j : ℕ) → suc j < p.count → le_z (pos 0) (a_at p (suc j)) ≡ true) where
    climbs : (z : ℤ) (j d : ℕ) → j + d < p.count → le_z z (in_of s p j) ≡ true → le_z z (in_of s p (j + d)) ≡ true
    unfolding in_of
    climbs z j zero h e = rw (add-zero j) e
    climbs z j (suc d) h e =
        rw (add-suc j d)
        (step (a_at p (suc (j + d))) (rises (j + d) (omega arith)) (climbs z j d (omega arith) e)) where
          step : (a : ℤ) → le_z (pos 0) a ≡ true → le_z z (in_of s p (j + d)) ≡ true → le_z z (in_of s p (j + d) +ℤ (a +ℤ pos 1)) ≡ true
          step (pos x) f g = le_more z (in_of s p (j + d)) (x + 1) g
          step (negsuc x) f g = cc

    kept : (z : ℤ) (j d : ℕ) → j + d < p.count → le_z z (in_of s p j) ≡ true → up_to s p (j + d) z ≡ up_to s p j z
    unfolding up_to
    kept z j zero h e = rw (add-zero j)
    kept z j (suc d) h e = rw (add-suc j d, climbs z j d (omega arith) e) (kept z j d (omega arith) e)

    pub settled : (j i k : ℕ) → j < p.count → in_of s p j ≡ entry_qp i → k ≤ i → table_at s p (entry_qp k) ≡ up_to s p j (entry_qp k)
    unfolding table_at
    settled j i k h e q =
        let d = p.count - 1 - j in
        let last : last_of p ≡ j + d = omega arith in
        let at : le_z (entry_qp k) (in_of s p j) ≡ true = ap (le_z (entry_qp k)) e ∙ qp_le k i ∙ le-leb k i q in
        rw (last, climbs (entry_qp k) j d (omega arith) at) (kept (entry_qp k) j d (omega arith) at)

  pub at_past : (i o v m : ℕ) → Reached (last_of p) i o v → 0 < m → table_at s p (entry_qp (i + m)) ≡ entry_qp (held_past v m)
  unfolding table_at
  at_past i o v m r h =
      rw (r.in_is, r.entry_is, qp_le (i + m) i, lt-leb (i + m) i (omega arith), qp_sub (i + m) i, diff_abs (i + m) i)
      (ap (past (entry_qp v)) (omega arith) ∙ past_held v m h)
