-- Every entry of a table whose points pass lies within -12..91, and so fits a signed byte.
-- A part that falls over two entries or more ends 1 above its pivot's out, and the next starts from there: of 69 entries past the first, 34 such parts can be made.
--     values_fit, values_are_bytes     for every table
-- Assumes nothing.
use mathlib.Core.Path.{◌≡◌, refl, sym, ap, ◌∙◌}
use mathlib.Core.Bool.{true}
use Prim.Native.Nat.{ℕ, zero, suc, ◌+◌, ◌-◌, ◌≤◌, ◌<◌}
use native.Mathlib.Decide.{dec_le}
use native.Mathlib.Omega.{arith}
use borrow.Author.Tests.{leb-true, le-leb}
use lib.IntN.{ℤ, pos, negsuc, nat_abs}
use lib.ListN.{get_or}
use lib.Signed.{le_z}
use mir.Syntax.{w8}
use mir.Val.{SFits}
use Rattle.laws.proofs.Calls.{all_at}
use Rattle.laws.proofs.Differences.{diff_same, diff_none, diff_neg}
use Rattle.laws.proofs.Tabulate.{get_d_tabulate}
use Rattle.chroma_qp_check.specs.Check.{points_ok, pivot_tests, pivot_ok, pivots_ok}
use Rattle.chroma_qp_check.specs.Pivots.{Points, a_at, entry_qp, in_of, out_of}
use Rattle.chroma_qp_check.proofs.Offsets.{qp_le}
use Rattle.chroma_qp_check.proofs.Pivots.{in_next}
use Rattle.chroma_qp_check.proofs.Points.{countable}
use Rattle.chroma_qp.specs.Held.{held_below, held_between, held_past}
use Rattle.chroma_qp.specs.Mapping.{up_to, last_of, table_at, table_of}
use Rattle.chroma_qp.proofs.Bytes.{entry_fits}
use Rattle.chroma_qp.proofs.Pivots.{Reached, reached_first, reached_next, at_below, at_between, between_most, at_past}
use Rattle.chroma_qp.proofs.Tables.{passes}

-- a number of -12..91
pub record Entry (z : ℤ) : Type 0 where
  pub least : le_z (negsuc 11) z ≡ true
  pub most : le_z z (pos 91) ≡ true

-- a number that is held as v, at most `most`
record Within (most : ℕ) (z : ℤ) : Type 0 where
  v : ℕ
  is : z ≡ entry_qp v
  small : v ≤ most

-- what lies within -12..57 is held as 69 at most
in_range_lem : (z : ℤ) → le_z (negsuc 11) z ≡ true → le_z z (pos 57) ≡ true → Within 69 z
unfolding entry_qp
in_range_lem (pos n) e f =
    let h : n ≤ 57 = leb-true n 57 f in
    record { v = n + 12; is = diff_none n ∙ diff_same n 0 (n + 12) 12 (omega arith); small = omega arith }
in_range_lem (negsuc n) e f =
    let h : n ≤ 11 = leb-true n 11 e in
    record { v = 11 - n; is = diff_neg (suc n) ∙ diff_same 0 (suc n) (11 - n) 12 (omega arith); small = omega arith }

-- an a that is not below 0
plain_a : (z : ℤ) → le_z (pos 0) z ≡ true → z ≡ pos (nat_abs z)
plain_a (pos n) e = refl
plain_a (negsuc n) e = cc

module _ (s : ℤ) (p : Points) (points : points_ok p.count p.a ≡ true) (pivots : pivots_ok s p ≡ true) where
  module _ (j : ℕ) (h : j < p.count) where
    tests : (k : ℕ) → get_or (pivot_tests (in_of s p j) (out_of s p j)) k true ≡ true
    unfolding pivot_ok
    tests k = all_at (pivot_tests (in_of s p j) (out_of s p j)) k (passes s p pivots j h)

    the_in : Within 69 (in_of s p j)
    the_in = in_range_lem (in_of s p j) (tests 0) (tests 1)

    the_out : Within 69 (out_of s p j)
    the_out = in_range_lem (out_of s p j) (tests 2) (tests 3)

  -- pivot j, and every entry up to it
  record There (j : ℕ) : Type 0 where
    i : ℕ
    o : ℕ
    v : ℕ
    reached : Reached s p j i o v
    entries : (k : ℕ) → k ≤ i → Within 103 (up_to s p j (entry_qp k))

  first : There 0
  unfolding held_below
  first =
      let some : 0 < p.count = (countable p.count p.a points).some in
      let a = the_in 0 some in
      let b = the_out 0 some in
      record {
        i = a.v;
        o = b.v;
        v = b.v;
        reached = reached_first s p a.v b.v a.is b.is a.small b.small;
        entries = λ k h.
            record { v = held_below a.v b.v k; is = at_below s p a.v b.v k a.is b.is b.small h; small = omega (arith, b.small) };
      }

  -- an entry up to pivot j is the same up to the next
  earlier : (j i k : ℕ) → in_of s p j ≡ entry_qp i → k ≤ i → up_to s p (suc j) (entry_qp k) ≡ up_to s p j (entry_qp k)
  unfolding up_to
  earlier j i k e h = rw (e, qp_le k i, le-leb k i h)

  module _ (j : ℕ) (t : There j) (x u : ℕ) (at_a : a_at p (suc j) ≡ pos x) (at_out : out_of s p (suc j) ≡ entry_qp u) (small : u ≤ 69) (most : t.i + (x + 1) ≤ 69) where
    up_to_next : (k : ℕ) → k ≤ t.i + (x + 1) → Dec (k ≤ t.i) → Within 103 (up_to s p (suc j) (entry_qp k))
    up_to_next k h (yes q) =
        let w = t.entries k q in
        record { v = w.v; is = earlier j t.i k t.reached.in_is q ∙ w.is; small = w.small }
    up_to_next k h (no q) =
        let m = k - t.i in
        let e : k ≡ t.i + m = omega arith in
        record {
          v = held_between t.v t.o u (x + 1) m;
          is = ap (λ (n : ℕ). up_to s p (suc j) (entry_qp n)) e ∙ at_between s p j t.i t.o t.v t.reached x u at_a at_out m (omega arith) (omega arith);
          small = between_most s p j t.i t.o t.v t.reached x u at_a at_out m (omega arith) small most;
        }

    there_next : There (suc j)
    there_next =
        record {
          i = t.i + (x + 1);
          o = u;
          v = held_between t.v t.o u (x + 1) (x + 1);
          reached = reached_next s p j t.i t.o t.v t.reached x u at_a at_out most small;
          entries = λ k h. up_to_next k h (dec_le k t.i);
        }

  next : (j : ℕ) → suc j < p.count → There j → There (suc j)
  unfolding entry_qp
  next j h t =
      let x = nat_abs (a_at p (suc j)) in
      let b = the_out (suc j) h in
      let at_a : a_at p (suc j) ≡ pos x = plain_a (a_at p (suc j)) ((countable p.count p.a points).not_below (suc j) h) in
      let at_in : in_of s p (suc j) ≡ entry_qp (t.i + (x + 1)) = in_next s p j t.i x t.reached.in_is at_a in
      let top : le_z (entry_qp (t.i + (x + 1))) (entry_qp 69) ≡ true = rw at_in at (tests (suc j) h 1) in
      there_next j t x b.v at_a b.is b.small (leb-true (t.i + (x + 1)) 69 (sym (qp_le (t.i + (x + 1)) 69) ∙ top))

  there : (j : ℕ) → j < p.count → There j
  there zero h = first
  there (suc j) h = next j h (there j (omega arith))

  by_place : (t : There (last_of p)) (k : ℕ) → Dec (k ≤ t.i) → Within 103 (table_at s p (entry_qp k))
  unfolding table_at held_past
  by_place t k (yes q) =
      let w = t.entries k q in
      record { v = w.v; is = rw (t.reached.in_is, qp_le k t.i, le-leb k t.i q) w.is; small = w.small }
  by_place t k (no q) =
      let m = k - t.i in
      let e : k ≡ t.i + m = omega arith in
      record {
        v = held_past t.v m;
        is = ap (λ (n : ℕ). table_at s p (entry_qp n)) e ∙ at_past s p t.i t.o t.v m t.reached (omega arith);
        small = omega arith;
      }

  held : (k : ℕ) → k < 70 → Within 103 (get_or (table_of s p) k (pos 0))
  unfolding table_of
  held k h =
      let t = there (last_of p) (omega (arith, (countable p.count p.a points).some)) in
      let w = by_place t k (dec_le k t.i) in
      record { v = w.v; is = get_d_tabulate (λ (n : ℕ). table_at s p (entry_qp n)) 70 k (pos 0) h ∙ w.is; small = w.small }

  pub values_fit : (k : ℕ) → k < 70 → Entry (get_or (table_of s p) k (pos 0))
  unfolding entry_qp
  values_fit k h =
      let w = held k h in
      rw w.is
      (record { least = qp_le 0 w.v ∙ le-leb 0 w.v (omega arith); most = qp_le w.v 103 ∙ le-leb w.v 103 w.small })

  pub values_are_bytes : (k : ℕ) → k < 70 → SFits w8 (get_or (table_of s p) k (pos 0))
  values_are_bytes k h = let w = held k h in rw w.is (entry_fits w.v w.small)
