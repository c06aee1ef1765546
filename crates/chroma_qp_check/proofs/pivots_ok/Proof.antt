-- `chroma_qp_check::pivots_ok` meets its contract: a scan of the pivots, each made from the one before. Assumes nothing.
use Prim.Native.Nat.{ℕ, ◌+◌, ◌-◌, ◌≤◌, ◌<◌}
use mathlib.Core.Path.{◌≡◌, refl, sym, ◌∙◌}
use mathlib.Core.Bool.{true, false, ◌&&◌}
use native.Mathlib.Numerals.{add-one}
use native.Mathlib.Omega.{arith}
use borrow.Author.Rules.{rules}
use lib.Dec.{leb}
use lib.IntN.{pos, ◌-ℤ◌}
use Rattle.laws.specs.Scan.{all_below}
use Rattle.laws.proofs.Scans.{scan_none, scan_more, scan_stop}
use Rattle.chroma_qp_check.specs.Check.{pivot_ok, pivots_ok}
use Rattle.chroma_qp_check.specs.Pivots.{Points, a_at, b_at, entry_qp}
use Rattle.chroma_qp_check.proofs.Bytes.{delta_in_is, delta_out_is}
use Rattle.chroma_qp_check.proofs.Pivots.{Held, held_first, held_next, pivot_test, Tested, tested}
use Rattle.chroma_qp_check.proofs.Points.{countable}
use Rattle.chroma_qp_check.proofs.pivots_ok.Statement.{statement}
use Rattle.chroma_qp_check.proofs.pivots_ok.Tie as tie

-- pivots 0 to j - 1 pass, and pivot j is held
record Scanned (s : ℕ) (p : Points) (i q j : ℕ) : Type 0 where
  within : j < p.count
  passed : all_below (pivot_ok (entry_qp s) p) j ≡ true
  held : Held (entry_qp s) p j i q
  in_small : i ≤ 197
  out_small : q ≤ 452

module _ (s : ℕ) (p : Points) (i q j : ℕ) (c : Scanned s p i q j) where
  failed : (leb i 69 && leb 128 q && leb q 197) ≡ false → false ≡ pivots_ok (entry_qp s) p
  unfolding pivots_ok
  failed e = sym (scan_stop (pivot_ok (entry_qp s) p) p.count j c.within (sym (pivot_test (entry_qp s) p j i q c.held) ∙ e))

  module _ (e : (leb i 69 && leb 128 q && leb q 197) ≡ true) where
    this : pivot_ok (entry_qp s) p j ≡ true
    this = sym (pivot_test (entry_qp s) p j i q c.held) ∙ e

    range : Tested (entry_qp s) p j i q
    range = tested (entry_qp s) p j i q c.held this

    more : all_below (pivot_ok (entry_qp s) p) (j + 1) ≡ true
    more = scan_more (pivot_ok (entry_qp s) p) j c.passed this

    ended : j + 1 ≡ p.count → true ≡ pivots_ok (entry_qp s) p
    unfolding pivots_ok
    ended k = sym (rw k at more)

    next : (x y : ℕ) → j + 1 < p.count → a_at p (j + 1) ≡ pos x → x ≤ 127 → b_at p (j + 1) ≡ pos y -ℤ pos 128 → y ≤ 255 → Scanned s p (i + (x + 1)) (q - 128 + (x + 1) + y) (j + 1)
    next x y h f u g w =
        record {
          within = h;
          passed = more;
          held =
              rw (add-one j)
              (held_next (entry_qp s) p j i x c.held.in_is (rw (add-one j) at f) (q - 128) y range.out_is (rw (add-one j) at g));
          in_small = omega (arith, range.in_most);
          out_small = omega (arith, range.out_most);
        }

abbrev invariant-loop : tie.invariant-loop-qp_in
invariant-loop s count a b qp-in₀ qp-out₀ j₀ qp-in qp-out j = Scanned s (record { count = count; a = a; b = b }) qp-in qp-out j

abbrev decreases-loop : tie.decreases-loop-qp_in
decreases-loop s count a b qp-in₀ qp-out₀ j₀ qp-in qp-out j = count - j

-- what `delta_in` and `delta_out` answered are the first pivot's a, and 128 more than its b
first_a : (c : tie.After-delta_in invariant-loop decreases-loop) → let a = c.args in a_at (record { count = a.count; a = a.a.now; b = a.b.now }) 0 ≡ pos c.delta_in.result
first_a c =
    let k = countable _ _ c.requires.points in
    delta_in_is _ _ (record { sfits = c.delta_in-arg-1.given }) (k.not_below 0 k.some) c.delta_in.ensures.0

shared_slice_copy_out_delta_in : tie.Need-bounds-a-0 invariant-loop decreases-loop
shared_slice_copy_out_delta_in c = omega (arith, c.requires.a_long)

add_qp_in : tie.Need-overflow_add-qp_in invariant-loop decreases-loop
add_qp_in c = omega (arith, c.requires.start)

shared_slice_copy_out_delta_out : tie.Need-bounds-b-0 invariant-loop decreases-loop
shared_slice_copy_out_delta_out c = omega (arith, c.requires.b_long)

add_qp_out : tie.Need-overflow_add-qp_out invariant-loop decreases-loop
add_qp_out c = omega (arith, c.requires.start)

loop_holds : tie.Need-loop-qp_in-init invariant-loop decreases-loop
loop_holds c =
    record {
      within = (countable _ _ c.requires.points).some;
      passed = scan_none _;
      held = held_first _ _ c.args.s _ _ refl (first_a c.before.before) (delta_out_is _ _ (record { sfits = c.delta_out-arg-1.given }) c.delta_out.ensures.0);
      in_small = omega (arith, c.requires.start);
      out_small = omega (arith, c.requires.start);
    }

add_j : tie.Need-overflow_add-j invariant-loop decreases-loop
add_j c = omega (arith, c.loop-qp_in.invariant.within)

returns : tie.Need-returns-then-j-count invariant-loop decreases-loop
returns c = ended _ _ _ _ _ c.loop-qp_in.invariant c.loop-qp_in-test.true c.if-j-count.true

-- there is a next pivot
more_of : (c : tie.Else-j-count invariant-loop decreases-loop) → c.loop-qp_in.j + 1 < c.args.count
more_of c = omega (arith, c.loop-qp_in.invariant.within)

shared_slice_copy_out_delta_in_2 : tie.Need-bounds-a-j invariant-loop decreases-loop
shared_slice_copy_out_delta_in_2 c =
    omega (arith, more_of c, (countable _ _ c.requires.points).most, c.requires.a_long)

add_n : tie.Need-overflow_add-n invariant-loop decreases-loop
add_n c = omega arith

add_qp_in_2 : tie.Need-overflow_add-qp_in-in-loop-qp_in invariant-loop decreases-loop
add_qp_in_2 c = omega (arith, c.loop-qp_in.invariant.in_small)

sub_qp_out : tie.Need-overflow_sub-qp_out invariant-loop decreases-loop
sub_qp_out c = (range _ _ _ _ _ c.loop-qp_in.invariant c.loop-qp_in-test.true).out_least

add_qp_out_2 : tie.Need-overflow_add-qp_out-in-loop-qp_in invariant-loop decreases-loop
add_qp_out_2 c = omega (arith, c.loop-qp_in.invariant.out_small)

shared_slice_copy_out_delta_out_2 : tie.Need-bounds-b-j invariant-loop decreases-loop
shared_slice_copy_out_delta_out_2 c =
    omega (arith, more_of c.before.before, (countable _ _ c.requires.points).most, c.requires.b_long)

add_qp_out_3 : tie.Need-overflow_add-qp_out-in-loop-qp_in-2 invariant-loop decreases-loop
add_qp_out_3 c = omega (arith, c.loop-qp_in.invariant.out_small)

loop_less : tie.Need-loop-qp_in-smaller invariant-loop decreases-loop
loop_less c = omega (arith, c.loop-qp_in.invariant.within)

loop_again : tie.Need-loop-qp_in-preserved invariant-loop decreases-loop
loop_again c =
    let h = more_of c.before.before.before.before in
    let k = countable _ _ c.requires.points in
    next _ _ _ _ _ c.loop-qp_in.invariant c.loop-qp_in-test.true _ _ h
    (delta_in_is _ _ (record { sfits = c.delta_in-arg-in-loop-qp_in-1.given }) (k.not_below _ h) c.delta_in-n.ensures.0)
    c.delta_in-n.ensures.1
    (delta_out_is _ _ (record { sfits = c.delta_out-arg-in-loop-qp_in-1.given }) c.delta_out-in-loop-qp_in.ensures.0)
    c.delta_out-in-loop-qp_in.ensures.1

returns-2 : tie.Need-returns invariant-loop decreases-loop
returns-2 c = failed _ _ _ _ _ c.loop-qp_in.invariant c.loop-qp_in-test.false

pub pivots_ok_spec : {M : Type 1} → statement M
pivots_ok_spec =
    tie.close
    (tie.spec invariant-loop decreases-loop shared_slice_copy_out_delta_in (λ c κs. search rules) add_qp_in shared_slice_copy_out_delta_out (λ c κs. search rules) add_qp_out
    loop_holds add_j returns shared_slice_copy_out_delta_in_2 (λ c κs. search rules) add_n add_qp_in_2 sub_qp_out add_qp_out_2 shared_slice_copy_out_delta_out_2
    (λ c κs. search rules) add_qp_out_3 loop_less loop_again returns-2)
