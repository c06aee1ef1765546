-- `def::block_ok` meets its contract: each early answer is one test that fails, and the last line has the others. Assumes nothing.
use Prim.Native.Nat.{ℕ, ◌+◌, ◌-◌, ◌≤◌, ◌<◌}
use mathlib.Core.Path.{◌≡◌, sym, ◌∙◌}
use mathlib.Core.Bool.{true, false, ◌&&◌}
use native.Mathlib.Omega.{arith}
use lib.Bits.{bit_and}
use lib.Dec.{leb, eqb}
use borrow.Author.Rules.{rules}
use borrow.Author.Tests.{lt-leb}
use Rattle.laws.proofs.Calls.{all_fails}
use Rattle.def.specs.Blocks.{block_side_ok, block_ok, block_tests}
use Rattle.def.proofs.Blocks.{block_side, below_side, ends_inside}
use Rattle.def.proofs.block_ok.Statement.{statement}
use Rattle.def.proofs.block_ok.Tie as tie

module _ (w h x y side : ℕ) where
  no_side : block_side_ok side ≡ false → false ≡ block_ok w h x y side
  unfolding block_ok
  no_side e = sym (all_fails (block_tests w h x y side) 0 e)

  too_wide : w < side → false ≡ block_ok w h x y side
  unfolding block_ok
  too_wide p = sym (all_fails (block_tests w h x y side) 3 (lt-leb (x + side) w (omega arith)))

  too_high : h < side → false ≡ block_ok w h x y side
  unfolding block_ok
  too_high p = sym (all_fails (block_tests w h x y side) 4 (lt-leb (y + side) h (omega arith)))

  rest : block_side_ok side ≡ true → side ≤ w → side ≤ h → (eqb (bit_and x (side - 1)) 0 && eqb (bit_and y (side - 1)) 0 && leb x (w - side) && leb y (h - side)) ≡ block_ok w h x y side
  unfolding block_ok
  rest e p q = rw (e, below_side x side e, below_side y side e, ends_inside x side w p, ends_inside y side h q)

-- a side that passed
side_at : (c : tie.Else-not-block_side_ok) → block_side_ok c.args.side ≡ true
side_at c = sym c.block_side_ok.ensures ∙ c.if-not-block_side_ok.false

returns : tie.Need-returns-then-not-block_side_ok
returns c = no_side _ _ _ _ _ (sym c.block_side_ok.ensures ∙ c.if-not-block_side_ok.true)

returns-2 : tie.Need-returns-then-w-side
returns-2 c = too_wide _ _ _ _ _ (omega arith)

returns-3 : tie.Need-returns-then-h-side
returns-3 c = too_high _ _ _ _ _ (omega arith)

sub_low : tie.Need-overflow_sub-low
sub_low c = omega (arith, (block_side _ (side_at c.before.before)).least)

returns-4 : tie.Need-returns
returns-4 c = rest _ _ _ _ _ (side_at c.before.before.before.before.before.before) (omega arith) (omega arith)

pub block_ok_spec : {M : Type 1} → statement M
block_ok_spec =
    tie.close (tie.spec (λ c κs. search rules) returns returns-2 returns-3 sub_low returns-4)
