-- `sheet::print_edges` meets its contract: the buffers are as long as the call asks. Assumes nothing.
use Prim.Native.Nat.{ℕ, ◌*◌, ◌/◌, ◌≤◌}
use mathlib.Core.Path.{sym}
use native.Mathlib.Nat.{mul-le-mul_right}
use native.Mathlib.Omega.{arith}
use borrow.Author.Rules.{rules}
use lib.Seq.{length-take-le}
use Rattle.sheet.specs.Taken.{Sides}
use Rattle.sheet.proofs.print_edges.Statement.{statement}
use Rattle.sheet.proofs.print_edges.Tie as tie

-- a picture's units, twice, fit the room
twice : (w h : ℕ) → Sides w h → 2 * (w / 4 * (h / 4)) ≤ 8192
twice w h s = omega (arith, mul-le-mul_right {m = w / 4} {n = 64} (h / 4) (omega (arith, s.wide)), s.high)

mul_n : tie.Need-overflow_mul-n
mul_n c = omega (arith, twice _ _ c.requires.0.sides)

mul_n_2 : tie.Need-overflow_mul-n-2
mul_n_2 c = omega (arith, twice _ _ c.requires.0.sides)

lend_vertical : tie.Need-slice_bounds-vertical-end
lend_vertical c = omega (arith, twice _ _ c.requires.0.sides, c.numbers_room-vertical.ensures)

count_vertical : tie.Need-slice_bounds-print_lists-end
count_vertical c = sym (length-take-le _ _ (lend_vertical c.before))

lend_horizontal : tie.Need-slice_bounds-horizontal-end
lend_horizontal c = omega (arith, twice _ _ c.requires.0.sides, c.numbers_room-horizontal.ensures)

count_horizontal : tie.Need-slice_bounds-print_lists-end-2
count_horizontal c = sym (length-take-le _ _ (lend_horizontal c.before))

print_lists_requires : tie.Need-print_lists-requires
print_lists_requires c κs =
    (c.requires.0, length-take-le _ _ (lend_vertical c.before.before.before), length-take-le _ _ (lend_horizontal c.before.before), c.requires.1)

pub print_edges_spec : {M : Type 1} → statement M
print_edges_spec =
    tie.close
    (tie.spec
    mul_n
    mul_n_2
    (λ c κs. search rules)
    (λ c κs. search rules)
    lend_vertical
    count_vertical
    lend_horizontal
    count_horizontal
    print_lists_requires
    (λ c. search rules)
    (λ c. search rules))
