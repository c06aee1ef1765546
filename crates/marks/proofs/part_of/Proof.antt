-- `marks::part_of` meets its contract: a bit of the part's number moves it by half the side, or not at all. Assumes nothing.
use Prim.Native.Nat.{◌*◌, ◌/◌, ◌%◌, ◌≤◌}
use native.Mathlib.Omega.{arith}
use borrow.Author.Rules.{rules}
use Rattle.split.proofs.Blocks.{at_most_half}
use Rattle.marks.proofs.part_of.Statement.{statement}
use Rattle.marks.proofs.part_of.Tie as tie

-- neither bit moves it further than half the side
column : (s : tie.Start) → s.args.part % 2 * s.args.half ≤ s.args.half
column s = at_most_half (s.args.part % 2) s.args.half (omega arith)

row : (s : tie.Start) → s.args.part / 2 * s.args.half ≤ s.args.half
row s = at_most_half (s.args.part / 2) s.args.half (omega (arith, s.requires.2))

pub part_of_spec : {M : Type 1} → statement M
part_of_spec =
    tie.close
    (tie.spec
    (λ c. omega (arith, column c, row c, c.requires))
    (λ c. omega (arith, column c.before, row c.before, c.requires))
    (λ c. omega (arith, column c.before, row c.before, c.requires))
    (λ c. omega (arith, column c.before.before, row c.before.before, c.requires))
    (λ c. search rules))
