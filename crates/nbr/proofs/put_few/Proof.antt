-- `nbr::put_few` meets its contract: in each branch a unit's samples are as many as the branch says. Assumes nothing.
use Prim.Native.Nat.{ℕ, ◌+◌, ◌*◌}
use mathlib.Core.Path.{◌≡◌, subst}
use native.Mathlib.Omega.{arith}
use borrow.Author.Rules.{rules}
use lib.ListN.{length}
use Rattle.nbr.specs.declared.Arm.{Arm}
use Rattle.nbr.specs.Arms.{Within}
use Rattle.nbr.proofs.Borders.{few_written}
use Rattle.nbr.proofs.put_few.Statement.{statement}
use Rattle.nbr.proofs.put_few.Tie as tie

-- what is read of two units of m samples, and the run's length
module _ (s : tie.Start) (m : ℕ) (e : s.args.border.n ≡ m) where
  read : (a : Arm) → Within a s.args.border.n s.args.plane.now s.args.words.now → Within a m s.args.plane.now s.args.words.now
  read a h = subst (λ (k : ℕ). Within a k s.args.plane.now s.args.words.now) e h

  long : length s.args.run.now ≡ 2 * (2 * m) + 1
  long = rw (s.requires.2, e) at s.requires.1

-- where each branch comes from
abbrev of_four : (c : tie.Then-n-eq4) → tie.Start
of_four c = c.before.before.before.before

abbrev of_two : (c : tie.Else-n-eq4) → tie.Start
of_two c = c.before.before.before.before

-- not 4
two : (c : tie.Else-n-eq4) → (of_two c).args.border.n ≡ 2
two c = (of_two c).requires.0.sizes c.if-n-eq4.false

put_units_requires : tie.Need-put_units-requires
put_units_requires c κs =
    let s = of_four c.before.before in
    (read s 4 c.if-n-eq4.true _ s.requires.0.left_within, omega (arith, long s 4 c.if-n-eq4.true))

put_units_requires_2 : tie.Need-put_units-requires-then-n-eq4
put_units_requires_2 c κs =
    let left = c.put_units.auto.run in
    ((of_four c.before.before.before.before.before.before.before).requires.0.corner_within, omega (arith, long (of_four c.before.before.before.before.before.before.before) 4 c.if-n-eq4.true, left))

put_units_requires_3 : tie.Need-put_units-requires-then-n-eq4-2
put_units_requires_3 c κs =
    let s = of_four c.before.before.before.before.before.before.before.before.before.before.before.before in
    let left = c.put_units.auto.run in
    let corner = c.put_units-then-n-eq4.auto.run in
    (read s 4 c.if-n-eq4.true _ s.requires.0.up_within, omega (arith, long s 4 c.if-n-eq4.true, left, corner))

returns : tie.Need-returns-then-n-eq4
returns c =
    let left = c.put_units.ensures in
    let corner = c.put_units-then-n-eq4.ensures in
    few_written _ _ _ _ _ _ _ _ 4 (of_four c.before.before.before.before.before.before.before.before.before.before.before.before.before.before.before).requires.2 c.if-n-eq4.true left corner c.put_units-then-n-eq4-2.ensures

put_units_requires_4 : tie.Need-put_units-requires-2
put_units_requires_4 c κs =
    let s = of_two c.before.before in
    (read s 2 (two c.before.before) _ s.requires.0.left_within, omega (arith, long s 2 (two c.before.before)))

put_units_requires_5 : tie.Need-put_units-requires-3
put_units_requires_5 c κs =
    let left = c.put_units-2.auto.run in
    ((of_two c.before.before.before.before.before.before.before).requires.0.corner_within, omega (arith, long (of_two c.before.before.before.before.before.before.before) 2 (two c.before.before.before.before.before.before.before), left))

put_units_requires_6 : tie.Need-put_units-requires-4
put_units_requires_6 c κs =
    let s = of_two c.before.before.before.before.before.before.before.before.before.before.before.before in
    let left = c.put_units-2.auto.run in
    let corner = c.put_units-3.auto.run in
    (read s 2 (two c.before.before.before.before.before.before.before.before.before.before.before.before) _ s.requires.0.up_within, omega (arith, long s 2 (two c.before.before.before.before.before.before.before.before.before.before.before.before), left, corner))

returns-2 : tie.Need-returns
returns-2 c =
    let left = c.put_units-2.ensures in
    let corner = c.put_units-3.ensures in
    few_written _ _ _ _ _ _ _ _ 2 (of_two c.before.before.before.before.before.before.before.before.before.before.before.before.before.before.before).requires.2 (two c.before.before.before.before.before.before.before.before.before.before.before.before.before.before.before) left corner c.put_units-4.ensures

pub put_few_spec : {M : Type 1} → statement M
put_few_spec =
    tie.close
    (tie.spec put_units_requires put_units_requires_2 put_units_requires_3 (λ c. search rules) returns put_units_requires_4 put_units_requires_5 put_units_requires_6
    (λ c. search rules) returns-2)
