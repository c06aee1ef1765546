-- `nbr::join_few` meets its contract: in each branch a unit's samples are as many as the branch says. Assumes nothing.
use Prim.Native.Nat.{ℕ, ◌≤◌}
use mathlib.Core.Path.{◌≡◌, subst}
use native.Mathlib.Omega.{arith}
use borrow.Author.Rules.{rules}
use Rattle.nbr.specs.declared.Arm.{Arm}
use Rattle.nbr.specs.Arms.{InPlane}
use Rattle.nbr.proofs.Borders.{few_pass}
use Rattle.nbr.proofs.join_few.Statement.{statement}
use Rattle.nbr.proofs.join_few.Tie as tie

-- what is asked for two units of m samples
module _ (s : tie.Start) (m : ℕ) (e : s.args.border.n ≡ m) where
  asked : (a : Arm) → InPlane a s.args.border.n s.args.plane.now → (m ≤ 4) × (2 ≤ 32) × InPlane a m s.args.plane.now
  asked a h = (omega (arith, s.requires.0.small), omega arith, subst (λ (k : ℕ). InPlane a k s.args.plane.now) e h)

-- not 4
two : (c : tie.Else-n-eq4) → c.args.border.n ≡ 2
two c = c.requires.0.sizes c.if-n-eq4.false

join_near_requires_2 : tie.Need-join_near-requires
join_near_requires_2 c κs = asked c.before.before.before.before.before 4 c.if-n-eq4.true c.args.border.left c.requires.0.left_in

join_near_requires_3 : tie.Need-join_near-requires-then-n-eq4
join_near_requires_3 c κs = asked c.before.before.before.before.before.before.before 4 c.if-n-eq4.true c.args.border.up c.requires.0.up_in

returns : tie.Need-returns-then-n-eq4
returns c =
    let corner = c.join_near-corner in
    let left = c.join_near in
    let up = c.join_near-then-n-eq4 in
    few_pass _ _ left.result corner.result up.result 4 c.requires.1 c.if-n-eq4.true left.ensures corner.ensures up.ensures

join_near_requires_4 : tie.Need-join_near-requires-2
join_near_requires_4 c κs = asked c.before.before.before.before.before 2 (two c.before) c.args.border.left c.requires.0.left_in

join_near_requires_5 : tie.Need-join_near-requires-3
join_near_requires_5 c κs = asked c.before.before.before.before.before.before.before 2 (two c.before.before.before) c.args.border.up c.requires.0.up_in

returns-2 : tie.Need-returns
returns-2 c =
    let corner = c.join_near-corner in
    let left = c.join_near-2 in
    let up = c.join_near-3 in
    few_pass _ _ left.result corner.result up.result 2 c.requires.1 (two c.before.before.before.before) left.ensures corner.ensures up.ensures

pub join_few_spec : {M : Type 1} → statement M
join_few_spec =
    tie.close (tie.spec (λ c κs. search rules) join_near_requires_2 join_near_requires_3 returns join_near_requires_4 join_near_requires_5 returns-2)
