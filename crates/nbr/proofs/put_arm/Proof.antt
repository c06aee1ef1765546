-- `nbr::put_arm` meets its contract: in each branch a unit's samples are as many as the branch says. Assumes nothing.
use Prim.Native.Nat.{ℕ, ◌+◌, ◌*◌, ◌≤◌}
use mathlib.Core.Path.{◌≡◌, sym}
use mathlib.Core.List.{List}
use borrow.Author.Rules.{rules}
use lib.ListN.{length}
use Rattle.laws.specs.Plane.{with_row}
use Rattle.nbr.specs.Arms.{arm_at, Within}
use Rattle.nbr.proofs.put_arm.Statement.{statement}
use Rattle.nbr.proofs.put_arm.Tie as tie

-- what is asked for units of k samples, and what they then are
module _ (s : tie.Start) (k : ℕ) (e : s.args.n ≡ k) where
  asked : Within s.args.arm k s.args.plane.now s.args.words.now × (s.args.to + s.args.units * k ≤ length s.args.run.now)
  asked = rw (sym e) (s.requires.0, s.requires.1)

  abbrev after : ℕ → List ℕ
  after n = let a = s.args in with_row 0 a.to (a.units * n) (arm_at a.arm n a.constrained a.plane.now a.words.now) a.run.now

  put : (l : List ℕ) → l ≡ after k → l ≡ after s.args.n
  put l h = rw e h

-- not 4
two : (c : tie.Else-n-eq4) → c.args.n ≡ 2
two c = c.requires.2 c.if-n-eq4.false

put_units_requires : tie.Need-put_units-requires
put_units_requires c κs = asked c.before.before.before.before.before 4 c.if-n-eq4.true

put_units_requires_2 : tie.Need-put_units-requires-else-n-eq4
put_units_requires_2 c κs = asked c.before.before.before.before.before 2 (two c.before)

returns : tie.Need-returns-then-n-eq4
returns c = put c.before.before.before.before.before.before.before.before 4 c.if-n-eq4.true _ c.put_units.ensures

returns-2 : tie.Need-returns-else-n-eq4
returns-2 c = put c.before.before.before.before.before.before.before.before 2 (two c.before.before.before.before) _ c.put_units-else-n-eq4.ensures

pub put_arm_spec : {M : Type 1} → statement M
put_arm_spec = tie.close (tie.spec put_units_requires put_units_requires_2 (λ c. search rules) returns (λ c. search rules) returns-2)
