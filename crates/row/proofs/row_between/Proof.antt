-- `row::row_between` meets its contract: intra, luma-coded, or by motion; and by motion it is 3 for units that move alike. Assumes nothing.
use mathlib.Core.Path.{◌≡◌}
use native.Mathlib.Omega.{arith}
use borrow.Author.Rules.{rules}
use Prim.Native.Nat.{ℕ}
use Rattle.line.specs.Row.{motion_row}
use Rattle.line.proofs.Rows.{either_intra, either_coded, by_motion}
use Rattle.df_rules.specs.Strength.{motion_at, row_by}
use Rattle.row.proofs.Units.{alike}
use Rattle.row.proofs.row_between.Statement.{statement}
use Rattle.row.proofs.row_between.Tie as tie

returns : tie.Need-returns-then-get_if
unfolding row_by
returns c = (either_intra _ _ _ _ _ _ c.get_if.ensures c.get_if-2.ensures c.if-get_if.true, omega arith)

returns-2 : tie.Need-returns-then-get_cbfl
unfolding row_by
returns-2 c = (
  either_coded _ _ _ _ _ _ _ _ c.get_if.ensures c.get_if-2.ensures
      c.if-get_if.false c.get_cbfl.ensures c.get_cbfl-2.ensures c.if-get_cbfl.true,
  omega arith,
)

-- a row by motion, where neither unit is intra or luma-coded
moved : (c : tie.Else-get_cbfl) (r : ℕ) →
    let a = c.args in
    r ≡ motion_row (motion_at a.motion.now a.refs.now a.q) (motion_at a.motion.now a.refs.now a.p) →
    r ≡ row_by a.words.now a.motion.now a.refs.now a.q a.p
unfolding row_by
moved c r row =
    by_motion _ _ _ _ _ _ _ _ _ c.get_if.ensures c.get_if-2.ensures c.if-get_if.false
    c.get_cbfl.ensures c.get_cbfl-2.ensures c.if-get_cbfl.false row

returns-3 : tie.Need-returns-then-not-same_refs
returns-3 c = (moved c.before.before.before _ c.by_motion.ensures.0, c.by_motion.ensures.1)

returns-4 : tie.Need-returns-then-same_motion
returns-4 c = (
  moved c.before.before.before.before _
      (alike _ _ _ _ _ _ c.same_refs.ensures c.if-not-same_refs.false c.same_motion.ensures c.if-same_motion.true),
  omega arith,
)

returns-5 : tie.Need-returns
returns-5 c = (moved c.before.before.before.before.before _ c.by_motion-2.ensures.0, c.by_motion-2.ensures.1)

pub row_between_spec : {M : Type 1} → statement M
row_between_spec =
    tie.close
    (tie.spec (λ c. search rules) (λ c. search rules) (λ c. search rules) (λ c. search rules) (λ c κs. search rules) (λ c κs. search rules) returns (λ c κs. search rules)
    (λ c κs. search rules) returns-2 (λ c κs. search rules) (λ c κs. search rules) returns-3 (λ c κs. search rules) returns-4 (λ c κs. search rules) returns-5)
