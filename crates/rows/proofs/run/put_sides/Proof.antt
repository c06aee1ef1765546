-- `rows::run::put_sides` meets its contract: the rows of the left edges and those of the top edges, joined. Assumes nothing.
use Prim.Native.Nat.{ℕ, ◌+◌, ◌-◌, ◌<◌}
use mathlib.Core.Path.{◌≡◌, ◌∙◌}
use native.Mathlib.Omega.{arith}
use borrow.Author.Rules.{rules}
use lib.ListN.{get_or, replicate}
use Rattle.split.specs.Edges.{vertical, horizontal}
use Rattle.df_rules.specs.Strength.{row_by}
use Rattle.rows_rules.specs.Rule.{edge_row}
use Rattle.rows_rules.specs.Runs.{FirstOf}
use Rattle.rows_rules.proofs.Runs.{left_row, top_row, runs_there, first_rows, long_cleared, joined}
use Rattle.rows_rules.proofs.Sides.{edge_few}
use Rattle.rows.proofs.run.put_sides.Statement.{statement}
use Rattle.rows.proofs.run.put_sides.Tie as tie

-- both calls find their runs in the maps
lefts : (c : tie.After-clear_first) →
    let a = c.args in
    FirstOf (λ (j : ℕ). row_by a.words.now a.motion.now a.refs.now (a.k + j) (a.k - 1 + j)) a.n (replicate 128 0)
    c.rows_at.new.rows
lefts c =
    let a = c.args in
    let p = c.requires in
    first_rows a.words.now a.motion.now a.refs.now a.columns a.k (a.k - 1) a.n _ _
    (runs_there a.words.now a.motion.now a.refs.now a.columns p.0 128 a.k (a.k - 1) a.n p.1.inside (omega (arith, p.1.inside)) p.3)
    c.rows_at.ensures.1 p.3

tops : (c : tie.After-clear_first) →
    let a = c.args in
    FirstOf (λ (j : ℕ). row_by a.words.now a.motion.now a.refs.now (a.k + j) (a.k - a.columns + j)) a.n (replicate 128 0)
    c.rows_at-2.new.rows
tops c =
    let a = c.args in
    let p = c.requires in
    first_rows a.words.now a.motion.now a.refs.now a.columns a.k (a.k - a.columns) a.n _ _
    (runs_there a.words.now a.motion.now a.refs.now a.columns p.0 128 a.k (a.k - a.columns) a.n p.1.inside (omega (arith, p.1.inside, p.2)) p.3)
    c.rows_at-2.ensures.1 p.3

left_rows : (c : tie.After-clear_first) →
    let a = c.args in
    (j : ℕ) → j < a.n → get_or c.clear_first.new.left j 0 ≡ edge_row a.words.now a.motion.now a.refs.now a.columns vertical (a.k + j)
left_rows c =
    let a = c.args in
    let p = c.requires in
    let u = lefts c in
    left_row a.words.now a.motion.now a.refs.now a.columns a.x.0 a.k a.n p.0.some p.1 p.2 _ _ _ u (omega (arith, u.long)) c.clear_first.ensures

top_rows : (c : tie.After-clear_first) →
    let a = c.args in
    (j : ℕ) → j < a.n → get_or c.rows_at-2.new.rows j 0 ≡ edge_row a.words.now a.motion.now a.refs.now a.columns horizontal (a.k + j)
top_rows c =
    let a = c.args in
    let p = c.requires in
    top_row a.words.now a.motion.now a.refs.now a.columns a.x.0 a.k a.n p.0.some p.1 p.2 _ _ (tops c)

put_joined_requires : tie.Need-put_joined-requires
put_joined_requires c κs =
    let a = c.args in
    let p = c.requires in
    let few = edge_few a.words.now a.motion.now a.refs.now a.columns in (
      omega (arith, p.3, long_cleared a.x.0 c.rows_at.new.rows c.clear_first.new.left c.clear_first.ensures, (lefts c.before.before.before.before).long),
      omega (arith, p.3, (tops c.before.before.before.before).long),
      p.4,
      (λ j h. omega (arith, left_rows c.before.before.before.before j h, few vertical (a.k + j))),
      (λ j h. omega (arith, top_rows c.before.before.before.before j h, few horizontal (a.k + j))),
    )

returns : tie.Need-returns
returns c =
    let u = c.put_joined.ensures in
    let a = c.args in
    record { long = u.long; at = λ j h. u.at j h ∙ joined a.words.now a.motion.now a.refs.now a.columns (a.k + j) _ _ (left_rows c.before.before.before.before.before.before.before j h) (top_rows c.before.before.before.before.before.before.before j h) }

pub put_sides_spec : {M : Type 1} → statement M
put_sides_spec =
    tie.close
    (tie.spec (λ c. search rules) (λ c. search rules) (λ c κs. search rules) (λ c. search rules) (λ c. search rules) (λ c κs. search rules) (λ c. search rules) (λ c κs. search rules)
    (λ c. search rules) (λ c. search rules) put_joined_requires (λ c. search rules) returns)
