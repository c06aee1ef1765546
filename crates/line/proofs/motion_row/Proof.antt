-- `line::motion_row` meets its contract: the row is that of the references, in place and crosswise, and of P's components so taken. Assumes nothing.
use Prim.Native.Nat.{ℕ}
use mathlib.Core.Path.{◌≡◌, ap, ◌∙◌}
use mathlib.Core.Bool.{Bool, not, ◌&&◌, ◌||◌}
use native.Mathlib.Omega.{arith}
use borrow.Author.Rules.{rules}
use Rattle.laws.specs.Index.{pick}
use Rattle.line.specs.Row.{same_refs, any_far, motion_row}
use Rattle.line.proofs.Rows.{by_tests}
use Rattle.line.proofs.motion_row.Statement.{statement}
use Rattle.line.proofs.motion_row.Tie as tie

-- the row, of what the tests joined are
row : (c : tie.After-any_far-near) (near : Bool) → ((c.same_refs-straight.result || c.same_refs-across.result) && not c.any_far-near.result) ≡ near
    → pick {A = ℕ} near 3 2 ≡ motion_row c.args.q c.args.p
row c near e =
    let q = c.args.q in
    by_tests q c.args.p _ _ _ near c.same_refs-straight.ensures
    (c.same_refs-across.ensures ∙ ap (same_refs q) c.crossed.ensures)
    (c.any_far-near.ensures ∙ ap (any_far q) c.facing.ensures) e

returns : tie.Need-returns-then-straight-across
returns c = (row c.before _ c.if-straight-across.true, omega arith)

returns-2 : tie.Need-returns-else-straight-across
returns-2 c = (row c.before _ c.if-straight-across.false, omega arith)

pub motion_row_spec : {M : Type 1} → statement M
motion_row_spec =
    tie.close
    (tie.spec (λ c κs. search rules) (λ c κs. search rules) (λ c κs. search rules) (λ c κs. search rules) (λ c κs. search rules) returns returns-2)
