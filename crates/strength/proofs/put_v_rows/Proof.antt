-- `strength::put_v_rows` meets its contract: at the same QPs both planes' rows are the same. Assumes nothing.
use Prim.Native.Nat.{ℕ, ◌+◌, ◌*◌, ◌/◌, ◌%◌, ◌<◌}
use mathlib.Core.Path.{◌≡◌, ap, ◌∙◌}
use native.Mathlib.Omega.{arith}
use borrow.Author.Rules.{rules}
use lib.ListN.{get_or}
use Rattle.laws.proofs.Whole.{row_same}
use Rattle.strength.specs.Entries.{rows_by}
use Rattle.strength.proofs.put_v_rows.Statement.{statement}
use Rattle.strength.proofs.put_v_rows.Tie as tie

returns : tie.Need-returns-then-same_qps
returns c =
    let l = c.args.list.now in
    let q = c.same_qps.ensures c.if-same_qps.true in
    let same : (j : ℕ) → j < 208 → get_or l (208 + j) 0 ≡ rows_by l c.args.v.now j =
    λ j h. c.requires.2 j h ∙ ap (λ (x : ℕ). get_or l (52 * (j / 52) + x) 0) (q (j % 52) (omega arith)) in
    c.put_again.ensures ∙ row_same 0 416 208 (λ (i : ℕ). get_or l (208 + i) 0) (rows_by l c.args.v.now) l same

pub put_v_rows_spec : {M : Type 1} → statement M
put_v_rows_spec =
    tie.close
    (tie.spec (λ c κs. search rules) (λ c κs. search rules) (λ c. search rules) returns
    (λ c κs. search rules) (λ c. search rules) (λ c. search rules))
