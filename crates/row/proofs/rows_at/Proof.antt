-- `row::rows_at` meets its contract: false and nothing written where a test of the numbers fails, and else the rows of a run. Assumes nothing.
use mathlib.Core.Path.{sym, ◌∙◌}
use native.Mathlib.Omega.{arith}
use borrow.Author.Rules.{rules}
use Rattle.row.proofs.Runs.{run_there, no_room, none_at_q, none_at_p, all_there, put_none, put_all}
use Rattle.row.proofs.rows_at.Statement.{statement}
use Rattle.row.proofs.rows_at.Tie as tie

returns : tie.Need-returns-then-rows-n
returns c = let e = no_room _ _ _ _ _ _ _ c.if-rows-n.true in (e, put_none _ _ _ _ _ _ _ e)

returns-2 : tie.Need-returns-then-not-run_in_maps
returns-2 c = let e = none_at_q _ _ _ _ _ _ _ (sym c.run_in_maps.ensures ∙ c.if-not-run_in_maps.true) in (e, put_none _ _ _ _ _ _ _ e)

returns-3 : tie.Need-returns-then-not-run_in_maps-2
returns-3 c = let e = none_at_p _ _ _ _ _ _ _ (sym c.run_in_maps-2.ensures ∙ c.if-not-run_in_maps-2.true) in (e, put_none _ _ _ _ _ _ _ e)

put_rows_requires : tie.Need-put_rows-requires
put_rows_requires c κs = (
  run_there _ _ _ _ _ (sym c.run_in_maps.ensures ∙ c.if-not-run_in_maps.false),
  run_there _ _ _ _ _ (sym c.run_in_maps-2.ensures ∙ c.if-not-run_in_maps-2.false),
  omega (arith, c.if-rows-n.false),
)

returns-4 : tie.Need-returns
returns-4 c =
    let e =
    all_there _ _ _ _ _ _ _ c.if-rows-n.false (sym c.run_in_maps.ensures ∙ c.if-not-run_in_maps.false)
    (sym c.run_in_maps-2.ensures ∙ c.if-not-run_in_maps-2.false) in
    (e, c.put_rows.ensures ∙ put_all _ _ _ _ _ _ _ e)

pub rows_at_spec : {M : Type 1} → statement M
rows_at_spec = tie.close (tie.spec returns (λ c κs. search rules) returns-2 (λ c κs. search rules) returns-3 put_rows_requires (λ c. search rules) returns-4)
