-- `rows::rows_right` meets its contract: maps that do not fit the picture have no right map, and else every byte is tested. Assumes nothing.
use mathlib.Core.Path.{sym, ◌∙◌}
use borrow.Author.Rules.{rules}
use Rattle.rows_rules.proofs.Calls.{maps_accepted, right_refused, right_done_lem}
use Rattle.rows.proofs.rows_right.Statement.{statement}
use Rattle.rows.proofs.rows_right.Tie as tie

returns : tie.Need-returns-in-Err
returns c = right_refused _ _ _ _ _ _ _ _ c.checked_maps.ensures c.in-Err.is

all_right_requires : tie.Need-all_right-requires
all_right_requires c κs =
    let s = c.args in
    let a = maps_accepted s.w s.h s.words.now s.motion.now s.refs.now s.rows.now (sym c.checked_maps.ensures ∙ c.in-Ok.is) in
    (a.lent, a.rows_long)

returns-2 : tie.Need-returns-in-Ok
returns-2 c =
    c.all_right.ensures ∙ right_done_lem _ _ _ _ _ _ _ c.checked_maps.ensures c.in-Ok.is

pub rows_right_spec : {M : Type 1} → statement M
rows_right_spec = tie.close (tie.spec (λ c κs. search rules) (λ c. search rules) (λ c. search rules) all_right_requires returns returns-2)
