-- `by_rows_check::checked_by_rows` meets its contract: a row of checks, those of `df_check` among them. Assumes nothing.
use mathlib.Core.Bool.{not}
use mathlib.Core.Path.{sym, ap, ◌∙◌}
use Rattle.std.proofs.lemmas.Result.{err_from_is_err_and}
use Rattle.def.proofs.Sizes.{sized}
use Rattle.by_rows_check.proofs.Ladder.{no_size, no_length, no_picture, none_lent, wrong_map, right_map}
use Rattle.by_rows_check.proofs.checked_by_rows.Goals as goal

pub returns-then-not-size_ok : goal.returns-then-not-size_ok
returns-then-not-size_ok c = no_size _ _ c.size_ok.ensures (ap not c.if-not-size_ok.true)

pub rows_length_ok-requires : goal.rows_length_ok-requires
rows_length_ok-requires c =
    let s = sized _ _ (sym c.size_ok.ensures ∙ c.if-not-size_ok.false) in
    (s.wide, s.high)

pub returns-then-not-rows_length_ok : goal.returns-then-not-rows_length_ok
returns-then-not-rows_length_ok c =
    no_length _ _ _ c.size_ok.ensures (ap not c.if-not-size_ok.false) c.rows_length_ok.ensures (ap not c.if-not-rows_length_ok.true)

pub returns-in_err-passed : goal.returns-in_err-passed
returns-in_err-passed c =
    let p = err_from_is_err_and c.from_residual.result c.from_residual.ensures.1 in
    rw (p.1, p.2)
    (no_picture _ _ _ c.size_ok.ensures (ap not c.if-not-size_ok.false) c.rows_length_ok.ensures (ap not c.if-not-rows_length_ok.false)
    _ _ c.checked.ensures c.in_err-passed.was)

pub returns-then-rows-eq0 : goal.returns-then-rows-eq0
returns-then-rows-eq0 c =
    none_lent _ _ _ c.size_ok.ensures (ap not c.if-not-size_ok.false) c.rows_length_ok.ensures (ap not c.if-not-rows_length_ok.false)
    _ c.checked.ensures c.in_ok-passed.was c.if-rows-eq0.true

pub returns-then-not-rows_right : goal.returns-then-not-rows_right
returns-then-not-rows_right c =
    wrong_map _ _ _ c.size_ok.ensures (ap not c.if-not-size_ok.false) c.rows_length_ok.ensures (ap not c.if-not-rows_length_ok.false)
    _ c.checked.ensures c.in_ok-passed.was _ c.if-rows-eq0.false c.rows_right.ensures (ap not c.if-not-rows_right.true)

pub returns : goal.returns
returns c =
    right_map _ _ _ c.size_ok.ensures (ap not c.if-not-size_ok.false) c.rows_length_ok.ensures (ap not c.if-not-rows_length_ok.false)
    _ c.checked.ensures c.in_ok-passed.was _ c.rows_right.ensures (ap not c.if-not-rows_right.false)
