-- `df::by_rows::deblock_by_rows` meets its contract: nothing is written before all checks passed, and then both passes follow, by a map that is right. Assumes nothing.
use Rattle.std.specs.Prelude.{Ok}
use mathlib.Core.Path.{◌≡◌, refl, sym, ap, ◌∙◌}
use lib.ListN.{length}
use Rattle.std.proofs.lemmas.Result.{err_from_is_err_and}
use Rattle.bands_rules.proofs.Whole.{both_zero, lent_zero}
use Rattle.by_rows_check.proofs.Ladder.{picture_fine, rows_fine}
use Rattle.df.specs.ByRows.{Input, checked, check}
use Rattle.df.proofs.ByRows.{by_refused, same_outcome}
use Rattle.df.proofs.Calls.{accepted, lent_picture, deblock_done}
use Rattle.df.proofs.Entries.{entries_long}
use Rattle.df.proofs.by_rows.deblock_by_rows.Goals as goal

pub returns-in_err-checked_by_rows : goal.returns-in_err-checked_by_rows
returns-in_err-checked_by_rows c =
    let p = err_from_is_err_and c.from_residual.result c.from_residual.ensures.1 in
    rw (p.1, p.2) (by_refused _ _ _ c.checked_by_rows.ensures c.in_err-checked_by_rows.was)

pub passes_by-requires : goal.passes_by-requires
passes_by-requires c =
    let a = c.args in
    let i : Input = record {
      given = record {
        w = a.w;
        h = a.h;
        y = a.y.now;
        u = a.u.now;
        v = a.v.now;
        words = a.words.now;
        splits = a.splits.now;
        motion = a.motion.now;
        refs = a.refs.now;
        keep = a.keep.now;
        table0 = a.table0.now;
        table1 = a.table1.now;
        strengths = a.strengths.now;
        settings = a.settings;
      };
      rows = a.rows.now;
    } in
    let e : check i ≡ Ok tt = sym c.checked_by_rows.ensures ∙ c.in_ok-checked_by_rows.was in
    let f = picture_fine (checked i) e in
    let t = ap length c.entries_by-table.ensures ∙ entries_long _ _ _ _ _ _ in
    (lent_zero (lent_picture i.given f _ t), accepted i.given f, rows_fine (checked i) e)

pub returns : goal.returns
returns c =
    let a = c.args in
    let i : Input = record {
      given = record {
        w = a.w;
        h = a.h;
        y = a.y.now;
        u = a.u.now;
        v = a.v.now;
        words = a.words.now;
        splits = a.splits.now;
        motion = a.motion.now;
        refs = a.refs.now;
        keep = a.keep.now;
        table0 = a.table0.now;
        table1 = a.table1.now;
        strengths = a.strengths.now;
        settings = a.settings;
      };
      rows = a.rows.now;
    } in
    let e : check i ≡ Ok tt = sym c.checked_by_rows.ensures ∙ c.in_ok-checked_by_rows.was in
    deblock_done i.given (picture_fine (checked i) e) _ _ _ _ _ _ _
    c.entries_by-table.ensures
    (both_zero _ _ _ c.passes_by.ensures)
    refl
    ∙ same_outcome i e
