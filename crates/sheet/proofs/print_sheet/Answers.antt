-- A malformed line, or digits that follow five good lines. Assumes nothing.
use Rattle.std.proofs.Common.{List, ℕ, ◌-◌, ◌≤◌, ◌∙◌, sym, arith, length, take}
use lib.ListN.{length-take}
use Rattle.sheet_lines.proofs.Answers.{answer_is, whole_sheet_lem, bad_line}
use Rattle.sheet.proofs.Founds.{good_sheet, bad_sheet}
use Rattle.sheet.proofs.Puts.{starts_as}
use Rattle.sheet.proofs.print_sheet.Goals as goal

-- the digits end among the first 4,096 bytes
few : (from to : ℕ) (l : List ℕ) → to ≤ 4096 → length (take (to - from) l) ≤ 4096
few from to l h = omega (arith, length-take (to - from) l)

pub put_refusal-requires : goal.put_refusal-requires
put_refusal-requires c =
    let m = bad_line _ _ (sym (answer_is _ _ c.read.ensures) ∙ c.in-Err.is) in
    (omega (arith, m.small), omega (arith, c.requires))

pub slice_bounds-print_digits-count : goal.slice_bounds-print_digits-count
slice_bounds-print_digits-count c = (whole_sheet_lem _ _ (sym (answer_is _ _ c.read.ensures) ∙ c.in-Ok.is)).ordered

pub slice_bounds-print_digits-start : goal.slice_bounds-print_digits-start
slice_bounds-print_digits-start c = (whole_sheet_lem _ _ (sym (answer_is _ _ c.read.ensures) ∙ c.in-Ok.is)).ordered

pub slice_bounds-print_digits-end : goal.slice_bounds-print_digits-end
slice_bounds-print_digits-end c = (whole_sheet_lem _ _ (sym (answer_is _ _ c.read.ensures) ∙ c.in-Ok.is)).inside

pub print_digits-requires : goal.print_digits-requires
print_digits-requires c =
    let u = whole_sheet_lem _ _ (sym (answer_is _ _ c.read.ensures) ∙ c.in-Ok.is) in
    (u.two, few _ _ _ u.short, c.requires)

pub returns-in-Err : goal.returns-in-Err
returns-in-Err c =
    starts_as (bad_sheet _ _ (bad_line _ _ (sym (answer_is _ _ c.read.ensures) ∙ c.in-Err.is))) c.put_refusal.ensures

pub returns-in-Ok : goal.returns-in-Ok
returns-in-Ok c =
    starts_as (good_sheet _ _ _ _ _ _ _ (whole_sheet_lem _ _ (sym (answer_is _ _ c.read.ensures) ∙ c.in-Ok.is))) c.print_digits.ensures
