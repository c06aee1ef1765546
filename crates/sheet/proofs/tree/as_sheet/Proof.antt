-- `sheet::tree::as_sheet` meets its contract. Assumes nothing.
use mathlib.Core.Bool.{Bool}
use mathlib.Core.Path.{sym, ap, ◌∙◌}
use borrow.Author.Rules.{rules}
use borrow.Author.Tests.{eq-eqb, ne_eqb}
use Rattle.def.specs.Refusals.{number_of}
use Rattle.def.specs.declared.Refusal.TheVariants.{Sheet}
use Rattle.laws.specs.Index.{pick}
use Rattle.sheet.proofs.tree.as_sheet.Statement.{statement}
use Rattle.sheet.proofs.tree.as_sheet.Tie as tie

returns : tie.Need-returns-then-refusal_number-eq16
returns c =
    let r = c.args.r in
    sym (ap (λ (b : Bool). pick b Sheet r) (eq-eqb (number_of r) 16 (sym c.refusal_number.ensures ∙ c.if-refusal_number-eq16.true)))

returns-2 : tie.Need-returns
returns-2 c =
    let r = c.args.r in
    sym (ap (λ (b : Bool). pick b Sheet r) (ne_eqb (number_of r) 16 (λ e. c.if-refusal_number-eq16.false (c.refusal_number.ensures ∙ e))))

pub as_sheet_spec : {M : Type 1} → statement M
as_sheet_spec = tie.close (tie.spec (λ c κs. search rules) returns returns-2)
