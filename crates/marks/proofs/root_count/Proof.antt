-- `marks::root_count` meets its contract. Assumes nothing.
use mathlib.Core.Path.{sym, ap, ◌∙◌}
use borrow.Author.Rules.{rules}
use mathlib.Core.Bool.{Bool}
use Rattle.def.specs.Picture.{root_count}
use Rattle.def.proofs.Sizes.{sized}
use Rattle.laws.specs.Index.{pick}
use Rattle.marks.proofs.root_count.Statement.{statement}
use Rattle.marks.proofs.root_count.Tie as tie

returns : tie.Need-returns-then-not-size_ok
returns c = ap (λ (t : Bool). pick t (root_count c.args.w c.args.h) 0) (sym (sym c.size_ok.ensures ∙ c.if-not-size_ok.true))

returns-2 : tie.Need-returns
returns-2 c =
    c.roots_in.ensures.0
    ∙ ap (λ (t : Bool). pick t (root_count c.args.w c.args.h) 0)
    (sym (sym c.size_ok.ensures ∙ c.if-not-size_ok.false))

pub root_count_spec : {M : Type 1} → statement M
root_count_spec =
    tie.close
    (tie.spec
    (λ c κs. search rules)
    returns
    (λ c κs. sized _ _ (sym c.size_ok.ensures ∙ c.if-not-size_ok.false))
    returns-2)
