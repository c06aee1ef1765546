-- `split::check` meets its contract: 1, 2, and then what the walk of the picture finds. Assumes nothing.
use Rattle.std.specs.Prelude.{Err}
use mathlib.Core.Path.{sym, ap, ◌∙◌}
use Prim.Native.Nat.{ℕ, ◌*◌}
use borrow.Author.Rules.{rules}
use borrow.Author.Tests.{eq-eqb, ne_eqb}
use Rattle.def.proofs.Sizes.{sized}
use Rattle.def.specs.declared.Refusal.TheVariants.{Size, Length}
use Rattle.laws.proofs.Calls.{stops, goes_on, at_refusal, past_refusal}
use Rattle.split.specs.CheckCall as check-call
use Rattle.split.proofs.Outcomes.{check_gives}
use Rattle.split.proofs.check.Statement.{statement}
use Rattle.split.proofs.check.Tie as tie

returns : tie.Need-returns-then-not-size_ok
unfolding check-call.check
returns c = check_gives _ (Err Size) (stops _ _ _ _ c.size_ok.ensures c.if-not-size_ok.true-raw)

root_count_requires : tie.Need-root_count-requires
root_count_requires c κs = let z = sized _ _ (sym c.size_ok.ensures ∙ c.if-not-size_ok.false) in (z.wide, z.high)

returns-2 : tie.Need-returns-then-splits-root_count
unfolding check-call.check
returns-2 c =
    check_gives _ (Err Length)
    (goes_on _ _ _ _ _ c.size_ok.ensures c.if-not-size_ok.false-raw
    (at_refusal _ _ _ (ne_eqb _ _ (λ e. c.if-splits-root_count.true (e ∙ ap (λ (n : ℕ). 1024 * n) (sym c.root_count.ensures.0))))))

walk_picture_requires : tie.Need-walk_picture-requires
walk_picture_requires c κs =
    (sized _ _ (sym c.size_ok.ensures ∙ c.if-not-size_ok.false), c.if-splits-root_count.false ∙ ap (λ (n : ℕ). 1024 * n) c.root_count.ensures.0)

returns-3 : tie.Need-returns
unfolding check-call.check
returns-3 c =
    check_gives _ c.walk_picture.result
    (goes_on _ _ _ _ _ c.size_ok.ensures c.if-not-size_ok.false-raw
    (past_refusal _ _ _ _ (eq-eqb _ _ (c.if-splits-root_count.false ∙ ap (λ (n : ℕ). 1024 * n) c.root_count.ensures.0)) c.walk_picture.ensures))

pub check_spec : {M : Type 1} → statement M
check_spec =
    tie.close
    (tie.spec
    (λ c κs. search rules)
    returns
    root_count_requires
    (λ c. search rules)
    returns-2
    walk_picture_requires
    returns-3)
