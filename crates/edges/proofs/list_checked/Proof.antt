-- `edges::list_checked` meets its contract: 1, 2, 3, and then what the walk of the picture finds. Assumes nothing.
use mathlib.Core.Bool.{Bool, true, false, not}
use mathlib.Core.Path.{◌≡◌, sym, ◌∙◌}
use borrow.Author.Rules.{rules}
use borrow.Author.Tests.{not-false}
use Rattle.def.proofs.Sizes.{Sized, sized}
use Rattle.laws.proofs.Calls.{stops, goes_on}
use Rattle.split.specs.ListCall.{check_of}
use Rattle.split.proofs.Callers.{check_answer}
use Rattle.edges.proofs.Outcomes.{list_lengths_told}
use Rattle.edges.proofs.list_checked.Statement.{statement}
use Rattle.edges.proofs.list_checked.Tie as tie

-- a test that the code found to hold
passed : {t b : Bool} → b ≡ t → not b ≡ false → t ≡ true
passed {b = b} e n = sym e ∙ not-false b n

size_told : (c : tie.Else-not-size_ok) → Sized c.args.w c.args.h
size_told c = sized _ _ (passed c.size_ok.ensures c.if-not-size_ok.false-raw)

returns : tie.Need-returns-then-not-size_ok
unfolding check_of
returns c = stops _ _ _ _ c.size_ok.ensures c.if-not-size_ok.true-raw

returns-2 : tie.Need-returns-then-not-list_lengths_ok
unfolding check_of
returns-2 c =
    goes_on _ _ _ _ _ c.size_ok.ensures c.if-not-size_ok.false-raw (stops _ _ _ _ c.list_lengths_ok.ensures c.if-not-list_lengths_ok.true-raw)

returns-3 : tie.Need-returns-then-not-limit_ok
unfolding check_of
returns-3 c =
    goes_on _ _ _ _ _ c.size_ok.ensures c.if-not-size_ok.false-raw
    (goes_on _ _ _ _ _ c.list_lengths_ok.ensures c.if-not-list_lengths_ok.false-raw (stops _ _ _ _ c.limit_ok.ensures c.if-not-limit_ok.true-raw))

returns-4 : tie.Need-returns
unfolding check_of
returns-4 c =
    goes_on _ _ _ _ _ c.size_ok.ensures c.if-not-size_ok.false-raw
    (goes_on _ _ _ _ _ c.list_lengths_ok.ensures c.if-not-list_lengths_ok.false-raw
    (goes_on _ _ _ _ _ c.limit_ok.ensures c.if-not-limit_ok.false-raw
    (check_answer _ _ _ _ (passed c.size_ok.ensures c.if-not-size_ok.false-raw) (list_lengths_told _ _ _ _ _ (passed c.list_lengths_ok.ensures c.if-not-list_lengths_ok.false-raw)).0 c.check.ensures)))

pub list_checked_spec : {M : Type 1} → statement M
list_checked_spec =
    tie.close
    (tie.spec
    (λ c κs. search rules)
    returns
    (λ c κs. size_told c)
    returns-2
    (λ c κs. search rules)
    returns-3
    (λ c κs. search rules)
    returns-4)
