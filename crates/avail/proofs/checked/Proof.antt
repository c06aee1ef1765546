-- `avail::checked` meets its contract: a row of checks. `past1` and `past2` are what a check, passed, leaves of the row. Assumes nothing.
use Rattle.std.specs.Prelude.{Ok, Err}
use mathlib.Core.Path.{◌≡◌, refl, sym, ◌∙◌}
use native.Mathlib.Nat.{lt_of_le_of_lt, mul-le-mul}
use native.Mathlib.Omega.{arith}
use lib.Dec.{eqb, lit<}
use borrow.Author.Rules.{rules}
use borrow.Author.Tests.{eq-eqb, ne_eqb}
use Rattle.laws.specs.Call.{unless}
use Rattle.laws.proofs.Calls.{stops, goes_on, at_refusal, past_refusal}
use Rattle.def.specs.Blocks.{block_ok}
use Rattle.def.specs.Picture.{unit_count}
use Rattle.def.specs.declared.Refusal.TheVariants.{Length, Block}
use Rattle.def.specs.Answers.{Answer}
use Rattle.def.proofs.Sizes.{sized}
use Rattle.avail.specs.Calls.{check_of}
use Rattle.avail.proofs.checked.Statement.{statement}
use Rattle.avail.proofs.checked.Tie as tie

past1 : (c : tie.Else-not-size_ok) (r : Answer) → let a = c.args in r ≡ unless (eqb a.words (unit_count a.w a.h)) (Err Length)
    (unless (block_ok a.w a.h a.x.0 a.y.0 a.side) (Err Block) (Ok tt)) → r ≡ check_of a.w a.h a.words a.x.0 a.y.0 a.side
unfolding check_of
past1 c r p = goes_on _ _ _ _ r c.size_ok.ensures c.if-not-size_ok.false-raw p

past2 : (c : tie.Else-words-w) (r : Answer) → let a = c.args in
    r ≡ unless (block_ok a.w a.h a.x.0 a.y.0 a.side) (Err Block) (Ok tt) → r ≡ check_of a.w a.h a.words a.x.0 a.y.0 a.side
past2 c r p = past1 c.before r (past_refusal _ _ _ r (eq-eqb _ _ c.if-words-w.false) p)

returns : tie.Need-returns-then-not-size_ok
unfolding check_of
returns c = stops _ _ _ _ c.size_ok.ensures c.if-not-size_ok.true-raw

-- the product of two sides in units fits
mul_if2 : tie.Need-overflow_mul-w
mul_if2 c =
    let s = sized _ _ (sym c.size_ok.ensures ∙ c.if-not-size_ok.false) in
    record { fits = lt_of_le_of_lt (mul-le-mul {n₂ = 1024} {m₂ = 1024} (omega (arith, s)) (omega (arith, s))) (lit< tt) }

returns-2 : tie.Need-returns-then-words-w
returns-2 c = past1 c.before _ (at_refusal _ _ _ (ne_eqb _ _ c.if-words-w.true))

returns-3 : tie.Need-returns-then-not-block_ok
returns-3 c = past2 c.before.before _ (stops _ _ _ _ c.block_ok.ensures c.if-not-block_ok.true-raw)

returns-4 : tie.Need-returns
returns-4 c = past2 c.before.before _ (goes_on _ _ _ _ _ c.block_ok.ensures c.if-not-block_ok.false-raw refl)

pub checked_spec : {M : Type 1} → statement M
checked_spec =
    tie.close
    (tie.spec (λ c κs. search rules) returns mul_if2 returns-2 (λ c κs. search rules) returns-3 returns-4)
