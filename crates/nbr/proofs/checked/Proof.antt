-- `nbr::checked` meets its contract: a row of checks. `past1` to `past3` are what a check, passed, leaves of the row. Assumes nothing.
use Rattle.std.specs.Prelude.{Ok, Err}
use Prim.Native.Nat.{ℕ, ◌+◌, ◌*◌, ◌≤◌}
use mathlib.Core.Path.{◌≡◌, refl, sym, ap, ◌∙◌}
use native.Mathlib.Omega.{arith}
use borrow.Author.Rules.{rules}
use borrow.Author.Tests.{eq-eqb, ne_eqb}
use lib.Dec.{eqb}
use Rattle.laws.specs.Call.{unless}
use Rattle.laws.proofs.Calls.{stops, goes_on, at_refusal, past_refusal}
use Rattle.def.specs.Blocks.{block_ok}
use Rattle.def.specs.declared.Refusal.TheVariants as refusal
use Rattle.def.specs.declared.Refusal.TheVariants.{Length}
use Rattle.def.specs.Answers.{Answer}
use Rattle.def.proofs.Sizes.{sized}
use Rattle.def.proofs.Blocks.{blocked}
use Rattle.nbr.specs.declared.Block.{Block}
use Rattle.nbr.specs.Gather.{run_length, lengths_ok}
use Rattle.nbr.specs.Checks.{form_of}
use Rattle.nbr.proofs.Sides.{scaled_le}
use Rattle.nbr.proofs.checked.Statement.{statement}
use Rattle.nbr.proofs.checked.Tie as tie

-- what the row finds
abbrev found : tie.Start → Answer
found s =
    let b = s.args.block in
    form_of b.component b.w b.h b.x.0 b.y.0 b.side s.args.plane s.args.words s.args.run

-- the row past its first check, its second and its third
abbrev rest3 : Block → ℕ → Answer
rest3 b run = unless (eqb run (run_length b.component b.side)) (Err Length) (Ok tt)

abbrev rest2 : Block → ℕ → Answer
rest2 b run = unless (block_ok b.w b.h b.x.0 b.y.0 b.side) (Err refusal.Block) (rest3 b run)

abbrev rest1 : Block → (plane words run : ℕ) → Answer
rest1 b plane words run = unless (lengths_ok b.component b.w b.h plane words) (Err Length) (rest2 b run)

past1 : (c : tie.Else-not-size_ok) (r : Answer) → r ≡ rest1 c.args.block c.args.plane c.args.words c.args.run → r ≡ found c.before.before
unfolding form_of
past1 c r p = goes_on _ _ _ _ r c.size_ok.ensures c.if-not-size_ok.false-raw p

past2 : (c : tie.Else-not-lengths_ok) (r : Answer) → r ≡ rest2 c.args.block c.args.run → r ≡ found c.before.before.before.before
past2 c r p = past1 c.before.before r (goes_on _ _ _ _ r c.lengths_ok.ensures c.if-not-lengths_ok.false-raw p)

past3 : (c : tie.Else-not-block_ok) (r : Answer) → r ≡ rest3 c.args.block c.args.run → r ≡ found c.before.before.before.before.before.before.before.before
past3 c r p = past2 c.before.before.before.before r (goes_on _ _ _ _ r c.block_ok.ensures c.if-not-block_ok.false-raw p)

returns : tie.Need-returns-then-not-size_ok
unfolding form_of
returns c = stops _ _ _ _ c.size_ok.ensures c.if-not-size_ok.true-raw

lengths_ok_requires : tie.Need-lengths_ok-requires
lengths_ok_requires c κs =
    let s = sized _ _ (sym c.size_ok.ensures ∙ c.if-not-size_ok.false) in
    (s.wide, s.high)

returns-2 : tie.Need-returns-then-not-lengths_ok
returns-2 c = past1 c.before.before _ (stops _ _ _ _ c.lengths_ok.ensures c.if-not-lengths_ok.true-raw)

returns-3 : tie.Need-returns-then-not-block_ok
returns-3 c = past2 c.before.before.before.before _ (stops _ _ _ _ c.block_ok.ensures c.if-not-block_ok.true-raw)

-- the block's side in the component is small
short : (c : tie.After-in_component) → c.in_component.result ≤ 64
short c =
    let k = blocked _ _ _ _ _ (sym c.block_ok.ensures ∙ c.if-not-block_ok.false) in
    rw c.in_component.ensures (scaled_le c.args.block.component _ 64 k.most)

mul_if4 : tie.Need-overflow_mul-in_component
mul_if4 c = omega (arith, short c)

add_if4 : tie.Need-overflow_add-in_component
add_if4 c = omega (arith, short c)

returns-4 : tie.Need-returns-then-run-in_component
returns-4 c =
    past3 c.before.before _
    (at_refusal _ _ _ (ne_eqb _ _ (λ e. c.if-run-in_component.true (e ∙ sym (ap (λ (n : ℕ). 4 * n + 1) c.in_component.ensures)))))

returns-5 : tie.Need-returns
returns-5 c =
    past3 c.before.before _
    (past_refusal _ _ _ _ (eq-eqb _ _ (c.if-run-in_component.false ∙ ap (λ (n : ℕ). 4 * n + 1) c.in_component.ensures)) refl)

pub checked_spec : {M : Type 1} → statement M
checked_spec =
    tie.close
    (tie.spec
    (λ c κs. search rules)
    returns
    lengths_ok_requires
    returns-2
    (λ c κs. search rules)
    returns-3
    (λ c κs. search rules)
    mul_if4
    add_if4
    returns-4
    returns-5)
