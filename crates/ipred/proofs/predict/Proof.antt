-- `ipred::predict` meets its contract: each arm is its mode's, at a side of 4 that is known as at any, and the rest are refused. Assumes nothing.
use Prim.Native.Nat.{ℕ, ◌≤◌}
use mathlib.Core.Path.{◌≡◌, refl, subst}
use mathlib.Core.Bool.{true}
use mathlib.Core.List.{List}
use native.Mathlib.Omega.{arith}
use borrow.Author.Rules.{rules}
use Rattle.laws.specs.Call.{Gives}
use Rattle.def.specs.Blocks.{component_side_ok}
use Rattle.samples.specs.Samples.{samples_ok}
use Rattle.ipred.specs.Modes.{predicted, block_of}
use Rattle.ipred.specs.Predict.{Input, Lent, chosen}
use Rattle.ipred.proofs.Outcomes.{bad_sample, good_samples, at_mode, no_mode}
use Rattle.ipred.proofs.predict.Statement.{statement}
use Rattle.ipred.proofs.predict.Tie as tie

-- ---- past the test of samples: what was lent, and an arm whose mode is k and whose side is n

abbrev start : tie.Else-mode-samples_ok → tie.Start
start c = c.before.before.before.before

abbrev input : tie.Else-mode-samples_ok → Input
input c = let a = (start c).args in record { mode = a.mode; side = a.side; run = a.run.now; block = a.block.now }

lent_4 : (c : tie.Else-mode-samples_ok) → (input c).side ≡ 4 → Lent 4 (input c).run (input c).block
lent_4 c e = subst (λ (n : ℕ). Lent n (input c).run (input c).block) e (start c).requires.0

good : (c : tie.Else-mode-samples_ok) → (input c).mode ≤ 4 → samples_ok (input c).run ≡ true
good c p = good_samples (input c).mode _ _ c.samples_ok.ensures c.if-mode-samples_ok.false p

arm : (c : tie.Else-mode-samples_ok) (k n : ℕ) {block : List ℕ} → (input c).mode ≡ k → (input c).side ≡ n → k ≤ 4 → block ≡ block_of n (predicted k n (input c).run)
    → Gives chosen (input c) (record { number = 0; block = block })
arm c k n e s p b = at_mode _ _ c.samples_ok.ensures k n _ c.if-mode-samples_ok.false e s p b

-- ---- the needs

returns : tie.Need-returns-then-mode-samples_ok
returns c = bad_sample _ _ c.samples_ok.ensures c.if-mode-samples_ok.true

ipred_dc_b_requires : tie.Need-ipred_dc_b-requires
unfolding component_side_ok
ipred_dc_b_requires c κs = (lent_4 c.before.before.before c.if-side-eq4.true, refl)

ipred_hor_b_requires : tie.Need-ipred_hor_b-requires
ipred_hor_b_requires c κs = lent_4 c.before.before.before c.if-side-eq4-2.true

ipred_vert_requires : tie.Need-ipred_vert-requires
ipred_vert_requires c κs = lent_4 c.before.before.before c.if-side-eq4-3.true

ipred_ul_requires : tie.Need-ipred_ul-requires
ipred_ul_requires c κs = lent_4 c.before.before.before c.if-side-eq4-4.true

ipred_ur_requires : tie.Need-ipred_ur-requires
ipred_ur_requires c κs = (lent_4 c.before.before.before c.if-side-eq4-5.true, good c.before.before.before (omega arith))

ipred_ur_requires_2 : tie.Need-ipred_ur-requires-else-side-eq4-5
ipred_ur_requires_2 c κs = ((start c.before.before.before).requires.0, good c.before.before.before (omega arith))

returns-2 : tie.Need-returns-in-5-to-255
returns-2 c = no_mode _ (omega arith)

returns-3 : tie.Need-returns-then-side-eq4
unfolding predicted
returns-3 c = arm c.before.before.before.before.before.before 0 4 c.in-0.is c.if-side-eq4.true (omega arith) c.ipred_dc_b.ensures

returns-4 : tie.Need-returns-else-side-eq4
unfolding predicted
returns-4 c = arm c.before.before.before.before.before.before 0 _ c.in-0.is refl (omega arith) c.ipred_dc_b-else-side-eq4.ensures

returns-5 : tie.Need-returns-then-side-eq4-2
unfolding predicted
returns-5 c = arm c.before.before.before.before.before.before 1 4 c.in-1.is c.if-side-eq4-2.true (omega arith) c.ipred_hor_b.ensures

returns-6 : tie.Need-returns-else-side-eq4-2
unfolding predicted
returns-6 c = arm c.before.before.before.before.before.before 1 _ c.in-1.is refl (omega arith) c.ipred_hor_b-else-side-eq4-2.ensures

returns-7 : tie.Need-returns-then-side-eq4-3
unfolding predicted
returns-7 c = arm c.before.before.before.before.before.before 2 4 c.in-2.is c.if-side-eq4-3.true (omega arith) c.ipred_vert.ensures

returns-8 : tie.Need-returns-else-side-eq4-3
unfolding predicted
returns-8 c = arm c.before.before.before.before.before.before 2 _ c.in-2.is refl (omega arith) c.ipred_vert-else-side-eq4-3.ensures

returns-9 : tie.Need-returns-then-side-eq4-4
unfolding predicted
returns-9 c = arm c.before.before.before.before.before.before 3 4 c.in-3.is c.if-side-eq4-4.true (omega arith) c.ipred_ul.ensures

returns-10 : tie.Need-returns-else-side-eq4-4
unfolding predicted
returns-10 c = arm c.before.before.before.before.before.before 3 _ c.in-3.is refl (omega arith) c.ipred_ul-else-side-eq4-4.ensures

returns-11 : tie.Need-returns-then-side-eq4-5
unfolding predicted
returns-11 c = arm c.before.before.before.before.before.before 4 4 c.in-4.is c.if-side-eq4-5.true (omega arith) c.ipred_ur.ensures

returns-12 : tie.Need-returns-else-side-eq4-5
unfolding predicted
returns-12 c = arm c.before.before.before.before.before.before 4 _ c.in-4.is refl (omega arith) c.ipred_ur-else-side-eq4-5.ensures

pub predict_spec : {M : Type 1} → statement M
predict_spec =
    tie.close
    (tie.spec (λ c κs. search rules) returns ipred_dc_b_requires (λ c κs. search rules) ipred_hor_b_requires (λ c κs. search rules)
    ipred_vert_requires (λ c κs. search rules) ipred_ul_requires (λ c κs. search rules) ipred_ur_requires ipred_ur_requires_2 returns-2
    (λ c. search rules) returns-3 (λ c. search rules) returns-4 (λ c. search rules) returns-5 (λ c. search rules) returns-6
    (λ c. search rules) returns-7 (λ c. search rules) returns-8 (λ c. search rules) returns-9 (λ c. search rules) returns-10
    (λ c. search rules) returns-11 (λ c. search rules) returns-12)
