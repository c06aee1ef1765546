-- `rows::run::fill` meets its contract: run by run, up to the end. Assumes nothing.
use Prim.Native.Nat.{ℕ, ◌-◌, ◌≤◌, ◌<◌}
use mathlib.Core.Path.{◌≡◌, refl, sym, ◌∙◌}
use native.Mathlib.Nat.{mod-lt}
use native.Mathlib.Omega.{arith}
use lib.ListN.{length}
use Rattle.laws.proofs.Tabulate.{is_tabulate}
use Rattle.rows_rules.specs.Rule.{rule_byte}
use Rattle.rows_rules.specs.Runs.{RightBelow}
use Rattle.rows_rules.proofs.Runs.{right_more}
use Rattle.rows.proofs.run.fill.Statement.{statement}
use Rattle.rows.proofs.run.fill.Tie as tie

abbrev invariant-loop : tie.invariant-loop-k
invariant-loop columns words motion refs rows₀ size bytes₀ k₀ rows bytes k = (k ≤ length rows₀) × (length rows ≡ length rows₀) × RightBelow words motion refs columns rows k × (length bytes ≡ 128)

abbrev decreases-loop : tie.decreases-loop-k
decreases-loop columns words motion refs rows₀ size bytes₀ k₀ rows bytes k = length rows₀ - k

loop_holds : tie.Need-loop-k-init invariant-loop decreases-loop
loop_holds c = (omega arith, refl, (λ i h. absurd (none i h)), refl) where
  none : (i : ℕ) → i < 0 → ⊥
  none i h = omega arith

rem_run_length : tie.Need-nonzero_rem-x invariant-loop decreases-loop
rem_run_length c = omega (arith, c.requires.0.some)

run_length_requires : tie.Need-run_length-n-requires invariant-loop decreases-loop
run_length_requires c κs = (mod-lt c.loop-k.k c.requires.0.some, omega (arith, c.loop-k-test.true))

put_run_requires : tie.Need-put_run-requires invariant-loop decreases-loop
put_run_requires c κs =
    let l = c.loop-k in
    let r = c.run_length-n.ensures in
    let h = c.loop-k-test.true in
    (c.requires.0, l.invariant.1 ∙ c.requires.1, record { column = refl; fits = r.1; inside = omega (arith, r.2, c.requires.1, h) }, r.3, omega (arith, r.3, l.invariant.3))

slice_aggregate_store : tie.Need-slice_bounds-store-end invariant-loop decreases-loop
slice_aggregate_store c = sym (c.put_run.ensures.1 ∙ c.loop-k.invariant.3)

store_requires : tie.Need-store-requires invariant-loop decreases-loop
store_requires c κs =
    let l = c.loop-k in
    let r = c.run_length-n.ensures in
    (omega (arith, c.put_run.ensures.1, l.invariant.3, r.3), omega (arith, l.invariant.1, r.2, c.loop-k-test.true))

add_k : tie.Need-overflow_add-k invariant-loop decreases-loop
add_k c =
    omega (arith, c.run_length-n.ensures.2, c.loop-k-test.true)

loop_less : tie.Need-loop-k-smaller invariant-loop decreases-loop
loop_less c =
    omega (arith, c.run_length-n.ensures.0, c.run_length-n.ensures.2, c.loop-k-test.true)

loop_again : tie.Need-loop-k-preserved invariant-loop decreases-loop
loop_again c =
    let stored = c.store.ensures in
    let run = c.put_run.ensures in
    let l = c.loop-k in
    let a = c.args in (
      omega (arith, c.run_length-n.ensures.2, c.loop-k-test.true),
      stored.long ∙ l.invariant.1,
      right_more a.words.now a.motion.now a.refs.now a.columns _ _ _ _ _ _ l.invariant.2 stored (run.0 l.invariant.2),
      run.1 ∙ l.invariant.3,
    )

returns : tie.Need-returns invariant-loop decreases-loop
returns c =
    let l = c.loop-k in
    let a = c.args in
    is_tabulate (rule_byte a.words.now a.motion.now a.refs.now a.columns) (length a.rows.now) l.rows 0 l.invariant.1 (λ i h. l.invariant.2 i (omega (arith, c.loop-k-test.false)))

pub fill_spec : {M : Type 1} → statement M
fill_spec =
    tie.close
    (tie.spec invariant-loop decreases-loop loop_holds rem_run_length (λ c. omega (arith, c.loop-k-test.true)) run_length_requires
    (λ c. sym c.loop-k.invariant.3) put_run_requires slice_aggregate_store store_requires
    add_k loop_less loop_again (λ c. c.loop-k.invariant.1) returns)
