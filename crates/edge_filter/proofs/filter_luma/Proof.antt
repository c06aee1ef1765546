-- `edge_filter::filter_luma` meets its contract: before a turn from edge i on the plane is that of the list's first i edges. Assumes nothing.
use Prim.Native.Nat.{◌-◌, ◌≤◌}
use mathlib.Core.Path.{◌≡◌, refl, ◌∙◌}
use native.Mathlib.Omega.{arith}
use borrow.Author.Rules.{rules}
use lib.ListN.{length}
use Rattle.def.specs.declared.Component.TheVariants.{Luma}
use Rattle.edge_filter.specs.Edges.{pass_of}
use Rattle.edge_filter.specs.Filter.{quiet_luma, filter_by}
use Rattle.edge_filter.proofs.Turns.{none_done}
use Rattle.edge_filter.proofs.filter_luma.Statement.{statement}
use Rattle.edge_filter.proofs.filter_luma.Tie as tie

abbrev invariant-loop : tie.invariant-loop-i
invariant-loop pass columns y₀ entries list places marks n count i₀ y i =
    (i ≤ count) × (length y ≡ length y₀) × (y ≡ filter_by (quiet_luma entries places) entries 0 Luma (pass_of pass) columns list places marks i y₀)

abbrev decreases-loop : tie.decreases-loop-i
decreases-loop pass columns y₀ entries list places marks n count i₀ y i = count - i

loop_holds : tie.Need-loop-i-init invariant-loop decreases-loop
loop_holds c = let a = c.args in (omega arith, refl, none_done (quiet_luma a.entries.now a.places.now) _ 0 Luma (pass_of a.pass) _ _ _ _ _)

turn_luma_requires : tie.Need-turn_luma-i-requires invariant-loop decreases-loop
turn_luma_requires c κs = let r = c.count_luma-count.ensures in (r.2 (omega (arith, c.loop-i-test.true)), c.loop-i-test.true, r.1)

loop_less : tie.Need-loop-i-smaller invariant-loop decreases-loop
loop_less c = let t = c.turn_luma-i.ensures in omega (arith, t.on, t.within)

loop_again : tie.Need-loop-i-preserved invariant-loop decreases-loop
loop_again c =
    let t = c.turn_luma-i in
    let l = c.loop-i.invariant in
    (t.ensures.within, t.auto.y ∙ l.1, t.ensures.done _ l.2)

returns : tie.Need-returns invariant-loop decreases-loop
returns c =
    let a = c.args in
    let l = c.loop-i in
    let r = c.count_luma-count in
    let e : l.i ≡ r.result = omega (arith, l.invariant.0, c.loop-i-test.false) in
    l.invariant.2 ∙ (λ k. filter_by (quiet_luma a.entries.now a.places.now) a.entries.now 0 Luma (pass_of a.pass) a.columns a.list.now a.places.now a.marks.now
    ((e ∙ r.ensures.0) k) a.y.now)

pub filter_luma_spec : {M : Type 1} → statement M
filter_luma_spec =
    tie.close
    (tie.spec
    invariant-loop decreases-loop (λ c κs. search rules) loop_holds turn_luma_requires loop_less loop_again (λ c. c.loop-i.invariant.1) returns)
