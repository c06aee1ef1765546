-- `edge_filter::filter_chroma` meets its contract: before a turn from edge i on the planes are those of the list's first i edges. Assumes nothing.
use Prim.Native.Nat.{◌-◌, ◌≤◌}
use mathlib.Core.Path.{◌≡◌, refl, sym, ◌∙◌}
use native.Mathlib.Omega.{arith}
use borrow.Author.Rules.{rules}
use lib.ListN.{length}
use Rattle.def.specs.declared.Component.TheVariants.{Chroma}
use Rattle.edge_filter.specs.Edges.{pass_of}
use Rattle.edge_filter.specs.Filter.{quiet_chroma, filter_by}
use Rattle.edge_filter.proofs.Turns.{none_done}
use Rattle.edge_filter.proofs.filter_chroma.Statement.{statement}
use Rattle.edge_filter.proofs.filter_chroma.Tie as tie

abbrev invariant-loop : tie.invariant-loop-i
invariant-loop pass columns u₀ v₀ entries list places marks n count i₀ u v i =
    (i ≤ count) × (length u ≡ length u₀) × (length v ≡ length v₀)
    × (u ≡ filter_by (quiet_chroma entries places) entries 208 Chroma (pass_of pass) columns list places marks i u₀)
    × (v ≡ filter_by (quiet_chroma entries places) entries 416 Chroma (pass_of pass) columns list places marks i v₀)

abbrev decreases-loop : tie.decreases-loop-i
decreases-loop pass columns u₀ v₀ entries list places marks n count i₀ u v i = count - i

loop_holds : tie.Need-loop-i-init invariant-loop decreases-loop
loop_holds c =
    let a = c.args in
    let q = quiet_chroma a.entries.now a.places.now in
    (omega arith, refl, refl, none_done q _ 208 Chroma (pass_of a.pass) _ _ _ _ _, none_done q _ 416 Chroma (pass_of a.pass) _ _ _ _ _)

turn_chroma_requires : tie.Need-turn_chroma-i-requires invariant-loop decreases-loop
turn_chroma_requires c κs =
    let r = c.count_chroma-count.ensures in
    let l = c.loop-i.invariant in
    let f = r.2 (omega (arith, c.loop-i-test.true)) in
    (f.0, c.loop-i-test.true, r.1, l.1 ∙ f.1 ∙ sym l.2)

loop_less : tie.Need-loop-i-smaller invariant-loop decreases-loop
loop_less c = let t = c.turn_chroma-i.ensures.0 in omega (arith, t.on, t.within)

loop_again : tie.Need-loop-i-preserved invariant-loop decreases-loop
loop_again c =
    let t = c.turn_chroma-i.ensures in
    let k = c.turn_chroma-i.auto in
    let l = c.loop-i.invariant in
    (t.0.within, k.u ∙ l.1, k.v ∙ l.2, t.0.done _ l.3, t.1.done _ l.4)

returns : tie.Need-returns invariant-loop decreases-loop
returns c =
    let a = c.args in
    let l = c.loop-i in
    let r = c.count_chroma-count in
    let e : l.i ≡ r.result = omega (arith, l.invariant.0, c.loop-i-test.false) in (
      l.invariant.3 ∙ (λ k. filter_by (quiet_chroma a.entries.now a.places.now) a.entries.now 208 Chroma (pass_of a.pass) a.columns a.list.now a.places.now a.marks.now
          ((e ∙ r.ensures.0) k) a.u.now),
      l.invariant.4 ∙ (λ k. filter_by (quiet_chroma a.entries.now a.places.now) a.entries.now 416 Chroma (pass_of a.pass) a.columns a.list.now a.places.now a.marks.now
          ((e ∙ r.ensures.0) k) a.v.now),
    )

pub filter_chroma_spec : {M : Type 1} → statement M
filter_chroma_spec =
    tie.close
    (tie.spec
    invariant-loop decreases-loop (λ c κs. search rules) loop_holds turn_chroma_requires loop_less loop_again (λ c. c.loop-i.invariant.1)
    (λ c. c.loop-i.invariant.2) returns)
