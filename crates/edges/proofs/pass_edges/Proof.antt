-- `edges::pass_edges` meets its contract: after i turns the edges of the first i roots are written. Assumes nothing.
use mathlib.Core.Path.{◌≡◌, refl, ◌∙◌}
use Prim.Native.Nat.{◌-◌, ◌/◌, ◌≤◌, ◌<◌}
use native.Mathlib.Omega.{arith}
use lib.ListN.{length}
use Rattle.def.specs.Picture.{root_count}
use Rattle.def.proofs.Sizes.{Sized, sized}
use Rattle.split.proofs.Roots.{roots_units, some_wide}
use Rattle.edges.proofs.Written.{Rooted, none_rooted, one_rooted, all_rooted, root_room}
use Rattle.edges.proofs.pass_edges.Statement.{statement}
use Rattle.edges.proofs.pass_edges.Tie as tie

abbrev invariant-loop : tie.invariant-loop-i
invariant-loop w h splits horizontal halved out₀ n k₀ i₀ out k i =
    (i ≤ n) × (length out ≡ length out₀) × Rooted horizontal halved splits (w / 4) (h / 4) out₀ out i k

abbrev decreases-loop : tie.decreases-loop-i
decreases-loop w h splits horizontal halved out₀ n k₀ i₀ out k i = n - i

size : (s : tie.Start invariant-loop decreases-loop) → Sized s.args.w s.args.h
size s = sized _ _ s.requires.0.size

-- a turn's root is one of the picture's
root : (c : tie.In-loop-i invariant-loop decreases-loop) → c.loop-i.i < root_count c.args.w c.args.h
root c = omega (arith, c.requires.0.long, c.loop-i-test.true)

loop_holds : tie.Need-loop-i-init invariant-loop decreases-loop
loop_holds c = (omega arith, refl, none_rooted _ _ _ _ _ _)

root_edges_requires : tie.Need-root_edges-k-requires invariant-loop decreases-loop
root_edges_requires c κs =
    let l = c.loop-i in
    let room = root_room l.invariant.2 (some_wide (size c.before.before.before.before.before)) c.requires.0.walked (omega (arith, root c.before, roots_units (size c.before.before.before.before.before))) in
    (c.requires.0, root c.before, omega (arith, l.invariant.1, c.requires.1, room))

loop_again : tie.Need-loop-i-preserved invariant-loop decreases-loop
loop_again c =
    let l = c.loop-i in
    let e = c.root_edges-k in
    (omega arith, e.auto.out ∙ l.invariant.1, one_rooted l.invariant.2 _ _ e.ensures)

returns : tie.Need-returns invariant-loop decreases-loop
returns c =
    let v = c.loop-i.invariant in
    all_rooted v.2 (omega (arith, c.loop-i-test.false, c.requires.0.long, roots_units (size c.before.before.before.before))) (omega (arith, v.0, c.requires.0.long, roots_units (size c.before.before.before.before)))

pub pass_edges_spec : {M : Type 1} → statement M
pass_edges_spec =
    tie.close
    (tie.spec
    invariant-loop
    decreases-loop
    loop_holds
    root_edges_requires
    (λ c. omega arith)
    (λ c. omega arith)
    loop_again
    (λ c. c.loop-i.invariant.1)
    returns)
