-- `driver::walk::pack_root` meets its contract: the list's part of the room, packed. Assumes nothing.
use native.Mathlib.Omega.{arith}
use borrow.Author.Rules.{rules}
use lib.ListN.{length-take}
use Rattle.split.proofs.Callers.{root_met, root_told}
use Rattle.driver_rules.proofs.Lists.{listed}
use Rattle.driver_rules.proofs.Walked.{sides}
use Rattle.driver.proofs.Packing.{listed_packed}
use Rattle.driver.proofs.walk.pack_root.Statement.{statement}
use Rattle.driver.proofs.walk.pack_root.Tie as tie

-- the states after the root's leaves were listed, and the call's start
abbrev listed_at : tie.In-Ok → tie.After-root_leaves
listed_at c = c.before.before.before

abbrev start : tie.After-root_leaves → tie.Start
start c = c.before.before.before.before.before.before

pack_requires : tie.Need-pack-requires
pack_requires c κs =
    let e = listed_at c.before in
    let s = start e in
    let a = s.requires.0 in
    let r = listed (root_told _ _ _ a.size a.long a.walked s.args.i s.requires.1 _ _ _ (simp length-take (omega (arith, s.requires.2))) e.root_leaves.ensures _ c.in-Ok.is) in
    (sides r.blocks, s.requires.3)

-- the walk was accepted, so the root is not refused
returns : tie.Need-returns-in_default
returns c =
    let s = start c.before.before.before.before.before in
    let a = s.requires.0 in
    absurd (root_met _ _ _ a.size a.long a.walked s.args.i s.requires.1 _ _ _ (simp length-take (omega (arith, s.requires.2)))
    c.root_leaves.ensures _ c.in_default.is)

returns-2 : tie.Need-returns
returns-2 c =
    let p = c.pack.ensures in
    let e = listed_at c.before.before.before.before.before.before in
    let s = start e in
    let a = s.requires.0 in
    let r = listed (root_told _ _ _ a.size a.long a.walked s.args.i s.requires.1 _ _ _ (simp length-take (omega (arith, s.requires.2))) e.root_leaves.ensures _ c.in-Ok.is) in
    (listed_packed a s.requires.1 r p, p.long)

fits : tie.Need-slice_bounds-list-end
fits c = omega (arith, c.requires.2)

pub pack_root_spec : {M : Type 1} → statement M
pack_root_spec =
    tie.close
    (tie.spec (λ c. search rules) (λ c. search rules) fits (λ c κs. search rules) (λ c. search rules) (λ c. search rules) (λ c. search rules) returns pack_requires
    (λ c. search rules) (λ c. search rules) returns-2)
