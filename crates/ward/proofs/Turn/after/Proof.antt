-- `ward::Turn::after` meets its contract: the next row of the plane, or the top of the next plane. Assumes nothing.
use mathlib.Core.Path.{◌≡◌, ap, ◌∙◌}
use native.Mathlib.Omega.{arith}
use borrow.Author.Rules.{rules}
use Prim.Native.Nat.{◌-◌}
use Rattle.ward_check.specs.Sizes.{across, in_plane, rows_of}
use Rattle.ward_check.proofs.Sizes.{part_small, across_small}
use Rattle.ward.proofs.Turns.{same_plane, next_plane}
use Rattle.ward.proofs.Turn.after.Statement.{statement}
use Rattle.ward.proofs.Turn.after.Tie as tie

-- how many rows there are
rows : (c : tie.After-across_run-rows) → c.across_run-rows.result ≡ rows_of c.args.self.run c.args.c c.args.self.plane
rows c = c.across_run-rows.ensures ∙ ap (across c.args.self.run) c.in_plane.ensures

add_if1 : tie.Need-overflow_add-row
add_if1 c =
    let n = c.args.c.bottom - c.args.c.top in
    omega (arith, c.requires.1, across_small c.args.self.run (in_plane c.args.self.plane n), part_small c.args.self.plane n)

returns : tie.Need-returns-then-row-rows
returns c = same_plane c.args.c c.args.self _ (rows c.before) c.if-row-rows.true

returns-2 : tie.Need-returns
returns-2 c = next_plane c.args.c c.args.self _ (rows c.before) c.if-row-rows.false

pub after_spec : {M : Type 1} → statement M
after_spec =
    tie.close (tie.spec (λ c. search rules) (λ c κs. search rules) (λ c κs. search rules) add_if1 (λ c. search rules) returns (λ c. search rules) returns-2)
