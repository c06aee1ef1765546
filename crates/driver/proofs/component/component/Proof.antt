-- `driver::component::component` meets its contract: where it is coded its residual is the list's next part, and else nothing of the list. Assumes nothing.
use Prim.Native.Nat.{ℕ, ◌+◌, ◌-◌, ◌*◌, ◌≤◌}
use mathlib.Core.Path.{◌≡◌, ap, ◌∙◌}
use mathlib.Core.Bool.{true, false}
use native.Mathlib.Omega.{arith}
use borrow.Author.Rules.{rules}
use lib.ListN.{length, length-take, length-drop}
use Rattle.driver_rules.specs.Records.{sample_count}
use Rattle.driver_rules.proofs.Components.{samples_few, plane_uncoded}
use Rattle.driver.proofs.component.component.Statement.{statement}
use Rattle.driver.proofs.component.component.Tie as tie

-- the samples of the block
abbrev count : (s : tie.Start) → ℕ
count s = sample_count s.args.block.component s.args.block.side

few : (s : tie.Start) → count s ≤ 4096
few s = samples_few s.args.block.component _ _ _ _ _ s.requires.0.0.block

counted : (c : tie.After-in_component-n) → c.in_component-n.result * c.in_component-n.result ≡ count c.before.before.before.before.before.before
counted c = rw c.in_component-n.ensures

-- whether it is coded
uncoded : (c : tie.Then-not-coded) → c.args.coded ≡ false
uncoded c = c.if-not-coded.true

coded : (c : tie.Else-not-coded) → c.args.coded ≡ true
coded c = c.if-not-coded.false

-- where it is, they are left in the list
left : (c : tie.Else-not-coded) → c.args.at + count c.before.before.before.before.before.before.before ≤ length
    c.args.residual.now
left c = rw (coded c) at c.requires.0.2

draw_uncoded_requires : tie.Need-draw_uncoded-requires
draw_uncoded_requires c κs = ((c.requires.0.0, c.requires.0.1, counted c.before.before.before.before), c.requires.1)

returns : tie.Need-returns-then-not-coded
returns c = (
  c.draw_uncoded.ensures
      ∙ rw (uncoded c.before.before.before.before.before.before.before.before.before.before) (plane_uncoded _ _ _ _ _),
  rw (uncoded c.before.before.before.before.before.before.before.before.before.before) (omega arith),
)

draw_requires : tie.Need-draw-requires
draw_requires c κs =
    ((c.requires.0.0, c.requires.0.1, simp (length-take, length-drop) (omega (arith, counted c.before.before.before.before.before, left c.before.before.before.before))), c.requires.1)

returns-2 : tie.Need-returns
returns-2 c =
    let e : c.args.at + c.in_component-n.result * c.in_component-n.result - c.args.at ≡ sample_count c.args.block.component c.args.block.side = omega (arith, counted c.before.before.before.before.before.before.before.before.before.before.before.before) in (
      c.draw.ensures
          ∙ rw (e, coded c.before.before.before.before.before.before.before.before.before.before.before),
      rw (coded c.before.before.before.before.before.before.before.before.before.before.before) (ap (λ (n : ℕ). c.args.at + n) (counted c.before.before.before.before.before.before.before.before.before.before.before.before)),
    )

mul_long : tie.Need-overflow_mul-long
mul_long c = omega (arith, counted c, few c.before.before.before.before.before.before)

pub component_spec : {M : Type 1} → statement M
component_spec =
    tie.close
    (tie.spec (λ c κs. search rules) mul_long draw_uncoded_requires (λ c. search rules) (λ c. search rules) (λ c. search rules) returns
    (λ c. omega (arith, counted c.before, left c)) (λ c. search rules) (λ c. search rules) (λ c. search rules) (λ c. omega (arith, counted c.before, left c)) draw_requires
    (λ c. search rules) (λ c. search rules) (λ c. search rules) returns-2)
