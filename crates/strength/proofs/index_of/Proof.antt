-- `strength::index_of` meets its contract: the sum in 16 bits is the whole numbers', and the comparisons clip it. Assumes nothing.
use Prim.Native.Nat.{◌≤◌}
use mathlib.Core.Path.{◌≡◌}
use native.Mathlib.Omega.{arith}
use borrow.Author.Rules.{rules}
use lib.IntN.{ℤ, pos, ◌+ℤ◌}
use mir.Syntax.{w8, w16}
use mir.Val.{SFits, to_z, of_z}
use Rattle.laws.proofs.Widths.{sfits, back}
use Rattle.strength.specs.ChromaQp.{index_of}
use Rattle.strength.proofs.ChromaQp.{offset_fits, sum_fits, machine_terms, machine_sum, index_low, index_high, Between, index_within}
use Rattle.strength.proofs.index_of.Statement.{statement}
use Rattle.strength.proofs.index_of.Tie as tie

abbrev sum : tie.Start → ℤ
sum s = pos s.args.qp +ℤ s.args.offset

small : (s : tie.Start) → s.args.qp ≤ 255
small s = omega arith

-- the sum, as the machine reads it
sum_at : (s : tie.Start) → to_z w16 (of_z w16 (to_z w16 s.args.qp +ℤ to_z w16 (of_z w16 (to_z w8 (of_z w8 s.args.offset))))) ≡ sum s
sum_at s = machine_sum s.args.qp s.args.offset (small s) s.ranges.offset

cast_sum_2 : tie.Need-overflow_cast-sum-2
cast_sum_2 c = offset_fits c.args.qp c.args.offset (small c) c.ranges.offset

add_sum : tie.Need-overflow_add-sum
add_sum c = rw (machine_terms c.args.qp c.args.offset (small c) c.ranges.offset) (sum_fits c.args.qp c.args.offset (small c) c.ranges.offset)

more_fits : (s : tie.Start) (b : Between (sum s)) → SFits w16 (pos b.n)
more_fits s b = sfits w16 69 b.few tt

-- 12 more, as the machine reads it
more_at : (s : tie.Start) (b : Between (sum s)) → to_z w16 (of_z w16 (sum s +ℤ pos 12)) ≡ pos b.n
more_at s b = rw b.more (back w16 (pos b.n) (more_fits s b))

add_result : tie.Need-overflow_add-result
add_result c =
    let s = c.before.before in
    let e = sum_at s in
    let b = index_within (sum s) (cc e) (cc e) in
    rw (e, b.more) (more_fits s b)

cast_result : tie.Need-overflow_cast-result
cast_result c =
    let s = c.before.before in
    let e = sum_at s in
    let b = index_within (sum s) (cc e) (cc e) in
    rw (e, more_at s b) (tt, record { fits = omega (arith, b.few) })

pub index_of_spec : {M : Type 1} → statement M
unfolding index_of
index_of_spec =
    tie.close
    (tie.spec
    (λ c. search rules)
    cast_sum_2
    add_sum
    add_result
    cast_result
    (λ c. index_low (sum c.before) (cc (sum_at c.before)))
    (λ c. index_high (sum c.before.before) (cc (sum_at c.before.before)))
    (λ c.
    let s = c.before.before in
    let e = sum_at s in
    let b = index_within (sum s) (cc e) (cc e) in
    rw (e, more_at s b) b.same))
