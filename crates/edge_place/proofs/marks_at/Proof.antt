-- `edge_place::marks_at` meets its contract: P's mark and twice Q's. Assumes nothing.
use mathlib.Core.Path.{refl}
use native.Mathlib.Omega.{arith}
use borrow.Author.Rules.{rules}
use Rattle.edge_place.specs.Places.{marks_in}
use Rattle.edge_place.proofs.marks_at.Statement.{statement}
use Rattle.edge_place.proofs.marks_at.Tie as tie

cast_result : tie.Need-overflow_cast-result
cast_result c = let a = c.args in omega (arith, c.shared_slice_known-1.given a.p, c.shared_slice_known-1.given a.q)

cast_result_2 : tie.Need-overflow_cast-result-2
cast_result_2 c = omega (arith, c.shared_slice_known-2-1.given c.args.q)

mul_result : tie.Need-overflow_mul-result
mul_result c = omega (arith, c.shared_slice_known-2-1.given c.args.q)

add_result : tie.Need-overflow_add-result
add_result c = let a = c.args in omega (arith, c.shared_slice_known-2-1.given a.p, c.shared_slice_known-2-1.given a.q)

returns : tie.Need-returns
unfolding marks_in
returns c = refl

pub marks_at_spec : {M : Type 1} → statement M
marks_at_spec = tie.close (tie.spec (λ c. search rules) cast_result (λ c. search rules) cast_result_2 mul_result add_result (λ c. search rules) returns)
