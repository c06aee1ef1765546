-- `ward_check::plane_length` meets its contract: a plane that there is, and one that there is not. Assumes nothing.
use mathlib.Core.Path.{ap₂, ◌∙◌, subst}
use Prim.Native.Nat.{ℕ, ◌*◌, ◌≤◌, ◌<◌}
use native.Mathlib.Omega.{arith}
use borrow.Author.Rules.{rules}
use Rattle.ward_check.proofs.Sizes.{length_there, length_none, length_fits}
use Rattle.ward_check.proofs.plane_length.Statement.{statement}
use Rattle.ward_check.proofs.plane_length.Tie as tie

mul_result : tie.Need-overflow_mul-result
mul_result c =
    omega
    (arith, length_fits c.in_plane.result c.in_plane-then-k-planes_of.result c.args.k c.args.w c.args.h c.in_plane.ensures c.in_plane-then-k-planes_of.ensures c.requires.0 c.requires.1)

returns : tie.Need-returns-then-k-planes_of
returns c =
    ap₂ (λ (a b : ℕ). a * b) c.in_plane.ensures c.in_plane-then-k-planes_of.ensures
    ∙ length_there c.args.format c.args.k c.args.w c.args.h (subst (λ (n : ℕ). c.args.k < n) c.planes_of.ensures c.if-k-planes_of.true)

returns-2 : tie.Need-returns
returns-2 c = length_none c.args.format c.args.k c.args.w c.args.h (subst (λ (n : ℕ). n ≤ c.args.k) c.planes_of.ensures c.if-k-planes_of.false)

pub plane_length_spec : {M : Type 1} → statement M
plane_length_spec = tie.close (tie.spec (λ c κs. search rules) (λ c κs. search rules) (λ c κs. search rules) mul_result returns returns-2)
