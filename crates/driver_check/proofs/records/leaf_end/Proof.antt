-- `driver_check::records::leaf_end` meets its contract: Y, U and V one after another. Assumes nothing.
use native.Mathlib.Omega.{arith}
use borrow.Author.Rules.{rules}
use Rattle.driver_rules.proofs.States.{mask_of_y}
use Rattle.driver_check.proofs.records.leaf_end.Statement.{statement}
use Rattle.driver_check.proofs.records.leaf_end.Tie as tie

-- of Y alone
returns : tie.Need-returns-then-mask-le1
returns c =
    let e = mask_of_y c.args.mask c.if-mask-le1.true in (
      rw (e.0, e.1, c.residual_count-y.ensures.0, c.coded_y.ensures) (omega arith),
      omega (arith, c.residual_count-y.ensures.1),
    )

returns-2 : tie.Need-returns
returns-2 c = (
  rw (
    c.residual_count-y.ensures.0,
    c.residual_count-u.ensures.0,
    c.residual_count-v.ensures.0,
    c.coded_y.ensures,
    c.coded_u.ensures,
    c.coded_v.ensures,
  ),
  omega (arith, c.residual_count-y.ensures.1, c.residual_count-u.ensures.1, c.residual_count-v.ensures.1),
)

pub leaf_end_spec : {M : Type 1} → statement M
leaf_end_spec =
    tie.close
    (tie.spec (λ c κs. search rules) (λ c κs. search rules) (λ c. search rules) returns (λ c κs. search rules) (λ c κs. search rules) (λ c κs. search rules) (λ c κs. search rules)
    (λ c. search rules) (λ c. search rules) (λ c. search rules) returns-2)
