-- `row::same_refs` meets its contract: two comparisons of bytes. Assumes nothing.
use Prim.Native.Nat.{◌<◌}
use mathlib.Core.Path.{◌≡◌}
use borrow.Author.Rules.{rules}
use lib.IntN.{ℤ}
use lib.Signed.{mag}
use mir.Syntax.{w8}
use mir.Val.{to_z, of_z}
use Rattle.laws.proofs.Widths.{back}
use Rattle.row.specs.Between.{same_refs}
use Rattle.row.proofs.same_refs.Statement.{statement}
use Rattle.row.proofs.same_refs.Tie as tie

number : {z : ℤ} → mag z < 128 → to_z w8 (of_z w8 z) ≡ z
number {z} h = back w8 z (record { sfits = h })

returns : tie.Need-returns
unfolding same_refs
returns c =
    rw (
      c.same_ref.ensures,
      number c.same_ref-arg-1.given,
      number c.same_ref-arg-2-1.given,
      c.same_ref-2.ensures,
      number c.same_ref-arg-3-1.given,
      number c.same_ref-arg-4-1.given,
    )

pub same_refs_spec : {M : Type 1} → statement M
same_refs_spec =
    tie.close
    (tie.spec (λ c. search rules) (λ c. search rules) (λ c. search rules) (λ c. search rules) (λ c κs. search rules)
    (λ c. search rules) (λ c. search rules) (λ c. search rules) (λ c. search rules) (λ c κs. search rules) returns)
