-- `sheet::print_digits` meets its contract: the size, the limit, or what the digits say. Assumes nothing.
use mathlib.Core.Bool.{true}
use mathlib.Core.Path.{◌≡◌, sym, ap, ◌∙◌}
use Prim.Native.Nat.{ℕ, ◌*◌, ◌≤◌}
use native.Mathlib.Omega.{arith}
use borrow.Author.Rules.{rules}
use lib.ListN.{length}
use lib.Seq.{length-take-le}
use Rattle.sheet.specs.Text.{sides_ok}
use Rattle.sheet.proofs.Founds.{sided, limit_test, size_no, limit_no, old_no, not_old}
use Rattle.sheet.proofs.Puts.{starts_as}
use Rattle.sheet.proofs.print_digits.Statement.{statement}
use Rattle.sheet.proofs.print_digits.Tie as tie

-- the sides passed
sides : (c : tie.Else-not-sides_ok) → let a = c.args in sides_ok a.w a.h ≡ true
sides c = sym c.sides_ok.ensures ∙ c.if-not-sides_ok.false

-- the map has room for the roots
room : (c : tie.After-map_room-map) → 1024 * c.root_count-n.result ≤ length c.map_room-map.result
room c = omega (arith, c.root_count-n.ensures.1, c.map_room-map.ensures)

returns : tie.Need-returns-then-not-sides_ok
returns c = starts_as (size_no _ _ _ _ _
    (sym c.sides_ok.ensures ∙ c.if-not-sides_ok.true)) c.put_refusal.ensures

root_count_requires : tie.Need-root_count-n-requires
root_count_requires c κs = sided _ _ (sides c.before.before)

print_tree_requires : tie.Need-print_tree-requires
print_tree_requires c κs =
    let p = c.requires in (
      sides c.before.before.before.before.before.before,
      (cc (limit_test c.args.limit)),
      p.0,
      p.1,
      length-take-le _ _ (room c.before.before) ∙ ap (λ (n : ℕ). 1024 * n) c.root_count-n.ensures.0,
      p.2,
    )

returns-4 : tie.Need-returns
returns-4 c = starts_as (not_old _ _ _ _ (sides c.before.before.before.before.before.before.before.before.before.before)
    (cc (limit_test c.args.limit)) _
    (cc)) c.print_tree.ensures

pub print_digits_spec : {M : Type 1} → statement M
print_digits_spec =
    tie.close
    (tie.spec
    (λ c κs. search rules)
    (λ c κs. search rules)
    (λ c. search rules)
    returns
    (λ c κs. search rules)
    (λ c. search rules)
    (λ c. starts_as (limit_no _ _ _ _ (sides c.before.before.before.before.before) _ (cc (limit_test c.args.limit))) (search rules))
    (λ c κs. search rules)
    (λ c. search rules)
    (λ c. starts_as (old_no _ _ _ _ (sides c.before.before.before.before.before.before) (cc (limit_test c.args.limit)) _ (cc)) (search rules))
    root_count_requires
    (λ c. search rules)
    (λ c κs. search rules)
    room
    (λ c. sym (length-take-le _ _ (room c.before)))
    print_tree_requires
    (λ c. search rules)
    returns-4)
