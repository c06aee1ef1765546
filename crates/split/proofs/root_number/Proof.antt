-- `split::root_number` meets its contract: a root's number is less than 4096, as at most 64 stand along a side. Assumes nothing.
use mathlib.Core.Bool.{Bool, true, false, ◌&&◌}
use mathlib.Core.List.{[], ◌∷◌}
use mathlib.Core.Path.{◌≡◌, sym, ap₂, ◌∙◌, subst}
use Prim.Native.Nat.{ℕ, ◌+◌, ◌*◌, ◌/◌, ◌≤◌}
use native.Mathlib.Omega.{arith}
use borrow.Author.Rules.{rules}
use Rattle.def.specs.Picture.{size_ok}
use Rattle.def.proofs.Sizes.{sized}
use Rattle.laws.proofs.Calls.{all_at}
use Rattle.split.specs.LeavesCall.{root_ok, root_index}
use Rattle.split.proofs.Outcomes.{root_told}
use Rattle.split.proofs.Roots.{few_roots, index_in}
use Rattle.split.proofs.root_number.Statement.{statement}
use Rattle.split.proofs.root_number.Tie as tie

-- what the code tests is what the contract asks
module _ (c : tie.After-root_ok) where
  abbrev s : tie.Start
  s = c.before.before

  abbrev ok : Bool
  ok = size_ok s.args.w s.args.h && root_ok s.args.w s.args.h s.args.x.0 s.args.y.0

  tested : ok ≡ (c.size_ok.result && c.root_ok.result)
  tested = ap₂ ◌&&◌ (sym c.size_ok.ensures) (sym c.root_ok.ensures)

module _ (c : tie.After-roots_along) where
  abbrev t : tie.After-root_ok
  t = c.before.before

  passed : ok t ≡ true
  passed = tested t ∙ c.if-size_ok-root_ok.true

  number : let a = (s t).args in a.y.0 / 64 * c.roots_along.result + a.x.0 / 64 ≤ 4096
  number =
      let a = (s t).args in
      let l = size_ok a.w a.h ∷ root_ok a.w a.h a.x.0 a.y.0 ∷ [] in
      let z = sized _ _ (all_at l 0 passed) in
      let r = root_told _ _ _ _ (all_at l 1 passed) in
      let small : root_index a.w a.x.0 a.y.0 ≤ 4096 = omega (arith, index_in z _ _ r.2 r.3, few_roots _ _ z.wide z.high) in
      subst (λ (m : ℕ). a.y.0 / 64 * m + a.x.0 / 64 ≤ 4096) (sym c.roots_along.ensures) small

mul_result : tie.Need-overflow_mul-result
mul_result c = omega (arith, number c)

add_result : tie.Need-overflow_add-result
add_result c = omega (arith, number c)

returns : tie.Need-returns-then-size_ok-root_ok
returns c = rw (passed c, c.roots_along.ensures)

returns-2 : tie.Need-returns
returns-2 c = let e : ok c.before ≡ false = tested c.before ∙ c.if-size_ok-root_ok.false in rw e

pub root_number_spec : {M : Type 1} → statement M
root_number_spec =
    tie.close
    (tie.spec
    (λ c κs. search rules)
    (λ c κs. search rules)
    (λ c κs. search rules)
    mul_result
    add_result
    returns
    returns-2)
