-- `strength::put_again` meets its contract: a copy within the list is the row that reads 208 places below. Assumes nothing.
use Prim.Native.Nat.{ℕ, ◌+◌, ◌-◌}
use mathlib.Core.Path.{◌≡◌, refl, ap, ◌∙◌}
use native.Mathlib.Omega.{arith}
use lib.ListN.{get_or}
use Rattle.laws.proofs.Planes.{rowed_all}
use Rattle.strength.proofs.put_again.Goals as goal

back : (j : ℕ) → 416 + j - 416 ≡ j
back j = omega arith

pub returns : goal.returns
returns c =
    let e = c.copy_within.ensures.by_index in
    let old = c.args.list.now in
    rowed_all 0 416 208 (λ (i : ℕ). get_or old (208 + i) 0) _ _ 208 refl
    (record {
      long = c.copy_within.ensures.len;
      done = λ j h. e.0 (416 + j) 0 (omega arith) (omega arith) ∙ ap (λ (i : ℕ). get_or old (208 + i) 0) (back j);
      low = λ k h. e.1 k 0 h;
      high = λ k h. e.2 k 0 (omega arith);
    })
