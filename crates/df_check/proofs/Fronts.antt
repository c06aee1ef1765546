-- A slice whose end, from a on, was lent to a call and changed there.
-- Assumes nothing.
use Prim.Native.Nat.{ℕ, ◌-◌, ◌≤◌}
use mathlib.Core.Path.{◌≡◌, ap, ◌∙◌}
use mathlib.Core.List.{List, ◌++◌, append-nil}
use native.Mathlib.Omega.{arith}
use borrow.Rule.Slice.PartMut.{mid_of, put_mid}
use lib.ListN.{length, take, drop, length-drop, drop_of_length-le}
use lib.Seq.{take_all, drop_at, length-take-le}

module _ {A : Type 0} (a : ℕ) (xs : List A) where
  short : length (drop a xs) ≤ length xs - a
  short = omega (arith, length-drop a xs)

  pub whole_end : mid_of a (length xs - a) xs ≡ drop a xs
  whole_end = take_all (length xs - a) (drop a xs) short

  pub end_put : (f : List A → List A) (ys : List A) → ys ≡ f (mid_of a (length xs - a) xs) → put_mid a (length xs - a) xs ys ≡ take a xs ++ f (drop a xs)
  end_put f ys e = ap (λ (z : List A). take a xs ++ z)
      (ap (λ (z : List A). ys ++ z) (drop_of_length-le (drop a xs) short) ∙ append-nil ys ∙ e ∙ ap f whole_end)

  -- what the end holds afterwards
  pub end_drop : (ys : List A) → a ≤ length xs → drop a (put_mid a (length xs - a) xs ys) ≡ ys
  end_drop ys h = drop_at (take a xs) _ a (length-take-le a xs h) ∙ ap (λ (z : List A). ys ++ z) (drop_of_length-le (drop a xs) short) ∙ append-nil ys
