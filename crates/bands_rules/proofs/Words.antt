-- Words whose first k are left as they are, and in which done is set from there on.
-- Assumes nothing.
use mathlib.Core.Path.{◌≡◌, sym, ap, ◌∙◌}
use mathlib.Core.List.{List, ◌++◌}
use Prim.Native.Nat.{ℕ, ◌+◌, ◌-◌, ◌≤◌, ◌<◌}
use native.Mathlib.Omega.{arith}
use lib.ListN.{length, get_or, take, drop, length-drop, length-append, get_or-append}
use lib.Seq.{get_or-append-add, get_or-take, get_or-drop, length-take-le}
use Rattle.def.specs.Word.{with_done}
use Rattle.laws.proofs.Tabulate.{length_tabulate, get_d_tabulate}
use Rattle.df_rules.specs.Visit.{all_done}
use Rattle.bands_rules.specs.Bands.{done_from}

done_long : (xs : List ℕ) → length (all_done xs) ≡ length xs
unfolding all_done
done_long xs = length_tabulate _ (length xs)

done_at_lem : (xs : List ℕ) (i : ℕ) → i < length xs → get_or (all_done xs) i 0 ≡ with_done (get_or xs i 0)
unfolding all_done
done_at_lem xs i h = get_d_tabulate _ (length xs) i 0 h

module _ (k : ℕ) (l : List ℕ) (room : k ≤ length l) where
  front : length (take k l) ≡ k
  front = length-take-le k l room

  pub done_from_long : length (done_from k l) ≡ length l
  done_from_long = length-append (take k l) (all_done (drop k l)) ∙ omega (arith, front, done_long (drop k l), length-drop k l)

  pub done_from_above : (i : ℕ) → i < k → get_or (done_from k l) i 0 ≡ get_or l i 0
  done_from_above i h = get_or-append (take k l) (all_done (drop k l)) 0 i (omega (arith, front)) ∙ get_or-take k l i 0 h

  pub done_from_at : (i : ℕ) → k ≤ i → i < length l → get_or (done_from k l) i 0 ≡ with_done (get_or l i 0)
  done_from_at i g h =
      let e : length (take k l) + (i - k) ≡ i = omega (arith, front) in
      let e₁ : k + (i - k) ≡ i = omega arith in
      ap (λ (j : ℕ). get_or (done_from k l) j 0) (sym e)
      ∙ get_or-append-add (take k l) (all_done (drop k l)) (i - k) 0
      ∙ done_at_lem (drop k l) (i - k) (omega (arith, length-drop k l))
      ∙ ap with_done (get_or-drop k l (i - k) 0 ∙ ap (λ (j : ℕ). get_or l j 0) e₁)
