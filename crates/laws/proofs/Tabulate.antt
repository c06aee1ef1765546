-- Laws of `tabulate`.
use mathlib.Core.Path.{◌≡◌, refl, sym, ap, ◌∙◌, subst}
use mathlib.Core.List.{List}
use Prim.Native.Nat.{ℕ, zero, suc, ◌+◌, ◌<◌}
use native.Mathlib.Nat.{add-zero, zero-add, add-suc, suc-add, le_of_suc-le-suc, not-suc-le-zero}
use lib.ListN.{length, get_or}
use lib.Seq.{ext_get_or}
use Rattle.laws.specs.Index.{tabulate, tabulate_from}

module _ {A : Type 0} (f : ℕ → A) where
  length_from : (i n : ℕ) → length (tabulate_from f i n) ≡ n
  unfolding tabulate_from
  length_from i zero = refl
  length_from i (suc n) = ap suc (length_from (suc i) n)

  get_d_from : (i n k : ℕ) (d : A) → k < n → get_or (tabulate_from f i n) k d ≡ f (i + k)
  unfolding tabulate_from
  get_d_from i zero k d h = absurd (not-suc-le-zero h)
  get_d_from i (suc n) zero d h = ap f (sym (add-zero i))
  get_d_from i (suc n) (suc k) d h = get_d_from (suc i) n k d (le_of_suc-le-suc h) ∙ ap f (suc-add i k ∙ sym (add-suc i k))

  pub length_tabulate : (n : ℕ) → length (tabulate n f) ≡ n
  length_tabulate n = length_from 0 n

  pub get_d_tabulate : (n k : ℕ) (d : A) → k < n → get_or (tabulate n f) k d ≡ f k
  get_d_tabulate n k d h = get_d_from 0 n k d h ∙ ap f (zero-add k)

  -- a list that has n elements, and f k at each k below n, is the table
  pub is_tabulate : (n : ℕ) (l : List A) (d : A) → length l ≡ n → ((k : ℕ) → k < n → get_or l k d ≡ f k) → l ≡ tabulate n f
  is_tabulate n l d e h =
      ext_get_or d l (tabulate n f) (e ∙ sym (length_tabulate n))
      (λ k p. let q : k < n = subst (λ (m : ℕ). k < m) e p in h k q ∙ sym (get_d_tabulate n k d q))
