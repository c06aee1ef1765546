-- Rows and blocks as a whole: parts of a row put together, a block's loop over its rows, and what covers all of a list.
--     row_same      rows of the same samples are the same
--     row_join      two parts of a row, one after the other, are one
--     Rows, rows_none, rows_more, rows_all     the block's loop: what holds after r rows, at the start, after one more, and at the end
--     whole_row, whole_block     a row, or a block, of all the places of a list is a table
-- Assumes nothing.
use mathlib.Core.Path.{◌≡◌, refl, sym, ap, ◌∙◌, subst}
use mathlib.Core.List.{List}
use Prim.Native.Nat.{ℕ, ◌+◌, ◌-◌, ◌*◌, ◌/◌, ◌%◌, ◌≤◌, ◌<◌}
use native.Mathlib.Nat.{mod-lt, sub-zero, div-lt_iff_lt-mul}
use native.Mathlib.Decide.{dec_lt}
use native.Mathlib.Omega.{arith}
use lib.ListN.{length, get_or}
use lib.Seq.{ext_get_or}
use Rattle.laws.specs.Index.{tabulate, pick}
use Rattle.laws.specs.Plane.{within, with_row, with_block}
use Rattle.laws.proofs.Tabulate.{is_tabulate}
use Rattle.laws.proofs.Planes.{within_yes, within_low, within_high, length_row, length_block, get_d_row, get_d_block, block_none, block_more}

module _ {A : Type 0} (d : A) where
  -- ---- a row

  module _ (a n : ℕ) (g h : ℕ → A) (l : List A) (same : (j : ℕ) → j < n → g j ≡ h j) where
    pub row_same : with_row d a n g l ≡ with_row d a n h l
    row_same =
        ext_get_or d _ _ (length_row d a n g l ∙ sym (length_row d a n h l))
        (λ k p. at k (subst (λ (i : ℕ). k < i) (length_row d a n g l) p) (dec_lt k a) (dec_lt k (a + n))) where
          at : (k : ℕ) → k < length l → Dec (k < a) → Dec (k < a + n) → get_or (with_row d a n g l) k d ≡ get_or (with_row d a n h l) k d
          at k q (yes p) r = simp (get_d_row d a n g l k q, get_d_row d a n h l k q, within_low a n k p)
          at k q (no p) (yes r) = simp (get_d_row d a n g l k q, get_d_row d a n h l k q, within_yes a n k (omega arith) r) (same (k - a) (omega arith))
          at k q (no p) (no r) = simp (get_d_row d a n g l k q, get_d_row d a n h l k q, within_high a n k (omega arith))

  module _ (a m n : ℕ) (g h f : ℕ → A) (l : List A) (first : (j : ℕ) → j < m → f j ≡ g j) (then : (j : ℕ) → j < n → f (m + j) ≡ h j) where
    -- one place k, that holds z before
    joined : (k : ℕ) (z : A) → Dec (k < a) → Dec (k < a + m) → Dec (k < a + m + n)
        → pick (within (a + m) n k) (h (k - (a + m))) (pick (within a m k) (g (k - a)) z) ≡ pick (within a (m + n) k) (f (k - a)) z
    joined k z (yes p) q r = simp (within_low (a + m) n k (omega arith), within_low a m k p, within_low a (m + n) k p)
    joined k z (no p) (yes q) r = simp (within_low (a + m) n k q, within_yes a m k (omega arith) q, within_yes a (m + n) k (omega arith) (omega arith)) (sym (first (k - a) (omega arith)))
    joined k z (no p) (no q) (yes r) =
        let e : m + (k - (a + m)) ≡ k - a = omega arith in
        simp (within_yes (a + m) n k (omega arith) r, within_yes a (m + n) k (omega arith) (omega arith))
        (sym (then (k - (a + m)) (omega arith)) ∙ ap f e)
    joined k z (no p) (no q) (no r) = simp (within_high (a + m) n k (omega arith), within_high a m k (omega arith), within_high a (m + n) k (omega arith))

    pub row_join : with_row d (a + m) n h (with_row d a m g l) ≡ with_row d a (m + n) f l
    row_join =
        let long : length (with_row d a m g l) ≡ length l = length_row d a m g l in
        ext_get_or d _ _ (length_row d (a + m) n h (with_row d a m g l) ∙ long ∙ sym (length_row d a (m + n) f l))
        (λ k p. at k (subst (λ (i : ℕ). k < i) (length_row d (a + m) n h (with_row d a m g l) ∙ long) p) long) where
          at : (k : ℕ) → k < length l → length (with_row d a m g l) ≡ length l → get_or (with_row d (a + m) n h (with_row d a m g l)) k d ≡ get_or (with_row d a (m + n) f l) k d
          at k q e =
              get_d_row d (a + m) n h (with_row d a m g l) k (subst (λ (i : ℕ). k < i) (sym e) q)
              ∙ ap (pick (within (a + m) n k) (h (k - (a + m)))) (get_d_row d a m g l k q)
              ∙ joined k (get_or l k d) (dec_lt k a) (dec_lt k (a + m)) (dec_lt k (a + m + n))
              ∙ sym (get_d_row d a (m + n) f l k q)

  pub whole_row : (n : ℕ) (g : ℕ → A) (l : List A) → length l ≡ n → with_row d 0 n g l ≡ tabulate n g
  whole_row n g l e =
      is_tabulate g n (with_row d 0 n g l) d (length_row d 0 n g l ∙ e)
      (λ k p. get_d_row d 0 n g l k (omega arith) ∙ rw (within_yes 0 n k (omega arith) (omega arith), sub-zero))

  -- ---- a block, by its rows

  -- the first r rows of the block of s columns at column x, row y have been written
  pub record Rows (w x y s : ℕ) (f : ℕ → ℕ → A) (l₀ l : List A) (r : ℕ) : Type 0 where
    pub long : length l ≡ length l₀
    pub written : l ≡ with_block d w x y s r f l₀

  module _ (w x y s : ℕ) (f : ℕ → ℕ → A) (l₀ : List A) where
    pub rows_none : Rows w x y s f l₀ l₀ 0
    rows_none = record { long = refl; written = block_none d w x y s f l₀ }

    -- m is l with a row more, from a
    pub rows_more : (l m : List A) (r a : ℕ) (g : ℕ → A) → x + s ≤ w → 0 < w → a ≡ (y + r) * w + x → ((j : ℕ) → j < s → g j ≡ f r j)
        → m ≡ with_row d a s g l → Rows w x y s f l₀ l r → Rows w x y s f l₀ m (r + 1)
    rows_more l m r a g fits some e same q u =
        record {
          long = ap length q ∙ length_row d a s g l ∙ u.long;
          written = q ∙ row_same a s g (f r) l same ∙ rw (e, u.written) (block_more d w x y s r f l₀ fits some);
        }

    pub rows_all_lem : (l : List A) (r n : ℕ) → r ≡ n → Rows w x y s f l₀ l r → l ≡ with_block d w x y s n f l₀
    rows_all_lem l r n e u = u.written ∙ rw e

  pub whole_block : (w n : ℕ) (f : ℕ → ℕ → A) (l : List A) → 0 < w → length l ≡ n * w → with_block d w 0 0 w n f l ≡ tabulate (n * w) (λ (k : ℕ). f (k / w) (k % w))
  whole_block w n f l some e = is_tabulate _ (n * w) (with_block d w 0 0 w n f l) d (length_block d w 0 0 w n f l ∙ e) at where
    at : (k : ℕ) → k < n * w → get_or (with_block d w 0 0 w n f l) k d ≡ f (k / w) (k % w)
    at k p =
        let row : k / w < n = (div-lt_iff_lt-mul some).1 p in
        get_d_block d w 0 0 w n f l k (omega arith)
        ∙ rw (within_yes 0 n (k / w) (omega arith) (omega arith), within_yes 0 w (k % w) (omega arith) (omega (arith, mod-lt k some)), sub-zero (k / w), sub-zero (k % w))
