-- A picture that is accepted stays accepted without its colour, and its luma plane, words, modes and keep bytes are the same.
--     mask_luma, byte_luma    a leaf record with Y's bit alone
--     luma_ends    where the residuals of Y end
--     leaves_same    each leaf has the same luma data
--     without_colour_lem    the theorem
-- Assumes nothing.
use Rattle.std.specs.Prelude.{Ok}
use Prim.Native.Nat.{ℕ, zero, suc, ◌+◌, ◌*◌, ◌/◌, ◌%◌, ◌≤◌, ◌<◌}
use mathlib.Core.Path.{◌≡◌, refl, sym, ap, ◌∙◌}
use mathlib.Core.Bool.{Bool, true, false}
use mathlib.Core.List.{List, [], ◌∷◌, ◌++◌, append_assoc}
use native.Mathlib.Nat.{add-zero, zero-add, div-one, le_trans}
use native.Mathlib.Decide.{dec_lt}
use native.Mathlib.Omega.{arith}
use borrow.Author.Tests.{eq-eqb, ne_eqb, le-leb}
use lib.Dec.{eqb, leb}
use lib.IntN.{ℤ}
use lib.ListN.{length, get_or, take, drop, length-append, length-drop, get_or-eq_default}
use lib.Seq.{length-take-le, take_at, drop_at}
use Rattle.laws.specs.Bits.{field_of}
use Rattle.laws.specs.Index.{pick}
use Rattle.laws.specs.Orders.{run}
use Rattle.laws.proofs.ScanAll.{scan_pass}
use Rattle.laws.proofs.Scans.{scan_at}
use Rattle.laws.proofs.Tabulate.{length_tabulate, get_d_tabulate}
use Rattle.def.specs.Components.{plane_length}
use Rattle.def.specs.Picture.{luma_length}
use Rattle.def.specs.Word.{flag_at}
use Rattle.def.specs.declared.Component.TheVariants.{Luma}
use Rattle.samples.specs.Samples.{samples_ok}
use Rattle.samples.proofs.Samples.{samples_pass}
use Rattle.split.specs.Walk.{Leaf}
use Rattle.driver_rules.specs.Call.{Input, read_ok, written_ok, records_ok, lent_ok, data_check, check_of, check, leaves_of}
use Rattle.driver_rules.specs.Luma.{luma_residual, SameLeaves, luma_records, luma_residuals, without_colour, WithoutColour}
use Rattle.driver_rules.specs.Records.{byte_at, record_mask, bytes_ok, coded_y, residual_count, sample_count, end_v, Place, first, advance, passed}
use Rattle.driver_rules.specs.Steps.{Given}
use Rattle.driver_rules.proofs.Checks.{Passed, all_passed, written_told}
use Rattle.driver_rules.proofs.Luma.{same_luma}
use Rattle.driver_rules.proofs.Places.{passed_more}
use Rattle.driver_rules.proofs.States.{mask_of_y}

-- ---- the records

module _ (r : List ℕ) where
  number_luma : (k : ℕ) → get_or (luma_records r) k 0 ≡ pick (eqb (k % 4) 2) (get_or r k 0 % 2) (get_or r k 0)
  number_luma k = go (dec_lt k (length r)) where
    none : (b : Bool) (n : ℕ) → n ≡ 0 → 0 ≡ pick b (n % 2) n
    none true n e = rw e
    none false n e = sym e

    go : Dec (k < length r) → get_or (luma_records r) k 0 ≡ pick (eqb (k % 4) 2) (get_or r k 0 % 2) (get_or r k 0)
    go (yes p) = get_d_tabulate _ (length r) k 0 p
    go (no p) =
        get_or-eq_default (luma_records r) 0 {n = k} (rw (length_tabulate (λ (k : ℕ). pick (eqb (k % 4) 2) (get_or r k 0 % 2) (get_or r k 0)) (length r)) (omega arith))
        ∙ none (eqb (k % 4) 2) (get_or r k 0) (get_or-eq_default r 0 {n = k} (omega arith))

  mask_luma : (k : ℕ) → record_mask (luma_records r) k ≡ record_mask r k % 2
  mask_luma k = number_luma (4 * k + 2) ∙ rw (eq-eqb ((4 * k + 2) % 4) 2 (omega arith))

  byte_luma : (k b : ℕ) → b < 4 → (b ≡ 2 → ⊥) → byte_at (luma_records r) k b ≡ byte_at r k b
  byte_luma k b p q = number_luma (4 * k + b) ∙ rw (ne_eqb ((4 * k + b) % 4) 2 (λ e. q (omega (arith, e))))

  bytes_luma : (n b m : ℕ) → b < 4 → (b ≡ 2 → ⊥) → bytes_ok r n b m ≡ true → bytes_ok (luma_records r) n b m ≡ true
  unfolding bytes_ok
  bytes_luma n b m p q e = scan_pass _ n (λ k h. rw (byte_luma k b p q) (scan_at (λ (k : ℕ). leb (byte_at r k b) m) n k h e))

  masks_luma : (n : ℕ) → bytes_ok (luma_records r) n 2 1 ≡ true
  unfolding bytes_ok
  masks_luma n = scan_pass _ n (λ k h. le-leb (record_mask (luma_records r) k) 1 (omega (arith, mask_luma k)))

  coded_luma : (k : ℕ) → coded_y (record_mask (luma_records r) k) ≡ coded_y (record_mask r k)
  unfolding flag_at field_of
  coded_luma k = let e : record_mask r k % 2 / 1 % 2 ≡ record_mask r k / 1 % 2 = omega arith in rw (mask_luma k) (ap (λ (n : ℕ). eqb n 1) e)

  -- where the residuals of a leaf end
  end_luma : (at k side : ℕ) → end_v at (record_mask (luma_records r) k) side ≡ at + residual_count Luma (coded_y (record_mask r k)) side
  end_luma at k side =
      let e = mask_of_y (record_mask (luma_records r) k) (omega (arith, mask_luma k)) in
      rw (e.0, e.1, coded_luma k) (omega arith)

-- ---- the residuals

module _ (g : Given) where
  abbrev r : List ℕ
  r = g.leaves

  -- those of one leaf
  abbrev own : Leaf → Place → List ℤ
  own p t = pick (coded_y (record_mask r t.k)) (luma_residual g (4 * p.side) t) []

  -- which reach no further than all
  abbrev Inside : List Leaf → Place → Type 0
  Inside l t = (passed r l t).at ≤ length g.residual

  own_long : (p : Leaf) (t : Place) → end_v t.at (record_mask r t.k) (4 * p.side) ≤ length g.residual → length (own p t) ≡ residual_count Luma (coded_y (record_mask r t.k)) (4 * p.side)
  own_long p t h = go (coded_y (record_mask r t.k)) (omega (arith, h)) where
    go : (b : Bool) → t.at + pick b (sample_count Luma (4 * p.side)) 0 ≤ length g.residual → length (pick b (luma_residual g (4 * p.side) t) []) ≡ pick b (sample_count Luma (4 * p.side)) 0
    go true q = length-take-le _ (drop t.at g.residual) (rw (length-drop t.at g.residual) (omega arith))
    go false q = refl

  first_inside : (p : Leaf) (l : List Leaf) (t : Place) → Inside (p ∷ l) t → end_v t.at (record_mask r t.k) (4 * p.side) ≤ length g.residual
  unfolding run
  first_inside p l t h = le_trans (passed_more r l (advance r p t)).0 h

  rest_inside : (p : Leaf) (l : List Leaf) (t : Place) → Inside (p ∷ l) t → Inside l (advance r p t)
  unfolding run
  rest_inside p l t h = h

  luma_ends : (l : List Leaf) (t u : Place) → t.k ≡ u.k → Inside l t → (passed (luma_records r) l u).at ≡ u.at + length (luma_residuals g l t)
  unfolding run luma_residuals
  luma_ends [] t u e h = sym (add-zero u.at)
  luma_ends (p ∷ l) t u e h =
      let now = end_luma r u.at u.k (4 * p.side) in
      let one = own_long p t (first_inside p l t h) in
      let k : coded_y (record_mask r u.k) ≡ coded_y (record_mask r t.k) = ap (λ (n : ℕ). coded_y (record_mask r n)) (sym e) in
      let all = length-append (own p t) (luma_residuals g l (advance r p t)) in
      let next = luma_ends l (advance r p t) (advance (luma_records r) p u) (ap (λ (n : ℕ). n + 1) e) (rest_inside p l t h) in
      next ∙ rw (now, k, all, one) (omega arith)

  -- ---- each leaf, the residuals of Y being what is left of a list

  module _ (o : Given) (same : o.leaves ≡ luma_records r) where
    -- a byte of the leaf's record, but its mask
    byte_same : (t u : Place) (b : ℕ) → b < 4 → (b ≡ 2 → ⊥) → t.k ≡ u.k → byte_at r t.k b ≡ byte_at o.leaves u.k b
    byte_same t u b p q e = ap (λ (n : ℕ). byte_at r n b) e ∙ sym (byte_luma r u.k b p q) ∙ ap (λ (m : List ℕ). byte_at m u.k b) (sym same)

    coded_same : (t u : Place) → t.k ≡ u.k → coded_y (record_mask r t.k) ≡ coded_y (record_mask o.leaves u.k)
    coded_same t u e = ap (λ (n : ℕ). coded_y (record_mask r n)) e ∙ sym (coded_luma r u.k) ∙ ap (λ (m : List ℕ). coded_y (record_mask m u.k)) (sym same)

    -- Y's residual of the first leaf
    first_same : (p : Leaf) (l : List Leaf) (t u : Place) (pre : List ℤ) → Inside (p ∷ l) t → length pre ≡ u.at → o.residual ≡ pre ++ luma_residuals g (p ∷ l) t → coded_y (record_mask r t.k) ≡ true
        → luma_residual g (4 * p.side) t ≡ luma_residual o (4 * p.side) u
    unfolding luma_residuals
    first_same p l t u pre h long is c =
        let one : own p t ≡ luma_residual g (4 * p.side) t = rw c in
        let n : length (own p t) ≡ sample_count Luma (4 * p.side) = own_long p t (first_inside p l t h) ∙ rw c in
        sym one
        ∙ sym (take_at (own p t) (luma_residuals g l (advance r p t)) (sample_count Luma (4 * p.side)) n)
        ∙ ap (take (sample_count Luma (4 * p.side))) (sym (drop_at pre (own p t ++ luma_residuals g l (advance r p t)) u.at long))
        ∙ ap (λ (m : List ℤ). take (sample_count Luma (4 * p.side)) (drop u.at m)) (sym is)

    leaves_same : (l : List Leaf) (t u : Place) (pre : List ℤ) → t.k ≡ u.k → Inside l t → length pre ≡ u.at → o.residual ≡ pre ++ luma_residuals g l t → SameLeaves g o l t u
    unfolding run luma_residuals
    leaves_same [] t u pre e h long is n q = absurd (omega (arith, q))
    leaves_same (p ∷ l) t u pre e h long is zero q =
        record {
          kind = byte_same t u 0 (omega arith) (λ d. omega (arith, d)) e;
          qp = byte_same t u 1 (omega arith) (λ d. omega (arith, d)) e;
          keep = byte_same t u 3 (omega arith) (λ d. omega (arith, d)) e;
          coded = coded_same t u e;
          residual = first_same p l t u pre h long is;
        }
    leaves_same (p ∷ l) t u pre e h long is (suc n) q =
        let now : end_v u.at (record_mask o.leaves u.k) (4 * p.side) ≡ u.at + residual_count Luma (coded_y (record_mask r u.k)) (4 * p.side) =
        ap (λ (m : List ℕ). end_v u.at (record_mask m u.k) (4 * p.side)) same ∙ end_luma r u.at u.k (4 * p.side) in
        let k : coded_y (record_mask r u.k) ≡ coded_y (record_mask r t.k) = ap (λ (n : ℕ). coded_y (record_mask r n)) (sym e) in
        let one = own_long p t (first_inside p l t h) in
        leaves_same l (advance r p t) (advance o.leaves p u) (pre ++ own p t) (ap (λ (n : ℕ). n + 1) e) (rest_inside p l t h)
        (length-append pre (own p t) ∙ rw (long, one, now, k)) (is ∙ sym (append_assoc pre (own p t) (luma_residuals g l (advance r p t)))) n (omega (arith, q))

-- ---- the theorem

module _ (i : Input) (accepted : check i ≡ Ok tt) where
  abbrev p : Passed i
  p = all_passed i accepted

  abbrev g : Given
  g = i.given

  abbrev l : List Leaf
  l = leaves_of g.w g.h i.splits

  abbrev grey : Input
  grey = without_colour i

  empty : samples_ok [] ≡ true
  empty = samples_pass [] (λ k q. absurd (omega (arith, q)))

  pub stays : check grey ≡ Ok tt
  unfolding check_of read_ok written_ok data_check records_ok lent_ok
  stays =
      let w = written_told g.w g.h g.format _ _ _ _ _ _ p.written in
      let n : length (luma_records g.leaves) ≡ 4 * length l = length_tabulate (λ (k : ℕ). pick (eqb (k % 4) 2) (get_or g.leaves k 0 % 2) (get_or g.leaves k 0)) (length g.leaves) ∙ p.records in
      let ends : length (luma_residuals g l first) ≡ (passed (luma_records g.leaves) l first).at = sym (luma_ends g l first first refl p.reaches.residuals ∙ zero-add _) in
      let luma : (m : ℕ) → m ≡ plane_length Luma g.w g.h → m ≡ luma_length g.w g.h = λ m e. rw (← div-one g.w, ← div-one g.h) e in
      rw (
        p.accepted.size,
        eq-eqb _ _ p.accepted.long,
        eq-eqb _ _ (luma _ p.given.lent_y.long),
        eq-eqb _ _ (luma _ w.y_long),
        eq-eqb _ _ w.words_long,
        eq-eqb _ _ w.modes_long,
        eq-eqb _ _ w.keep_long,
        p.accepted.walked,
        eq-eqb _ _ n,
        eq-eqb _ _ ends,
        masks_luma g.leaves (length l),
        bytes_luma g.leaves (length l) 3 1 (omega arith) (λ d. omega (arith, d)) p.spares,
        bytes_luma g.leaves (length l) 0 5 (omega arith) (λ d. omega (arith, d)) p.kinds,
        bytes_luma g.leaves (length l) 1 51 (omega arith) (λ d. omega (arith, d)) p.qps,
        p.given.lent_y.small,
        empty,
      )

  pub without_colour_lem : WithoutColour i
  without_colour_lem =
      record {
        accepted = stays;
        luma =
            same_luma i grey
            (record {
              given = record { w = refl; h = refl; constrained = refl; pred_y = refl };
              splits = refl;
              leaves = leaves_same g grey.given refl l first first [] refl p.reaches.residuals refl refl;
              y = refl;
              words = refl;
              modes = refl;
              keep = refl;
            })
            accepted stays;
      }
