-- A table made from its points as `fill` does: up to the first pivot, then part by part, then past the last.
--     first_range, Next, next_range     the pivots' numbers, as they are held, are in range
--     Made, made_first, next_entry, made_next, made_all     the table up to a pivot, whose entry is read back from the table
-- Assumes nothing.
use mathlib.Core.Path.{◌≡◌, refl, sym, ap, ◌∙◌, subst}
use mathlib.Core.Bool.{true}
use mathlib.Core.List.{List}
use Prim.Native.Nat.{ℕ, suc, ◌+◌, ◌-◌, ◌<◌}
use native.Mathlib.Nat.{zero-add}
use native.Mathlib.Omega.{arith}
use lib.IntN.{ℤ, pos, ◌-ℤ◌}
use lib.ListN.{length, get_or}
use lib.Signed.{le_z}
use Rattle.laws.specs.Plane.{with_row}
use Rattle.laws.proofs.Scans.{scan_at}
use Rattle.chroma_qp_check.specs.Check.{pivot_ok, pivots_ok}
use Rattle.chroma_qp_check.specs.Pivots.{Points, a_at, b_at, entry_qp}
use Rattle.chroma_qp_check.proofs.Offsets.{qp_apart}
use Rattle.chroma_qp_check.proofs.Pivots.{Held, held_first, held_next, Tested, tested}
use Rattle.chroma_qp_check.proofs.Points.{countable}
use Rattle.chroma_qp.specs.Held.{held_below, held_between, held_past, Entry, Checked}
use Rattle.chroma_qp.specs.Mapping.{last_of, table_at, table_of}
use Rattle.chroma_qp.proofs.Filled.{row_last, Filled, filled_none, filled_row, filled_all}
use Rattle.chroma_qp.proofs.Parts.{entry_most}
use Rattle.chroma_qp.proofs.Pivots.{Reached, reached_first, reached_next, at_below, at_between, at_past, settled}

pub passes : (s : ℤ) (p : Points) → pivots_ok s p ≡ true → (j : ℕ) → j < p.count → pivot_ok s p j ≡ true
unfolding pivots_ok
passes s p e j h = scan_at (pivot_ok s p) p.count j h e

module _ (s : ℕ) (p : Points) where
  -- the entries of the whole table
  abbrev pub entry : ℕ → ℤ
  entry k = table_at (entry_qp s) p (entry_qp k)

  -- t is right up to pivot j, whose in, out and entry are held as i, o and v
  pub record Made (t : List ℤ) (i o v j : ℕ) : Type 0 where
    pub within : j < p.count
    pub reached : Reached (entry_qp s) p j i o v
    pub filled : Filled entry t (i + 1)

-- pivot j is not the last; x is the next one's a, and y is 128 more than its b
pub record Next (p : Points) (j x y : ℕ) : Type 0 where
  pub there : suc j < p.count
  pub at_a : a_at p (suc j) ≡ pos x
  pub at_b : b_at p (suc j) ≡ pos y -ℤ pos 128

module _ (s : ℕ) (p : Points) (ok : Checked s p) where
  rises : (j : ℕ) → suc j < p.count → le_z (pos 0) (a_at p (suc j)) ≡ true
  rises j h = (countable p.count p.a ok.counted.points).not_below (suc j) h

  -- ---- the first pivot
  module _ (x y : ℕ) (at_a : a_at p 0 ≡ pos x) (at_b : b_at p 0 ≡ pos y -ℤ pos 128) where
    held_0 : Held (entry_qp s) p 0 (s + x) (s + x + y)
    held_0 = held_first (entry_qp s) p s x y refl at_a at_b

    pub first_range : Tested (entry_qp s) p 0 (s + x) (s + x + y)
    first_range = tested (entry_qp s) p 0 (s + x) (s + x + y) held_0 (passes (entry_qp s) p ok.pivots 0 (countable p.count p.a ok.counted.points).some)

    pub made_first : (t : List ℤ) → length t ≡ 70
        → Made s p (with_row (pos 0) 0 (s + x + 1) (λ (k : ℕ). entry_qp (held_below (s + x) (s + x + y - 128) k)) t) (s + x) (s + x + y - 128) (s + x + y - 128) 0
    made_first t e =
        let some = (countable p.count p.a ok.counted.points).some in
        record {
          within = some;
          reached = reached_first (entry_qp s) p (s + x) (s + x + y - 128) held_0.in_is first_range.out_is first_range.in_most (omega (arith, first_range.out_most));
          filled =
              subst (Filled (entry s p) _) (zero-add (s + x + 1))
              (filled_row (entry s p) t 0 (s + x + 1) _ (omega (arith, first_range.in_most)) (λ c h. right c h) (filled_none (entry s p) t e));
        } where
          right : (c : ℕ) → c < s + x + 1 → entry_qp (held_below (s + x) (s + x + y - 128) c) ≡ entry s p (0 + c)
          right c h =
              sym
              (ap (entry s p) (zero-add c) ∙ settled (entry_qp s) p rises 0 (s + x) c (countable p.count p.a ok.counted.points).some held_0.in_is (omega arith)
              ∙ at_below (entry_qp s) p (s + x) (s + x + y - 128) c held_0.in_is first_range.out_is (omega (arith, first_range.out_most)) (omega arith))

  -- ---- a pivot, and the next
  module _ (t : List ℤ) (i o v j : ℕ) (m : Made s p t i o v j) where
    module _ (x y : ℕ) (n : Next p j x y) where
      held_1 : Held (entry_qp s) p (suc j) (i + (x + 1)) (o + (x + 1) + y)
      held_1 = held_next (entry_qp s) p j i x m.reached.in_is n.at_a o y m.reached.out_is n.at_b

      pub next_range : Tested (entry_qp s) p (suc j) (i + (x + 1)) (o + (x + 1) + y)
      next_range = tested (entry_qp s) p (suc j) (i + (x + 1)) (o + (x + 1) + y) held_1 (passes (entry_qp s) p ok.pivots (suc j) n.there)

      -- the part's entries, as they are held
      abbrev part : ℕ → ℕ
      part k = held_between v o (o + (x + 1) + y - 128) (x + 1) k

      made_part :
          Made s p (with_row (pos 0) (i + 1) (x + 1) (λ (k : ℕ). entry_qp (part (k + 1))) t)
          (i + (x + 1)) (o + (x + 1) + y - 128) (part (x + 1)) (suc j)
      made_part =
          let r = next_range in
          record {
            within = n.there;
            reached = reached_next (entry_qp s) p j i o v m.reached x (o + (x + 1) + y - 128) n.at_a r.out_is r.in_most (omega (arith, r.out_most));
            filled =
                subst (Filled (entry s p) _) (omega arith)
                (filled_row (entry s p) t (i + 1) (x + 1) _ (omega (arith, r.in_most)) (λ c q. right c q) m.filled);
          } where
            right : (c : ℕ) → c < x + 1 → entry_qp (part (c + 1)) ≡ entry s p (i + 1 + c)
            right c q =
                let e : i + 1 + c ≡ i + (c + 1) = omega arith in
                sym
                (ap (entry s p) e ∙ settled (entry_qp s) p rises (suc j) (i + (x + 1)) (i + (c + 1)) n.there held_1.in_is (omega arith)
                ∙ at_between (entry_qp s) p j i o v m.reached x (o + (x + 1) + y - 128) n.at_a next_range.out_is (c + 1) (omega arith) (omega arith))

      -- u is t with the part
      module _ (u : List ℤ) (e : u ≡ with_row (pos 0) (i + 1) (x + 1) (λ (k : ℕ). entry_qp (part (k + 1))) t) where
        end_is : get_or u (i + (x + 1)) (pos 0) ≡ entry_qp (part (x + 1))
        end_is = row_last part t u i (x + 1) e (omega arith) (omega (arith, m.filled.long, next_range.in_most))

        pub next_entry : Entry (get_or u (i + (x + 1)) (pos 0))
        next_entry =
            let r = next_range in
            record {
              v = part (x + 1);
              is = end_is;
              most =
                  entry_most i v o (o + (x + 1) + y - 128) (x + 1) (omega arith) m.reached.least m.reached.most (x + 1) (omega arith) r.in_most
                  m.reached.out_most (omega (arith, r.out_most));
            }

        pub made_next : (w : ℕ) → entry_qp w ≡ get_or u (i + (x + 1)) (pos 0) → Made s p u (i + (x + 1)) (o + (x + 1) + y - 128) w (suc j)
        made_next w q = rw (e, qp_apart w (part (x + 1)) (q ∙ end_is)) made_part

    -- ---- past the last
    pub made_all : j ≡ last_of p → with_row (pos 0) (i + 1) (69 - i) (λ (k : ℕ). entry_qp (held_past v (k + 1))) t ≡ table_of (entry_qp s) p
    unfolding table_of
    made_all e =
        filled_all (entry s p) _ (i + 1 + (69 - i)) (omega (arith, m.reached.in_most))
        (filled_row (entry s p) t (i + 1) (69 - i) _ (omega (arith, m.reached.in_most)) (λ c h. right c) m.filled) where
          last : Reached (entry_qp s) p (last_of p) i o v
          last = rw e at m.reached

          right : (c : ℕ) → entry_qp (held_past v (c + 1)) ≡ entry s p (i + 1 + c)
          right c =
              let f : i + 1 + c ≡ i + (c + 1) = omega arith in
              sym (ap (entry s p) f ∙ at_past (entry_qp s) p i o v (c + 1) last (omega arith))
