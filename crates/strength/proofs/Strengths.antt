-- Laws of a pass's strength entries.
--     rows_put_lem    a chroma plane's rows, read back
--     at_luma, at_u, at_v    the entry at a place, by the plane that has it
--     lumas, whole    the table as it is written: the lent entries into zeros, then four rows for each chroma plane, copied from them at the mapped QPs
--     luma_long, luma_alone    luma's entries alone: they are 624, and at every place the lent strengths, where these are 208
--     entries_long, luma_entry, u_entry, v_entry    what callers cite: the table's length, and the entry of each plane in a row at a QP
-- Assumes nothing.
use Prim.Native.Nat.{ℕ, ◌+◌, ◌*◌, ◌/◌, ◌%◌, ◌≤◌, ◌<◌}
use mathlib.Core.Logic.{◌⊎◌, inl, inr}
use mathlib.Core.Path.{◌≡◌, refl, sym, ap, ◌∙◌}
use mathlib.Core.List.{List}
use native.Mathlib.Nat.{zero-add}
use native.Mathlib.Decide.{dec_lt}
use native.Mathlib.Omega.{arith}
use borrow.Author.Tests.{lt-ltb, le-ltb}
use lib.IntN.{ℤ}
use lib.ListN.{length, get_or, get_or-eq_default}
use Rattle.laws.specs.Plane.{with_row}
use Rattle.laws.proofs.Fill.{Upto}
use Rattle.laws.proofs.Parts.{rowed_part}
use Rattle.laws.proofs.Planes.{Rowed, rowed_none, rowed_all}
use Rattle.laws.proofs.Tabulate.{length_tabulate, get_d_tabulate, is_tabulate}
use Rattle.laws.proofs.Whole.{whole_row}
use Rattle.strength.specs.ChromaQp.{mapped, mapped_qps}
use Rattle.strength.specs.Entries.{chroma_entry, entry_at, entries_of, rows_by, luma_at, luma_entries}
use Rattle.strength.proofs.ChromaQp.{mapped_most}

-- the rows that are copied stand where they were put, and what they were copied from is as it was
pub rows_put_lem : (l qps : List ℕ) → 416 ≤ length l → ((qp : ℕ) → get_or qps qp 0 ≤ 51) →
    (i : ℕ) → i < 208 → get_or (with_row 0 208 208 (rows_by l qps) l) (208 + i) 0 ≡ rows_by (with_row 0 208 208 (rows_by l qps) l) qps i
rows_put_lem l qps fits most i h =
    let r = rowed_part 0 208 (rows_by l qps) l l 0 208 (rows_by l qps) (omega arith) (λ j p. sym (ap (rows_by l qps) (zero-add j))) (rowed_none 0 208 (rows_by l qps) l) in
    r.done i (omega arith) ∙ sym (r.low (52 * (i / 52) + get_or qps (i % 52) 0) (omega (arith, most (i % 52))))

-- ---- luma's entries alone

module _ (strengths : List ℕ) where
  low_at : (i : ℕ) → i < 208 → luma_at strengths i ≡ get_or strengths i 0
  unfolding luma_at
  low_at i h = rw (lt-ltb i 208 h)

  high_at : (i : ℕ) → 208 ≤ i → luma_at strengths i ≡ 0
  unfolding luma_at
  high_at i h = rw (le-ltb i 208 h)

  pub luma_long : length (luma_entries strengths) ≡ 624
  unfolding luma_entries
  luma_long = length_tabulate (luma_at strengths) 624

  luma_at_lem : (i : ℕ) → i < 624 → get_or (luma_entries strengths) i 0 ≡ luma_at strengths i
  unfolding luma_entries
  luma_at_lem i h = get_d_tabulate (luma_at strengths) 624 i 0 h

  -- at every place, also where there is none
  pub luma_alone : length strengths ≡ 208 → (i : ℕ) → get_or (luma_entries strengths) i 0 ≡ get_or strengths i 0
  luma_alone long i = at (dec_lt i 208) (dec_lt i 624) where
    at : Dec (i < 208) → Dec (i < 624) → get_or (luma_entries strengths) i 0 ≡ get_or strengths i 0
    at (yes p) q = luma_at_lem i (omega arith) ∙ low_at i p
    at (no p) (yes q) = luma_at_lem i q ∙ high_at i (omega arith) ∙ sym (get_or-eq_default strengths 0 (omega arith))
    at (no p) (no q) = get_or-eq_default (luma_entries strengths) 0 (omega (arith, luma_long)) ∙ sym (get_or-eq_default strengths 0 (omega arith))

  -- i of the lent entries are written into zeros, all or 208
  pub lumas : (l₀ l : List ℕ) (i : ℕ) → length l₀ ≡ 624 → ((k : ℕ) → k < 624 → get_or l₀ k 0 ≡ 0) → i ≤ 208 → (208 ≤ i) ⊎ (length strengths ≤ i) →
      Upto 0 (λ (k : ℕ). get_or strengths k 0) l₀ l i → l ≡ luma_entries strengths
  unfolding luma_entries
  lumas l₀ l i long zeros few all u = is_tabulate (luma_at strengths) 624 l 0 (u.long ∙ long) (λ k h. at k h (dec_lt k i) (dec_lt k 208)) where
    rest : (k : ℕ) → k < 208 → i ≤ k → (208 ≤ i) ⊎ (length strengths ≤ i) → 0 ≡ get_or strengths k 0
    rest k p q (inl e) = absurd (omega arith)
    rest k p q (inr e) = sym (get_or-eq_default strengths 0 (omega arith))

    at : (k : ℕ) → k < 624 → Dec (k < i) → Dec (k < 208) → get_or l k 0 ≡ luma_at strengths k
    at k h (yes p) q = u.below k p ∙ sym (low_at k (omega arith))
    at k h (no p) (yes q) = u.above k (omega arith) ∙ zeros k h ∙ rest k q (omega arith) all ∙ sym (low_at k q)
    at k h (no p) (no q) = u.above k (omega arith) ∙ zeros k h ∙ sym (high_at k (omega arith))

-- ---- the three planes' entries

module _ (strengths : List ℕ) (tableU : List ℤ) (uOffset : ℤ) (tableV : List ℤ) (vOffset : ℤ) where
  -- ---- the entry at a place

  pub at_luma : (i : ℕ) → i < 208 → entry_at strengths tableU uOffset tableV vOffset i ≡ get_or strengths i 0
  unfolding entry_at
  at_luma i h = rw (lt-ltb i 208 h)

  pub at_u : (i : ℕ) → 208 ≤ i → i < 416 → entry_at strengths tableU uOffset tableV vOffset i ≡ chroma_entry strengths tableU uOffset (i % 208 / 52) (i % 52)
  unfolding entry_at
  at_u i p q = rw (le-ltb i 208 p, lt-ltb i 416 q)

  pub at_v : (i : ℕ) → 416 ≤ i → entry_at strengths tableU uOffset tableV vOffset i ≡ chroma_entry strengths tableV vOffset (i % 208 / 52) (i % 52)
  unfolding entry_at
  at_v i p = rw (le-ltb i 208 (omega arith), le-ltb i 416 p)

  -- ---- the table as it is written: luma's entries, then the others

  -- a plane's rows, copied from a list that starts with the lent entries
  rows_chroma : (table : List ℤ) (offset : ℤ) (l : List ℕ) → ((k : ℕ) → k < 208 → get_or l k 0 ≡ get_or strengths k 0) →
      (j : ℕ) → j < 208 → rows_by l (mapped_qps table offset) j ≡ chroma_entry strengths table offset (j / 52) (j % 52)
  unfolding chroma_entry
  rows_chroma table offset l same j h =
      rw (get_d_tabulate (mapped table offset) 52 (j % 52) 0 (omega arith))
      (same (52 * (j / 52) + mapped table offset (j % 52)) (omega (arith, mapped_most table offset (j % 52))))

  module _ (l : List ℕ) (luma : l ≡ luma_entries strengths) where
    long : length l ≡ 624
    long = ap length luma ∙ luma_long strengths

    first : Rowed 0 0 (entry_at strengths tableU uOffset tableV vOffset) l l 208
    first = record { long = refl; done = λ j p. rw (zero-add j) (at j p); low = λ k p. absurd (none k p); high = λ k p. refl } where
      none : (k : ℕ) → k < 0 → ⊥
      none k p = omega arith

      at : (j : ℕ) → j < 208 → get_or l j 0 ≡ entry_at strengths tableU uOffset tableV vOffset j
      at j p = ap (λ (m : List ℕ). get_or m j 0) luma ∙ luma_at_lem strengths j (omega arith) ∙ low_at strengths j p ∙ sym (at_luma j p)

    abbrev with_u : List ℕ
    with_u = with_row 0 208 208 (rows_by l (mapped_qps tableU uOffset)) l

    second : Rowed 0 0 (entry_at strengths tableU uOffset tableV vOffset) l with_u 416
    second = rowed_part 0 0 _ l l 208 208 _ (omega (arith, long)) same first where
      same : (j : ℕ) → j < 208 → rows_by l (mapped_qps tableU uOffset) j ≡ entry_at strengths tableU uOffset tableV vOffset (208 + j)
      same j h =
          let r : (208 + j) % 208 / 52 ≡ j / 52 = omega arith in
          let q : (208 + j) % 52 ≡ j % 52 = omega arith in
          rows_chroma tableU uOffset l (λ k p. rw (zero-add k) at (first.done k p) ∙ at_luma k p) j h ∙ sym (at_u (208 + j) (omega arith) (omega arith) ∙ rw (r, q))

    third : with_row 0 416 208 (rows_by with_u (mapped_qps tableV vOffset)) with_u ≡ entries_of strengths tableU uOffset tableV vOffset
    unfolding entries_of
    third =
        rowed_all 0 0 624 _ l _ 624 refl (rowed_part 0 0 _ l with_u 416 208 _ (omega (arith, long)) same second)
        ∙ whole_row 0 624 _ l long where
          same : (j : ℕ) → j < 208 → rows_by with_u (mapped_qps tableV vOffset) j ≡ entry_at strengths tableU uOffset tableV vOffset (416 + j)
          same j h =
              let r : (416 + j) % 208 / 52 ≡ j / 52 = omega arith in
              let q : (416 + j) % 52 ≡ j % 52 = omega arith in
              rows_chroma tableV vOffset with_u (λ k p. rw (zero-add k) at (second.done k (omega arith)) ∙ at_luma k p) j h ∙ sym (at_v (416 + j) (omega arith) ∙ rw (r, q))

    pub whole : (u v l₁ l₂ : List ℕ) → u ≡ mapped_qps tableU uOffset → v ≡ mapped_qps tableV vOffset →
        l₁ ≡ with_row 0 208 208 (rows_by l u) l → l₂ ≡ with_row 0 416 208 (rows_by l₁ v) l₁ → l₂ ≡ entries_of strengths tableU uOffset tableV vOffset
    whole u v l₁ l₂ eu ev e₁ e₂ = rw (e₂, e₁, eu, ev) third

  -- ---- what callers cite

  pub entries_long : length (entries_of strengths tableU uOffset tableV vOffset) ≡ 624
  unfolding entries_of
  entries_long = length_tabulate (entry_at strengths tableU uOffset tableV vOffset) 624

  entries_at : (i : ℕ) → i < 624 → get_or (entries_of strengths tableU uOffset tableV vOffset) i 0 ≡ entry_at strengths tableU uOffset tableV vOffset i
  unfolding entries_of
  entries_at i h = get_d_tabulate (entry_at strengths tableU uOffset tableV vOffset) 624 i 0 h

  module _ (row qp : ℕ) (rows : row ≤ 3) (few : qp ≤ 51) where
    pub luma_entry : get_or (entries_of strengths tableU uOffset tableV vOffset) (52 * row + qp) 0 ≡ get_or strengths (52 * row + qp) 0
    luma_entry = entries_at (52 * row + qp) (omega arith) ∙ at_luma (52 * row + qp) (omega arith)

    pub u_entry : get_or (entries_of strengths tableU uOffset tableV vOffset) (52 * row + (208 + qp)) 0 ≡ get_or strengths (52 * row + mapped tableU uOffset qp) 0
    unfolding chroma_entry
    u_entry =
        let i = 52 * row + (208 + qp) in
        let r : i % 208 / 52 ≡ row = omega arith in
        let q : i % 52 ≡ qp = omega arith in
        entries_at i (omega arith) ∙ at_u i (omega arith) (omega arith) ∙ rw (r, q)

    pub v_entry : get_or (entries_of strengths tableU uOffset tableV vOffset) (52 * row + (416 + qp)) 0 ≡ get_or strengths (52 * row + mapped tableV vOffset qp) 0
    unfolding chroma_entry
    v_entry =
        let i = 52 * row + (416 + qp) in
        let r : i % 208 / 52 ≡ row = omega arith in
        let q : i % 52 ≡ qp = omega arith in
        entries_at i (omega arith) ∙ at_v i (omega arith) ∙ rw (r, q)
