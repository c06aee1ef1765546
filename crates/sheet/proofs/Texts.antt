-- The text of edges from the numbers that list them.
--     near_places     the numbers of edges have three digits at most
--     listed_text_lem     the text of two lists of numbers is that of their edges
-- Assumes nothing.
use mathlib.Core.List.{List, [], ◌∷◌, ◌++◌, Memᴰ, append-nil}
use mathlib.Core.Path.{◌≡◌, refl, sym, ap, ap₂, ◌∙◌}
use Prim.Native.Nat.{ℕ, zero, suc, ◌+◌, ◌*◌, ◌/◌, ◌≤◌, ◌<◌}
use native.Mathlib.Nat.{not-suc-le-zero, le_of_suc-le-suc}
use native.Mathlib.Omega.{arith}
use native.Mathlib.Decide.{dec_lt}
use lib.ListN.{length, get_or, take, get_or-append}
use lib.Seq.{sets, sets-eq, length-sets, take-suc, take-length}
use Rattle.laws.specs.Orders.{each}
use Rattle.laws.proofs.Orders.{each_append}
use Rattle.split.specs.Edges.{Edge, edge, edge_numbers}
use Rattle.split.proofs.Demand3.{edges_twice}
use Rattle.sheet.specs.Puts.{Places, places_text, numbers_text}
use Rattle.sheet.specs.Text.{place_text, edge_text, listed_text}

-- ---- the numbers of edges

abbrev none : Edge
none = edge 0 0

-- the numbers of edge k
pub record Pair (n k : ℕ) (l : List ℕ) (e : Edge) : Type 0 where
  pub first : get_or l (2 * k) 0 ≡ 4 * e.x
  pub second : get_or l (2 * k + 1) 0 ≡ 4 * e.y

pair_at : (l : List Edge) (k : ℕ) → k < length l → Pair (length l) k (each edge_numbers l) (get_or l k none)
unfolding each
pair_at [] k h = absurd (not-suc-le-zero h)
pair_at (e ∷ l) zero h = record { first = refl; second = refl }
pair_at (e ∷ l) (suc k) h =
    let i = pair_at l k (le_of_suc-le-suc h) in
    let p : 2 * suc k ≡ suc (suc (2 * k)) = omega arith in
    let q : 2 * suc k + 1 ≡ suc (suc (2 * k + 1)) = omega arith in
    record { first = rw p i.first; second = rw q i.second }

-- ---- the same in a buffer whose first numbers they are

module _ (l : List Edge) (out : List ℕ) (room : 2 * length l ≤ length out) where
  abbrev numbers : List ℕ
  numbers = sets out 0 (each edge_numbers l)

  in_buffer : (i : ℕ) → i < 2 * length l → get_or numbers i 0 ≡ get_or (each edge_numbers l) i 0
  in_buffer i h =
      let e = edges_twice l in
      ap (λ (m : List ℕ). get_or m i 0) (sets-eq (each edge_numbers l) out 0 (omega arith))
      ∙ get_or-append (each edge_numbers l) _ 0 i (omega arith)

  pair_in : (k : ℕ) → k < length l → Pair (length l) k numbers (get_or l k none)
  pair_in k h =
      let p = pair_at l k h in
      record { first = in_buffer (2 * k) (omega arith) ∙ p.first; second = in_buffer (2 * k + 1) (omega arith) ∙ p.second }

  module _ (letter : ℕ) where
    upto : (k : ℕ) → k ≤ length l → places_text letter numbers k ≡ each (edge_text letter) (take k l)
    unfolding places_text each
    upto zero h = refl
    upto (suc k) h =
        let p = pair_in k h in
        ap₂ ◌++◌ (upto k (omega arith)) (ap₂ (place_text letter) p.first p.second ∙ sym (append-nil (edge_text letter (get_or l k none))))
        ∙ sym (each_append (edge_text letter) (take k l) (get_or l k none ∷ []))
        ∙ ap (each (edge_text letter)) (sym (take-suc l k none h))

    places_text_lem : places_text letter numbers (length l) ≡ each (edge_text letter) l
    places_text_lem = upto (length l) (omega arith) ∙ ap (each (edge_text letter)) (take-length l)

  -- every edge lies within 64 units
  pub near_places : ((e : Edge) → Memᴰ e l → (e.x < 64) × (e.y < 64)) → Places numbers (length l)
  near_places near =
      record {
        long = omega (arith, length-sets out 0 (each edge_numbers l));
        small = λ i h.
            let k = i / 2 in
            let p = pair_in k (omega arith) in
            let b = near (get_or l k none) (member l k (omega arith)) in
            small i (get_or l k none).x (get_or l k none).y b.0 b.1 p.first p.second;
      } where
        member : (l : List Edge) (k : ℕ) → k < length l → Memᴰ (get_or l k none) l
        member [] k h = absurd (not-suc-le-zero h)
        member (e ∷ l) zero h = Memᴰ.head refl
        member (e ∷ l) (suc k) h = Memᴰ.tail (member l k (le_of_suc-le-suc h))

        small : (i x y : ℕ) → x < 64 → y < 64 → get_or numbers (2 * (i / 2)) 0 ≡ 4 * x → get_or numbers (2 * (i / 2) + 1) 0 ≡ 4 * y → get_or numbers i 0 < 1000
        small i x y p q e f = go (dec_lt (2 * (i / 2)) i) where
          go : Dec (2 * (i / 2) < i) → get_or numbers i 0 < 1000
          go (yes r) = let z : 2 * (i / 2) + 1 ≡ i = omega arith in let g = ap (λ (j : ℕ). get_or numbers j 0) (sym z) ∙ f in omega arith
          go (no r) = let z : 2 * (i / 2) ≡ i = omega arith in let g = ap (λ (j : ℕ). get_or numbers j 0) (sym z) ∙ e in omega arith

pub listed_text_lem : (v h : List Edge) (out out' : List ℕ) → 2 * length v ≤ length out → 2 * length h ≤ length out'
    → numbers_text (sets out 0 (each edge_numbers v)) (length v) (sets out' 0 (each edge_numbers h)) (length h) ≡ listed_text v h
unfolding numbers_text listed_text
listed_text_lem v h out out' p q = rw (places_text_lem v out p 118, places_text_lem h out' q 104)
