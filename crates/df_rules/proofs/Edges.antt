-- A unit's edge in the picture: its units lie in the maps and its windows in the planes; edges filtered one after another, and counted.
-- Assumes nothing.
use Prim.Native.Nat.{ℕ, zero, suc, ◌+◌, ◌-◌, ◌*◌, ◌/◌, ◌≤◌, ◌<◌}
use mathlib.Core.Path.{◌≡◌, refl, sym, ap, ◌∙◌, subst}
use mathlib.Core.Bool.{Bool, true, false, ◌&&◌}
use mathlib.Core.List.{List, [], ◌∷◌, ◌++◌, append-nil}
use native.Mathlib.Nat.{mul-le-mul_left, mul-le-mul_right, mul-one, add-mul, mul-suc, add-zero, suc-add}
use native.Mathlib.Omega.{arith}
use borrow.Author.Tests.{ltb-false}
use lib.Dec.{ltb}
use lib.ListN.{length, length-append}
use Rattle.laws.specs.Index.{pick}
use Rattle.def.specs.declared.Format.{Format}
use Rattle.laws.specs.Orders.{run}
use Rattle.laws.proofs.Orders.{run_append}
use Rattle.laws.proofs.Flat.{flat_within}
use Rattle.split.specs.Edges.{Pass, vertical, horizontal, Edge, edge_at, stretch}
use Rattle.split.specs.Rows.{cross_of, along_of}
use Rattle.df_rules.specs.Lent.{Unit, Marked, LentPicture, units_across, units_along, AtUnit}
use Rattle.df_rules.specs.Filter.{Planes, filter_one, filter_all}
use Rattle.df_rules.specs.Places.{step_across, step_along, line_start, unit_q, unit_p}
use Rattle.df_rules.specs.Strength.{Over}

-- ---- units

module _ (w h : ℕ) where
  q_within : (d : Pass) (c a : ℕ) → c < units_across d w h → a < units_along d w h → unit_q w (edge_at d c a) < h * w
  q_within vertical c a p q = flat_within a c w h p q
  q_within horizontal c a p q = flat_within c a w h q p

  -- there is a unit before Q
  pub p_before : (d : Pass) (c a : ℕ) → 1 ≤ c → step_across d w ≤ unit_q w (edge_at d c a)
  p_before vertical c a p = omega arith
  p_before horizontal c a p = omega (arith, mul-le-mul_right {m = 1} {n = c} w p)

  module _ {format : Format} {y u v words : List ℕ} {over : Over} {entries : List ℕ} (f : LentPicture format w h y u v words over entries) where
    -- what is known of the picture's units
    pub unit_of_lem : (k : ℕ) → k < h * w → Unit words over.motion over.refs k
    unit_of_lem k p = record { word = omega (arith, f.long_words); mv = omega (arith, f.long_motion); refi = omega (arith, f.long_refs); qp = f.qps k }

    pub mark_of : (k : ℕ) → k < h * w → Marked over.keep k
    mark_of k p = record { there = omega (arith, f.long_keep); few = f.marks k }

  -- Q and P are units
  module _ (U : ℕ → Type 0) (u : (k : ℕ) → k < h * w → U k) where
    pub unit_q_lem : (d : Pass) (c a : ℕ) → c < units_across d w h → a < units_along d w h → U (unit_q w (edge_at d c a))
    unit_q_lem d c a p q = u _ (q_within d c a p q)

    pub unit_p_lem : (d : Pass) (c a : ℕ) → c < units_across d w h → a < units_along d w h → U (unit_p d w (edge_at d c a))
    unit_p_lem d c a p q = let l = q_within d c a p q in u _ (omega arith)

-- ---- windows, in a plane of m samples a unit's side

module _ (m w h : ℕ) (two : 2 ≤ m) where
  -- a unit's last sample, and the one past its first
  pub last_in : (x n : ℕ) → x < n → m * x + (m - 1) < m * n
  last_in x n p = omega (arith, mul-le-mul_left {m = suc x} {n = n} m p, mul-suc m x)

  pub next_in : (x n : ℕ) → x < n → m * x + 1 < m * n
  next_in x n p = omega (arith, last_in x n p)

  pub starts : (c : ℕ) → 1 ≤ c → 2 ≤ m * c
  starts c p = omega (arith, mul-le-mul_left {m = 1} {n = c} m p, mul-one m)

  pub inside : (d : Pass) (c a : ℕ) → 1 ≤ c → c < units_across d w h → a < units_along d w h
      → line_start d (m * w) (m * c) (m * a) + (m - 1) * step_along d (m * w) + 3 * step_across d (m * w) < m * h * (m * w)
  inside vertical c a i p q =
      let s = starts c i in
      let t = mul-one (m * c - 2) in
      let k = add-mul (m * a) (m - 1) (m * w) in
      omega (arith, flat_within (m * a + (m - 1)) (m * c + 1) (m * w) (m * h) (next_in c w p) (last_in a h q))
  inside horizontal c a i p q =
      let s = starts c i in
      let t = mul-one (m * a) in
      let r = mul-one (m - 1) in
      let k = add-mul (m * c - 2) 3 (m * w) in
      let e : m * c - 2 + 3 ≡ m * c + 1 = omega arith in
      let g = ap (λ (n : ℕ). n * (m * w)) e in
      omega (arith, flat_within (m * c + 1) (m * a + (m - 1)) (m * w) (m * h) (last_in a w q) (next_in c h p))

-- ---- an edge by its place

pub cross_at : (d : Pass) (c a : ℕ) → cross_of d (edge_at d c a) ≡ c
cross_at vertical c a = refl
cross_at horizontal c a = refl

pub along_at : (d : Pass) (c a : ℕ) → along_of d (edge_at d c a) ≡ a
along_at vertical c a = refl
along_at horizontal c a = refl

-- ---- a sample's place by its unit

pub record Spot (d : Pass) (w h x z : ℕ) : Type 0 where
  pub inner : 1 ≤ x / 4
  pub across : x / 4 < units_across d w h
  pub along : z / 4 < units_along d w h
  pub few_x : x ≤ 4096
  pub few_z : z ≤ 4096
  pub luma_x : x ≡ 4 * (x / 4)
  pub luma_z : z ≡ 4 * (z / 4)
  pub chroma_x : x / 2 ≡ 2 * (x / 4)
  pub chroma_z : z / 2 ≡ 2 * (z / 4)

few_across : (d : Pass) (w h : ℕ) → w ≤ 1024 → h ≤ 1024 → units_across d w h ≤ 1024
few_across vertical w h p q = p
few_across horizontal w h p q = q

pub few_along : (d : Pass) (w h : ℕ) → w ≤ 1024 → h ≤ 1024 → units_along d w h ≤ 1024
few_along vertical w h p q = q
few_along horizontal w h p q = p

pub spot : (d : Pass) (w h x z : ℕ) → w ≤ 1024 → h ≤ 1024 → AtUnit d w h x z → Spot d w h x z
spot d w h x z p q a =
    let f = few_across d w h p q in
    let g = few_along d w h p q in
    record {
      inner = omega arith;
      across = omega arith;
      along = omega arith;
      few_x = omega arith;
      few_z = omega arith;
      luma_x = omega arith;
      luma_z = omega arith;
      chroma_x = omega arith;
      chroma_z = omega arith;
    }
