-- The listing of a map that is walked to its end: the call does not refuse, and what it leaves fits the text's buffer.
--     listed_both, not_refused    what the call answers and leaves
--     Printable, printable        what printing it asks
-- Assumes nothing.
use Rattle.std.specs.Prelude.{Ok, Err, Result}
use mathlib.Core.Bool.{Bool, true}
use mathlib.Core.List.{List, [], ◌∷◌, Memᴰ}
use mathlib.Core.Path.{◌≡◌, sym, ap, ◌∙◌}
use Prim.Native.Nat.{ℕ, ◌+◌, ◌-◌, ◌*◌, ◌/◌, ◌%◌, ◌≤◌, ◌<◌}
use native.Mathlib.Nat.{mul-le-mul_right}
use native.Mathlib.Omega.{arith}
use borrow.Author.Tests.{le-leb, eq-eqb}
use lib.Dec.{eqb}
use lib.ListN.{length}
use lib.Seq.{sets}
use Rattle.laws.specs.Orders.{each}
use Rattle.laws.proofs.Calls.{one_of}
use Rattle.def.specs.Picture.{size_ok, root_count}
use Rattle.def.specs.Refusals.{number_of}
use Rattle.def.specs.declared.Refusal.{Refusal}
use Rattle.def.proofs.Answers.{number_some}
use Rattle.split.specs.Edges.{Pass, vertical, horizontal, Edge, edge_list, edge_numbers}
use Rattle.split.specs.ListCall.{Input, Outcome, limit_ok, lengths_ok, check_of, after, done, outcome}
use Rattle.split.specs.Picture.{picture_walk}
use Rattle.split.specs.declared.EdgeCounts.{EdgeCounts}
use Rattle.split.proofs.Demand3.{demand_3, edges_twice}
use Rattle.sheet.specs.Puts.{Places, numbers_text}
use Rattle.sheet.specs.Taken.{Sides, Walked, edges_text}
use Rattle.sheet.proofs.Pictures.{count_roots}
use Rattle.sheet.proofs.Room.{few_edges, near_edges}
use Rattle.sheet.proofs.Texts.{near_places, listed_text_lem}

-- an edge a unit at most
units : (halved : Bool) (s : List ℕ) (w h : ℕ) → 1 ≤ w → (picture_walk s w h).answer ≡ Ok tt → (d : Pass) → length (edge_list d halved s w h) ≤ w * h
units halved s w h pos e d = omega (arith, (demand_3 halved s w h pos e).fits d, edges_twice (edge_list d halved s w h))

pub size_fits : (w h : ℕ) → Sides w h → size_ok w h ≡ true
unfolding size_ok
size_fits w h s =
    simp (le-leb 4 w s.some_wide, le-leb w 4096 (omega arith), eq-eqb (w % 4) 0 s.units_wide, le-leb 4 h s.some_high, le-leb h 4096 (omega arith), eq-eqb (h % 4) 0 s.units_high)

-- a limit that passes is a byte
pub limit_small : (limit : ℕ) → limit_ok limit ≡ true → limit < 256
unfolding limit_ok
limit_small limit e = one_of (λ (n : ℕ). n < 256) limit (5 ∷ 6 ∷ []) (omega arith, (omega arith, tt)) e

module _ (w h limit : ℕ) (map v k : List ℕ) (u : Walked w h limit map) (lv : length v ≡ 2 * (w / 4 * (h / 4))) (lk : length k ≡ 2 * (w / 4 * (h / 4))) where
  abbrev asked : Input
  asked = record { w = w; h = h; splits = map; limit = limit; vertical = v; horizontal = k }

  abbrev edges : Pass → List Edge
  edges d = edge_list d (eqb limit 5) map (w / 4) (h / 4)

  lengths : lengths_ok w h (length map) (length v) (length k) ≡ true
  unfolding lengths_ok
  lengths = simp (eq-eqb (length map) (1024 * root_count w h) (u.long ∙ ap (λ (n : ℕ). 1024 * n) (sym (count_roots w h u.sides).0)), eq-eqb (length v) _ lv, eq-eqb (length k) _ lk)

  passes : check_of w h map limit (length v) (length k) ≡ Ok tt
  unfolding check_of
  passes = rw (size_fits w h u.sides, lengths, u.limited) u.accepted

  accepted : outcome asked ≡ done asked
  unfolding outcome
  accepted = rw passes

  -- the call does not refuse
  pub not_refused : (r : Result EdgeCounts Refusal) (v₁ k₁ : List ℕ) (q : Refusal) → after r v₁ k₁ ≡ outcome asked → r ≡ Err q → ⊥
  not_refused r v₁ k₁ q e z =
      let n : number_of q ≡ 0 = sym (ap (λ (l : Result EdgeCounts Refusal). (after l v₁ k₁).reading.number) z) ∙ ap (λ (o : Outcome). o.reading.number) (e ∙ accepted) in
      omega (arith, number_some q)

  -- what it counts and lists
  pub record Both (m n : ℕ) (v₁ k₁ : List ℕ) : Type 0 where
    pub first : m ≡ length (edges vertical)
    pub second : n ≡ length (edges horizontal)
    pub upright : v₁ ≡ sets v 0 (each edge_numbers (edges vertical))
    pub level : k₁ ≡ sets k 0 (each edge_numbers (edges horizontal))

  pub listed_both : (r : Result EdgeCounts Refusal) (v₁ k₁ : List ℕ) (c : EdgeCounts) → after r v₁ k₁ ≡ outcome asked → r ≡ Ok c → Both c.vertical c.horizontal v₁ k₁
  listed_both r v₁ k₁ c e z =
      let d : after (Ok c) v₁ k₁ ≡ done asked = sym (ap (λ (l : Result EdgeCounts Refusal). after l v₁ k₁) z) ∙ e ∙ accepted in
      record {
        first = ap (λ (o : Outcome). o.reading.vertical) d;
        second = ap (λ (o : Outcome). o.reading.horizontal) d;
        upright = ap (λ (o : Outcome). o.vertical) d;
        level = ap (λ (o : Outcome). o.horizontal) d;
      }

  -- ---- what printing it asks

  some_wide : 1 ≤ w / 4
  some_wide = omega (arith, u.sides.some_wide)

  near : (d : Pass) (e : Edge) → Memᴰ e (edges d) → (e.x < 64) × (e.y < 64)
  near d e m = let n = near_edges (eqb limit 5) map (w / 4) (h / 4) some_wide u.accepted d e m in (omega (arith, n.0, u.sides.wide), omega (arith, n.1, u.sides.high))

  -- 63 times 64 at most
  few : (d : Pass) → length (edges d) ≤ 4032
  few vertical =
      let a : (w / 4 - 1) * (h / 4) ≤ 63 * (h / 4) = mul-le-mul_right (h / 4) (omega (arith, u.sides.wide)) in
      omega (arith, few_edges (eqb limit 5) map (w / 4) (h / 4) some_wide u.accepted vertical, u.sides.high)
  few horizontal =
      let a : (h / 4 - 1) * (w / 4) ≤ 63 * (w / 4) = mul-le-mul_right (w / 4) (omega (arith, u.sides.high)) in
      omega (arith, few_edges (eqb limit 5) map (w / 4) (h / 4) some_wide u.accepted horizontal, u.sides.wide)

  few_units : (d : Pass) → length (edges d) ≤ w / 4 * (h / 4)
  few_units d = units (eqb limit 5) map (w / 4) (h / 4) some_wide u.accepted d

  pub record Printable (m n : ℕ) (v₁ k₁ : List ℕ) : Type 0 where
    pub first : Places v₁ m
    pub second : Places k₁ n
    pub room : 10 * m + (10 * n + 26) ≤ 81920
    pub few_first : m < 10000
    pub few_second : n < 10000
    pub text : numbers_text v₁ m k₁ n ≡ edges_text w h limit map

  fits : (d : Pass) → 2 * length (edges d) ≤ 2 * (w / 4 * (h / 4))
  fits d = omega (arith, few_units d)

  pub printable : (m n : ℕ) (v₁ k₁ : List ℕ) → Both m n v₁ k₁ → Printable m n v₁ k₁
  printable m n v₁ k₁ b =
      rw (b.first, b.second, b.upright, b.level)
      (record {
        first = near_places (edges vertical) v (omega (arith, fits vertical)) (near vertical);
        second = near_places (edges horizontal) k (omega (arith, fits horizontal)) (near horizontal);
        room = omega (arith, few vertical, few horizontal);
        few_first = omega (arith, few vertical);
        few_second = omega (arith, few horizontal);
        text = listed_text_lem (edges vertical) (edges horizontal) v k (omega (arith, fits vertical)) (omega (arith, fits horizontal));
      })
