-- A pass's edges of a list of leaves, as they are written: a leaf more, a root more, and the room that they take.
-- Assumes nothing.
use Rattle.std.specs.Prelude.{Ok}
use mathlib.Core.Bool.{Bool, true, false, ◌&&◌}
use mathlib.Core.List.Memᴰ
use mathlib.Core.List.{List, [], ◌∷◌, ◌++◌, map, append-nil, Memᴰ}
use mathlib.Core.Logic.{⊎_elim}
use mathlib.Core.Path.{◌≡◌, refl, sym, ap, ap₂, ◌∙◌, subst}
use Prim.Native.Nat.{ℕ, zero, suc, ◌+◌, ◌-◌, ◌*◌, ◌/◌, ◌%◌, ◌≤◌, ◌<◌}
use native.Mathlib.Nat.{add-zero, add-suc, le_refl}
use native.Mathlib.Numerals.{add-one}
use native.Mathlib.Decide.{dec_lt, ℕ_discrete}
use native.Mathlib.Omega.{arith}
use borrow.Author.Tests.{lt-ltb, le-ltb, ne_eqb}
use lib.Dec.{ltb, eqb}
use lib.ListN.{length, get_or}
use lib.Pow.{pow_pos}
use Rattle.laws.specs.Index.{pick}
use Rattle.laws.specs.Orders.{each}
use Rattle.laws.proofs.Orders.{each_append, each_each}
use Rattle.split.specs.Edges.{Pass, Visit, pass_of, stretch, near_edge, visit_of, edges_of, edge_numbers}
use Rattle.split.specs.Picture.{roots, root_walk, root_leaves, leaves_of, all_leaves, picture_walk}
use Rattle.split.specs.Stored.{area, leaf_from, leaves_from, LeafAt}
use Rattle.split.specs.Walk.{Leaf, leaf as leaf'}
use Rattle.split.proofs.Area.{area_append, edges_length, whole_area}
use Rattle.split.proofs.Demand3.{edges_twice}
use Rattle.split.proofs.Passes.{visit_edges}
use Rattle.split.proofs.Places.{leaves_mem, sound_at}
use Rattle.split.proofs.Sides.{X, Y, leaf_edges}
use Rattle.split.proofs.Walks.{each_done}
use Rattle.split.specs.RootCall.{leaf_down}
use Rattle.edges.specs.Put.{Put, Starts, ReadyAt, leaf_edge_numbers}
use Rattle.edges.proofs.Puts.{put_none, put_then, put_as}

-- ---- one leaf's edges

each_pick : {A B : Type 0} (f : A → List B) (t : Bool) (l : List A) → each f (pick t l []) ≡ pick t (each f l) []
unfolding each
each_pick f true l = refl
each_pick f false l = refl

-- the tests in samples and in units
some_across : (n : ℕ) → n % 4 ≡ 0 → ltb 0 n ≡ ltb 0 (n / 4)
some_across n e = go (dec_lt 0 n) where
  go : Dec (0 < n) → ltb 0 n ≡ ltb 0 (n / 4)
  go (yes p) = lt-ltb 0 n p ∙ sym (lt-ltb 0 (n / 4) (omega arith))
  go (no p) = le-ltb 0 n (omega arith) ∙ sym (le-ltb 0 (n / 4) (omega arith))

whole_side : (n : ℕ) → n % 4 ≡ 0 → eqb n 64 ≡ eqb (n / 4) 16
whole_side n e = go (ℕ_discrete n 64) where
  go : Dec (n ≡ 64) → eqb n 64 ≡ eqb (n / 4) 16
  go (yes p) = rw p
  go (no p) = ne_eqb n 64 p ∙ sym (ne_eqb (n / 4) 16 (λ q. p (omega arith)))

module _ (b halved : Bool) {x y side : ℕ} (l : LeafAt x y side) where
  abbrev p : Leaf
  p = leaf' (x / 4) (y / 4) (side / 4)

  -- in the pass's own coordinates
  in_pass : (t : Bool) (cross along : ℕ) → cross % 4 ≡ 0 → X (pass_of t) p ≡ cross / 4 → Y (pass_of t) p ≡ along / 4
      → leaf_edge_numbers t halved cross along side ≡ each edge_numbers (leaf_edges (pass_of t) halved p)
  unfolding leaf_edges
  in_pass t cross along e f g =
      let d = pass_of t in
      let half : (cross + 32) / 4 ≡ cross / 4 + 8 = omega arith in
      sym (rw (f, g, ← some_across cross e, ← whole_side side l.units)
      (each_append edge_numbers (pick (ltb 0 cross) (stretch d (cross / 4) (along / 4) (side / 4)) []) (pick (halved && eqb side 64) (stretch d (cross / 4 + 8) (along / 4) 16) [])
      ∙ ap₂ ◌++◌ (each_pick edge_numbers (ltb 0 cross) (stretch d (cross / 4) (along / 4) (side / 4)))
      (each_pick edge_numbers (halved && eqb side 64) (stretch d (cross / 4 + 8) (along / 4) 16) ∙ rw half)))

  pub leaf_numbers_lem : (cross along : ℕ) → cross ≡ pick b y x → along ≡ pick b x y
      → leaf_edge_numbers b halved cross along side ≡ each edge_numbers (each (near_edge (pass_of b)) (visit_of (pass_of b) halved p))
  leaf_numbers_lem cross along e f = rw (e, f) (go b ∙ ap (each edge_numbers) (sym (visit_edges (pass_of b) halved p))) where
    go : (t : Bool) → leaf_edge_numbers t halved (pick t y x) (pick t x y) side ≡ each edge_numbers (leaf_edges (pass_of t) halved p)
    go true = in_pass true y x l.row refl refl
    go false = in_pass false x y l.column refl refl

  -- where its edges start
  pub leaf_starts : (cross along : ℕ) → cross ≡ pick b y x → along ≡ pick b x y → Starts cross along (side / 4) × (cross ≤ 4096) × (4 ≤ side)
  leaf_starts cross along e f = rw (e, f) (go b) where
    go : (t : Bool) → Starts (pick t y x) (pick t x y) (side / 4) × (pick t y x ≤ 4096) × (4 ≤ side)
    go true = (record { across = l.row; down = l.column; near = omega arith; far = omega arith }, omega arith, l.some)
    go false = (record { across = l.column; down = l.row; near = omega arith; far = omega arith }, omega arith, l.some)

-- ---- the edges of the leaves of a list

module _ (d : Pass) (halved : Bool) where
  -- as they are written
  abbrev pub numbers_of : List Leaf → List ℕ
  numbers_of l = each edge_numbers (edges_of d halved l)

  pub numbers_append : (l m : List Leaf) → numbers_of (l ++ m) ≡ numbers_of l ++ numbers_of m
  numbers_append l m =
      ap (λ (v : List Visit). each edge_numbers (each (near_edge d) v)) (each_append (visit_of d halved) l m)
      ∙ ap (each edge_numbers) (each_append (near_edge d) (each (visit_of d halved) l) (each (visit_of d halved) m))
      ∙ each_append edge_numbers (edges_of d halved l) (edges_of d halved m)

  numbers_one : (p : Leaf) → numbers_of (p ∷ []) ≡ each edge_numbers (each (near_edge d) (visit_of d halved p))
  unfolding each
  numbers_one p = ap (λ (v : List Visit). each edge_numbers (each (near_edge d) v)) (append-nil (visit_of d halved p))

  pub numbers_none : numbers_of [] ≡ []
  unfolding each
  numbers_none = refl

  pub numbers_long : (l : List Leaf) → ((p : Leaf) → Memᴰ p l → 1 ≤ p.side) → length (numbers_of l) ≤ 2 * area l
  numbers_long l f =
      omega (arith, edges_twice (edges_of d halved l), ap length (each_each (near_edge d) (visit_of d halved) (leaf_edges d halved) (visit_edges d halved) l), edges_length d halved l f)

pub map_append : {A B : Type 0} (f : A → B) (l m : List A) → map f (l ++ m) ≡ map f l ++ map f m
map_append f [] m = refl
map_append {B = B} f (a ∷ l) m = ap (λ (r : List B). f a ∷ r) (map_append f l m)

-- nothing above
pub down_zero : (l : List Leaf) → map (leaf_down 0) l ≡ l
down_zero [] = refl
down_zero (p ∷ l) = λ i. record { x = p.x; y = add-zero p.y i; side = p.side } ∷ down_zero l i

-- the first j leaves of a list, `top` rows of units further down
abbrev pub leaves_down : ℕ → List ℕ → ℕ → List Leaf
leaves_down top list j = map (leaf_down top) (leaves_from list j)

down_more : (top : ℕ) (list : List ℕ) (j : ℕ) → leaves_down top list (suc j) ≡ leaves_down top list j ++ (leaf_down top (leaf_from list j) ∷ [])
unfolding leaves_from
down_more top list j = map_append (leaf_down top) (leaves_from list j) (leaf_from list j ∷ [])

pub area_down : (top : ℕ) (l : List Leaf) → area (map (leaf_down top) l) ≡ area l
area_down top [] = refl
area_down top (p ∷ l) = ap (λ (n : ℕ). p.side * p.side + n) (area_down top l)

module _ {top : ℕ} {list : List ℕ} {n : ℕ} (r : ReadyAt top list n) where
  some_sides : (j : ℕ) → j ≤ n → (p : Leaf) → Memᴰ p (leaves_down top list j) → 1 ≤ p.side
  unfolding leaves_from
  some_sides zero h p m = absurd (Memᴰ.not-nil m)
  some_sides (suc j) h p m =
      ⊎_elim (λ i. some_sides j (omega arith) p i)
      (λ i. let e = ap (λ (q : Leaf). q.side) (Memᴰ.eq_of_singleton i) in let k = r.leaves j h in omega (arith, k.some, k.units))
      (Memᴰ.append_cases (leaves_down top list j) (subst (Memᴰ p) (down_more top list j) m))

-- a list's leaves, one more
area_more : (list : List ℕ) (j : ℕ) → let q = get_or list (3 * j + 2) 0 / 4 in area (leaves_from list (suc j)) ≡ area (leaves_from list j) + q * q
unfolding leaves_from
area_more list j = let q = get_or list (3 * j + 2) 0 / 4 in omega (arith, area_append (leaves_from list j) (leaf_from list j ∷ []))

area_rises : (list : List ℕ) (j m : ℕ) → area (leaves_from list j) ≤ area (leaves_from list (j + m))
area_rises list j zero = rw add-zero (le_refl _)
area_rises list j (suc m) = rw add-suc (omega (arith, area_rises list j m, area_more list (j + m)))

-- ---- the loop over a list's leaves

-- the edges of j leaves are written
pub record Written (b halved : Bool) (top : ℕ) (list : List ℕ) (out₀ : List ℕ) (at : ℕ) (out : List ℕ) (j k : ℕ) : Type 0 where
  pub written : Put (numbers_of (pass_of b) halved (leaves_down top list j)) out₀ at out k

pub none_written : (b halved : Bool) (top : ℕ) (list out : List ℕ) (at : ℕ) → Written b halved top list out at out 0 at
unfolding leaves_from
none_written b halved top list out at = record { written = put_as (sym (numbers_none (pass_of b) halved)) (put_none out at) }

pub all_written : {b halved : Bool} {top : ℕ} {list out₀ : List ℕ} {at : ℕ} {out : List ℕ} {j k n : ℕ} → Written b halved top list out₀ at out j k → n ≤ j → j ≤ n
    → Put (numbers_of (pass_of b) halved (leaves_down top list n)) out₀ at out k
all_written {b} {halved} {top} {list} {out₀} {at} {out} {j} {k} {n} z p q =
    let e : j ≡ n = omega arith in
    put_as (ap (λ (i : ℕ). numbers_of (pass_of b) halved (leaves_down top list i)) e) z.written

module _ {b halved : Bool} {top : ℕ} {list : List ℕ} {n : ℕ} (r : ReadyAt top list n) {out₀ : List ℕ} {at : ℕ} {out : List ℕ} {j k : ℕ} (z : Written b halved top list out₀ at out j k) (h : j < n)
    {x y side cross along : ℕ} (ex : x ≡ get_or list (3 * j) 0) (ey : y ≡ get_or list (3 * j + 1) 0 + 4 * top) (es : side ≡ get_or list (3 * j + 2) 0)
    (ec : cross ≡ pick b y x) (ea : along ≡ pick b x y) where
  leaf : LeafAt x y side
  leaf = rw (ex, ey, es) (r.leaves j h)

  room : (m : ℕ) → at + 2 * area (leaves_from list n) ≤ m → k + 2 * (side / 4 * (side / 4)) ≤ m
  room m g =
      let e : suc j + (n - suc j) ≡ n = omega arith in
      rw es
      (omega (
        arith,
        z.written.count,
        numbers_long (pass_of b) halved (leaves_down top list j) (some_sides r j (omega arith)),
        area_down top (leaves_from list j),
        area_more list j,
        area_rises list (suc j) (n - suc j),
        ap (λ (i : ℕ). area (leaves_from list i)) e,
      ))

  -- what the next leaf asks
  pub leaf_asks : (m : ℕ) → at + 2 * area (leaves_from list n) ≤ m → Starts cross along (side / 4) × (cross ≤ 4096) × (4 ≤ side) × (k + 2 * (side / 4 * (side / 4)) ≤ m)
  leaf_asks m g = let q = leaf_starts b halved leaf cross along ec ea in (q.0, q.1, q.2, room m g)

  pub one_written : (out₁ : List ℕ) (k₁ : ℕ) → Put (leaf_edge_numbers b halved cross along side) out k out₁ k₁ → Written b halved top list out₀ at out₁ (j + 1) k₁
  one_written out₁ k₁ g =
      let lower : y / 4 ≡ get_or list (3 * j + 1) 0 / 4 + top = omega arith in
      let e : each edge_numbers (each (near_edge (pass_of b)) (visit_of (pass_of b) halved (leaf' (x / 4) (y / 4) (side / 4)))) ≡ numbers_of (pass_of b) halved (leaf_down top (leaf_from list j) ∷ [])
      = rw (ex, lower, es) (sym (numbers_one (pass_of b) halved (leaf_down top (leaf_from list j)))) in
      record {
        written =
            rw (add-one j)
            (put_as (sym (ap (numbers_of (pass_of b) halved) (down_more top list j) ∙ numbers_append (pass_of b) halved (leaves_down top list j) (leaf_down top (leaf_from list j) ∷ [])))
            (put_then z.written (put_as (leaf_numbers_lem b halved leaf cross along ec ea ∙ e) g)));
      }

-- ---- the loop over a picture's roots

-- the edges of i roots are written
pub record Rooted (b halved : Bool) (s : List ℕ) (w h : ℕ) (out₀ out : List ℕ) (i k : ℕ) : Type 0 where
  pub written : Put (numbers_of (pass_of b) halved (leaves_of s w h i)) out₀ 0 out k

pub none_rooted : (b halved : Bool) (s : List ℕ) (w h : ℕ) (out : List ℕ) → Rooted b halved s w h out out 0 0
unfolding leaves_of
none_rooted b halved s w h out = record { written = put_as (sym (numbers_none (pass_of b) halved)) (put_none out 0) }

area_rise : (s : List ℕ) (w h n m : ℕ) → area (leaves_of s w h n) ≤ area (leaves_of s w h (n + m))
unfolding leaves_of
area_rise s w h n zero = rw add-zero (le_refl _)
area_rise s w h n (suc m) = rw add-suc (omega (arith, area_rise s w h n m, area_append (leaves_of s w h (n + m)) (root_leaves s w h (n + m))))

module _ {b halved : Bool} {s : List ℕ} {w h : ℕ} {out₀ out : List ℕ} {i k : ℕ} (z : Rooted b halved s w h out₀ out i k) where
  pub one_rooted : (out₁ : List ℕ) (k₁ : ℕ) → Put (numbers_of (pass_of b) halved (root_leaves s w h i)) out k out₁ k₁ → Rooted b halved s w h out₀ out₁ (i + 1) k₁
  unfolding leaves_of
  one_rooted out₁ k₁ g = record { written = rw (add-one i) (put_as (sym (numbers_append (pass_of b) halved (leaves_of s w h i) (root_leaves s w h i))) (put_then z.written g)) }

  pub all_rooted : roots w h ≤ i → i ≤ roots w h → Put (numbers_of (pass_of b) halved (all_leaves s w h)) out₀ 0 out k
  all_rooted p q = let e : i ≡ roots w h = omega arith in put_as (ap (λ (n : ℕ). numbers_of (pass_of b) halved (leaves_of s w h n)) e) z.written

  -- what the next root's edges take is left
  pub root_room : 1 ≤ w → (picture_walk s w h).answer ≡ Ok tt → i < roots w h → k + 2 * area (root_leaves s w h i) ≤ 2 * (w * h)
  unfolding leaves_of
  root_room pos accepted g =
      let fine = each_done (root_walk s w h) (roots w h) accepted in
      let e : suc i + (roots w h - suc i) ≡ roots w h = omega arith in
      let some : (p : Leaf) → Memᴰ p (leaves_of s w h i) → 1 ≤ p.side =
      λ p m. let r = leaves_mem s w h pos i p m in let d = sound_at s w h pos fine r.root (omega (arith, r.early)) p r.listed in rw d.power (pow_pos d.log) in
      omega (
        arith,
        z.written.count,
        numbers_long (pass_of b) halved (leaves_of s w h i) some,
        area_append (leaves_of s w h i) (root_leaves s w h i),
        area_rise s w h (suc i) (roots w h - suc i),
        ap (λ (n : ℕ). area (leaves_of s w h n)) e,
        whole_area s w h pos fine,
      )
