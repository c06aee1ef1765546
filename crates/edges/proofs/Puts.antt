-- Numbers written one run after another: an edge, a stretch of edges, a leaf's edges.
-- Assumes nothing.
use mathlib.Core.Bool.{Bool, true, false, ◌&&◌}
use mathlib.Core.List.{List, [], ◌∷◌, ◌++◌, append-nil}
use mathlib.Core.Path.{◌≡◌, refl, sym, ap, ap₂, ◌∙◌, subst}
use Prim.Native.Nat.{ℕ, zero, suc, ◌+◌, ◌*◌, ◌/◌, ◌%◌, ◌≤◌, ◌<◌}
use native.Mathlib.Nat.{add-zero, mul-one, mul-le-mul_left}
use native.Mathlib.Numerals.{add-one}
use native.Mathlib.Omega.{arith}
use borrow.Author.Tests.{lt-ltb, eqb-true}
use lib.Dec.{ltb, eqb}
use lib.ListN.{length, set, length-append}
use lib.Seq.{sets}
use Rattle.laws.specs.Index.{pick}
use Rattle.laws.specs.Orders.{each}
use Rattle.laws.proofs.Orders.{each_append}
use Rattle.split.specs.Edges.{Pass, Edge, edge_at, pass_of, stretch, edge_numbers}
use Rattle.split.proofs.Area.{stretch_length}
use Rattle.split.proofs.Demand3.{edges_twice}
use Rattle.split.proofs.Sides.{and-true}
use Rattle.split.proofs.Stores.{sets_append}
use Rattle.edges.specs.Put.{Put, Starts, stretch_numbers, near_numbers, leaf_edge_numbers}

pub put_none : (out : List ℕ) (at : ℕ) → Put [] out at out at
put_none out at = record { count = sym (add-zero at); put = refl }

pub put_then : {a b : List ℕ} {out out₁ out₂ : List ℕ} {at n₁ n₂ : ℕ} → Put a out at out₁ n₁ → Put b out₁ n₁ out₂ n₂ → Put (a ++ b) out at out₂ n₂
put_then {a} {b} {out} {out₁} {out₂} {at} {n₁} {n₂} p q = record {
  count = omega (arith, p.count, q.count, length-append a b);
  put = q.put ∙ ap₂ (λ (l : List ℕ) (m : ℕ). sets l m b) p.put p.count ∙ sets_append a b out at;
}

pub put_as : {a b : List ℕ} {out out₁ : List ℕ} {at n : ℕ} → a ≡ b → Put a out at out₁ n → Put b out at out₁ n
put_as {out = out} {out₁ = out₁} {at = at} {n = n} e p = subst (λ (l : List ℕ). Put l out at out₁ n) e p

-- ---- an edge

module _ (out : List ℕ) (at cross along : ℕ) (c : cross % 4 ≡ 0) (a : along % 4 ≡ 0) where
  back : (n : ℕ) → n % 4 ≡ 0 → 4 * (n / 4) ≡ n
  back n e = omega arith

  pub edge_across : (b : Bool) → b ≡ true → set (set out at along) (at + 1) cross ≡ sets out at (edge_numbers (edge_at (pass_of b) (cross / 4) (along / 4)))
  edge_across b e = rw (e, back cross c, back along a, add-one at)

  pub edge_down_lem : (b : Bool) → b ≡ false → set (set out at cross) (at + 1) along ≡ sets out at (edge_numbers (edge_at (pass_of b) (cross / 4) (along / 4)))
  edge_down_lem b e = rw (e, back cross c, back along a, add-one at)

-- ---- a stretch

stretch_more : (d : Pass) (c a n : ℕ) → stretch d c a (suc n) ≡ stretch d c a n ++ (edge_at d c (a + n) ∷ [])
unfolding stretch
stretch_more d c a zero = rw (add-zero a)
stretch_more d c a (suc n) =
    let e : a + suc n ≡ suc a + n = omega arith in
    rw e (ap (λ (l : List Edge). edge_at d c a ∷ l) (stretch_more d c (suc a) n))

module _ (b : Bool) (cross along : ℕ) where
  pub stretch_long : (n : ℕ) → length (stretch_numbers b cross along n) ≡ 2 * n
  stretch_long n = edges_twice _ ∙ ap (λ (m : ℕ). 2 * m) (stretch_length (pass_of b) (cross / 4) (along / 4) n)

  pub stretch_none : (out : List ℕ) (at : ℕ) → out ≡ sets out at (stretch_numbers b cross along 0)
  unfolding stretch each
  stretch_none out at = refl

  pub stretch_next : (out₀ out : List ℕ) (at n : ℕ) → along % 4 ≡ 0 → out ≡ sets out₀ at (stretch_numbers b cross along n)
      → sets out (at + 2 * n) (edge_numbers (edge_at (pass_of b) (cross / 4) ((along + 4 * n) / 4))) ≡ sets out₀ at (stretch_numbers b cross along (n + 1))
  unfolding each
  stretch_next out₀ out at n r e =
      let d = pass_of b in
      let l = stretch d (cross / 4) (along / 4) n in
      let x = edge_at d (cross / 4) (along / 4 + n) in
      let q : (along + 4 * n) / 4 ≡ along / 4 + n = omega arith in
      let k : at + 2 * n ≡ at + length (each edge_numbers l) = ap (λ (m : ℕ). at + m) (sym (stretch_long n)) in
      ap₂ (λ (o : List ℕ) (m : ℕ). sets o (at + 2 * n) (edge_numbers (edge_at d (cross / 4) m))) e q
      ∙ ap (λ (m : ℕ). sets (sets out₀ at (each edge_numbers l)) m (edge_numbers x)) k
      ∙ sets_append (each edge_numbers l) (edge_numbers x) out₀ at
      ∙ ap (sets out₀ at) (sym (ap (λ (m : ℕ). each edge_numbers (stretch d (cross / 4) (along / 4) m)) (add-one n)
      ∙ ap (each edge_numbers) (stretch_more d (cross / 4) (along / 4) n) ∙ each_append edge_numbers l (x ∷ [])))

  pub stretch_put : (out₀ out : List ℕ) (at n : ℕ) → out ≡ sets out₀ at (stretch_numbers b cross along n) → Put (stretch_numbers b cross along n) out₀ at out (at + 2 * n)
  stretch_put out₀ out at n e = record { count = ap (λ (m : ℕ). at + m) (sym (stretch_long n)); put = e }

  -- ---- the near edge

  pub near_none : (n : ℕ) → cross ≡ 0 → [] ≡ near_numbers b cross along n
  near_none n e = rw e

  pub near_some : (n : ℕ) → (cross ≡ 0 → ⊥) → stretch_numbers b cross along n ≡ near_numbers b cross along n
  near_some n e = let p : 0 < cross = omega arith in rw (lt-ltb 0 cross p)

  pub near_long : (n : ℕ) → length (near_numbers b cross along n) ≤ 2 * n
  near_long n = go (ltb 0 cross) where
    go : (t : Bool) → length (pick t (stretch_numbers b cross along n) []) ≤ 2 * n
    go true = omega (arith, stretch_long n)
    go false = omega arith

  -- ---- a leaf's

  pub leaf_plain : (halved : Bool) (side : ℕ) → (halved && eqb side 64) ≡ false → near_numbers b cross along (side / 4) ≡ leaf_edge_numbers b halved cross along side
  leaf_plain halved side e = rw e (sym (append-nil _))

  pub leaf_halves : (halved : Bool) (side : ℕ) → (halved && eqb side 64) ≡ true
      → near_numbers b cross along (side / 4) ++ stretch_numbers b (cross + 32) along 16 ≡ leaf_edge_numbers b halved cross along side
  leaf_halves halved side e = rw e

-- ---- the room that a leaf's edges take

pub near_room : (at m side : ℕ) → 4 ≤ side → at + 2 * (side / 4 * (side / 4)) ≤ m → at + 2 * (side / 4) ≤ m
near_room at m side p q =
    let one : 1 ≤ side / 4 = omega arith in
    omega (arith, mul-le-mul_left (side / 4) one, mul-one (side / 4))

-- a leaf of 64: where its second half starts, and what is left for its edge
pub half_starts : (cross along side : ℕ) → Starts cross along (side / 4) → cross ≤ 4096 → side ≡ 64 → Starts (cross + 32) along 16
half_starts cross along side z l e = record { across = omega arith; down = z.down; near = omega arith; far = omega arith }

pub half_room : (b : Bool) (cross along at k m side : ℕ) → side ≡ 64 → k ≡ at + length (near_numbers b cross along (side / 4)) → at + 2 * (side / 4 * (side / 4)) ≤ m → k + 2 * 16 ≤ m
half_room b cross along at k m side e c r =
    let q : side / 4 ≡ 16 = omega arith in
    let n : side / 4 * (side / 4) ≡ 256 = ap (λ (i : ℕ). i * i) q in
    omega (arith, near_long b cross along (side / 4))

pub whole_root : (halved : Bool) (side : ℕ) → (halved && eqb side 64) ≡ true → side ≡ 64
whole_root halved side e = eqb-true _ _ (and-true halved (eqb side 64) e).1
