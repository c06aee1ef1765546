-- The passes come to the lists. In the vertical one the unit left of a visit's top row is done when it is made, and the one right of it is not:
-- of two visits the later one stands right of the earlier, or below it, and no more is needed.
-- Assumes nothing.
use Rattle.std.specs.Prelude.{Ok}
use mathlib.Core.Bool.{Bool, true, false, ◌&&◌}
use mathlib.Core.Logic.{◌⊎◌, inl, inr, ⊎_elim}
use mathlib.Core.List.Memᴰ
use mathlib.Core.List.{List, [], ◌∷◌, ◌++◌, append_assoc, append-nil, Memᴰ}
use mathlib.Core.Path.{◌≡◌, refl, sym, ap, ◌∙◌, subst}
use Prim.Native.Nat.{ℕ, ◌+◌, ◌-◌, ◌≤◌, ◌<◌}
use native.Mathlib.Omega.{arith}
use borrow.Author.Tests.{lt-ltb, le-leb, leb-true, ltb-true, ltb-false, eqb-true}
use lib.Dec.{ltb, leb, eqb}
use Rattle.laws.specs.Index.{pick}
use Rattle.laws.specs.Orders.{Pairwise, each}
use Rattle.laws.proofs.Bools.{and_false, or_true}
use Rattle.laws.proofs.Orders.{pairwise_each, pairwise_cross, pairwise_rest, each_mem, mem_each, each_each}
use Rattle.split.specs.Edges.{Pass, vertical, horizontal, Edge, Visit, visit, halves, visit_of, visits, stretch, near_edge, edge_list}
use Rattle.split.specs.Passes.{has, done, vertical_pass, horizontal_pass}
use Rattle.split.specs.Picture.{roots, root_walk, all_leaves}
use Rattle.split.specs.Rows.{home_of}
use Rattle.split.specs.Walk.{Leaf}
use Rattle.split.proofs.Induct.{test}
use Rattle.split.proofs.Places.{tiled_v}
use Rattle.split.proofs.Sides.{Has, Tiled, leaf_edges, and-true}

-- ---- which units a visit has

pub record Bounds (p : Visit) (u v : ℕ) : Type 0 where
  pub left : p.x ≤ u
  pub right : u < p.x + p.wide
  pub top : p.y ≤ v
  pub bottom : v < p.y + p.tall

has_in : (p : Visit) (u v : ℕ) → Bounds p u v → has p u v ≡ true
unfolding has
has_in p u v b = simp (le-leb _ _ b.left, lt-ltb _ _ b.right, le-leb _ _ b.top, lt-ltb _ _ b.bottom)

has_true : (p : Visit) (u v : ℕ) → has p u v ≡ true → Bounds p u v
unfolding has
has_true p u v e =
    let t₀ = and-true (leb p.x u) _ e in
    let t₁ = and-true (ltb u (p.x + p.wide)) _ t₀.1 in
    let t₂ = and-true (leb p.y v) (ltb v (p.y + p.tall)) t₁.1 in
    record { left = leb-true _ _ t₀.0; right = ltb-true _ _ t₁.0; top = leb-true _ _ t₂.0; bottom = ltb-true _ _ t₂.1 }

done_in : {p : Visit} {l : List Visit} (u v : ℕ) → Memᴰ p l → Bounds p u v → done l u v ≡ true
unfolding done
done_in u v (Memᴰ.head {xs = l} e) b = rw (has_in _ u v (subst (λ (q : Visit). Bounds q u v) e b))
done_in u v (Memᴰ.tail {x = q} m) b = rw (done_in u v m b) (or_true (has q u v))

done_not : (l : List Visit) (u v : ℕ) → ((p : Visit) → Memᴰ p l → Bounds p u v → ⊥) → done l u v ≡ false
unfolding done
done_not [] u v f = refl
done_not (p ∷ l) u v f =
    test (has p u v) (λ t. absurd (f p (Memᴰ.head refl) (has_true p u v t))) (λ t. rw t (done_not l u v (λ q m. f q (Memᴰ.tail m))))

-- ---- the vertical pass over visits that follow each other and cover the picture

abbrev pub Follow : Visit → Visit → Type 0
Follow p q = (p.x + p.wide ≤ q.x) ⊎ (p.y + p.tall ≤ q.y)

record Cover (l : List Visit) (u v : ℕ) : Type 0 where
  one : Visit
  listed : Memᴰ one l
  bounds : Bounds one u v

record Inner (w h : ℕ) (p : Visit) : Type 0 where
  broad : 1 ≤ p.wide
  high : 1 ≤ p.tall
  right : p.x + p.wide ≤ w
  bottom : p.y + p.tall ≤ h

module _ (w h : ℕ) (all : List Visit) (order : Pairwise Follow all) (covers : (u v : ℕ) → u < w → v < h → Cover all u v)
    (inner : (p : Visit) → Memᴰ p all → Inner w h p) where
  module _ (pre : List Visit) (p : Visit) (post : List Visit) (e : all ≡ pre ++ (p ∷ post)) where
    follow : Pairwise Follow (pre ++ (p ∷ post))
    follow = rw e at order

    listed : Memᴰ p all
    listed = subst (Memᴰ p) (sym e) (Memᴰ.append_right pre (Memᴰ.head refl))

    left_is_done : 0 < p.x → done pre (p.x - 1) p.y ≡ true
    left_is_done g =
        let k = inner p listed in
        let c = covers (p.x - 1) p.y (omega arith) (omega arith) in
        let b = c.bounds in
        ⊎_elim (λ m. done_in (p.x - 1) p.y m b)
        (λ m. absurd (⊎_elim (λ (z : c.one ≡ p). let x = ap (λ (q : Visit). q.x) z in omega arith)
        (λ i. ⊎_elim (λ o. omega arith) (λ o. omega arith) ((pairwise_rest Follow pre (p ∷ post) follow).0 c.one i)) (Memᴰ.cases_cons m)))
        (Memᴰ.append_cases pre (subst (Memᴰ c.one) e c.listed))

    right_is_not : done pre (p.x + p.wide) p.y ≡ false
    right_is_not = done_not pre (p.x + p.wide) p.y (λ q m b.
        ⊎_elim (λ o. omega arith) (λ o. omega arith) (pairwise_cross Follow m (Memᴰ.head refl) follow))

  and_left : (n : ℕ) (b : Bool) → (0 < n → b ≡ true) → (ltb 0 n && b) ≡ ltb 0 n
  and_left n b f = test (ltb 0 n) (λ t. rw t (f (ltb-true 0 n t))) (λ t. rw t)

  along : (pre post : List Visit) → all ≡ pre ++ post → vertical_pass w pre post ≡ each (near_edge vertical) post
  unfolding vertical_pass each
  along pre [] e = refl
  along pre (p ∷ post) e =
      rw (
        and_left p.x (done pre (p.x - 1) p.y) (left_is_done pre p post e),
        and_false (ltb (p.x + p.wide) w) (done pre (p.x + p.wide) p.y) (right_is_not pre p post e),
        along (pre ++ (p ∷ [])) post (e ∙ sym (append_assoc pre (p ∷ []) post)),
      )

-- ---- the visits of a picture's leaves

record Inside (p : Leaf) (q : Visit) : Type 0 where
  left : p.x ≤ q.x
  right : q.x + q.wide ≤ p.x + p.side
  top : p.y ≤ q.y
  bottom : q.y + q.tall ≤ p.y + p.side
  broad : 1 ≤ q.wide
  high : 1 ≤ q.tall

module _ (halved : Bool) (p : Leaf) (some : 1 ≤ p.side) where
  visit_inside : (q : Visit) → Memᴰ q (visit_of vertical halved p) → Inside p q
  unfolding visit_of
  visit_inside q m = go (halved && eqb p.side 16) refl m
    where
      both : (n : ℕ) → p.side ≡ 16 → (n ≡ 0) ⊎ (n ≡ 8) → Inside p (visit (p.x + n) p.y 8 16)
      both n e o = ⊎_elim (λ z. record { left = omega arith; right = omega arith; top = omega arith; bottom = omega arith; broad = omega arith; high = omega arith })
          (λ z. record { left = omega arith; right = omega arith; top = omega arith; bottom = omega arith; broad = omega arith; high = omega arith }) o

      go : (t : Bool) → (halved && eqb p.side 16) ≡ t → Memᴰ q (pick t (halves vertical p.x p.y) (visit p.x p.y p.side p.side ∷ [])) → Inside p q
      go true t m =
          let e = eqb-true p.side 16 (and-true halved _ t).1 in
          let z : p.x + 0 ≡ p.x = omega arith in
          ⊎_elim (λ i. subst (Inside p) (ap (λ (n : ℕ). visit n p.y 8 16) z ∙ sym i) (both 0 e (inl refl)))
          (λ i. subst (Inside p) (sym (Memᴰ.eq_of_singleton i)) (both 8 e (inr refl))) (Memᴰ.cases_cons m)
      go false t m = subst (Inside p) (sym (Memᴰ.eq_of_singleton m)) (record { left = omega arith; right = omega arith; top = omega arith; bottom = omega arith; broad = some; high = some })

  visit_order : Pairwise Follow (visit_of vertical halved p)
  unfolding visit_of
  visit_order = go (halved && eqb p.side 16)
    where
      go : (t : Bool) → Pairwise Follow (pick t (halves vertical p.x p.y) (visit p.x p.y p.side p.side ∷ []))
      go true = (λ f m. rw (Memᴰ.eq_of_singleton m) (inl (omega arith)), (λ f m. absurd (Memᴰ.not-nil m), tt))
      go false = (λ f m. absurd (Memᴰ.not-nil m), tt)

  visit_covers : (u v : ℕ) → Has vertical p u v → Cover (visit_of vertical halved p) u v
  unfolding visit_of
  visit_covers u v b = go (halved && eqb p.side 16) refl
    where
      go : (t : Bool) → (halved && eqb p.side 16) ≡ t → Cover (pick t (halves vertical p.x p.y) (visit p.x p.y p.side p.side ∷ [])) u v
      go true t =
          let e = eqb-true p.side 16 (and-true halved _ t).1 in
          let left = b.left in
          let right = b.right in
          let top = b.top in
          let bottom = b.bottom in
          test (ltb u (p.x + 8))
          (λ q. let l = ltb-true u (p.x + 8) q in
          record { one = visit p.x p.y 8 16; listed = Memᴰ.head refl; bounds = record { left = left; right = l; top = top; bottom = omega arith } })
          (λ q. let l = ltb-false u (p.x + 8) q in
          record { one = visit (p.x + 8) p.y 8 16; listed = Memᴰ.tail (Memᴰ.head refl); bounds = record { left = l; right = omega arith; top = top; bottom = omega arith } })
      go false t = record { one = visit p.x p.y p.side p.side; listed = Memᴰ.head refl; bounds = record { left = b.left; right = b.right; top = b.top; bottom = b.bottom } }

-- ---- the edges of a leaf's visits are the leaf's

pub visit_edges : (d : Pass) (halved : Bool) (p : Leaf) → each (near_edge d) (visit_of d halved p) ≡ leaf_edges d halved p
unfolding each visit_of leaf_edges
visit_edges vertical halved p =
    test (halved && eqb p.side 16)
    (λ t. let e = eqb-true p.side 16 (and-true halved _ t).1 in let l : 0 < p.x + 8 = omega arith in
    rw (t, lt-ltb _ _ l, e) (ap (λ (k : List Edge). pick (ltb 0 p.x) (stretch vertical p.x p.y 16) [] ++ k) (append-nil _)))
    (λ t. rw t)
visit_edges horizontal halved p =
    test (halved && eqb p.side 16)
    (λ t. let e = eqb-true p.side 16 (and-true halved _ t).1 in let l : 0 < p.y + 8 = omega arith in
    rw (t, lt-ltb _ _ l, e) (ap (λ (k : List Edge). pick (ltb 0 p.y) (stretch horizontal p.y p.x 16) [] ++ k) (append-nil _)))
    (λ t. rw t)

pub by_leaves : (d : Pass) (halved : Bool) (s : List ℕ) (w h : ℕ) → edge_list d halved s w h ≡ each (leaf_edges d halved) (all_leaves s w h)
by_leaves d halved s w h = each_each (near_edge d) (visit_of d halved) (leaf_edges d halved) (visit_edges d halved) (all_leaves s w h)

-- ---- the passes over a picture

pub horizontal_pass_lem : (halved : Bool) (s : List ℕ) (w h : ℕ) → horizontal_pass (visits horizontal halved s w h) ≡ edge_list horizontal halved s w h
horizontal_pass_lem halved s w h = refl

module _ (halved : Bool) (s : List ℕ) (w h : ℕ) (pos : 1 ≤ w) (fine : (i : ℕ) → i < roots w h → (root_walk s w h i).answer ≡ Ok tt) where
  abbrev t : Tiled vertical (home_of vertical s w) w h (all_leaves s w h)
  t = tiled_v s w h pos fine

  abbrev all : List Visit
  all = visits vertical halved s w h

  order : Pairwise Follow all
  order = pairwise_each (visit_of vertical halved) Follow _ (all_leaves s w h) t.order
      (λ p m. visit_order halved p (t.known p m).some)
      (λ p q a b m n o i j.
      let k = visit_inside halved p (t.known p m).some a i in
      let l = visit_inside halved q (t.known q n).some b j in
      let k₀ = k.right in
      let k₁ = k.bottom in
      let l₀ = l.left in
      let l₁ = l.top in
      ⊎_elim (λ g. inl (omega arith)) (λ g. inr (omega arith)) o)

  covers : (u v : ℕ) → u < w → v < h → Cover all u v
  covers u v f g =
      let c = t.covers u v f g in
      let d = visit_covers halved (home_of vertical s w u v) (t.known _ c.0).some u v c.1 in
      record { one = d.one; listed = mem_each (visit_of vertical halved) c.0 d.listed; bounds = d.bounds }

  inner : (q : Visit) → Memᴰ q all → Inner w h q
  inner q m =
      let f = each_mem (visit_of vertical halved) (all_leaves s w h) q m in
      let b = t.known f.one f.listed in
      let k = visit_inside halved f.one b.some q f.mine in
      let b₀ = b.right in
      let b₁ = b.bottom in
      let k₀ = k.right in
      let k₁ = k.bottom in
      record { broad = k.broad; high = k.high; right = omega arith; bottom = omega arith }

  -- left always done, right never
  pub left_done_lem : (pre post : List Visit) (p : Visit) → all ≡ pre ++ (p ∷ post) → 0 < p.x → done pre (p.x - 1) p.y ≡ true
  left_done_lem pre post p e g = left_is_done w h all order covers inner pre p post e g

  pub right_not : (pre post : List Visit) (p : Visit) → all ≡ pre ++ (p ∷ post) → done pre (p.x + p.wide) p.y ≡ false
  right_not pre post p e = right_is_not w h all order covers inner pre p post e

  pub vertical_pass_lem : vertical_pass w [] all ≡ edge_list vertical halved s w h
  vertical_pass_lem = along w h all order covers inner [] all refl
