-- A picture's lists are those of its bands, one after the other; and which rows of units a band's edges lie in.
--     lists_joined    a pass's list is the bands' lists joined
--     walks_joined    a picture is walked without a refusal where each of its bands is; walks-apart    and the other way round
--     band_in    an edge of band k lies in the band's rows; joined_in    one of the first n bands' above row 16 * n
-- Assumes nothing.
use Rattle.std.specs.Prelude.{Ok}
use mathlib.Core.Bool.{Bool, true, false, ◌&&◌}
use mathlib.Core.Logic.{◌⊎◌, inl, inr, ⊎_elim}
use mathlib.Core.Path.{◌≡◌, refl, sym, ap, ap₂, ◌∙◌, subst}
use mathlib.Core.List.Memᴰ
use mathlib.Core.List.{List, [], ◌∷◌, ◌++◌, map, append-nil, Memᴰ}
use Prim.Native.Nat.{ℕ, zero, suc, ◌+◌, ◌-◌, ◌*◌, ◌/◌, ◌%◌, ◌^◌, ◌≤◌, ◌<◌}
use native.Mathlib.Nat.{mul_comm, zero-mul, mod-lt, div-lt_iff_lt-mul, div-add-mod'}
use native.Mathlib.Omega.{arith}
use borrow.Author.Tests.{ltb-true, eqb-true}
use lib.Arith.{digits_lt}
use lib.Dec.{ltb, eqb}
use lib.Pow.{pow_pos}
use Rattle.def.specs.Answers.{Answer}
use Rattle.laws.specs.Index.{pick}
use Rattle.laws.specs.Orders.{each, Pairwise}
use Rattle.laws.proofs.Orders.{each_append, each_mem}
use Rattle.split.specs.Edges.{Pass, vertical, horizontal, Edge, edge, edge_at, Visit, visit, halves, visit_of, stretch, near_edge, edges_of, edge_list}
use Rattle.split.specs.Picture.{across, roots, root_walk, leaves_of, all_leaves, picture_walk}
use Rattle.split.specs.Rows.{cross_of, along_of}
use Rattle.split.specs.Walk.{Leaf, leaf, Walk, in_turn}
use Rattle.split.proofs.Demand3.{demand_3}
use Rattle.split.proofs.Induct.{test}
use Rattle.split.proofs.Sides.{and-true}
use Rattle.split.proofs.Walks.{each_done, turn_done}
use Rattle.split.specs.RootCall.{leaf_down}
use Rattle.df_rules.specs.Moves.{Once}
use Rattle.bands_rules.specs.Bands.{walk_down, band_bytes, list_from, band_list, joined}
use Rattle.band_rows.specs.Rows.{band_rows}
use Rattle.bands_rules.proofs.Down.{Band, band, root_down, band_leaves}

-- ---- the lists

edges_append : (d : Pass) (halved : Bool) (l m : List Leaf) → edges_of d halved (l ++ m) ≡ edges_of d halved l ++ edges_of d halved m
edges_append d halved l m = ap (each (near_edge d)) (each_append (visit_of d halved) l m) ∙ each_append (near_edge d) (each (visit_of d halved) l) (each (visit_of d halved) m)

first_lists : (d : Pass) (halved : Bool) (s : List ℕ) (w h : ℕ) → 1 ≤ w → (n : ℕ) → n ≤ across h → edges_of d halved (leaves_of s w h (n * across w)) ≡ joined (band_list d halved s w h) n
unfolding joined leaves_of each
first_lists d halved s w h pos zero l = ap (λ (i : ℕ). edges_of d halved (leaves_of s w h i)) (zero-mul (across w))
first_lists d halved s w h pos (suc n) l =
    ap (edges_of d halved) (band_leaves s w h n (band_rows h n) pos (band h n l))
    ∙ edges_append d halved (leaves_of s w h (n * across w)) _
    ∙ ap (λ (r : List Edge). r ++ band_list d halved s w h n) (first_lists d halved s w h pos n (omega arith))

pub lists_joined : (d : Pass) (halved : Bool) (s : List ℕ) (w h : ℕ) → 1 ≤ w → edge_list d halved s w h ≡ joined (band_list d halved s w h) (across h)
lists_joined d halved s w h pos =
    ap (λ (i : ℕ). edges_of d halved (leaves_of s w h i)) (mul_comm (across w) (across h)) ∙ first_lists d halved s w h pos (across h) (omega arith)

-- the lists of the first n bands are the front of the picture's
front_pair : {E : Type 0} (R : E → E → Type 0) (l m : List E) → Pairwise R (l ++ m) → Pairwise R l
front_pair R [] m p = tt
front_pair R (a ∷ l) m p = (λ f i. p.0 f (Memᴰ.append_left m i), front_pair R l m p.1)

fronts : (d : Pass) (halved : Bool) (s : List ℕ) (w h n r : ℕ) → Once d w (joined (band_list d halved s w h) (n + r)) → Once d w (joined (band_list d halved s w h) n)
unfolding joined
fronts d halved s w h n zero o = let e : n + 0 ≡ n = omega arith in subst (λ (k : ℕ). Once d w (joined (band_list d halved s w h) k)) e o
fronts d halved s w h n (suc r) o =
    let e : n + suc r ≡ suc (n + r) = omega arith in
    let q : Once d w (joined (band_list d halved s w h) (suc (n + r))) = subst (λ (k : ℕ). Once d w (joined (band_list d halved s w h) k)) e o in
    let f = band_list d halved s w h in
    fronts d halved s w h n r (record { inner = λ x i. q.inner x (Memᴰ.append_left (f (n + r)) i); apart = front_pair _ (joined f (n + r)) (f (n + r)) q.apart })

pub first_once : (d : Pass) (halved : Bool) (s : List ℕ) (w h : ℕ) → 1 ≤ w → (n : ℕ) → n ≤ across h → Once d w (edge_list d halved s w h) → Once d w (joined (band_list d halved s w h) n)
first_once d halved s w h pos n l o =
    let e : n + (across h - n) ≡ across h = omega arith in
    fronts d halved s w h n (across h - n) (subst (λ (k : ℕ). Once d w (joined (band_list d halved s w h) k)) (sym e) (subst (Once d w) (lists_joined d halved s w h pos) o))

-- ---- the walks

all_done_lem : (f : ℕ → Walk) (n : ℕ) → ((i : ℕ) → i < n → (f i).answer ≡ Ok tt) → (in_turn f n).answer ≡ Ok tt
unfolding in_turn
all_done_lem f zero h = refl
all_done_lem f (suc n) h =
    let e : n + 1 ≡ suc n = omega arith in
    subst (λ (i : ℕ). (in_turn f i).answer ≡ Ok tt) e (turn_done f n (all_done_lem f n (λ i l. h i (omega arith))) (h n (omega arith)))

module _ (s : List ℕ) (w h : ℕ) (pos : 1 ≤ w) where
  -- band k, walked by itself
  abbrev pub BandDone : ℕ → Type 0
  BandDone k = (picture_walk (band_bytes s w k) w (band_rows h k)).answer ≡ Ok tt

  roots_of : (k : ℕ) → k < across h → roots w (band_rows h k) ≡ across w
  roots_of k l =
      let b = band h k l in
      let some = b.some in
      let few = b.few in
      let e : across (band_rows h k) ≡ 1 = omega arith in
      ap (λ (i : ℕ). across w * i) e ∙ omega arith

  pub walks_joined : ((k : ℕ) → k < across h → BandDone k) → (picture_walk s w h).answer ≡ Ok tt
  walks_joined g = all_done_lem (root_walk s w h) (roots w h) (λ i l.
      let c : 0 < across w = omega arith in
      let j : i % across w < across w = mod-lt i c in
      let k : i / across w < across h = (div-lt_iff_lt-mul {k = across w} {x = i} {y = across h} c).1 (rw (mul_comm (across h) (across w)) l) in
      let e : i / across w * across w + i % across w ≡ i = div-add-mod' i (across w) in
      let b = i / across w in
      subst (λ (q : ℕ). (root_walk s w h q).answer ≡ Ok tt) e
      (ap (λ (v : Walk). v.answer) (root_down s w h b (band_rows h b) pos (band h b k) (i % across w) j)
      ∙ each_done (root_walk (band_bytes s w b) w (band_rows h b)) (roots w (band_rows h b)) (g b k) (i % across w) (subst (λ (q : ℕ). i % across w < q) (sym (roots_of b k)) j)))

  pub walks_apart : (picture_walk s w h).answer ≡ Ok tt → (k : ℕ) → k < across h → BandDone k
  walks_apart g k l = all_done_lem (root_walk (band_bytes s w k) w (band_rows h k)) (roots w (band_rows h k)) (λ j z.
      let y : j < across w = subst (λ (q : ℕ). j < q) (roots_of k l) z in
      sym (ap (λ (v : Walk). v.answer) (root_down s w h k (band_rows h k) pos (band h k l) j y))
      ∙ each_done (root_walk s w h) (roots w h) g (k * across w + j) (rw (mul_comm (across w) (across h)) (digits_lt l y)))

-- ---- where an edge lies

pub record In (d : Pass) (p : Leaf) (e : Edge) : Type 0 where
  pub inner : 0 < cross_of d e
  pub left : p.x ≤ e.x
  pub right : e.x < p.x + p.side
  pub top : p.y ≤ e.y
  pub bottom : e.y < p.y + p.side

record Stretched (d : Pass) (c a n : ℕ) (e : Edge) : Type 0 where
  across : cross_of d e ≡ c
  from : a ≤ along_of d e
  to : along_of d e < a + n

stretched : (d : Pass) (c a n : ℕ) (e : Edge) → Memᴰ e (stretch d c a n) → Stretched d c a n e
unfolding stretch
stretched d c a zero e m = absurd (Memᴰ.not-nil m)
stretched d c a (suc n) e m =
    ⊎_elim (λ z. here d z) (λ i. let r = stretched d c (suc a) n e i in let f = r.from in let t = r.to in record { across = r.across; from = omega arith; to = omega arith })
    (Memᴰ.cases_cons m) where
      here : (d : Pass) → e ≡ edge_at d c a → Stretched d c a (suc n) e
      here vertical z = let x = ap (λ (q : Edge). q.x) z in let y = ap (λ (q : Edge). q.y) z in record { across = x; from = omega arith; to = omega arith }
      here horizontal z = let x = ap (λ (q : Edge). q.x) z in let y = ap (λ (q : Edge). q.y) z in record { across = y; from = omega arith; to = omega arith }

-- a visit lies in its leaf
record Part (p : Leaf) (q : Visit) : Type 0 where
  left : p.x ≤ q.x
  right : q.x + q.wide ≤ p.x + p.side
  top : p.y ≤ q.y
  bottom : q.y + q.tall ≤ p.y + p.side
  broad : 1 ≤ q.wide
  high : 1 ≤ q.tall

part_of_lem : (d : Pass) (halved : Bool) (p : Leaf) → 1 ≤ p.side → (q : Visit) → Memᴰ q (visit_of d halved p) → Part p q
unfolding visit_of
part_of_lem d halved p some q m = go (halved && eqb p.side 16) refl m where
  is : (x y wide tall : ℕ) → p.x ≤ x → x + wide ≤ p.x + p.side → p.y ≤ y → y + tall ≤ p.y + p.side → 1 ≤ wide → 1 ≤ tall → q ≡ visit x y wide tall → Part p q
  is x y wide tall a b c e f g z = subst (Part p) (sym z) (record { left = a; right = b; top = c; bottom = e; broad = f; high = g })

  two : (d : Pass) → p.side ≡ 16 → Memᴰ q (halves d p.x p.y) → Part p q
  two vertical n i = ⊎_elim (is _ _ _ _ (omega arith) (omega arith) (omega arith) (omega arith) (omega arith) (omega arith))
      (λ j. is _ _ _ _ (omega arith) (omega arith) (omega arith) (omega arith) (omega arith) (omega arith) (Memᴰ.eq_of_singleton j)) (Memᴰ.cases_cons i)
  two horizontal n i = ⊎_elim (is _ _ _ _ (omega arith) (omega arith) (omega arith) (omega arith) (omega arith) (omega arith))
      (λ j. is _ _ _ _ (omega arith) (omega arith) (omega arith) (omega arith) (omega arith) (omega arith) (Memᴰ.eq_of_singleton j)) (Memᴰ.cases_cons i)

  go : (b : Bool) → (halved && eqb p.side 16) ≡ b → Memᴰ q (pick b (halves d p.x p.y) (visit p.x p.y p.side p.side ∷ [])) → Part p q
  go true t i = two d (eqb-true p.side 16 (and-true halved _ t).1) i
  go false t i = is _ _ _ _ (omega arith) (omega arith) (omega arith) (omega arith) some some (Memᴰ.eq_of_singleton i)

near_in : (d : Pass) (p : Leaf) (q : Visit) (e : Edge) → Part p q → Memᴰ e (near_edge d q) → In d p e
near_in vertical p q e k m = go (ltb 0 q.x) refl m where
  go : (b : Bool) → ltb 0 q.x ≡ b → Memᴰ e (pick b (stretch vertical q.x q.y q.tall) []) → In vertical p e
  go true t i =
      let r = stretched vertical q.x q.y q.tall e i in
      let z = ltb-true 0 q.x t in
      record {
        inner = omega (arith, r.across);
        left = omega (arith, r.across, k.left);
        right = omega (arith, r.across, k.right, k.broad);
        top = omega (arith, r.from, k.top);
        bottom = omega (arith, r.to, k.bottom);
      }
  go false t i = absurd (Memᴰ.not-nil i)
near_in horizontal p q e k m = go (ltb 0 q.y) refl m where
  go : (b : Bool) → ltb 0 q.y ≡ b → Memᴰ e (pick b (stretch horizontal q.y q.x q.wide) []) → In horizontal p e
  go true t i =
      let r = stretched horizontal q.y q.x q.wide e i in
      let z = ltb-true 0 q.y t in
      record {
        inner = omega (arith, r.across);
        left = omega (arith, r.from, k.left);
        right = omega (arith, r.to, k.right);
        top = omega (arith, r.across, k.top);
        bottom = omega (arith, r.across, k.bottom, k.high);
      }
  go false t i = absurd (Memᴰ.not-nil i)

pub record InSome (d : Pass) (l : List Leaf) (e : Edge) : Type 0 where
  pub one : Leaf
  pub listed : Memᴰ one l
  pub lies : In d one e

pub edges_in_lem : (d : Pass) (halved : Bool) (l : List Leaf) → ((p : Leaf) → Memᴰ p l → 1 ≤ p.side) → (e : Edge) → Memᴰ e (edges_of d halved l) → InSome d l e
edges_in_lem d halved l some e m =
    let f = each_mem (near_edge d) (each (visit_of d halved) l) e m in
    let g = each_mem (visit_of d halved) l f.one f.listed in
    record { one = g.one; listed = g.listed; lies = near_in d g.one f.one e (part_of_lem d halved g.one (some g.one g.listed) f.one g.mine) f.mine }

-- ---- a band's edges

pub record Mapped {A B : Type 0} (f : A → B) (l : List A) (b : B) : Type 0 where
  pub of : A
  pub listed : Memᴰ of l
  pub is : b ≡ f of

pub map_mem : {A B : Type 0} (f : A → B) (l : List A) (b : B) → Memᴰ b (map f l) → Mapped f l b
map_mem f [] b m = absurd (Memᴰ.not-nil m)
map_mem f (a ∷ l) b m =
    ⊎_elim (λ z. record { of = a; listed = Memᴰ.head refl; is = z }) (λ i.
    let r = map_mem f l b i in record { of = r.of; listed = Memᴰ.tail r.listed; is = r.is }) (Memᴰ.cases_cons m)

-- an edge with a unit before it, in rows top to end of w units
pub record Lies (d : Pass) (w top end : ℕ) (e : Edge) : Type 0 where
  pub inner : 0 < cross_of d e
  pub column : e.x < w
  pub above : top ≤ e.y
  pub below : e.y < end

-- s: the band's own bytes, n: its rows of units
pub list_in : (d : Pass) (halved : Bool) (top : ℕ) (s : List ℕ) (w n : ℕ) → 1 ≤ w → (picture_walk s w n).answer ≡ Ok tt → (e : Edge) → Memᴰ e (list_from d halved top s w n) → Lies d w top (n + top) e
list_in d halved top s w n pos accepted e m =
    let d3 = demand_3 halved s w n pos accepted in
    let leaves = map (leaf_down top) (all_leaves s w n) in
    let size : (p : Leaf) → Memᴰ p leaves → 1 ≤ p.side =
    λ p i. let r = map_mem (leaf_down top) (all_leaves s w n) p i in
    let a = d3.aligned r.of r.listed in
    subst (λ (q : Leaf). 1 ≤ q.side) (sym r.is) (rw a.power (pow_pos a.log)) in
    let f = edges_in_lem d halved leaves size e m in
    let r = map_mem (leaf_down top) (all_leaves s w n) f.one f.listed in
    let a = d3.aligned r.of r.listed in
    let x = ap (λ (q : Leaf). q.x) r.is in
    let y = ap (λ (q : Leaf). q.y) r.is in
    let z = ap (λ (q : Leaf). q.side) r.is in
    let i = f.lies in
    record {
      inner = i.inner;
      column = omega (arith, i.right, a.right, x, z);
      above = omega (arith, i.top, y);
      below = omega (arith, i.bottom, a.bottom, y, z);
    }

module _ (halved : Bool) (s : List ℕ) (w h : ℕ) (pos : 1 ≤ w) (walked : (k : ℕ) → k < across h → BandDone s w h pos k) (d : Pass) where
  pub band_in : (k : ℕ) → k < across h → (e : Edge) → Memᴰ e (band_list d halved s w h k) → Lies d w (16 * k) (band_rows h k + 16 * k) e
  band_in k l e m = list_in d halved (16 * k) (band_bytes s w k) w (band_rows h k) pos (walked k l) e m

  pub joined_in : (n : ℕ) → n ≤ across h → (e : Edge) → Memᴰ e (joined (band_list d halved s w h) n) → Lies d w 0 (16 * n) e
  unfolding joined
  joined_in zero l e m = absurd (Memᴰ.not-nil m)
  joined_in (suc n) l e m =
      ⊎_elim (λ i. let r = joined_in n (omega arith) e i in let c = r.below in record { inner = r.inner; column = r.column; above = omega arith; below = omega arith })
      (λ i. let r = band_in n l e i in let c = r.below in let f = (band h n l).few in record { inner = r.inner; column = r.column; above = omega arith; below = omega arith })
      (Memᴰ.append_cases (joined (band_list d halved s w h) n) m)
