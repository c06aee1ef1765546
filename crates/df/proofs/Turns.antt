-- A pass, one root more at a time: its edges filtered by their plan, and counted.
-- Assumes nothing.
use Prim.Native.Nat.{ℕ, zero, suc, ◌+◌, ◌*◌, ◌≤◌}
use mathlib.Core.Bool.{Bool}
use mathlib.Core.Path.{◌≡◌, refl, sym, ap, ◌∙◌}
use mathlib.Core.List.{List, [], ◌∷◌, ◌++◌, map}
use native.Mathlib.Numerals.{add-one}
use native.Mathlib.Omega.{arith}
use lib.ListN.{length, get_or, length-append}
use Rattle.def.specs.declared.Component.TheVariants.{Luma, Chroma}
use Rattle.def.specs.declared.Format.{Format}
use Rattle.laws.specs.Orders.{run, each}
use Rattle.laws.proofs.Orders.{run_append, each_append}
use Rattle.split.specs.Edges.{Pass, vertical, horizontal, Edge, visit_of, near_edge, edges_of}
use Rattle.split.specs.Picture.{roots, root_leaves, leaves_of}
use Rattle.split.specs.Walk.{Leaf}
use Rattle.df_rules.specs.Filter.{Planes, filter_one, filter_all, in_y, in_u, in_v}
use Rattle.df_rules.specs.Lent.{LentPicture}
use Rattle.df_rules.specs.Strength.{Over, Maps}
use Rattle.df_rules.proofs.Planes.{filter_planes}
use Rattle.df_rules.proofs.LentPlanes.{LentPlanes, lent_filtered}
use Rattle.split.specs.RootCall.{leaf_down}
use Rattle.bands_rules.specs.Bands.{list_from, done_from, BothPassesFrom}
use Rattle.bands_rules.proofs.Down.{map_append}
use Rattle.df.specs.Plan.{edge_from, edges_from, Planned, filter_in, PlaneOf, ColourOf, PassDone}
use Rattle.df.proofs.Plans.{plan_filters}

from_long : (l : List ℕ) (n : ℕ) → length (edges_from l n) ≡ n
unfolding edges_from
from_long l zero = refl
from_long l (suc n) = let i = from_long l n in omega (arith, length-append (edges_from l n) (edge_from l n ∷ []))

edges_append : (d : Pass) (halved : Bool) (l k : List Leaf) → edges_of d halved (l ++ k) ≡ edges_of d halved l ++ edges_of d halved k
edges_append d halved l k = ap (each (near_edge d)) (each_append (visit_of d halved) l k) ∙ each_append (near_edge d) (each (visit_of d halved) l) (each (visit_of d halved) k)

module _ (m : Maps) (t : List ℕ) (d : Pass) (halved : Bool) (top : ℕ) (s : List ℕ) (w h : ℕ) where
  -- the edges of some leaves, `top` rows of units further down
  abbrev down : List Leaf → List Edge
  down l = edges_of d halved (map (leaf_down top) l)

  -- after i roots
  pub record Roots (i : ℕ) (p q : Planes) (count : ℕ) : Type 0 where
    pub planes : q ≡ filter_all m t d w (down (leaves_of s w h i)) p
    pub counted : count ≡ length (down (leaves_of s w h i))
    pub few : count ≤ 256 * i

  pub roots_none : (p : Planes) → Roots 0 p p 0
  unfolding leaves_of each run
  roots_none p = record { planes = refl; counted = refl; few = omega arith }

  next : (i : ℕ) → down (leaves_of s w h (i + 1)) ≡ down (leaves_of s w h i) ++ down (root_leaves s w h i)
  unfolding leaves_of
  next i = rw (add-one i) (ap (edges_of d halved) (map_append (leaf_down top) (leaves_of s w h i) (root_leaves s w h i))
      ∙ edges_append d halved (map (leaf_down top) (leaves_of s w h i)) (map (leaf_down top) (root_leaves s w h i)))

  pub roots_more : (i n : ℕ) (l places marks : List ℕ) (p q : Planes) (y u v : List ℕ) (count : ℕ) → n ≤ 256 → edges_from l n ≡ down (root_leaves s w h i)
      → ((k : ℕ) → get_or m.over.keep k 0 ≤ 1) → Planned m d w l n places marks → Roots i p q count
      → y ≡ filter_in t 0 Luma d w l places marks n q.y → u ≡ filter_in t 208 Chroma d w l places marks n q.u → v ≡ filter_in t 416 Chroma d w l places marks n q.v
      → Roots (i + 1) p (record { y = y; u = u; v = v }) (count + n)
  roots_more i n l places marks p q y u v count few e kept z g fy fu fv =
      let old = down (leaves_of s w h i) in
      let new = down (root_leaves s w h i) in
      record {
        planes = (λ k. record {
          y = (fy ∙ plan_filters t 0 Luma d w m in_y (λ r o. omega arith) kept l places marks n q.y z) k;
          u = (fu ∙ plan_filters t 208 Chroma d w m in_u (λ r o. omega arith) kept l places marks n q.u z) k;
          v = (fv ∙ plan_filters t 416 Chroma d w m in_v (λ r o. omega arith) kept l places marks n q.v z) k;
        })
            ∙ sym (filter_planes m t d w (edges_from l n) q) ∙ ap (λ (k : List Edge). filter_all m t d w k q) e ∙ ap (filter_all m t d w new) g.planes
            ∙ sym (run_append (filter_one m t d w) old new p) ∙ ap (λ (k : List Edge). filter_all m t d w k p) (sym (next i));
        counted = omega (arith, g.counted, length-append old new, ap length (next i), ap length e, from_long l n);
        few = omega (arith, g.few);
      }

  -- the picture after them
  pub roots_frame : (i : ℕ) (p q : Planes) (count : ℕ) {format : Format} {h₁ : ℕ} {over : Over} {entries words : List ℕ}
      → Roots i p q count → LentPlanes format w h₁ over entries p words → LentPlanes format w h₁ over entries q words
  roots_frame i p q count g f = lent_filtered m t d w (down (leaves_of s w h i)) g.planes f

  pub roots_all : (i : ℕ) (p q : Planes) (count : ℕ) → i ≡ roots w h → Roots i p q count → PassDone m t d w (list_from d halved top s w h) p q count
  roots_all i p q count e g = record {
    planes = g.planes ∙ ap (λ (k : ℕ). filter_all m t d w (down (leaves_of s w h k)) p) e;
    counted = g.counted ∙ ap (λ (k : ℕ). length (down (leaves_of s w h k))) e;
  }

-- a picture's planes
pub luma_plane : {format : Format} {w h : ℕ} {y u v words : List ℕ} {over : Over} {t : List ℕ} → LentPicture format w h y u v words over t → PlaneOf 4 w h y
luma_plane f = record { wide = f.wide; high = f.high; long = f.long_y; all = f.all_y }

pub u_plane : {format : Format} {w h : ℕ} {y u v words : List ℕ} {over : Over} {t : List ℕ} → LentPicture format w h y u v words over t → ColourOf format w h u
u_plane f = record { wide = f.wide; high = f.high; long = f.long_u; all = f.all_u }

pub v_plane : {format : Format} {w h : ℕ} {y u v words : List ℕ} {over : Over} {t : List ℕ} → LentPicture format w h y u v words over t → ColourOf format w h v
v_plane f = record { wide = f.wide; high = f.high; long = f.long_v; all = f.all_v }

-- ---- the two passes

pub both_done : {m : Maps} {t : List ℕ} {w top : ℕ} {ups levels : List Edge} {p q r : Planes} {a b : ℕ} {words : List ℕ}
    → PassDone m t vertical w ups p q a → PassDone m t horizontal w levels q r b → words ≡ done_from (top * w) m.words → BothPassesFrom m t w top ups levels p r words a b
both_done {m} {t = t} {w = w} {levels = levels} g k e = record {
  planes = k.planes ∙ ap (filter_all m t horizontal w levels) g.planes;
  ups_counted = g.counted;
  levels_counted = k.counted;
  marks = e;
}

-- the picture after a pass
pub frame_done : {m : Maps} {t : List ℕ} {d : Pass} {w₁ : ℕ} {l : List Edge} {p q : Planes} {r w h : ℕ} {format : Format} {over : Over} {entries words : List ℕ}
    → PassDone m t d w₁ l p q r → LentPlanes format w h over entries p words → LentPlanes format w h over entries q words
frame_done {m} {t} {d} {w₁} {l} g f = lent_filtered m t d w₁ l g.planes f
