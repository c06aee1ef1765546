-- A band with nothing above it is a picture.
-- Assumes nothing.
use mathlib.Core.Bool.{Bool}
use mathlib.Core.Path.{◌≡◌, refl, sym, ap, ap₂, ◌∙◌, subst}
use mathlib.Core.List.{List, [], ◌∷◌, ◌++◌, map}
use Prim.Native.Nat.{ℕ, ◌+◌, ◌*◌}
use native.Mathlib.Nat.{zero-mul, zero-add, add-zero}
use lib.ListN.{length, take, drop}
use Rattle.def.specs.declared.Format.{Format}
use Rattle.split.specs.Edges.{Pass, vertical, horizontal, Edge, edges_of, edge_list}
use Rattle.split.specs.Picture.{all_leaves}
use Rattle.split.specs.Walk.{Leaf}
use Rattle.df_rules.specs.Filter.{Planes, filter_all}
use Rattle.df_rules.specs.Lent as Lent
use Rattle.df_rules.specs.Strength.{Over, Maps}
use Rattle.split.specs.RootCall.{leaf_down}
use Rattle.bands_rules.specs.Bands.{list_from, done_from, BothPassesFrom}

down_zero : (l : List Leaf) → map (leaf_down 0) l ≡ l
down_zero [] = refl
down_zero (p ∷ l) = λ i. record { x = p.x; y = add-zero p.y i; side = p.side } ∷ down_zero l i

pub list_zero : (d : Pass) (halved : Bool) (s : List ℕ) (w n : ℕ) → list_from d halved 0 s w n ≡ edge_list d halved s w n
list_zero d halved s w n = ap (edges_of d halved) (down_zero (all_leaves s w n))

pub both_zero : {m : Maps} {t : List ℕ} {w : ℕ} (halved : Bool) (s : List ℕ) (n : ℕ) {p q : Planes} {words : List ℕ} {ver hor : ℕ}
    → BothPassesFrom m t w 0 (list_from vertical halved 0 s w n) (list_from horizontal halved 0 s w n) p q words ver hor
    → Lent.BothPasses m t w (edge_list vertical halved s w n) (edge_list horizontal halved s w n) p q words ver hor
both_zero {m} {t} {w} halved s n {p} b =
    let u = list_zero vertical halved s w n in
    let l = list_zero horizontal halved s w n in
    record {
      planes = b.planes ∙ ap₂ (λ (k j : List Edge). filter_all m t horizontal w j (filter_all m t vertical w k p)) u l;
      ups_counted = b.ups_counted ∙ ap length u;
      levels_counted = b.levels_counted ∙ ap length l;
      marks = b.marks ∙ ap (λ (k : ℕ). done_from k m.words) (zero-mul w);
    }

pub lent_zero : {format : Format} {w h : ℕ} {y u v words : List ℕ} {over : Over} {t : List ℕ} → Lent.LentPicture format w h y u v words over t → Lent.LentPicture format w (0 + h) y u v words over t
lent_zero {format} {w} {h} {y} {u} {v} {words} {over} {t} f = subst (λ (k : ℕ). Lent.LentPicture format w k y u v words over t) (sym (zero-add h)) f
