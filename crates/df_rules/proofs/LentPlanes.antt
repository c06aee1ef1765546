-- A picture's frame after its edges were filtered: the planes keep their lengths and their samples' bound.
-- Assumes nothing.
use Prim.Native.Nat.{ℕ}
use mathlib.Core.Path.{◌≡◌, sym, ◌∙◌, subst}
use mathlib.Core.List.{List}
use lib.ListN.{length}
use Rattle.def.specs.declared.Format.{Format}
use Rattle.split.specs.Edges.{Pass, Edge}
use Rattle.df_rules.specs.Filter.{Planes, filter_all}
use Rattle.df_rules.specs.Lent.{LentPicture}
use Rattle.df_rules.specs.Strength.{Over, Maps}
use Rattle.df_rules.proofs.Planes.{filter_long, filter_small}

-- the frame of a picture's planes
abbrev pub LentPlanes : Format → (w h : ℕ) (over : Over) (entries : List ℕ) → Planes → (words : List ℕ) → Type 0
LentPlanes f w h over entries p words = LentPicture f w h p.y p.u p.v words over entries

pub lent_filtered : {format : Format} {w h : ℕ} {over : Over} {entries words : List ℕ} (m : Maps) (t : List ℕ) (d : Pass) (w₁ : ℕ) (l : List Edge) {p q : Planes} → q ≡ filter_all m t d w₁ l p
    → LentPlanes format w h over entries p words → LentPlanes format w h over entries q words
lent_filtered {format} {w} {h} {over} {entries} {words} m t d w₁ l {p} e f =
    let n = filter_long m t d w₁ l p in
    let s = filter_small m t d w₁ l p (record { y = f.all_y; u = f.all_u; v = f.all_v }) in
    subst (λ (r : Planes). LentPlanes format w h over entries r words) (sym e)
    (record {
      wide = f.wide;
      high = f.high;
      long_y = n.y ∙ f.long_y;
      long_u = n.u ∙ f.long_u;
      long_v = n.v ∙ f.long_v;
      long_words = f.long_words;
      long_motion = f.long_motion;
      long_refs = f.long_refs;
      long_keep = f.long_keep;
      long_entries = f.long_entries;
      qps = f.qps;
      marks = f.marks;
      all_y = s.y;
      all_u = s.u;
      all_v = s.v;
    })
