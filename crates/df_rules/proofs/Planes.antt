-- What the filter leaves of a plane: its length, and that its samples are at most 1023; and three planes filtered together, one by one.
--     filter_planes    the three planes of `filter_all`, each a run of its own
--     window_long, filtered_long, run_long, finished_long, filter_long    lengths stay
--     window_small, filtered_small, run_small, finished_small, filter_small    samples stay at most 1023
--     no_samples, run_none, finished_none    a plane without samples stays without
--     run_same    edges of the same marks and strengths filter alike; planes-finished    so do both passes, in all three planes
--     run_unmarked, finished_unmarked_lem    where no unit is kept the marks are not looked at; zeros-unkept    a map of zeros keeps none
-- Assumes nothing.
use Prim.Native.Nat.{ℕ, zero, suc, ◌+◌, ◌*◌, ◌≤◌}
use mathlib.Core.Path.{◌≡◌, refl, sym, ap, ap₂, ◌∙◌, subst}
use mathlib.Core.Bool.{Bool, true, false}
use mathlib.Core.List.{List, [], ◌∷◌, Memᴰ}
use native.Mathlib.Omega.{arith}
use borrow.Author.Tests.{eqb-true, eqb-false, ltb-true, ltb-false}
use lib.Dec.{eqb, ltb}
use lib.ListN.{length, get_or, set, length-set}
use lib.Seq.{get_or-set_same, get_or-set_other, set_out}
use Rattle.def.specs.declared.Component.{Component}
use Rattle.def.specs.declared.Component.TheVariants.{Luma, Chroma}
use Rattle.laws.specs.Index.{pick}
use Rattle.laws.specs.Orders.{run}
use Rattle.line.proofs.Lines.{line_samples}
use Rattle.line.specs.declared.Mask.{Mask}
use Rattle.line.specs.Line.{mask_of}
use Rattle.split.proofs.Induct.{test}
use Rattle.split.specs.Edges.{Pass, vertical, horizontal, Edge}
use Rattle.df_rules.specs.Filter.{mask_at, window, filtered, in_y, in_u, in_v, Planes, filter_all, finished, unmarked, finished_unmarked}
use Rattle.df_rules.specs.Places.{unit_q, unit_p}
use Rattle.df_rules.specs.Strength.{Maps, kept_at, strength}
use Rattle.df_rules.specs.Window.{put_if, line_at, lines_at, window_at, Samples}

-- ---- three planes together

three : {E : Type 0} (f g h : E → List ℕ → List ℕ) (l : List E) (p : Planes)
    → run (λ e q. record { y = f e q.y; u = g e q.u; v = h e q.v }) l p ≡ record { y = run f l p.y; u = run g l p.u; v = run h l p.v }
unfolding run
three f g h [] p = refl
three f g h (e ∷ l) p = three f g h l (record { y = f e p.y; u = g e p.u; v = h e p.v })

pub filter_planes : (m : Maps) (t : List ℕ) (d : Pass) (w : ℕ) (l : List Edge) (p : Planes)
    → filter_all m t d w l p ≡ record { y = run (filtered m t in_y d Luma w) l p.y; u = run (filtered m t in_u d Chroma w) l p.u; v = run (filtered m t in_v d Chroma w) l p.v }
filter_planes m t d w l p = three (filtered m t in_y d Luma w) (filtered m t in_u d Chroma w) (filtered m t in_v d Chroma w) l p

-- ---- what each step keeps, a run keeps

run_keeps : {E A : Type 0} (G : A → Type 0) (op : E → A → A) → ((e : E) (a : A) → G a → G (op e a)) → (l : List E) (a : A) → G a → G (run op l a)
unfolding run
run_keeps G op k [] a g = g
run_keeps G op k (e ∷ l) a g = run_keeps G op k l (op e a) (k e a g)

-- what a store of a sample keeps, a window keeps
module _ (G : List ℕ → Type 0) (stored : (xs : List ℕ) (i v : ℕ) → v ≤ 1023 → G xs → G (set xs i v)) where
  put_keeps : (b : Bool) (i v : ℕ) (xs : List ℕ) → v ≤ 1023 → G xs → G (put_if b i v xs)
  put_keeps true i v xs h g = stored xs i v h g
  put_keeps false i v xs h g = g

  line_keeps : (m : Mask) (st step at : ℕ) (xs : List ℕ) → G xs → G (line_at m st step at xs)
  unfolding line_at
  line_keeps m st step at xs g =
      let q = line_samples (get_or xs at 0) (get_or xs (at + step) 0) (get_or xs (at + 2 * step) 0) (get_or xs (at + 3 * step) 0) st in
      put_keeps m.d _ _ _ q.d (put_keeps m.c _ _ _ q.c (put_keeps m.b _ _ _ q.b (put_keeps m.a _ _ _ q.a g)))

  lines_keep : (m : Mask) (st step next at n : ℕ) (xs : List ℕ) → G xs → G (lines_at m st step next at n xs)
  unfolding lines_at
  lines_keep m st step next at zero xs g = g
  lines_keep m st step next at (suc n) xs g = line_keeps m st step (at + n * next) _ (lines_keep m st step next at n xs g)

  pick_keeps : (b : Bool) (xs ys : List ℕ) → G xs → G ys → G (pick b xs ys)
  pick_keeps true xs ys g h = g
  pick_keeps false xs ys g h = h

  window_keeps : (m : Mask) (st step next at n : ℕ) (xs : List ℕ) → G xs → G (window_at m st step next at n xs)
  unfolding window_at
  window_keeps m st step next at n xs g = pick_keeps (eqb st 0) xs _ g (lines_keep m st step next at n xs g)

-- ---- lengths

long_stored : (n : ℕ) (xs : List ℕ) (i v : ℕ) → v ≤ 1023 → length xs ≡ n → length (set xs i v) ≡ n
long_stored n xs i v h g = length-set xs i v ∙ g

pub window_long : (m : Mask) (st step next at n : ℕ) (xs : List ℕ) → length (window_at m st step next at n xs) ≡ length xs
window_long m st step next at n xs = window_keeps (λ ys. length ys ≡ length xs) (long_stored (length xs)) m st step next at n xs refl

pub no_samples : (l : List ℕ) → length l ≡ 0 → l ≡ []
no_samples [] e = refl
no_samples (x ∷ l) e = absurd (omega arith)

-- ---- samples

small_stored : (xs : List ℕ) (i v : ℕ) → v ≤ 1023 → Samples xs → Samples (set xs i v)
small_stored xs i v h g k =
    test (eqb k i)
    (λ t. let e = eqb-true k i t in rw e (test (ltb i (length xs))
    (λ u. rw (get_or-set_same xs i v 0 (ltb-true _ _ u)) h)
    (λ u. rw (set_out xs i v (ltb-false _ _ u)) (g i))))
    (λ t. rw (get_or-set_other xs i k v 0 (eqb-false k i t)) (g k))

pub window_small : (m : Mask) (st step next at n : ℕ) (xs : List ℕ) → Samples xs → Samples (window_at m st step next at n xs)
window_small m st step next at n xs g = window_keeps Samples small_stored m st step next at n xs g

-- ---- a list of edges in a plane

module _ (m : Maps) (t : List ℕ) (at : ℕ → ℕ) (d : Pass) (c : Component) (w : ℕ) where
  pub filtered_long : (e : Edge) (xs : List ℕ) → length (filtered m t at d c w e xs) ≡ length xs
  filtered_long e xs = window_long _ _ _ _ _ _ xs

  pub filtered_small : (e : Edge) (xs : List ℕ) → Samples xs → Samples (filtered m t at d c w e xs)
  filtered_small e xs g = window_small _ _ _ _ _ _ xs g

  pub run_long : (l : List Edge) (xs : List ℕ) → length (run (filtered m t at d c w) l xs) ≡ length xs
  run_long l xs = run_keeps (λ ys. length ys ≡ length xs) (filtered m t at d c w) (λ e ys g. filtered_long e ys ∙ g) l xs refl

  pub run_small : (l : List Edge) (xs : List ℕ) → Samples xs → Samples (run (filtered m t at d c w) l xs)
  run_small l xs g = run_keeps Samples (filtered m t at d c w) filtered_small l xs g

  -- in a plane without samples every window is empty
  pub run_none : (l : List Edge) → run (filtered m t at d c w) l [] ≡ []
  run_none l = no_samples _ (run_long l [])

  -- by other words and strengths, where these are the same; the marks are the same map's
  pub run_same : (words : List ℕ) (t₁ : List ℕ) (at₁ : ℕ → ℕ) (l : List Edge) → ((e : Edge) → Memᴰ e l → strength m t at d w e ≡ strength (record { words = words; over = m.over }) t₁ at₁ d w e)
      → (xs : List ℕ) → run (filtered m t at d c w) l xs ≡ run (filtered (record { words = words; over = m.over }) t₁ at₁ d c w) l xs
  unfolding run
  run_same words t₁ at₁ [] h xs = refl
  run_same words t₁ at₁ (e ∷ l) h xs =
      run_same words t₁ at₁ l (λ f i. h f (Memᴰ.tail i)) (filtered m t at d c w e xs)
      ∙ ap (λ (st : ℕ). run (filtered (record { words = words; over = m.over }) t₁ at₁ d c w) l (window (mask_at m d c w e) d c w st e xs)) (h e (Memᴰ.head refl))

  -- where no unit is kept
  pub run_unmarked : ((k : ℕ) → kept_at m k ≡ false) → (l : List Edge) (xs : List ℕ) → run (filtered m t at d c w) l xs ≡ run (unmarked m t at d c w) l xs
  unfolding run
  run_unmarked h [] xs = refl
  run_unmarked h (e ∷ l) xs =
      run_unmarked h l (filtered m t at d c w e xs)
      ∙ ap₂ (λ (p q : Bool). run (unmarked m t at d c w) l (window (mask_of c p q) d c w (strength m t at d w e) e xs)) (h (unit_p d w e)) (h (unit_q w e))

-- both passes
module _ (m : Maps) (t : List ℕ) (at : ℕ → ℕ) (c : Component) (w : ℕ) (ups levels : List Edge) (xs : List ℕ) where
  pub finished_long : length (finished m t at c w ups levels xs) ≡ length xs
  finished_long = run_long m t at horizontal c w levels _ ∙ run_long m t at vertical c w ups xs

  pub finished_small : Samples xs → Samples (finished m t at c w ups levels xs)
  finished_small g = run_small m t at horizontal c w levels _ (run_small m t at vertical c w ups xs g)

  pub finished_unmarked_lem : ((k : ℕ) → kept_at m k ≡ false) → finished m t at c w ups levels xs ≡ finished_unmarked m t at c w ups levels xs
  finished_unmarked_lem h = run_unmarked m t at horizontal c w h levels _ ∙ ap (run (unmarked m t at horizontal c w) levels) (run_unmarked m t at vertical c w h ups xs)

-- a map of zeros
pub zeros_unkept : (m : Maps) → ((k : ℕ) → get_or m.over.keep k 0 ≡ 0) → (k : ℕ) → kept_at m k ≡ false
zeros_unkept m h k = ap (λ (n : ℕ). eqb n 1) (h k)

pub finished_none : (m : Maps) (t : List ℕ) (at : ℕ → ℕ) (c : Component) (w : ℕ) (ups levels : List Edge) → finished m t at c w ups levels [] ≡ []
finished_none m t at c w ups levels = no_samples _ (finished_long m t at c w ups levels [])

-- ---- and in all three

pub record SameLengths (p q : Planes) : Type 0 where
  pub y : length p.y ≡ length q.y
  pub u : length p.u ≡ length q.u
  pub v : length p.v ≡ length q.v

pub record SamplePlanes (p : Planes) : Type 0 where
  pub y : Samples p.y
  pub u : Samples p.u
  pub v : Samples p.v

module _ (m : Maps) (t : List ℕ) (d : Pass) (w : ℕ) (l : List Edge) (p : Planes) where
  pub filter_long : SameLengths (filter_all m t d w l p) p
  filter_long = subst (λ (q : Planes). SameLengths q p) (sym (filter_planes m t d w l p))
      (record { y = run_long m t in_y d Luma w l p.y; u = run_long m t in_u d Chroma w l p.u; v = run_long m t in_v d Chroma w l p.v })

  pub filter_small : SamplePlanes p → SamplePlanes (filter_all m t d w l p)
  filter_small g = subst SamplePlanes (sym (filter_planes m t d w l p))
      (record { y = run_small m t in_y d Luma w l p.y g.y; u = run_small m t in_u d Chroma w l p.u g.u; v = run_small m t in_v d Chroma w l p.v g.v })

-- ---- both passes, by entries that give the same strengths

module _ (m : Maps) (entries : List ℕ) (w : ℕ) (lists : Pass → List Edge) (t : List ℕ) where
  -- the entries, read at `place`, against the strengths t at what the QP is mapped to
  abbrev pub SameStrengths : (place at : ℕ → ℕ) → Type 0
  SameStrengths place at = (d : Pass) (e : Edge) → Memᴰ e (lists d) → strength m entries place d w e ≡ strength m t at d w e

  plane_finished : (c : Component) (place at : ℕ → ℕ) → SameStrengths place at → (xs : List ℕ)
      → finished m entries place c w (lists vertical) (lists horizontal) xs ≡ finished m t at c w (lists vertical) (lists horizontal) xs
  plane_finished c place at h xs =
      run_same m entries place horizontal c w m.words t at (lists horizontal) (h horizontal) _
      ∙ ap (run (filtered m t at horizontal c w) (lists horizontal)) (run_same m entries place vertical c w m.words t at (lists vertical) (h vertical) xs)

  pub planes_finished : (atY at_u atV : ℕ → ℕ) → SameStrengths in_y atY → SameStrengths in_u at_u → SameStrengths in_v atV → (p : Planes)
      → filter_all m entries horizontal w (lists horizontal) (filter_all m entries vertical w (lists vertical) p)
      ≡ record {
        y = finished m t atY Luma w (lists vertical) (lists horizontal) p.y;
        u = finished m t at_u Chroma w (lists vertical) (lists horizontal) p.u;
        v = finished m t atV Chroma w (lists vertical) (lists horizontal) p.v;
      }
  planes_finished atY at_u atV hy hu hv p =
      filter_planes m entries horizontal w (lists horizontal) _
      ∙ ap (λ (q : Planes). record {
        y = run (filtered m entries in_y horizontal Luma w) (lists horizontal) q.y;
        u = run (filtered m entries in_u horizontal Chroma w) (lists horizontal) q.u;
        v = run (filtered m entries in_v horizontal Chroma w) (lists horizontal) q.v;
      }) (filter_planes m entries vertical w (lists vertical) p)
      ∙ (λ i. record { y = plane_finished Luma in_y atY hy p.y i; u = plane_finished Chroma in_u at_u hu p.u i; v = plane_finished Chroma in_v atV hv p.v i })
