-- Lines of a plane as lanes, filtered and written back. Over the layout, the number of lines and their strengths.
--     line_inside    a line lies no further than the last
--     gather_none, gather_more    lines become lanes, one after the other
--     luma-each, .. , v-two    the strengths of the lanes, by their lines
--     plane_done    the lines of one plane, filtered and written back; chroma-done    those of two
-- Assumes nothing.
use Prim.Native.Nat.{ℕ, zero, suc, ◌+◌, ◌-◌, ◌*◌, ◌≤◌, ◌<◌}
use mathlib.Core.Path.{◌≡◌, refl, ap, ◌∙◌}
use mathlib.Core.List.{List, [], ◌∷◌}
use native.Mathlib.Decide.{dec_lt}
use native.Mathlib.Nat.{mul-le-mul_right}
use native.Mathlib.Omega.{arith}
use lib.ListN.{length, get_or}
use Rattle.line.specs.declared.Mask.{Mask}
use Rattle.line.specs.declared.Quad.{Quad}
use Rattle.lanes.specs.Lanes.{Layout, lane_of, held_line, lanes_of}
use Rattle.lanes.proofs.ByLane.{Spread, laid, own_lane, other_lane, lane_of_lem}
use Rattle.df_rules.specs.Lanes.{samples_at, put_lines}
use Rattle.df_rules.proofs.Lanes.{put_same}
use Rattle.window.specs.declared.Place.{Place}
use Rattle.window.specs.Lines.{Inside, lines_of, Gathered}
use Rattle.window.specs.Window.{twice}

pub line_inside : (step next at n k : ℕ) (xs : List ℕ) → Inside step next at n xs → k < n → at + k * next + 3 * step < length xs
line_inside step next at n k xs h l = let m : k * next ≤ (n - 1) * next = mul-le-mul_right next (omega arith) in omega arith

-- f and g agree below n
abbrev Agree : ℕ → (f g : ℕ → ℕ) → Type 0
Agree zero f g = Unit
Agree (suc n) f g = Agree n f g × (f n ≡ g n)

each : (n : ℕ) (f g : ℕ → ℕ) → Agree n f g → (k : ℕ) → k < n → f k ≡ g k
each zero f g a k h = absurd (omega arith)
each (suc n) f g a k h = go (each n f g a.0 k) (dec_lt k n) where
  go : (k < n → f k ≡ g k) → Dec (k < n) → f k ≡ g k
  go b (yes l) = b l
  go b (no l) = let e : k ≡ n = omega arith in rw e a.1

-- ---- the strengths of the lanes: luma's, and those of U and V

abbrev pub luma_sts : (s₀ s₁ : ℕ) → List ℕ
luma_sts s₀ s₁ = s₀ ∷ s₀ ∷ s₀ ∷ s₀ ∷ s₁ ∷ s₁ ∷ s₁ ∷ s₁ ∷ []

abbrev pub chroma_sts : (a b c d : ℕ) → List ℕ
chroma_sts a b c d = a ∷ a ∷ b ∷ b ∷ c ∷ c ∷ d ∷ d ∷ []

pub luma_each : (st k : ℕ) → k < 4 → get_or (luma_sts st 0) (0 + k) 0 ≡ st
luma_each st = each 4 (λ (k : ℕ). get_or (luma_sts st 0) (0 + k) 0) (λ (k : ℕ). st) ((((tt, refl), refl), refl), refl)

pub luma_two : (s₀ s₁ k : ℕ) → k < 8 → get_or (luma_sts s₀ s₁) (0 + k) 0 ≡ twice 4 s₀ s₁ k
luma_two s₀ s₁ =
    each 8 (λ (k : ℕ). get_or (luma_sts s₀ s₁) (0 + k) 0) (twice 4 s₀ s₁) ((((((((tt, refl), refl), refl), refl), refl), refl), refl), refl)

pub u_each : (u v k : ℕ) → k < 2 → get_or (chroma_sts u v 0 0) (0 + k) 0 ≡ u
u_each u v = each 2 (λ (k : ℕ). get_or (chroma_sts u v 0 0) (0 + k) 0) (λ (k : ℕ). u) ((tt, refl), refl)

pub v_each : (u v k : ℕ) → k < 2 → get_or (chroma_sts u v 0 0) (2 + k) 0 ≡ v
v_each u v = each 2 (λ (k : ℕ). get_or (chroma_sts u v 0 0) (2 + k) 0) (λ (k : ℕ). v) ((tt, refl), refl)

pub u_two : (u₀ u₁ v₀ v₁ k : ℕ) → k < 4 → get_or (chroma_sts u₀ u₁ v₀ v₁) (0 + k) 0 ≡ twice 2 u₀ u₁ k
u_two u₀ u₁ v₀ v₁ = each 4 (λ (k : ℕ). get_or (chroma_sts u₀ u₁ v₀ v₁) (0 + k) 0) (twice 2 u₀ u₁) ((((tt, refl), refl), refl), refl)

pub v_two : (u₀ u₁ v₀ v₁ k : ℕ) → k < 4 → get_or (chroma_sts u₀ u₁ v₀ v₁) (4 + k) 0 ≡ twice 2 v₀ v₁ k
v_two u₀ u₁ v₀ v₁ = each 4 (λ (k : ℕ). get_or (chroma_sts u₀ u₁ v₀ v₁) (4 + k) 0) (twice 2 v₀ v₁) ((((tt, refl), refl), refl), refl)

-- ---- lanes, in any layout

module _ (lay : Layout) (spread : Spread lay) where
  module _ (step next at : ℕ) (xs : List ℕ) where
    pub gather_none : (t : List ℕ) (first : ℕ) → Gathered lay step next at xs t first 0 t
    gather_none t first = record { lines = λ k h. absurd (none k h); before = λ j h. refl } where
      none : (k : ℕ) → k < 0 → ⊥
      none k h = omega arith

    pub gather_more : (t r : List ℕ) (first k : ℕ) (q : Quad) → first + k < 8 → length r ≡ 32 → q ≡ samples_at step (at + k * next) xs
        → Gathered lay step next at xs t first k r → Gathered lay step next at xs t first (k + 1) (laid lay r (first + k) q)
    gather_more t r first k q h e s g =
        record {
          lines = λ j l. turn j l (dec_lt j k);
          before = λ j l. other_lane lay spread r (first + k) q j h (omega arith) (λ (n : j ≡ first + k). omega arith) ∙ g.before j l;
        } where
          turn : (j : ℕ) → j < k + 1 → Dec (j < k) → lane_of lay (laid lay r (first + k) q) (first + j) ≡ samples_at step (at + j * next) xs
          turn j l (yes i) = other_lane lay spread r (first + k) q (first + j) h (omega arith) (λ (n : first + j ≡ first + k). omega arith) ∙ g.lines j i
          turn j l (no i) =
              let n : j ≡ k = omega arith in
              rw n (own_lane lay spread r (first + k) q h e ∙ s)

  -- ---- the lines at p: the lanes of t from `first` on hold n of them, were filtered and written back by the mask m

  module _ (m m₁ : Mask) (p : Place) (step next at : ℕ) (em : m ≡ m₁) (es : step ≡ p.step) (en : next ≡ p.next) (ea : at ≡ p.at) where
    pub plane_done : (st : ℕ → ℕ) (first n : ℕ) (xs xs₁ t sts r : List ℕ) → first + n ≤ 8
        → ((k : ℕ) → k < n → lane_of lay t (first + k) ≡ samples_at step (at + k * next) xs)
        → ((k : ℕ) → k < n → get_or sts (first + k) 0 ≡ st k) → r ≡ lanes_of lay t sts
        → xs₁ ≡ put_lines m (λ (k : ℕ). lane_of lay r (first + k)) step next at n xs
        → xs₁ ≡ lines_of m₁ st p.step p.next p.at n xs
    unfolding lines_of
    plane_done st first n xs xs₁ t sts r h held strong e w =
        let read : (k : ℕ) → Quad = λ k. held_line (samples_at step (at + k * next) xs) (st k) in
        let same : (k : ℕ) → k < n → lane_of lay r (first + k) ≡ read k
        = λ k l. ap (λ (s : List ℕ). lane_of lay s (first + k)) e ∙ lane_of_lem lay spread t sts (first + k) (omega arith) ∙ (λ j. held_line (held k l j) (strong k l j)) in
        w ∙ put_same m (λ (k : ℕ). lane_of lay r (first + k)) read step next at n xs same ∙ (λ i. lines_of (em i) st (es i) (en i) (ea i) n xs)

    -- U's n lines come first, then V's
    pub chroma_done : (su sv : ℕ → ℕ) (n : ℕ) (o tu t sts r u v u₁ v₁ : List ℕ) → n + n ≤ 8
        → Gathered lay step next at u o 0 n tu → Gathered lay step next at v tu n n t
        → ((k : ℕ) → k < n → get_or sts (0 + k) 0 ≡ su k) → ((k : ℕ) → k < n → get_or sts (n + k) 0 ≡ sv k) → r ≡ lanes_of lay t sts
        → u₁ ≡ put_lines m (λ (k : ℕ). lane_of lay r (0 + k)) step next at n u → v₁ ≡ put_lines m (λ (k : ℕ). lane_of lay r (n + k)) step next at n v
        → (u₁ ≡ lines_of m₁ su p.step p.next p.at n u) × (v₁ ≡ lines_of m₁ sv p.step p.next p.at n v)
    chroma_done su sv n o tu t sts r u v u₁ v₁ h gu gv eu ev e wu wv = (
      plane_done su 0 n u u₁ t sts r (omega arith) (λ k l. gv.before (0 + k) (omega arith) ∙ gu.lines k l) eu e wu,
      plane_done sv n n v v₁ t sts r h gv.lines ev e wv,
    )
