-- Lanes of a list of 32: what `lanes_of` has in each, and a loop that puts one lane after the other. Over the layout.
--     Spread        each place of the 32 is one sample of one lane; so are `rows_spread` and `halves_spread`
--     lane_of_lem       lane k of the answer is what lane k became
--     on_samples    on samples that is the line filter itself
--     own_lane, other_lane    what putting a lane changes, and what not
-- Assumes nothing.
use mathlib.Core.Path.{◌≡◌, refl, sym, ap, ◌∙◌}
use mathlib.Core.List.{List}
use Prim.Native.Nat.{ℕ, zero, suc, ◌+◌, ◌*◌, ◌/◌, ◌%◌, ◌≤◌, ◌<◌, min}
use native.Mathlib.Decide.{dec_lt}
use native.Mathlib.Omega.{arith}
use lib.ListN.{length, get_or, set, length-set}
use lib.Seq.{ext_get_or, get_or-set_same, get_or-set_other}
use Rattle.laws.proofs.Tabulate.{get_d_tabulate, length_tabulate}
use Rattle.line.specs.declared.Quad.{Quad}
use Rattle.line.specs.Line.{line_of}
use Rattle.lanes.specs.Lanes.{Layout, rows, halves, lane_of, held_line, became, nth, lanes_of}

-- ---- layouts

-- each of the four samples of a line
abbrev All : (ℕ → ℕ → Type 0) → Quad → Type 0
All P q = P 0 q.a × P 1 q.b × P 2 q.c × P 3 q.d

-- every place is a sample of one lane
pub record Spread (l : Layout) : Type 0 where
  pub inside : (k : ℕ) → k < 8 → All (λ s i. i < 32) (l.at k)
  pub of_lane : (k : ℕ) → k < 8 → All (λ s i. l.lane i ≡ k) (l.at k)
  pub of_sample : (k : ℕ) → k < 8 → All (λ s i. l.sample i ≡ s) (l.at k)
  pub some_lane : (i : ℕ) → i < 32 → l.lane i < 8
  pub back : (i : ℕ) → i < 32 → nth (l.sample i) (l.at (l.lane i)) ≡ i

by_sample : (n : ℕ) (q : Quad) (i : ℕ) → n < 4 → (n ≡ 0 → q.a ≡ i) → (n ≡ 1 → q.b ≡ i) → (n ≡ 2 → q.c ≡ i) → (n ≡ 3 → q.d ≡ i) → nth n q ≡ i
unfolding nth
by_sample zero q i h a b c d = a refl
by_sample (suc zero) q i h a b c d = b refl
by_sample (suc (suc zero)) q i h a b c d = c refl
by_sample (suc (suc (suc zero))) q i h a b c d = d refl
by_sample (suc (suc (suc (suc n)))) q i h a b c d = absurd (omega arith)

pub rows_spread : Spread rows
rows_spread = record {
  inside = λ k h. (omega arith, omega arith, omega arith, omega arith);
  of_lane = λ k h. (omega arith, omega arith, omega arith, omega arith);
  of_sample = λ k h. (omega arith, omega arith, omega arith, omega arith);
  some_lane = λ i h. omega arith;
  back = λ i h. by_sample (i / 8) (rows.at (i % 8)) i (omega arith) (λ e. omega arith) (λ e. omega arith) (λ e. omega arith) (λ e. omega arith);
}

pub halves_spread : Spread halves
halves_spread = record {
  inside = λ k h. (omega arith, omega arith, omega arith, omega arith);
  of_lane = λ k h. (omega arith, omega arith, omega arith, omega arith);
  of_sample = λ k h. (omega arith, omega arith, omega arith, omega arith);
  some_lane = λ i h. omega arith;
  back = λ i h. by_sample (2 * (i / 16) + i % 2) (halves.at (i % 16 / 2)) i (omega arith) (λ e. omega arith) (λ e. omega arith) (λ e. omega arith) (λ e. omega arith);
}

-- ---- what a lane of the answer is

-- samples are not held
pub on_samples : (a b c d st : ℕ) → a ≤ 1023 → b ≤ 1023 → c ≤ 1023 → d ≤ 1023 → held_line (record { a = a; b = b; c = c; d = d }) st ≡ line_of a b c d st
on_samples a b c d st ha hb hc hd = λ i. line_of (same a ha i) (same b hb i) (same c hc i) (same d hd i) st
  where
    same : (x : ℕ) → x ≤ 1023 → min x 1023 ≡ x
    same x h = omega arith

long : (l : Layout) (t st : List ℕ) → length (lanes_of l t st) ≡ 32
unfolding lanes_of
long l t st = length_tabulate _ 32

in_place : (l : Layout) (t st : List ℕ) (i : ℕ) → i < 32 → get_or (lanes_of l t st) i 0 ≡ nth (l.sample i) (became l t st (l.lane i))
unfolding lanes_of
in_place l t st i h = get_d_tabulate _ 32 i 0 h

-- ---- lists by their lanes

-- q put into lane k
abbrev pub laid : Layout → List ℕ → ℕ → Quad → List ℕ
laid l t k q = set (set (set (set t (l.at k).a q.a) (l.at k).b q.b) (l.at k).c q.c) (l.at k).d q.d

pub laid_long : (l : Layout) (t : List ℕ) (k : ℕ) (q : Quad) → length (laid l t k q) ≡ length t
laid_long l t k q = simp length-set

module _ (l : Layout) (s : Spread l) where
  pub lane_of_lem : (t st : List ℕ) (k : ℕ) → k < 8 → lane_of l (lanes_of l t st) k ≡ became l t st k
  unfolding nth
  lane_of_lem t st k h =
      let at : (n i : ℕ) → i < 32 → l.lane i ≡ k → l.sample i ≡ n → get_or (lanes_of l t st) i 0 ≡ nth n (became l t st k) =
      λ n i g e f. in_place l t st i g ∙ (λ j. nth (f j) (became l t st (e j))) in
      let g = s.inside k h in
      let e = s.of_lane k h in
      let f = s.of_sample k h in
      λ j. record {
        a = at 0 _ g.0 e.0 f.0 j;
        b = at 1 _ g.1 e.1 f.1 j;
        c = at 2 _ g.2 e.2 f.2 j;
        d = at 3 _ g.3 e.3 f.3 j;
      }

  -- lists of 32 that agree in each lane
  by_lanes : (t r : List ℕ) → length t ≡ 32 → length r ≡ 32 → ((k : ℕ) → k < 8 → lane_of l t k ≡ lane_of l r k) → t ≡ r
  unfolding nth
  by_lanes t r p q e = ext_get_or 0 t r (p ∙ sym q) (λ i h. at i (omega arith))
    where
      -- the place of a lane's sample
      of_nth : (t : List ℕ) (n k : ℕ) → nth n (lane_of l t k) ≡ get_or t (nth n (l.at k)) 0
      of_nth t zero k = refl
      of_nth t (suc zero) k = refl
      of_nth t (suc (suc zero)) k = refl
      of_nth t (suc (suc (suc n))) k = refl

      in_lane : (t : List ℕ) (i : ℕ) → i < 32 → get_or t i 0 ≡ nth (l.sample i) (lane_of l t (l.lane i))
      in_lane t i h = ap (λ (j : ℕ). get_or t j 0) (sym (s.back i h)) ∙ sym (of_nth t (l.sample i) (l.lane i))

      at : (i : ℕ) → i < 32 → get_or t i 0 ≡ get_or r i 0
      at i h = in_lane t i h ∙ ap (nth (l.sample i)) (e (l.lane i) (s.some_lane i h)) ∙ sym (in_lane r i h)

  -- places of other lanes, and other samples of a lane
  other : (i j : ℕ) → (l.lane i ≡ l.lane j → ⊥) → i ≡ j → ⊥
  other i j n e = n (ap l.lane e)

  beside : (i j m n : ℕ) → l.sample i ≡ m → l.sample j ≡ n → (m ≡ n → ⊥) → i ≡ j → ⊥
  beside i j m n p q d e = d (sym p ∙ ap l.sample e ∙ q)

  module _ (t : List ℕ) (k : ℕ) (q : Quad) where
    abbrev t₁ : List ℕ
    t₁ = set t (l.at k).a q.a

    abbrev t₂ : List ℕ
    t₂ = set t₁ (l.at k).b q.b

    abbrev t₃ : List ℕ
    t₃ = set t₂ (l.at k).c q.c

    -- a place that is not the one last written
    under₁ : (i : ℕ) → (i ≡ (l.at k).b → ⊥) → get_or t₂ i 0 ≡ get_or t₁ i 0
    under₁ i n = get_or-set_other t₁ (l.at k).b i q.b 0 n

    under₂ : (i : ℕ) → (i ≡ (l.at k).c → ⊥) → get_or t₃ i 0 ≡ get_or t₂ i 0
    under₂ i n = get_or-set_other t₂ (l.at k).c i q.c 0 n

    under₃ : (i : ℕ) → (i ≡ (l.at k).d → ⊥) → get_or (laid l t k q) i 0 ≡ get_or t₃ i 0
    under₃ i n = get_or-set_other t₃ (l.at k).d i q.d 0 n

    pub own_lane : k < 8 → length t ≡ 32 → lane_of l (laid l t k q) k ≡ q
    own_lane h e =
        let g = s.inside k h in
        let f = s.of_sample k h in
        let n : (x y m n : ℕ) → l.sample x ≡ m → l.sample y ≡ n → (m ≡ n → ⊥) → x ≡ y → ⊥ = beside in
        λ i. record {
          a =
              (under₃ _ (n _ _ 0 3 f.0 f.3 (λ d. omega arith)) ∙ under₂ _ (n _ _ 0 2 f.0 f.2 (λ d. omega arith))
              ∙ under₁ _ (n _ _ 0 1 f.0 f.1 (λ d. omega arith)) ∙ get_or-set_same t (l.at k).a q.a 0 (omega arith)) i;
          b =
              (under₃ _ (n _ _ 1 3 f.1 f.3 (λ d. omega arith)) ∙ under₂ _ (n _ _ 1 2 f.1 f.2 (λ d. omega arith))
              ∙ get_or-set_same t₁ (l.at k).b q.b 0 (simp length-set (omega arith))) i;
          c = (under₃ _ (n _ _ 2 3 f.2 f.3 (λ d. omega arith)) ∙ get_or-set_same t₂ (l.at k).c q.c 0 (simp length-set (omega arith))) i;
          d = get_or-set_same t₃ (l.at k).d q.d 0 (simp length-set (omega arith)) i;
        }

    -- a place of another lane
    off : (i : ℕ) → k < 8 → (l.lane i ≡ k → ⊥) → get_or (laid l t k q) i 0 ≡ get_or t i 0
    off i h n =
        let e = s.of_lane k h in
        under₃ i (other i _ (λ f. n (f ∙ e.3))) ∙ under₂ i (other i _ (λ f. n (f ∙ e.2)))
        ∙ under₁ i (other i _ (λ f. n (f ∙ e.1))) ∙ get_or-set_other t (l.at k).a i q.a 0 (other i _ (λ f. n (f ∙ e.0)))

    pub other_lane : (j : ℕ) → k < 8 → j < 8 → (j ≡ k → ⊥) → lane_of l (laid l t k q) j ≡ lane_of l t j
    other_lane j h g n =
        let e = s.of_lane j g in
        let at : (i : ℕ) → l.lane i ≡ j → get_or (laid l t k q) i 0 ≡ get_or t i 0 = λ i f. off i h (λ d. n (sym f ∙ d)) in
        λ i. record { a = at _ e.0 i; b = at _ e.1 i; c = at _ e.2 i; d = at _ e.3 i }

  -- ---- a loop over the lanes

  -- the first n lanes of t have been filtered, and the rest are as they were
  pub record Upto (t st r : List ℕ) (n : ℕ) : Type 0 where
    pub all : length r ≡ 32
    pub below : (k : ℕ) → k < n → lane_of l r k ≡ became l t st k
    pub above : (k : ℕ) → n ≤ k → k < 8 → lane_of l r k ≡ lane_of l t k

  pub upto_none : (t st : List ℕ) → length t ≡ 32 → Upto t st t 0
  upto_none t st e = record { all = e; below = λ k h. absurd (none k h); above = λ k h g. refl } where
    none : (k : ℕ) → k < 0 → ⊥
    none k h = omega arith

  pub upto_more : (t st r : List ℕ) (n : ℕ) (q : Quad) → n < 8 → q ≡ held_line (lane_of l r n) (get_or st n 0) → Upto t st r n → Upto t st (laid l r n q) (n + 1)
  upto_more t st r n q h e u =
      record {
        all = laid_long l r n q ∙ u.all;
        below = λ k p. step k p (dec_lt k n);
        above = λ k p g. other_lane r n q k h g (λ d. omega arith) ∙ u.above k (omega arith) g;
      } where
        step : (k : ℕ) → k < n + 1 → Dec (k < n) → lane_of l (laid l r n q) k ≡ became l t st k
        step k p (yes g) = other_lane r n q k h (omega arith) (λ d. omega arith) ∙ u.below k g
        step k p (no g) =
            let d : k ≡ n = omega arith in
            rw d (own_lane r n q h u.all ∙ e ∙ ap (λ (x : Quad). held_line x (get_or st n 0)) (u.above n (omega arith) h))

  pub upto_all : (t st r : List ℕ) (n : ℕ) → 8 ≤ n → Upto t st r n → r ≡ lanes_of l t st
  upto_all t st r n h u = by_lanes r (lanes_of l t st) u.all (long l t st) (λ k p. u.below k (omega arith) ∙ sym (lane_of_lem t st k p))
