-- How far a pass can move a sample: at most 4 times the largest entry, and each sample is written for one edge only, the nearest. No sample of a kept unit is.
-- Assumes nothing.
use Prim.Native.Nat.{ℕ, zero, suc, ◌+◌, ◌-◌, ◌*◌, ◌/◌, ◌%◌, ◌≤◌, ◌<◌, min, max}
use mathlib.Core.Path.{◌≡◌, refl, sym, ap, ◌∙◌, subst}
use mathlib.Core.Bool.{Bool, true, false, not, ◌&&◌, true≢false}
use mathlib.Core.List.{List, [], ◌∷◌, Memᴰ}
use native.Mathlib.Nat.{add-mul, mul_comm, mul-one}
use native.Mathlib.Omega.{arith}
use borrow.Author.Tests.{eqb-true, eqb-false, eq-eqb, ne_eqb, not-true, ltb-true, ltb-false}
use lib.Arith.{digits_div, digits_mod}
use lib.Dec.{eqb, ltb}
use lib.ListN.{length, get_or, set}
use lib.Seq.{get_or-set_same, get_or-set_other, set_out}
use Rattle.def.specs.declared.Component.{Component}
use Rattle.def.specs.declared.Component.TheVariants.{Luma, Chroma}
use Rattle.laws.specs.Index.{pick}
use Rattle.laws.specs.Orders.{Pairwise, run}
use Rattle.laws.specs.Sign.{gap_n}
use Rattle.laws.proofs.Signs.{moved_n}
use Rattle.line.specs.declared.Mask.{Mask}
use Rattle.line.specs.declared.Quad.{Quad}
use Rattle.line.specs.Line.{line_of, mask_of}
use Rattle.line.proofs.Lines.{limit_n, line_is}
use Rattle.split.specs.Demand3.{Demand3}
use Rattle.split.specs.Edges.{Pass, vertical, horizontal, Edge, edge_at, edge_list}
use Rattle.split.specs.Rows.{cross_of, along_of}
use Rattle.split.proofs.Induct.{test}
use Rattle.split.proofs.Sides.{and-true}
use Rattle.df_rules.specs.Lanes.{put_line, put_lines, Apart}
use Rattle.df_rules.specs.Moves.{largest, written_by, Spot, Writes, unit_of, Inner, Once, outer_of, passed, PassMoves, Moves}
use Rattle.df_rules.specs.Filter.{mask_at, window, filtered, finished}
use Rattle.df_rules.specs.Places.{unit_side, step_across, step_along, line_start, unit_q, unit_p}
use Rattle.df_rules.specs.Strength.{Maps, kept_at, row_at, qp_at, strength_of, strength}
use Rattle.df_rules.specs.Window.{quad_at, put_if, lines_at, window_at, Samples}
use Rattle.df_rules.proofs.Lanes.{at_once, apart_pass}
use Rattle.df_rules.proofs.Planes.{filtered_small, run_small}
use Rattle.df_rules.proofs.Rows.{digit_along, digit_along_lem, sample_at_lem, in_row, two_samples}

-- ---- a line

moved_near : (s : Bool) (x h : ℕ) → x ≤ 1023 → gap_n (moved_n s x h) x ≤ h
moved_near true x h p = omega arith
moved_near false x h p = omega arith

pub record LineNear (a b c d st : ℕ) (q : Quad) : Type 0 where
  pub a_near : gap_n q.a a ≤ st / 2
  pub b_near : gap_n q.b b ≤ st
  pub c_near : gap_n q.c c ≤ st
  pub d_near : gap_n q.d d ≤ st / 2

limit_few : (m st : ℕ) → limit_n m st ≤ st
limit_few m st = omega arith

half_few : (g h st : ℕ) → h ≤ st → min (g / 4) (h / 2) ≤ st / 2
half_few g h st p = omega arith

via : {a b c : ℕ} → a ≤ b → b ≤ c → a ≤ c
via p q = omega arith

pub line_near : (a b c d st : ℕ) → a ≤ 1023 → b ≤ 1023 → c ≤ 1023 → d ≤ 1023 → LineNear a b c d st (line_of a b c d st)
line_near a b c d st ha hb hc hd =
    let s = ltb (a + 4 * c) (4 * b + d) in
    let m = gap_n (a + 4 * c) (4 * b + d) / 8 in
    let h = limit_n m st in
    let e = min (gap_n a d / 4) (h / 2) in
    let few = limit_few m st in
    let half = half_few (gap_n a d) h st few in
    subst (LineNear a b c d st) (sym (line_is a b c d st m h refl refl))
    (record {
      a_near = via (moved_near (not (ltb a d)) a e ha) half;
      b_near = via (moved_near s b h hb) few;
      c_near = via (moved_near (not s) c h hc) few;
      d_near = via (moved_near (ltb a d) d e hd) half;
    })

-- ---- stores that stay near what was there

abbrev pub Near : (ℕ → ℕ) → List ℕ → List ℕ → Type 0
Near B xs ys = (i : ℕ) → gap_n (get_or ys i 0) (get_or xs i 0) ≤ B i

near_self : (B : ℕ → ℕ) (xs : List ℕ) → Near B xs xs
near_self B xs i = omega arith

-- what the mask lets a line move, at each of its places
pub record Allows (B : ℕ → ℕ) (m : Mask) (st step at : ℕ) : Type 0 where
  pub a : m.a ≡ true → st / 2 ≤ B at
  pub b : m.b ≡ true → st ≤ B (at + step)
  pub c : m.c ≡ true → st ≤ B (at + 2 * step)
  pub d : m.d ≡ true → st / 2 ≤ B (at + 3 * step)

module _ (B : ℕ → ℕ) (xs : List ℕ) where
  put_near : (b : Bool) (p v : ℕ) (ys : List ℕ) → (b ≡ true → gap_n v (get_or xs p 0) ≤ B p) → Near B xs ys → Near B xs (put_if b p v ys)
  put_near true p v ys h n i =
      test (eqb i p)
      (λ t. let e = eqb-true i p t in rw e (test (ltb p (length ys))
      (λ u. rw (get_or-set_same ys p v 0 (ltb-true _ _ u)) (h refl))
      (λ u. rw (set_out ys p v (ltb-false _ _ u)) (n p))))
      (λ t. rw (get_or-set_other ys p i v 0 (eqb-false i p t)) (n i))
  put_near false p v ys h n i = n i

  module _ (m : Mask) (st step : ℕ) (small : Samples xs) where
    put_line_near : (at : ℕ) (ys : List ℕ) → Allows B m st step at → Near B xs ys → Near B xs (put_line m step at (quad_at st step at xs) ys)
    put_line_near at ys l n =
        let q = line_near (get_or xs at 0) (get_or xs (at + step) 0) (get_or xs (at + 2 * step) 0) (get_or xs (at + 3 * step) 0) st (small at)
        (small (at + step)) (small (at + 2 * step)) (small (at + 3 * step)) in
        put_near m.d _ _ _ (λ e. via q.d_near (l.d e)) (put_near m.c _ _ _ (λ e. via q.c_near (l.c e))
        (put_near m.b _ _ _ (λ e. via q.b_near (l.b e)) (put_near m.a _ _ _ (λ e. via q.a_near (l.a e)) n)))

    lines_near : (next at n : ℕ) → ((k : ℕ) → k < n → Allows B m st step (at + k * next)) → Near B xs (put_lines m (λ (k : ℕ). quad_at st step (at + k * next) xs) step next at n xs)
    unfolding put_lines
    lines_near next at zero l = near_self B xs
    lines_near next at (suc n) l = put_line_near (at + n * next) _ (l n (omega arith)) (lines_near next at n (λ k p. l k (omega arith)))

    pub window_near : (next at n : ℕ) → Apart step next n → ((k : ℕ) → k < n → Allows B m st step (at + k * next)) → Near B xs (window_at m st step next at n xs)
    unfolding window_at
    window_near next at n g l = go (eqb st 0) where
      go : (b : Bool) → Near B xs (pick b xs (lines_at m st step next at n xs))
      go true = near_self B xs
      go false = subst (Near B xs) (sym (at_once m st step next at xs n g)) (lines_near next at n l)

-- ---- the largest entry

pub largest_at : (l : List ℕ) (k : ℕ) → get_or l k 0 ≤ largest l
unfolding largest
largest_at [] k = omega arith
largest_at (x ∷ l) zero = omega arith
largest_at (x ∷ l) (suc k) = omega (arith, largest_at l k)

-- ---- the edge that a sample is nearest to

-- of a place in a plane of `wide` a row: its column in the vertical pass, its row in the horizontal one
abbrev digit_across : Pass → (wide i : ℕ) → ℕ
digit_across vertical wide i = i % wide
digit_across horizontal wide i = i / wide

digit_across_lem : (d : Pass) (wide c a : ℕ) → (edge_at d c a).x < wide → digit_across d wide (a * step_along d wide + c * step_across d wide) ≡ c
digit_across_lem vertical wide c a p = rw (mul-one c) (digits_mod a p)
digit_across_lem horizontal wide c a p =
    let e : a * 1 + c * wide ≡ c * wide + a = omega (arith, mul-one a) in
    ap (λ (i : ℕ). i / wide) e ∙ digits_div c p

-- across, the edges lie a unit apart, and the nearest is at most half a unit away
abbrev near_cross : Component → ℕ → ℕ
near_cross Luma x = (x + 2) / 4
near_cross Chroma x = (x + 1) / 2

abbrev nearest : Pass → Component → (w i : ℕ) → Edge
nearest d c w i = edge_at d (near_cross c (digit_across d (unit_side c * w) i)) (digit_along d (unit_side c * w) i / unit_side c)

-- what an edge writes where nothing is kept; with marks it is no more
abbrev may_write : Component → ℕ → Bool
may_write c j = written_by (mask_of c false false) j

may_write_lem : (c : Component) (p q : Bool) (j : ℕ) → written_by (mask_of c p q) j ≡ true → may_write c j ≡ true
may_write_lem Luma p q zero e = refl
may_write_lem Luma p q (suc zero) e = refl
may_write_lem Luma p q (suc (suc zero)) e = refl
may_write_lem Luma p q (suc (suc (suc zero))) e = refl
may_write_lem Luma p q (suc (suc (suc (suc j)))) e = e
may_write_lem Chroma p q zero e = e
may_write_lem Chroma p q (suc zero) e = refl
may_write_lem Chroma p q (suc (suc zero)) e = refl
may_write_lem Chroma p q (suc (suc (suc zero))) e = e
may_write_lem Chroma p q (suc (suc (suc (suc j)))) e = e

-- a sample that is written for the edge at x
near_cross_lem : (c : Component) (x j : ℕ) → 1 ≤ x → may_write c j ≡ true → near_cross c (unit_side c * x - 2 + j) ≡ x
near_cross_lem Luma x zero p e = omega arith
near_cross_lem Luma x (suc zero) p e = omega arith
near_cross_lem Luma x (suc (suc zero)) p e = omega arith
near_cross_lem Luma x (suc (suc (suc zero))) p e = omega arith
near_cross_lem Luma x (suc (suc (suc (suc j)))) p e = absurd (true≢false (sym e))
near_cross_lem Chroma x zero p e = absurd (true≢false (sym e))
near_cross_lem Chroma x (suc zero) p e = omega arith
near_cross_lem Chroma x (suc (suc zero)) p e = omega arith
near_cross_lem Chroma x (suc (suc (suc zero))) p e = absurd (true≢false (sym e))
near_cross_lem Chroma x (suc (suc (suc (suc j)))) p e = absurd (true≢false (sym e))

luma_chroma : Chroma ≡ Luma → ⊥
luma_chroma e = let z : ◌≡◌ {A = ℕ} 2 4 = ap unit_side e in omega arith

-- whether a sample is an outer one of the edge that it is nearest to, in luma; in chroma those are not written
abbrev outer_in : Component → ℕ → Bool
outer_in Luma x = outer_of ((x + 2) % 4)
outer_in Chroma x = false

inner_in : (c : Component) (x j : ℕ) → 1 ≤ x → may_write c j ≡ true → outer_of j ≡ false → outer_in c (unit_side c * x - 2 + j) ≡ false
inner_in Chroma x j p e f = refl
inner_in Luma x zero p e f = absurd (true≢false f)
inner_in Luma x (suc zero) p e f = let r : (4 * x - 2 + 1 + 2) % 4 ≡ 1 = omega arith in ap outer_of r
inner_in Luma x (suc (suc zero)) p e f = let r : (4 * x - 2 + 2 + 2) % 4 ≡ 2 = omega arith in ap outer_of r
inner_in Luma x (suc (suc (suc zero))) p e f = absurd (true≢false f)
inner_in Luma x (suc (suc (suc (suc j)))) p e f = absurd (true≢false (sym e))

outer_in_lem : (c : Component) (x j : ℕ) → c ≡ Luma → 1 ≤ x → j < 4 → outer_of j ≡ true → outer_in c (unit_side c * x - 2 + j) ≡ true
outer_in_lem Chroma x j r p q f = absurd (luma_chroma r)
outer_in_lem Luma x zero r p q f = let a : (4 * x - 2 + 0 + 2) % 4 ≡ 0 = omega arith in ap outer_of a
outer_in_lem Luma x (suc zero) r p q f = absurd (true≢false (sym f))
outer_in_lem Luma x (suc (suc zero)) r p q f = absurd (true≢false (sym f))
outer_in_lem Luma x (suc (suc (suc zero))) r p q f = let a : (4 * x - 2 + 3 + 2) % 4 ≡ 3 = omega arith in ap outer_of a
outer_in_lem Luma x (suc (suc (suc (suc j)))) r p q f = absurd (omega arith)

at_own : (d : Pass) (e : Edge) → edge_at d (cross_of d e) (along_of d e) ≡ e
at_own vertical e = refl
at_own horizontal e = refl

-- ---- the unit that a sample lies in

-- A and B lie in P, C and D in Q
across_unit : (c : Component) (x j : ℕ) → 1 ≤ x → j < 4 → (unit_side c * x - 2 + j) / unit_side c ≡ pick (ltb j 2) (x - 1) x
across_unit Luma x zero p q = omega arith
across_unit Luma x (suc zero) p q = omega arith
across_unit Luma x (suc (suc zero)) p q = omega arith
across_unit Luma x (suc (suc (suc zero))) p q = omega arith
across_unit Luma x (suc (suc (suc (suc j)))) p q = absurd (omega arith)
across_unit Chroma x zero p q = omega arith
across_unit Chroma x (suc zero) p q = omega arith
across_unit Chroma x (suc (suc zero)) p q = omega arith
across_unit Chroma x (suc (suc (suc zero))) p q = omega arith
across_unit Chroma x (suc (suc (suc (suc j)))) p q = absurd (omega arith)

-- a sample that is written lies in a unit that is not kept
not_kept : (c : Component) (p q : Bool) (j : ℕ) → written_by (mask_of c p q) j ≡ true → pick (ltb j 2) p q ≡ false
not_kept Luma p q zero e = not-true p e
not_kept Luma p q (suc zero) e = not-true p e
not_kept Luma p q (suc (suc zero)) e = not-true q e
not_kept Luma p q (suc (suc (suc zero))) e = not-true q e
not_kept Luma p q (suc (suc (suc (suc j)))) e = absurd (true≢false (sym e))
not_kept Chroma p q zero e = absurd (true≢false (sym e))
not_kept Chroma p q (suc zero) e = not-true p e
not_kept Chroma p q (suc (suc zero)) e = not-true q e
not_kept Chroma p q (suc (suc (suc zero))) e = absurd (true≢false (sym e))
not_kept Chroma p q (suc (suc (suc (suc j)))) e = absurd (true≢false (sym e))

-- P and Q by their places across and along
unit_by : (d : Pass) (w : ℕ) (e : Edge) → 0 < cross_of d e → (b : Bool) → unit_q w (edge_at d (pick b (cross_of d e - 1) (cross_of d e)) (along_of d e)) ≡ pick b (unit_p d w e) (unit_q w e)
unit_by vertical w e p true = omega arith
unit_by horizontal w e p true =
    let r : e.y ≡ e.y - 1 + 1 = omega arith in
    let s = add-mul (e.y - 1) 1 w in
    let t : e.y * w ≡ (e.y - 1 + 1) * w = ap (λ (k : ℕ). k * w) r in
    omega arith
unit_by vertical w e p false = refl
unit_by horizontal w e p false = refl

unit_digits : (d : Pass) (c : Component) (w i : ℕ) → unit_of c w i ≡ unit_q w (edge_at d (digit_across d (unit_side c * w) i / unit_side c) (digit_along d (unit_side c * w) i / unit_side c))
unit_digits vertical c w i = refl
unit_digits horizontal c w i = refl

module _ (mp : Maps) (d : Pass) (c : Component) (w : ℕ) where
  abbrev m : ℕ
  m = unit_side c

  -- where a sample of a window lies, across and along
  record Lies (e : Edge) (i k j : ℕ) : Type 0 where
    across : digit_across d (m * w) i ≡ m * cross_of d e - 2 + j
    along : digit_along d (m * w) i ≡ m * along_of d e + k

  lies : (e : Edge) → Inner d w e → (i : ℕ) (p : Spot d c w e i) → Lies e i p.line p.sample
  lies e n i p =
      let r = in_row m w (two_samples c) d e p.line p.sample n.before n.column p.lines p.four in
      let f = p.is ∙ sample_at_lem d (m * w) (m * cross_of d e) (m * along_of d e) p.line p.sample in
      record {
        across = ap (digit_across d (m * w)) f ∙ digit_across_lem d (m * w) (m * cross_of d e - 2 + p.sample) (m * along_of d e + p.line) r;
        along = ap (digit_along d (m * w)) f ∙ digit_along_lem d (m * w) (m * cross_of d e - 2 + p.sample) (m * along_of d e + p.line) r;
      }

  nearest_is : (e : Edge) → Inner d w e → (i : ℕ) → Writes mp d c w e i → nearest d c w i ≡ e
  nearest_is e n i p =
      let l = lies e n i p.spot in
      (λ t. edge_at d (near_cross c (l.across t)) (l.along t / m))
      ∙ (λ t. edge_at d (near_cross_lem c (cross_of d e) p.spot.sample n.before (may_write_lem c _ _ p.spot.sample p.written) t)
      ((ap (λ (k : ℕ). (k + p.spot.line) / m) (mul_comm m (along_of d e)) ∙ digits_div (along_of d e) p.spot.lines) t))
      ∙ at_own d e

  -- two writes of one place in a window are the same line and sample
  same_spot : (e : Edge) → Inner d w e → (i : ℕ) (p q : Spot d c w e i) → (p.line ≡ q.line) × (p.sample ≡ q.sample)
  same_spot e n i p q =
      let a = lies e n i p in
      let b = lies e n i q in
      let x = sym a.across ∙ b.across in
      let y = sym a.along ∙ b.along in
      (omega (arith, y), omega (arith, x))

  pub one_write : (i : ℕ) (e f : Edge) → Inner d w e → Inner d w f → (p : Writes mp d c w e i) (q : Writes mp d c w f i)
      → (e ≡ f) × (p.spot.line ≡ q.spot.line) × (p.spot.sample ≡ q.spot.sample)
  one_write i e f n o p q =
      let g = sym (nearest_is e n i p) ∙ nearest_is f o i q in
      let a = lies e n i p.spot in
      let b = lies f o i q.spot in
      let cross = ap (cross_of d) g in
      let along = ap (along_of d) g in
      let x = sym a.across ∙ b.across ∙ ap (λ (k : ℕ). m * k - 2 + q.spot.sample) (sym cross) in
      let y = sym a.along ∙ b.along ∙ ap (λ (k : ℕ). m * k + q.spot.line) (sym along) in
      (g, omega (arith, y), omega (arith, x))

  -- the unit of a sample that is written is not kept
  free_unit : (e : Edge) → Inner d w e → (i : ℕ) → Writes mp d c w e i → kept_at mp (unit_of c w i) ≡ false
  free_unit e n i p =
      let j = p.spot.sample in
      let l = lies e n i p.spot in
      let home : unit_of c w i ≡ pick (ltb j 2) (unit_p d w e) (unit_q w e) =
      unit_digits d c w i
      ∙ (λ t. unit_q w (edge_at d ((ap (λ (k : ℕ). k / m) l.across ∙ across_unit c (cross_of d e) j n.before p.spot.four) t)
      ((ap (λ (k : ℕ). k / m) l.along ∙ ap (λ (k : ℕ). (k + p.spot.line) / m) (mul_comm m (along_of d e)) ∙ digits_div (along_of d e) p.spot.lines) t)))
      ∙ unit_by d w e n.before (ltb j 2) in
      ap (kept_at mp) home ∙ either (ltb j 2) ∙ not_kept c (kept_at mp (unit_p d w e)) (kept_at mp (unit_q w e)) j p.written where
        either : (b : Bool) → kept_at mp (pick b (unit_p d w e) (unit_q w e)) ≡ pick b (kept_at mp (unit_p d w e)) (kept_at mp (unit_q w e))
        either true = refl
        either false = refl

  -- ---- how far a window moves a sample: not at all where it is another edge's, and an outer one of luma half as far

  abbrev same_edge : Edge → Edge → Bool
  same_edge e f = eqb e.x f.x && eqb e.y f.y

  same_true : (e f : Edge) → e ≡ f → same_edge e f ≡ true
  same_true e f g = simp (eq-eqb _ _ (ap (λ (z : Edge). z.x) g), eq-eqb _ _ (ap (λ (z : Edge). z.y) g))

  true_same : (e f : Edge) → same_edge e f ≡ true → e ≡ f
  true_same e f g =
      let t = and-true (eqb e.x f.x) _ g in
      let x = eqb-true _ _ t.0 in
      let y = eqb-true _ _ t.1 in
      λ i. record { x = x i; y = y i }

  abbrev outer_at : ℕ → Bool
  outer_at i = outer_in c (digit_across d (m * w) i)

  abbrev reach : (st i : ℕ) → ℕ
  reach st i = pick (outer_at i) (st / 2) st

  abbrev most : Edge → (st i : ℕ) → ℕ
  most e st i = pick (same_edge (nearest d c w i) e) (reach st i) 0

  half_reach : (b : Bool) (st : ℕ) → st / 2 ≤ pick b (st / 2) st
  half_reach true st = omega arith
  half_reach false st = omega arith

  module _ (e : Edge) (n : Inner d w e) (st : ℕ) where
    abbrev start : ℕ
    start = line_start d (m * w) (m * cross_of d e) (m * along_of d e)

    -- sample j of line k, if it is written
    spot : (k j i : ℕ) → k < m → j < 4 → written_by (mask_at mp d c w e) j ≡ true → i ≡ start + k * step_along d (m * w) + j * step_across d (m * w) → Writes mp d c w e i
    spot k j i p q t g = record { spot = record { line = k; sample = j; lines = p; four = q; is = g }; written = t }

    own : (i : ℕ) → Writes mp d c w e i → most e st i ≡ reach st i
    own i p = ap (λ (b : Bool). pick b (reach st i) 0) (same_true _ _ (nearest_is e n i p))

    inner_reach : (i : ℕ) (p : Writes mp d c w e i) → outer_of p.spot.sample ≡ false → reach st i ≡ st
    inner_reach i p g = ap (λ (b : Bool). pick b (st / 2) st)
        (ap (outer_in c) (lies e n i p.spot).across ∙ inner_in c (cross_of d e) p.spot.sample n.before (may_write_lem c _ _ p.spot.sample p.written) g)

    allows : (k : ℕ) → k < m → Allows (most e st) (mask_at mp d c w e) st (step_across d (m * w)) (start + k * step_along d (m * w))
    unfolding spot
    allows k h =
        let at = start + k * step_along d (m * w) in
        let step = step_across d (m * w) in
        record {
          a = λ t. let i = spot k 0 at h (omega arith) t (omega arith) in rw (own at i) (half_reach (outer_at at) st);
          b = λ t. let i = spot k 1 (at + step) h (omega arith) t (omega arith) in rw (own (at + step) i, inner_reach (at + step) i (refl {a = false})) (omega arith);
          c = λ t. let i = spot k 2 (at + 2 * step) h (omega arith) t (omega arith) in rw (own (at + 2 * step) i, inner_reach (at + 2 * step) i (refl {a = false})) (omega arith);
          d = λ t. let i = spot k 3 (at + 3 * step) h (omega arith) t (omega arith) in rw (own (at + 3 * step) i) (half_reach (outer_at (at + 3 * step)) st);
        }

    apart : Apart (step_across d (m * w)) (step_along d (m * w)) m
    apart = by_pass d n where
      by_pass : (q : Pass) → Inner q w e → Apart (step_across q (m * w)) (step_along q (m * w)) m
      by_pass vertical i = apart_pass m w (suc e.y) (two_samples c) vertical e.x e.y i.before i.column (omega arith)
      by_pass horizontal i = apart_pass m w (suc e.y) (two_samples c) horizontal e.y e.x i.before (omega arith) i.column

    edge_near : (xs : List ℕ) → Samples xs → Near (most e st) xs (window (mask_at mp d c w e) d c w st e xs)
    edge_near xs small = window_near (most e st) xs (mask_at mp d c w e) st (step_across d (m * w)) small (step_along d (m * w)) start m apart allows

    -- the same with nothing at a place that is not written
    spared : (xs : List ℕ) → Samples xs → (i : ℕ) → (Writes mp d c w e i → ⊥) → get_or (window (mask_at mp d c w e) d c w st e xs) i 0 ≡ get_or xs i 0
    unfolding spot
    spared xs small i g =
        let b = window_near (λ k. pick (eqb k i) 0 st) xs (mask_at mp d c w e) st (step_across d (m * w)) small (step_along d (m * w)) start m apart (λ k h.
        let at = start + k * step_along d (m * w) in
        let step = step_across d (m * w) in
        record {
          a = λ t. free at (λ z. g (spot k 0 i h (omega arith) t (omega arith)));
          b = λ t. free' (at + step) (λ z. g (spot k 1 i h (omega arith) t (omega arith)));
          c = λ t. free' (at + 2 * step) (λ z. g (spot k 2 i h (omega arith) t (omega arith)));
          d = λ t. free (at + 3 * step) (λ z. g (spot k 3 i h (omega arith) t (omega arith)));
        }) i in
        let z : gap_n (get_or (window (mask_at mp d c w e) d c w st e xs) i 0) (get_or xs i 0) ≤ 0 = subst
        (λ (b : Bool). gap_n (get_or (window (mask_at mp d c w e) d c w st e xs) i 0) (get_or xs i 0) ≤ pick b 0 st) (eq-eqb i i refl) b in
        omega arith
      where
        free' : (k : ℕ) → (k ≡ i → ⊥) → st ≤ pick (eqb k i) 0 st
        free' k f = rw (ne_eqb k i f) (omega arith)

        free : (k : ℕ) → (k ≡ i → ⊥) → st / 2 ≤ pick (eqb k i) 0 st
        free k f = rw (ne_eqb k i f) (omega arith)

  whole_reach : (b : Bool) (x : ℕ) → pick b (x / 2) x ≤ x
  whole_reach true x = omega arith
  whole_reach false x = omega arith

  outer_reach : c ≡ Luma → (e : Edge) → Inner d w e → (i : ℕ) (p : Spot d c w e i) → outer_of p.sample ≡ true → (x : ℕ) → reach (4 * x) i ≤ 2 * x
  outer_reach r e n i p g x =
      let o = ap (outer_in c) (lies e n i p).across ∙ outer_in_lem c (cross_of d e) p.sample r n.before p.four g in
      subst (λ (b : Bool). pick b (4 * x / 2) (4 * x) ≤ 2 * x) (sym o) (omega arith)

  -- ---- a pass

  module _ (t : List ℕ) (at : ℕ → ℕ) where
    abbrev step : Edge → List ℕ → List ℕ
    step = filtered mp t at d c w

    abbrev st : Edge → ℕ
    st e = strength mp t at d w e

    strong : (e : Edge) → st e ≤ 4 * largest t
    unfolding strength_of
    strong e = omega (arith, largest_at t (52 * row_at mp (unit_q w e) (unit_p d w e) + at (qp_at mp (unit_q w e))))

    -- at a place of another edge nothing
    elsewhere : (e : Edge) → Inner d w e → (xs : List ℕ) → Samples xs → (i : ℕ) → same_edge (nearest d c w i) e ≡ false → get_or (step e xs) i 0 ≡ get_or xs i 0
    elsewhere e n xs small i g =
        let b : gap_n (get_or (step e xs) i 0) (get_or xs i 0) ≤ 0 = subst (λ (b : Bool). gap_n (get_or (step e xs) i 0) (get_or xs i 0) ≤ pick b (reach (st e) i) 0) g (edge_near e n (st e) xs small i) in
        omega arith

    more_reach : (b : Bool) (x y : ℕ) → x ≤ y → pick b (x / 2) x ≤ pick b (y / 2) y
    more_reach true x y p = omega arith
    more_reach false x y p = p

    here : (e : Edge) → Inner d w e → (xs : List ℕ) → Samples xs → (i : ℕ) → same_edge (nearest d c w i) e ≡ true → gap_n (get_or (step e xs) i 0) (get_or xs i 0) ≤ reach (4 * largest t) i
    here e n xs small i g =
        via (subst (λ (b : Bool). gap_n (get_or (step e xs) i 0) (get_or xs i 0) ≤ pick b (reach (st e) i) 0) g (edge_near e n (st e) xs small i)) (more_reach (outer_at i) (st e) (4 * largest t) (strong e))

    quiet : (l : List Edge) → ((e : Edge) → Memᴰ e l → Inner d w e) → (xs : List ℕ) → Samples xs → (i : ℕ)
        → ((e : Edge) → Memᴰ e l → same_edge (nearest d c w i) e ≡ false) → get_or (run step l xs) i 0 ≡ get_or xs i 0
    unfolding run
    quiet [] n xs small i g = refl
    quiet (e ∷ l) n xs small i g =
        quiet l (λ f j. n f (Memᴰ.tail j)) (step e xs) (filtered_small mp t at d c w e xs small) i (λ f j. g f (Memᴰ.tail j))
        ∙ elsewhere e (n e (Memᴰ.head refl)) xs small i (g e (Memᴰ.head refl))

    not_same : (e f : Edge) (i : ℕ) → (e ≡ f → ⊥) → same_edge (nearest d c w i) e ≡ true → same_edge (nearest d c w i) f ≡ false
    not_same e f i ne g = test (same_edge (nearest d c w i) f) (λ u. absurd (ne (sym (true_same _ _ g) ∙ true_same _ _ u))) (λ u. u)

    moves : (l : List Edge) → Once d w l → (xs : List ℕ) → Samples xs → (i : ℕ) → gap_n (get_or (run step l xs) i 0) (get_or xs i 0) ≤ reach (4 * largest t) i
    unfolding run
    moves [] o xs small i = omega arith
    moves (e ∷ l) o xs small i =
        let n = o.inner e (Memᴰ.head refl) in
        let k : (f : Edge) → Memᴰ f l → Inner d w f = λ f j. o.inner f (Memᴰ.tail j) in
        let s = filtered_small mp t at d c w e xs small in
        test (same_edge (nearest d c w i) e)
        (λ u. rw (quiet l k (step e xs) s i (λ f j. not_same e f i (o.apart.0 f j) u)) (here e n xs small i u))
        (λ u. subst (λ (z : ℕ). gap_n (get_or (run step l (step e xs)) i 0) z ≤ reach (4 * largest t) i) (elsewhere e n xs small i u)
        (moves l (record { inner = k; apart = o.apart.1 }) (step e xs) s i))

    -- a sample that no edge of the list writes: its nearest edge is none of them, or does not write it
    unwritten : (l : List Edge) → ((e : Edge) → Memᴰ e l → Inner d w e) → (xs : List ℕ) → Samples xs → (i : ℕ)
        → ((e : Edge) → Memᴰ e l → Writes mp d c w e i → ⊥) → get_or (run step l xs) i 0 ≡ get_or xs i 0
    unfolding run
    unwritten [] n xs small i g = refl
    unwritten (e ∷ l) n xs small i g =
        unwritten l (λ f j. n f (Memᴰ.tail j)) (step e xs) (filtered_small mp t at d c w e xs small) i (λ f j. g f (Memᴰ.tail j))
        ∙ spared e (n e (Memᴰ.head refl)) (st e) xs small i (g e (Memᴰ.head refl))

    abbrev least : (l : List Edge) → Once d w l → (xs : List ℕ) → Samples xs → PassMoves mp t at d c w l xs
    least l o xs small = record {
      once = λ i e f a b p q. one_write i e f (o.inner e a) (o.inner f b) p q;
      most = λ i. via (moves l o xs small i) (whole_reach (outer_at i) (4 * largest t));
      outer = λ r i e a p g. via (moves l o xs small i) (outer_reach r e (o.inner e a) i p g (largest t));
      still = unwritten l o.inner xs small;
      kept = λ i g. unwritten l o.inner xs small i (λ e a p. true≢false (sym g ∙ free_unit e (o.inner e a) i p));
    }

pub pass_moves : (mp : Maps) (t : List ℕ) (at : ℕ → ℕ) (d : Pass) (c : Component) (w : ℕ) (l : List Edge) → Once d w l → (xs : List ℕ) → Samples xs → PassMoves mp t at d c w l xs
pass_moves mp t at d c w l o xs small = least mp d c w t at l o xs small

apart_more : (x y z a b : ℕ) → gap_n y x ≤ a → gap_n z y ≤ b → gap_n z x ≤ a + b
apart_more x y z a b p q = omega arith

pub both_move : (mp : Maps) (t : List ℕ) (at : ℕ → ℕ) (c : Component) (w : ℕ) (ups levels : List Edge) → Once vertical w ups → Once horizontal w levels
    → (xs : List ℕ) → Samples xs → Moves mp t at c w ups levels xs
both_move mp t at c w ups levels o p xs small =
    let ys = passed mp t at vertical c w ups xs in
    let v = pass_moves mp t at vertical c w ups o xs small in
    let h = pass_moves mp t at horizontal c w levels p ys (run_small mp t at vertical c w ups xs small) in
    record {
      ver = v;
      hor = h;
      both = λ i. omega (arith, apart_more _ _ _ _ _ (v.most i) (h.most i));
      still = λ i f g. h.still i g ∙ v.still i f;
      kept = λ i g. h.kept i g ∙ v.kept i g;
    }

-- ---- the lists of a picture whose walk is accepted

pub listed_once : (halved : Bool) (s : List ℕ) (w h : ℕ) → Demand3 halved s w h → (d : Pass) → Once d w (edge_list d halved s w h)
listed_once halved s w h d3 d = record {
  inner = λ e i. let o = (d3.members d e).0 i in record { before = o.sure.inner; column = o.column };
  apart = d3.once d;
}
