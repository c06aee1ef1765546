-- Edges filtered in a part of a plane, by the parts of the maps, are those edges further down, filtered in the whole plane.
--     run_part    a list of edges
--     finished_part    both passes' lists
--     list_down    a band's list by its place in what is lent, and by its place in the picture
-- Assumes nothing.
use mathlib.Core.Bool.{Bool, true, false, ◌&&◌}
use mathlib.Core.Logic.{◌⊎◌, inl, inr, ⊎_elim}
use mathlib.Core.Path.{◌≡◌, refl, sym, ap, ap₂, ◌∙◌, subst}
use mathlib.Core.List.Memᴰ
use mathlib.Core.List.{List, [], ◌∷◌, ◌++◌, map, append-nil, Memᴰ}
use Prim.Native.Nat.{ℕ, zero, suc, ◌+◌, ◌-◌, ◌*◌, ◌/◌, ◌≤◌, ◌<◌}
use native.Mathlib.Nat.{mul-le-mul_left, mul-le-mul_right, add-mul, mul-add, mul-one, zero-add, suc-add, add-zero}
use native.Mathlib.Omega.{arith}
use borrow.Author.Tests.{lt-ltb}
use lib.Dec.{ltb, eqb}
use lib.IntN.{pos}
use lib.ListN.{length, get_or, set, take, drop, length-set, length-take, length-drop, get_or-append, take-append-drop}
use lib.Seq.{get_or-append-add, set-append_left, get_or-take, get_or-drop, length-take-le}
use Rattle.def.specs.Word.{qp_of}
use Rattle.def.specs.declared.Component.{Component}
use Rattle.def.specs.declared.Component.TheVariants.{Luma, Chroma}
use Rattle.laws.specs.Index.{pick}
use Rattle.laws.specs.Orders.{run, each}
use Rattle.laws.proofs.Flat.{flat_within}
use Rattle.laws.proofs.Orders.{each_mem}
use Rattle.line.specs.Line.{line_of, mask_of}
use Rattle.line.specs.Row.{row_of}
use Rattle.line.specs.declared.Mask.{Mask}
use Rattle.line.specs.declared.Motion.{Motion}
use Rattle.line.specs.declared.Quad.{Quad}
use Rattle.split.specs.Edges.{Pass, vertical, horizontal, Edge, edge, Visit, visit, halves, visit_of, stretch, near_edge, edges_of}
use Rattle.split.specs.Picture.{all_leaves}
use Rattle.split.specs.Rows.{cross_of, along_of}
use Rattle.split.specs.Walk.{Leaf}
use Rattle.split.proofs.Induct.{test}
use Rattle.df_rules.specs.Filter.{mask_at, filtered, finished}
use Rattle.df_rules.specs.Places.{unit_side, step_across, step_along, line_start, unit_q, unit_p}
use Rattle.df_rules.specs.Strength.{Maps, kept_at, motion_at, row_by, strength_of, strength}
use Rattle.df_rules.specs.Window.{quad_at, put_if, line_at, lines_at, window_at}
use Rattle.df_rules.proofs.Edges.{inside, p_before}
use Rattle.df_rules.proofs.Planes.{filtered_long, run_long}
use Rattle.split.specs.RootCall.{leaf_down}
use Rattle.bands_rules.specs.Bands.{edge_down, visit_down, list_from, map_part, maps_part, places_of, in_part}
use Rattle.bands_rules.proofs.Down.{map_append}
use Rattle.bands_rules.proofs.Lists.{Lies}

-- ---- stores and lines in the middle of a plane

set_append_add : (xs ys : List ℕ) (i v : ℕ) → set (xs ++ ys) (length xs + i) v ≡ xs ++ set ys i v
set_append_add [] ys i v = ap (λ (k : ℕ). set ys k v) (zero-add i)
set_append_add (x ∷ xs) ys i v = ap (λ (k : ℕ). set (x ∷ (xs ++ ys)) k v) (suc-add (length xs) i) ∙ ap (λ (r : List ℕ). x ∷ r) (set_append_add xs ys i v)

put_long : (b : Bool) (i v : ℕ) (xs : List ℕ) → length (put_if b i v xs) ≡ length xs
put_long true i v xs = length-set xs i v
put_long false i v xs = refl

module _ (before after : List ℕ) where
  abbrev amid : List ℕ → List ℕ
  amid xs = before ++ (xs ++ after)

  read_part : (xs : List ℕ) (i : ℕ) → i < length xs → get_or (amid xs) (length before + i) 0 ≡ get_or xs i 0
  read_part xs i l = get_or-append-add before (xs ++ after) i 0 ∙ get_or-append xs after 0 i l

  put_part : (b : Bool) (xs : List ℕ) (i v : ℕ) → i < length xs → put_if b (length before + i) v (amid xs) ≡ amid (put_if b i v xs)
  put_part true xs i v l = set_append_add before (xs ++ after) i v ∙ ap (λ (r : List ℕ). before ++ r) (set-append_left xs after i v l)
  put_part false xs i v l = refl

  module _ (m : Mask) (st step : ℕ) where
    line_long : (at : ℕ) (xs : List ℕ) → length (line_at m st step at xs) ≡ length xs
    unfolding line_at
    line_long at xs = put_long m.d _ _ _ ∙ put_long m.c _ _ _ ∙ put_long m.b _ _ _ ∙ put_long m.a _ _ xs

    line_part : (at : ℕ) (xs : List ℕ) → at + 3 * step < length xs → line_at m st step (length before + at) (amid xs) ≡ amid (line_at m st step at xs)
    unfolding line_at
    line_part at xs l =
        let n = length before in
        let e₁ : n + at + step ≡ n + (at + step) = omega arith in
        let e₂ : n + at + 2 * step ≡ n + (at + 2 * step) = omega arith in
        let e₃ : n + at + 3 * step ≡ n + (at + 3 * step) = omega arith in
        let z = amid xs in
        let q : quad_at st step (n + at) z ≡ quad_at st step at xs =
        (λ i. line_of (get_or z (n + at) 0) (get_or z (e₁ i) 0) (get_or z (e₂ i) 0) (get_or z (e₃ i) 0) st)
        ∙ (λ i. line_of (read_part xs at (omega arith) i) (read_part xs (at + step) (omega arith) i) (read_part xs (at + 2 * step) (omega arith) i) (read_part xs (at + 3 * step) l i) st) in
        let g = quad_at st step at xs in
        let x₁ = put_if m.a at g.a xs in
        let x₂ = put_if m.b (at + step) g.b x₁ in
        let x₃ = put_if m.c (at + 2 * step) g.c x₂ in
        let l₁ : length x₁ ≡ length xs = put_long m.a _ _ xs in
        let l₂ : length x₂ ≡ length xs = put_long m.b _ _ x₁ ∙ l₁ in
        let l₃ : length x₃ ≡ length xs = put_long m.c _ _ x₂ ∙ l₂ in
        (λ i. put_if m.d (e₃ i) (q i).d (put_if m.c (e₂ i) (q i).c (put_if m.b (e₁ i) (q i).b (put_if m.a (n + at) (q i).a z))))
        ∙ ap (λ (r : List ℕ). put_if m.d (n + (at + 3 * step)) g.d
        (put_if m.c (n + (at + 2 * step)) g.c (put_if m.b (n + (at + step)) g.b r))) (put_part m.a xs at g.a (omega arith))
        ∙ ap (λ (r : List ℕ). put_if m.d (n + (at + 3 * step)) g.d (put_if m.c (n + (at + 2 * step)) g.c r)) (put_part m.b x₁ (at + step) g.b (omega arith))
        ∙ ap (λ (r : List ℕ). put_if m.d (n + (at + 3 * step)) g.d r) (put_part m.c x₂ (at + 2 * step) g.c (omega arith))
        ∙ put_part m.d x₃ (at + 3 * step) g.d (omega arith)

    lines_long : (next at n : ℕ) (xs : List ℕ) → length (lines_at m st step next at n xs) ≡ length xs
    unfolding lines_at
    lines_long next at zero xs = refl
    lines_long next at (suc n) xs = line_long (at + n * next) _ ∙ lines_long next at n xs

    lines_part : (next at n : ℕ) (xs : List ℕ) → ((k : ℕ) → k < n → at + k * next + 3 * step < length xs)
        → lines_at m st step next (length before + at) n (amid xs) ≡ amid (lines_at m st step next at n xs)
    unfolding lines_at
    lines_part next at zero xs h = refl
    lines_part next at (suc n) xs h =
        let e : length before + at + n * next ≡ length before + (at + n * next) = omega arith in
        let g = h n (omega arith) in
        ap₂ (λ (i : ℕ) (r : List ℕ). line_at m st step i r) e (lines_part next at n xs (λ k l. h k (omega arith)))
        ∙ line_part (at + n * next) (lines_at m st step next at n xs) (omega (arith, lines_long next at n xs))

    window_part : (next at n : ℕ) (xs : List ℕ) → ((k : ℕ) → k < n → at + k * next + 3 * step < length xs)
        → window_at m st step next (length before + at) n (amid xs) ≡ amid (window_at m st step next at n xs)
    unfolding window_at
    window_part next at n xs h = go (eqb st 0) where
      go : (b : Bool) → pick b (amid xs) (lines_at m st step next (length before + at) n (amid xs)) ≡ amid (pick b xs (lines_at m st step next at n xs))
      go true = refl
      go false = lines_part next at n xs h

-- ---- an edge, a rows of units further down

two_samples : (c : Component) → 2 ≤ unit_side c
two_samples Luma = omega arith
two_samples Chroma = omega arith

-- where its first line starts
start_down : (d : Pass) (m w a : ℕ) (e : Edge) → 2 ≤ m → 0 < cross_of d e
    → line_start d (m * w) (m * cross_of d (edge_down a e)) (m * along_of d (edge_down a e)) ≡ m * a * (m * w) + line_start d (m * w) (m * cross_of d e) (m * along_of d e)
start_down vertical m w a e two o = omega (arith, ap (λ (i : ℕ). i * (m * w)) (mul-add m e.y a), add-mul (m * e.y) (m * a) (m * w))
start_down horizontal m w a e two o =
    let l = mul-le-mul_left {m = 1} {n = e.y} m o in
    let k = mul-one m in
    let p : m * (e.y + a) - 2 ≡ m * e.y - 2 + m * a = omega (arith, mul-add m e.y a) in
    omega (arith, ap (λ (i : ℕ). i * (m * w)) p, add-mul (m * e.y - 2) (m * a) (m * w))

q_down : (w a : ℕ) (e : Edge) → unit_q w (edge_down a e) ≡ a * w + unit_q w e
q_down w a e = omega (arith, add-mul e.y a w)

-- there is a unit before it
before_q : (d : Pass) (w : ℕ) (e : Edge) → 0 < cross_of d e → step_across d w ≤ unit_q w e
before_q vertical w e o = p_before w w vertical e.x e.y o
before_q horizontal w e o = p_before w w horizontal e.y e.x o

p_down : (d : Pass) (w a : ℕ) (e : Edge) → 0 < cross_of d e → unit_p d w (edge_down a e) ≡ a * w + unit_p d w e
p_down d w a e o = omega (arith, q_down w a e, before_q d w e o)

-- ---- its strength and its marks, by parts of the maps

part_at : {A : Type 0} (m w a b : ℕ) (l : List A) (i : ℕ) (z : A) → i < m * (b * w) → get_or (map_part m w a b l) i z ≡ get_or l (m * (a * w) + i) z
part_at m w a b l i z h = get_or-take (m * (b * w)) (drop (m * (a * w)) l) i z h ∙ get_or-drop (m * (a * w)) l i z

module _ (m : Maps) (w a b : ℕ) where
  word_part : (q : ℕ) → q < b * w → get_or (maps_part w a b m).words q 0 ≡ get_or m.words (a * w + q) 0
  word_part q l = part_at 1 w a b m.words q 0 (omega arith) ∙ ap (λ (i : ℕ). get_or m.words i 0) (omega arith)

  motion_part : (q : ℕ) → q < b * w → motion_at (maps_part w a b m).over.motion (maps_part w a b m).over.refs q ≡ motion_at m.over.motion m.over.refs (a * w + q)
  motion_part q l =
      let mv : (j : ℕ) → j < 4 → get_or (maps_part w a b m).over.motion (4 * q + j) (pos 0) ≡ get_or m.over.motion (4 * (a * w + q) + j) (pos 0) =
      λ j g. part_at 4 w a b m.over.motion (4 * q + j) (pos 0) (omega arith) ∙ ap (λ (i : ℕ). get_or m.over.motion i (pos 0)) (omega arith) in
      let rf : (j : ℕ) → j < 2 → get_or (maps_part w a b m).over.refs (2 * q + j) (pos 0) ≡ get_or m.over.refs (2 * (a * w + q) + j) (pos 0) =
      λ j g. part_at 2 w a b m.over.refs (2 * q + j) (pos 0) (omega arith) ∙ ap (λ (i : ℕ). get_or m.over.refs i (pos 0)) (omega arith) in
      let mv₀ : get_or (maps_part w a b m).over.motion (4 * q) (pos 0) ≡ get_or m.over.motion (4 * (a * w + q)) (pos 0) =
      part_at 4 w a b m.over.motion (4 * q) (pos 0) (omega arith) ∙ ap (λ (i : ℕ). get_or m.over.motion i (pos 0)) (omega arith) in
      let rf₀ : get_or (maps_part w a b m).over.refs (2 * q) (pos 0) ≡ get_or m.over.refs (2 * (a * w + q)) (pos 0) =
      part_at 2 w a b m.over.refs (2 * q) (pos 0) (omega arith) ∙ ap (λ (i : ℕ). get_or m.over.refs i (pos 0)) (omega arith) in
      λ i. record { refi0 = rf₀ i; refi1 = rf 1 (omega arith) i; x0 = mv₀ i; y0 = mv 1 (omega arith) i; x1 = mv 2 (omega arith) i; y1 = mv 3 (omega arith) i }

  strength_of_lem : (t : List ℕ) (at : ℕ → ℕ) (q p : ℕ) → q < b * w → p < b * w → strength_of (maps_part w a b m) t at q p ≡ strength_of m t at (a * w + q) (a * w + p)
  unfolding strength_of row_by
  strength_of_lem t at q p l k = λ i. 4 * get_or t (52 * row_of (word_part q l i) (word_part p k i) (motion_part q l i) (motion_part p k i) + at (qp_of (word_part q l i))) 0

  strength_part : (t : List ℕ) (at : ℕ → ℕ) (d : Pass) (e : Edge) → 0 < cross_of d e → e.x < w → e.y < b → strength m t at d w (edge_down a e) ≡ strength (maps_part w a b m) t at d w e
  strength_part t at d e o x y =
      let l = flat_within e.y e.x w b x y in
      (λ i. strength_of m t at (q_down w a e i) (p_down d w a e o i)) ∙ sym (strength_of_lem t at (unit_q w e) (unit_p d w e) l (omega arith))

  kept_part : (q : ℕ) → q < b * w → kept_at m (a * w + q) ≡ kept_at (maps_part w a b m) q
  kept_part q l = ap (λ (n : ℕ). eqb n 1) (sym (part_at 1 w a b m.over.keep q 0 (omega arith) ∙ ap (λ (i : ℕ). get_or m.over.keep i 0) (omega arith)))

  mask_part : (d : Pass) (c : Component) (e : Edge) → 0 < cross_of d e → e.x < w → e.y < b → mask_at m d c w (edge_down a e) ≡ mask_at (maps_part w a b m) d c w e
  mask_part d c e o x y =
      let l = flat_within e.y e.x w b x y in
      ap₂ (mask_of c) (ap (kept_at m) (p_down d w a e o) ∙ kept_part (unit_p d w e) (omega arith)) (ap (kept_at m) (q_down w a e) ∙ kept_part (unit_q w e) l)

-- ---- edges in a part of a plane

module _ (m : Maps) (t : List ℕ) (at : ℕ → ℕ) (d : Pass) (c : Component) (w a b : ℕ) (before after : List ℕ) (start : length before ≡ places_of c w a) where
  edge_part : (e : Edge) → Lies d w 0 b e → (xs : List ℕ) → length xs ≡ places_of c w b
      → filtered m t at d c w (edge_down a e) (before ++ (xs ++ after)) ≡ before ++ (filtered (maps_part w a b m) t at d c w e xs ++ after)
  edge_part e k xs long =
      let n = unit_side c in
      let first : line_start d (n * w) (n * cross_of d (edge_down a e)) (n * along_of d (edge_down a e)) ≡ length before + line_start d (n * w) (n * cross_of d e) (n * along_of d e) =
      start_down d n w a e (two_samples c) k.inner ∙ ap (λ (i : ℕ). i + line_start d (n * w) (n * cross_of d e) (n * along_of d e)) (sym start) in
      (λ i. window_at (mask_part m w a b d c e k.inner k.column k.below i) (strength_part m w a b t at d e k.inner k.column k.below i)
      (step_across d (n * w)) (step_along d (n * w)) (first i) n (before ++ (xs ++ after)))
      ∙ window_part before after (mask_at (maps_part w a b m) d c w e) (strength (maps_part w a b m) t at d w e) (step_across d (n * w)) (step_along d (n * w))
      (line_start d (n * w) (n * cross_of d e) (n * along_of d e)) n xs
      (λ j l. subst (λ (z : ℕ). line_start d (n * w) (n * cross_of d e) (n * along_of d e) + j * step_along d (n * w) + 3 * step_across d (n * w) < z) (sym long) (room d k j l)) where
        room : (d : Pass) → Lies d w 0 b e → (j : ℕ) → j < unit_side c
            → line_start d (unit_side c * w) (unit_side c * cross_of d e) (unit_side c * along_of d e) + j * step_along d (unit_side c * w) + 3 * step_across d (unit_side c * w) < places_of c w b
        room vertical k j l =
            omega (
              arith,
              inside (unit_side c) w b (two_samples c) vertical e.x e.y k.inner k.column k.below,
              mul-le-mul_right {m = j} {n = unit_side c - 1} (unit_side c * w) (omega arith),
            )
        room horizontal k j l =
            omega (arith, inside (unit_side c) w b (two_samples c) horizontal e.y e.x k.inner k.below k.column, mul-le-mul_right {m = j} {n = unit_side c - 1} 1 (omega arith))

  pub run_part : (l : List Edge) → ((e : Edge) → Memᴰ e l → Lies d w 0 b e) → (xs : List ℕ) → length xs ≡ places_of c w b
      → run (filtered m t at d c w) (map (edge_down a) l) (before ++ (xs ++ after)) ≡ before ++ (run (filtered (maps_part w a b m) t at d c w) l xs ++ after)
  unfolding run
  run_part [] h xs long = refl
  run_part (e ∷ l) h xs long =
      ap (run (filtered m t at d c w) (map (edge_down a) l)) (edge_part e (h e (Memᴰ.head refl)) xs long)
      ∙ run_part l (λ f i. h f (Memᴰ.tail i)) (filtered (maps_part w a b m) t at d c w e xs) (filtered_long (maps_part w a b m) t at d c w e xs ∙ long)

-- both passes: a part of b rows of units, from row a on, of a plane that is long enough
pub finished_part : (m : Maps) (t : List ℕ) (at : ℕ → ℕ) (c : Component) (w a b : ℕ) (ups levels : List Edge)
    → ((e : Edge) → Memᴰ e ups → Lies vertical w 0 b e) → ((e : Edge) → Memᴰ e levels → Lies horizontal w 0 b e)
    → (p : List ℕ) → places_of c w a + places_of c w b ≤ length p
    → finished m t at c w (map (edge_down a) ups) (map (edge_down a) levels) p ≡ in_part c w a b (finished (maps_part w a b m) t at c w ups levels) p
finished_part m t at c w a b ups levels hu hl p long =
    let before = take (places_of c w a) p in
    let rest = drop (places_of c w a) p in
    let xs = take (places_of c w b) rest in
    let after = drop (places_of c w b) rest in
    let n = length-drop (places_of c w a) p in
    let start : length before ≡ places_of c w a = length-take-le (places_of c w a) p (omega arith) in
    let size : length xs ≡ places_of c w b = length-take-le (places_of c w b) rest (omega arith) in
    let whole : p ≡ before ++ (xs ++ after) = sym (ap (λ (r : List ℕ). before ++ r) (take-append-drop (places_of c w b) rest) ∙ take-append-drop (places_of c w a) p) in
    let up = run (filtered (maps_part w a b m) t at vertical c w) ups xs in
    ap (finished m t at c w (map (edge_down a) ups) (map (edge_down a) levels)) whole
    ∙ ap (run (filtered m t at horizontal c w) (map (edge_down a) levels)) (run_part m t at vertical c w a b before after start ups hu xs size)
    ∙ run_part m t at horizontal c w a b before after start levels hl up (run_long (maps_part w a b m) t at vertical c w ups xs ∙ size)

-- ---- a band's list, further down

-- whether a unit lies above is the same in both places
abbrev Same-top : ℕ → ℕ → Type 0
Same-top y a = (0 < y) ⊎ (a ≡ 0)

-- what a pass asks for it
abbrev pub Keeps : Pass → ℕ → ℕ → Type 0
Keeps vertical y a = Unit {0}
Keeps horizontal y a = Same-top y a

keeps_below : (d : Pass) (y z a : ℕ) → y ≤ z → Keeps d y a → Keeps d z a
keeps_below vertical y z a l o = tt
keeps_below horizontal y z a l o = ⊎_elim (λ q. inl (omega arith)) inr o

pub stretch_v : (c y a n : ℕ) → stretch vertical c (y + a) n ≡ map (edge_down a) (stretch vertical c y n)
unfolding stretch
stretch_v c y a zero = refl
stretch_v c y a (suc n) = ap (λ (l : List Edge). edge c (y + a) ∷ l) (ap (λ (z : ℕ). stretch vertical c z n) (sym (suc-add y a)) ∙ stretch_v c (suc y) a n)

stretch_h : (c y a n : ℕ) → stretch horizontal (y + a) c n ≡ map (edge_down a) (stretch horizontal y c n)
unfolding stretch
stretch_h c y a zero = refl
stretch_h c y a (suc n) = ap (λ (l : List Edge). edge c (y + a) ∷ l) (stretch_h (suc c) y a n)

same_above : (y a : ℕ) → Same-top y a → ltb 0 (y + a) ≡ ltb 0 y
same_above y a = ⊎_elim (λ o. lt-ltb 0 (y + a) (omega arith) ∙ sym (lt-ltb 0 y o)) (λ (z : a ≡ 0). let e : y + a ≡ y = omega arith in ap (ltb 0) e)

near_down : (d : Pass) (a : ℕ) (q : Visit) → Keeps d q.y a → near_edge d (visit_down a q) ≡ map (edge_down a) (near_edge d q)
near_down vertical a q o = go (ltb 0 q.x) where
  go : (b : Bool) → pick b (stretch vertical q.x (q.y + a) q.tall) [] ≡ map (edge_down a) (pick b (stretch vertical q.x q.y q.tall) [])
  go true = stretch_v q.x q.y a q.tall
  go false = refl
near_down horizontal a q o = ap (λ (b : Bool). pick b (stretch horizontal (q.y + a) q.x q.wide) []) (same_above q.y a o) ∙ go (ltb 0 q.y) where
  go : (b : Bool) → pick b (stretch horizontal (q.y + a) q.x q.wide) [] ≡ map (edge_down a) (pick b (stretch horizontal q.y q.x q.wide) [])
  go true = stretch_h q.x q.y a q.wide
  go false = refl

each_down : (d : Pass) (a : ℕ) (l : List Visit) → ((q : Visit) → Memᴰ q l → Keeps d q.y a) → each (near_edge d) (map (visit_down a) l) ≡ map (edge_down a) (each (near_edge d) l)
unfolding each
each_down d a [] h = refl
each_down d a (q ∷ l) h = ap₂ ◌++◌ (near_down d a q (h q (Memᴰ.head refl))) (each_down d a l (λ r i. h r (Memᴰ.tail i))) ∙ sym (map_append (edge_down a) (near_edge d q) (each (near_edge d) l))

-- a leaf's visits
pub visits_down : (d : Pass) (halved : Bool) (a : ℕ) (p : Leaf) → visit_of d halved (leaf_down a p) ≡ map (visit_down a) (visit_of d halved p)
unfolding visit_of
visits_down d halved a p = go (halved && eqb p.side 16) where
  two : (d : Pass) → halves d p.x (p.y + a) ≡ map (visit_down a) (halves d p.x p.y)
  two vertical = refl
  two horizontal = let f : p.y + a + 8 ≡ p.y + 8 + a = omega arith in λ i. visit p.x (p.y + a) 16 8 ∷ visit p.x (f i) 16 8 ∷ []

  go : (b : Bool) → pick b (halves d p.x (p.y + a)) (visit p.x (p.y + a) p.side p.side ∷ []) ≡ map (visit_down a)
      (pick b (halves d p.x p.y) (visit p.x p.y p.side p.side ∷ []))
  go true = two d
  go false = refl

pub all_visits_down : (d : Pass) (halved : Bool) (a : ℕ) (l : List Leaf) → each (visit_of d halved) (map (leaf_down a) l) ≡ map (visit_down a) (each (visit_of d halved) l)
unfolding each
all_visits_down d halved a [] = refl
all_visits_down d halved a (p ∷ l) = ap₂ ◌++◌ (visits_down d halved a p) (all_visits_down d halved a l) ∙ sym (map_append (visit_down a) (visit_of d halved p) (each (visit_of d halved) l))

-- a visit starts at its leaf's first row or below it
visits_top : (d : Pass) (halved : Bool) (p : Leaf) (q : Visit) → Memᴰ q (visit_of d halved p) → p.y ≤ q.y
unfolding visit_of
visits_top d halved p q m = go (halved && eqb p.side 16) m where
  at : (x y wide tall : ℕ) → p.y ≤ y → q ≡ visit x y wide tall → p.y ≤ q.y
  at x y wide tall l z = subst (λ (r : Visit). p.y ≤ r.y) (sym z) l

  two : (d : Pass) → Memᴰ q (halves d p.x p.y) → p.y ≤ q.y
  two vertical i = ⊎_elim (at _ _ _ _ (omega arith)) (λ j. at _ _ _ _ (omega arith) (Memᴰ.eq_of_singleton j)) (Memᴰ.cases_cons i)
  two horizontal i = ⊎_elim (at _ _ _ _ (omega arith)) (λ j. at _ _ _ _ (omega arith) (Memᴰ.eq_of_singleton j)) (Memᴰ.cases_cons i)

  go : (b : Bool) → Memᴰ q (pick b (halves d p.x p.y) (visit p.x p.y p.side p.side ∷ [])) → p.y ≤ q.y
  go true i = two d i
  go false i = at _ _ _ _ (omega arith) (Memᴰ.eq_of_singleton i)

-- the edges of leaves that have a unit above them in both places, or in neither
pub edges_down : (d : Pass) (halved : Bool) (a : ℕ) (l : List Leaf) → ((p : Leaf) → Memᴰ p l → Keeps d p.y a) → edges_of d halved (map (leaf_down a) l) ≡ map (edge_down a) (edges_of d halved l)
edges_down d halved a l h = ap (each (near_edge d)) (all_visits_down d halved a l) ∙ each_down d a (each (visit_of d halved) l)
    (λ q i. let f = each_mem (visit_of d halved) l q i in keeps_below d f.one.y q.y a (visits_top d halved f.one q f.mine) (h f.one f.listed))

down_twice : (top a : ℕ) (l : List Leaf) → map (leaf_down (top + a)) l ≡ map (leaf_down a) (map (leaf_down top) l)
down_twice top a [] = refl
down_twice top a (p ∷ l) = let e : p.y + (top + a) ≡ p.y + top + a = omega arith in λ i. record { x = p.x; y = e i; side = p.side } ∷ down_twice top a l i

down_low : (top : ℕ) (l : List Leaf) (p : Leaf) → Memᴰ p (map (leaf_down top) l) → top ≤ p.y
down_low top [] p m = absurd (Memᴰ.not-nil m)
down_low top (q ∷ l) p m = ⊎_elim (λ (z : p ≡ leaf_down top q). subst (λ (r : Leaf). top ≤ r.y) (sym z) (omega arith)) (down_low top l p) (Memᴰ.cases_cons m)

pub list_down : (d : Pass) (halved : Bool) (top a : ℕ) → Keeps d top a → (s : List ℕ) (w n : ℕ) → list_from d halved (top + a) s w n ≡ map (edge_down a) (list_from d halved top s w n)
list_down d halved top a o s w n =
    ap (edges_of d halved) (down_twice top a (all_leaves s w n))
    ∙ edges_down d halved a (map (leaf_down top) (all_leaves s w n)) (λ p i. keeps_below d top p.y a (down_low top (all_leaves s w n) p i) o)
