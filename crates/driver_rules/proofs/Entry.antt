-- What the planes, the words, the modes and the keep bytes held before the call counts for nothing.
--     plane_alike    a component of a leaf in two planes that agree where units are done
--     step_alike, steps_alike    a leaf; the leaves of a list
--     held_for_nothing    the theorem
-- Assumes nothing.
use Rattle.std.specs.Prelude.{Ok}
use Prim.Native.Nat.{ℕ, ◌*◌, ◌/◌, ◌<◌}
use mathlib.Core.Path.{◌≡◌, refl, sym, ap, ◌∙◌, subst}
use mathlib.Core.Bool.{Bool, true}
use mathlib.Core.List.Memᴰ
use mathlib.Core.List.{List, [], ◌∷◌}
use lib.IntN.{ℤ}
use lib.ListN.{length, get_or}
use lib.Seq.{ext_get_or}
use Rattle.laws.specs.Index.{pick, tabulate}
use Rattle.laws.specs.Orders.{run}
use Rattle.laws.specs.Plane.{within}
use Rattle.laws.proofs.Tabulate.{length_tabulate}
use Rattle.def.specs.Blocks.{block_ok}
use Rattle.def.specs.Components.{plane_length}
use Rattle.def.specs.Formats.{in_format}
use Rattle.def.specs.Picture.{size_ok, unit_count}
use Rattle.def.specs.Units.{unit_at}
use Rattle.def.specs.Word.{done_of}
use Rattle.def.specs.declared.Component.{Component}
use Rattle.def.specs.declared.Component.TheVariants.{Luma, Chroma}
use Rattle.def.specs.declared.Format.{Format}
use Rattle.def.specs.declared.Format.TheVariants.{Grey, Colour}
use Rattle.def.proofs.Sizes.{sized}
use Rattle.ipred.specs.Modes.{predicted, block_of}
use Rattle.nbr.specs.Gather.{Around, side_of, run_of}
use Rattle.recon.specs.Recon.{block_at}
use Rattle.split.specs.Walk.{Leaf}
use Rattle.split.proofs.Roots.{some_wide}
use Rattle.driver_rules.specs.Asked.{DoneAs, GivenAsked, StateAsked}
use Rattle.driver_rules.specs.Call.{Input, check_of, check, leaves_of, start, end, outcome}
use Rattle.driver_rules.specs.Entry.{SameButHeld, HeldForNothing}
use Rattle.driver_rules.specs.Records.{is_mode}
use Rattle.driver_rules.specs.Steps.{Given, State, around_of, lent_at, prediction_of, plane_of, with_units, step_at, step, steps}
use Rattle.driver_rules.proofs.Checks.{all_passed, outcome_done}
use Rattle.driver_rules.proofs.Components.{in_plane, run_same, plane_is}
use Rattle.driver_rules.proofs.Finished.{Fits, fits, last, all_done_lem}
use Rattle.driver_rules.proofs.Small.{at_block, none_done, done_none, either, done_more, every_place, whole_as}
use Rattle.driver_rules.proofs.States.{nothing, step_asked}

-- the samples of units that are done are the same
abbrev PlaneSame : (c : Component) (w h : ℕ) (plane other words : List ℕ) → Type 0
PlaneSame c w h plane other words = DoneAs c w h (◌≡◌ {A = ℕ}) plane other words

-- ---- a component

prediction_same : (a : Around) (other : List ℕ) (kind : ℕ) (lent : List ℕ) → run_of a ≡ run_of (in_plane a other) → prediction_of a kind lent ≡ prediction_of (in_plane a other) kind lent
unfolding prediction_of
prediction_same a other kind lent e = let n = side_of a.component a.side in (λ k. pick (is_mode kind) (block_of n (predicted kind n (e k))) (block_of n (lent_at a lent)))

plane_alike : (a : Around) (other lent : List ℕ) (kind : ℕ) (coded : Bool) (coef : List ℤ) (word : ℕ) → size_ok a.w a.h ≡ true → block_ok a.w a.h a.x a.y a.side ≡ true
    → length a.plane ≡ plane_length a.component a.w a.h → length other ≡ plane_length a.component a.w a.h → length a.words ≡ unit_count a.w a.h
    → PlaneSame a.component a.w a.h a.plane other a.words
    → PlaneSame a.component a.w a.h (plane_of a kind lent coded coef) (plane_of (in_plane a other) kind lent coded coef) (with_units a.w a.x a.y a.side word a.words)
plane_alike a other lent kind coded coef word s b ep eo ew d =
    let size = sized a.w a.h s in
    let n = side_of a.component a.side in
    let e = prediction_same a other kind lent (run_same a size.by_four size.by_four_down other d) in
    rw (plane_is a kind lent coded coef, plane_is (in_plane a other) kind lent coded coef)
    (done_more a.component a.w a.h a.x a.y a.side s b (◌≡◌ {A = ℕ}) a.plane other a.words ep eo ew
    (block_at coded (prediction_of a kind lent) coef n) (block_at coded (prediction_of (in_plane a other) kind lent) coef n) (λ i j k. block_at coded (e k) coef n i j) word d)

-- ---- a map of units

pub record UnitsSame (w h : ℕ) (map other words : List ℕ) : Type 0 where
  pub each : (u v : ℕ) → u < w / 4 → v < h / 4 → done_of (unit_at w words u v) ≡ true → unit_at w map u v ≡ unit_at w other u v

module _ (w h x y side value word : ℕ) (map other words : List ℕ) (em : length map ≡ unit_count w h) (eo : length other ≡ unit_count w h) (ew : length words ≡ unit_count w h) where
  told_at : (v : ℕ) (l : List ℕ) → length l ≡ unit_count w h → (c r : ℕ) → c < w / 4 → r < h / 4
      → unit_at w (with_units w x y side v l) c r ≡ pick (within (y / 4) (side / 4) r) (pick (within (x / 4) (side / 4) c) v (unit_at w l c r)) (unit_at w l c r)
  told_at v l e c r p q = at_block 0 (w / 4) (h / 4) (x / 4) (y / 4) (side / 4) (side / 4) (λ (i j : ℕ). v) l e c r p q

  units_alike : UnitsSame w h map other words → UnitsSame w h (with_units w x y side value map) (with_units w x y side value other) (with_units w x y side word words)
  units_alike d =
      record {
        each = λ c r p q e.
            rw (told_at value map em c r p q, told_at value other eo c r p q)
            (either (◌≡◌ {A = ℕ}) (within (y / 4) (side / 4) r) (within (x / 4) (side / 4) c) value value _ _ word _ refl (d.each c r p q) (rw (told_at word words ew c r p q) at e));
      }

-- ---- a leaf

pub record Alike (g : Given) (s t : State) : Type 0 where
  pub y : PlaneSame Luma g.w g.h s.y t.y s.words
  pub u : g.format ≡ Colour → PlaneSame Chroma g.w g.h s.u t.u s.words
  pub v : g.format ≡ Colour → PlaneSame Chroma g.w g.h s.v t.v s.words
  pub modes : UnitsSame g.w g.h s.modes t.modes s.words
  pub keep : UnitsSame g.w g.h s.keep t.keep s.words
  pub words : s.words ≡ t.words
  pub place : s.place ≡ t.place

module _ (g : Given) (ga : GivenAsked g) where
  -- where the words and the places are one
  abbrev held : State → State → State
  held s t = record { y = t.y; u = t.u; v = t.v; words = s.words; modes = t.modes; keep = t.keep; place = s.place }

  module _ (x y side : ℕ) (s t : State) (sa : StateAsked g s) (ta : StateAsked g t) (b : block_ok g.w g.h x y side ≡ true) (a : Alike g s t) where
    colour : (plane other lent : List ℕ) (kind : ℕ) (coded : Bool) (coef : List ℤ) (word : ℕ)
        → length plane ≡ in_format g.format (plane_length Chroma g.w g.h) → length other ≡ in_format g.format (plane_length Chroma g.w g.h)
        → (g.format ≡ Colour → PlaneSame Chroma g.w g.h plane other s.words) → g.format ≡ Colour
        → PlaneSame Chroma g.w g.h (plane_of (around_of g Chroma x y side plane s.words) kind lent coded coef)
        (plane_of (around_of g Chroma x y side other s.words) kind lent coded coef) (with_units g.w x y side word s.words)
    colour plane other lent kind coded coef word ep eo d c =
        plane_alike (around_of g Chroma x y side plane s.words) other lent kind coded coef word ga.size b (rw c at ep) (rw c at eo) sa.words_long (d c)

    step_held : Alike g (step_at g x y side s) (step_at g x y side (held s t))
    unfolding step_at
    step_held =
        record {
          y = plane_alike (around_of g Luma x y side s.y s.words) t.y g.pred_y _ _ _ _ ga.size b sa.y_long ta.y_long sa.words_long a.y;
          u = colour s.u t.u g.pred_u _ _ _ _ sa.u_long ta.u_long a.u;
          v = colour s.v t.v g.pred_v _ _ _ _ sa.v_long ta.v_long a.v;
          modes = units_alike g.w g.h x y side _ _ s.modes t.modes s.words sa.modes_long ta.modes_long sa.words_long a.modes;
          keep = units_alike g.w g.h x y side _ _ s.keep t.keep s.words sa.keep_long ta.keep_long sa.words_long a.keep;
          words = refl;
          place = refl;
        }

    step_alike : Alike g (step_at g x y side s) (step_at g x y side t)
    step_alike =
        let same : held s t ≡ t = (λ k. record { y = t.y; u = t.u; v = t.v; words = a.words k; modes = t.modes; keep = t.keep; place = a.place k }) in
        subst (λ (r : State). Alike g (step_at g x y side s) (step_at g x y side r)) same step_held

  -- ---- the leaves of a list

  steps_alike : (l : List Leaf) (s t : State) → Fits g ga l → StateAsked g s → StateAsked g t → Alike g s t → Alike g (steps g l s) (steps g l t)
  unfolding run
  steps_alike [] s t f sa ta a = a
  steps_alike (p ∷ l) s t f sa ta a =
      let b = f p (Memᴰ.head refl) in
      steps_alike l (step g p s) (step g p t) (λ q m. f q (Memᴰ.tail m)) (step_asked g _ _ _ s ga sa b) (step_asked g _ _ _ t ga ta b)
      (step_alike (4 * p.x) (4 * p.y) (4 * p.side) s t sa ta b a)

-- ---- the theorem

module _ (i j : Input) (e : SameButHeld i j) where
  same_check : check i ≡ check j
  same_check = (λ k. let g = e.given k in
      check_of g.w g.h g.format (e.splits k) g.leaves (length g.residual) g.pred_y g.pred_u g.pred_v (e.y k) (e.u k) (e.v k) (e.words k) (e.modes k) (e.keep k))

  -- the second call's input, with what the two have in common taken from the first
  abbrev again : Input
  again = record { given = i.given; splits = i.splits; y = j.y; u = j.u; v = j.v; words = j.words; modes = j.modes; keep = j.keep }

  is_again : again ≡ j
  is_again = (λ k. record { given = e.given k; splits = e.splits k; y = j.y; u = j.u; v = j.v; words = j.words; modes = j.modes; keep = j.keep })

  module _ (accepted : check i ≡ Ok tt) where
    abbrev w : ℕ
    w = i.given.w

    abbrev h : ℕ
    h = i.given.h

    too : check again ≡ Ok tt
    too = ap check is_again ∙ sym same_check ∙ accepted

    size : size_ok w h ≡ true
    size = (all_passed i accepted).accepted.size

    words_all : length i.words ≡ unit_count w h
    words_all = sym (length_tabulate (λ (k : ℕ). 0) (length i.words)) ∙ (all_passed i accepted).state.words_long

    alike : Alike i.given (end i) (end again)
    alike =
        let p = all_passed i accepted in
        let q = all_passed again too in
        steps_alike i.given p.given (leaves_of w h i.splits) (start i) (start again) (fits i accepted) p.state q.state
        (record {
          y = done_none Luma w h (◌≡◌ {A = ℕ}) i.y j.y (length i.words) size words_all;
          u = λ c. done_none Chroma w h (◌≡◌ {A = ℕ}) i.u j.u (length i.words) size words_all;
          v = λ c. done_none Chroma w h (◌≡◌ {A = ℕ}) i.v j.v (length i.words) size words_all;
          modes = record { each = λ u v p q d. absurd (none_done w h (length i.words) u v words_all p q d) };
          keep = record { each = λ u v p q d. absurd (none_done w h (length i.words) u v words_all p q d) };
          words = ap (λ (n : ℕ). tabulate n (λ (k : ℕ). 0)) e.words;
          place = refl;
        })

    one_plane : (c : Component) (plane other : List ℕ) → length plane ≡ plane_length c w h → length other ≡ plane_length c w h → PlaneSame c w h plane other (end i).words → plane ≡ other
    one_plane c plane other ep eo d = ext_get_or 0 plane other (ep ∙ sym eo) (λ k p. whole_as c w h (◌≡◌ {A = ℕ}) plane other (end i).words size d (all_done_lem i accepted) k (rw ep at p))

    one_colour : (plane other : List ℕ) → length plane ≡ in_format i.given.format (plane_length Chroma w h) → length other ≡ in_format i.given.format (plane_length Chroma w h)
        → (i.given.format ≡ Colour → PlaneSame Chroma w h plane other (end i).words) → plane ≡ other
    one_colour plane other ep eo d = go i.given.format refl where
      go : (f : Format) → i.given.format ≡ f → plane ≡ other
      go Grey c = nothing plane other (rw c at ep) (rw c at eo)
      go Colour c = one_plane Chroma plane other (rw c at ep) (rw c at eo) (d c)

    one_map : (map other : List ℕ) → length map ≡ unit_count w h → length other ≡ unit_count w h → UnitsSame w h map other (end i).words → map ≡ other
    one_map map other em eo d =
        ext_get_or 0 map other (em ∙ sym eo)
        (λ k p. every_place (w / 4) (h / 4) (some_wide (sized w h size)) (λ (m : ℕ). get_or map m 0 ≡ get_or other m 0) (λ u v a b. d.each u v a b (all_done_lem i accepted u v a b)) k (rw em at p))

    all_same : outcome i ≡ outcome j
    all_same =
        let a = last i accepted in
        let b = last again too in
        let y = one_plane Luma _ _ a.y_long b.y_long alike.y in
        let u = one_colour _ _ a.u_long b.u_long alike.u in
        let v = one_colour _ _ a.v_long b.v_long alike.v in
        let modes = one_map _ _ a.modes_long b.modes_long alike.modes in
        let keep = one_map _ _ a.keep_long b.keep_long alike.keep in
        outcome_done i accepted
        ∙ (λ k. record { number = 0; y = y k; u = u k; v = v k; words = alike.words k; modes = modes k; keep = keep k })
        ∙ sym (outcome_done again too) ∙ ap outcome is_again

  pub held_for_nothing : HeldForNothing i j
  held_for_nothing = record { answer = same_check; all = all_same }
