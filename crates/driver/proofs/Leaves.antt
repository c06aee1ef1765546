-- A leaf, from what its functions leave.
--     planes_asked, colour_asked, told    what its components and its units ask
--     told_leaf    its units, told
--     colour_drawn, colour_none, planes_drawn    its components, and a grey picture's U and V
--     leaves_start, leaves_next, leaves_asked    the first leaves of a list
--     kept    the lengths of what is written
--     ended, done_ended    the planes and the maps of the last state, and the call's outcome
-- Assumes nothing.
use Prim.Native.Nat.{ℕ, ◌+◌, ◌*◌, ◌/◌, ◌≤◌}
use mathlib.Core.Path.{◌≡◌, sym, ap, ◌∙◌}
use mathlib.Core.Bool.{Bool, true}
use mathlib.Core.List.{List, []}
use native.Mathlib.Nat.{mul-le-mul_right, mul_comm}
use native.Mathlib.Omega.{arith}
use lib.IntN.{ℤ}
use lib.ListN.{length, get_or}
use Rattle.laws.specs.Index.{pick, tabulate}
use Rattle.def.specs.Blocks.{block_ok}
use Rattle.def.specs.Picture.{size_ok, unit_count}
use Rattle.def.specs.Word.{leaf_word}
use Rattle.def.specs.declared.Component.TheVariants.{Luma, Chroma}
use Rattle.def.specs.declared.Format.{Format}
use Rattle.def.proofs.Blocks.{blocked}
use Rattle.def.proofs.Sizes.{sized}
use Rattle.nbr.proofs.Sides.{four}
use Rattle.split.specs.Stored.{leaves_from}
use Rattle.driver_rules.specs.Asked.{GivenAsked, StateAsked, Stepped}
use Rattle.driver_rules.specs.Call.{Input, leaves_of, done}
use Rattle.driver_rules.specs.Records.{kind_at, record_qp, record_mask, keep_at, is_mode, coded_y, coded_u, coded_v, most_mask, residual_count, start_u, walked_to, passed}
use Rattle.driver_rules.specs.Steps.{Given, State, step_at, steps}
use Rattle.driver_rules.proofs.States.{plane_none, mask_of_y, asked_y, asked_u, asked_v}
use Rattle.driver_rules.proofs.Walked.{one_leaf, leaves_none, leaves_more, stepped_place}
use Rattle.unit_maps.specs.Maps.{Maps, maps_of, Inside, told_maps}
use Rattle.unit_maps.proofs.Inside.{told_all}
use Rattle.driver.specs.Lends.{given_of, state_of, leaf_in, told_to, ColourDrawn, Drawn, ColourAsked, PlanesAsked, Ended}
use Rattle.driver.specs.declared.walk.Leaf.{Leaf}

-- the leaf is a block of a picture of w by h
abbrev pub IsBlock : (w h : ℕ) → Leaf → Type 0
IsBlock w h leaf = block_ok w h leaf.x.0 leaf.y.0 leaf.side ≡ true

module _ {w h : ℕ} {format : Format} {constrained : Bool} {leaves : List ℕ} {residual : List ℤ} {py pu pv : List ℕ} where
  pub planes_asked : {y u v words modes keep : List ℕ} {at k : ℕ} (leaf : Leaf) (mask : ℕ) → GivenAsked (given_of w h format constrained leaves residual py pu pv)
      → StateAsked (given_of w h format constrained leaves residual py pu pv) (state_of y u v words modes keep at k) → IsBlock w h leaf → mask ≤ most_mask format
      → PlanesAsked (given_of w h format constrained [] residual py pu pv) leaf mask words y u v
  planes_asked leaf mask ga sa b m =
      record {
        y_lent = ga.lent_y;
        y_asked = asked_y _ _ _ _ _ ga sa b;
        colour =
            record {
              u_lent = ga.lent_u;
              v_lent = ga.lent_v;
              u_asked = asked_u _ _ _ _ _ ga sa b;
              v_asked = asked_v _ _ _ _ _ ga sa b;
              u_long = sa.u_long;
              v_long = sa.v_long;
              masked = m;
            };
      }

  -- U and V ask nothing of Y's prediction
  pub colour_asked : {leaf : Leaf} {mask : ℕ} {words u v : List ℕ} → ColourAsked (given_of w h format constrained leaves residual py pu pv) leaf mask words u v
      → ColourAsked (given_of w h format constrained leaves residual [] pu pv) leaf mask words u v
  colour_asked k =
      record {
        u_lent = k.u_lent;
        v_lent = k.v_lent;
        u_asked = k.u_asked;
        v_asked = k.v_asked;
        u_long = k.u_long;
        v_long = k.v_long;
        masked = k.masked;
      }

-- the components one after another, each where the one before ended in the residual list
module _ (g : Given) (leaf : Leaf) (kind mask at : ℕ) (words u v : List ℕ) where
  pub colour_drawn : {u' v' : List ℕ} {coded-u coded-v : Bool} {a end : ℕ} → coded-u ≡ coded_u mask → coded-v ≡ coded_v mask
      → (u' ≡ leaf_in g Chroma leaf kind g.pred_u coded-u at u words) × (a ≡ at + residual_count Chroma coded-u leaf.side)
      → (v' ≡ leaf_in g Chroma leaf kind g.pred_v coded-v a v words) × (end ≡ a + residual_count Chroma coded-v leaf.side) → ColourDrawn g leaf kind mask at words u v u' v' end
  colour_drawn {a = a} eu ev p q =
      let first : a ≡ at + residual_count Chroma (coded_u mask) leaf.side = p.1 ∙ rw eu in
      record { u_drawn = p.0 ∙ rw eu; v_drawn = q.0 ∙ rw (first, ev); ends = q.1 ∙ rw (first, ev) }

  pub colour_none : length u ≡ 0 → length v ≡ 0 → mask ≤ 1 → ColourDrawn g leaf kind mask at words u v u v at
  colour_none eu ev m =
      let e = mask_of_y mask m in
      record { u_drawn = sym (plane_none _ _ _ _ _ eu); v_drawn = sym (plane_none _ _ _ _ _ ev); ends = rw (e.0, e.1) (omega arith) }

  pub planes_drawn : (y : List ℕ) {y' u' v' : List ℕ} {coded-y : Bool} {a end : ℕ} → coded-y ≡ coded_y mask
      → (y' ≡ leaf_in g Luma leaf kind g.pred_y coded-y at y words) × (a ≡ at + residual_count Luma coded-y leaf.side)
      → ColourDrawn (given_of g.w g.h g.format g.constrained [] g.residual [] g.pred_u g.pred_v) leaf kind mask a words u v u' v'
      end → Drawn g leaf kind mask at words y u v y' u' v' end
  planes_drawn y {a = a} ey p q =
      let first : a ≡ start_u at mask leaf.side = p.1 ∙ rw ey in
      record { y_drawn = p.0 ∙ rw ey; u_drawn = q.u_drawn ∙ rw first; v_drawn = q.v_drawn ∙ rw first; ends = q.ends ∙ rw first }

pub told : (w h : ℕ) (leaf : Leaf) (words modes keep : List ℕ) → size_ok w h ≡ true → IsBlock w h leaf
    → length words ≡ unit_count w h → length modes ≡ unit_count w h → length keep ≡ unit_count w h
    → Inside (w / 4) (leaf.x.0 / 4) (leaf.y.0 / 4) (leaf.side / 4) words modes keep
told w h leaf words modes keep s b e f d =
    let n = sized w h s in
    let k = blocked w h leaf.x.0 leaf.y.0 leaf.side b in
    let column = four leaf.x.0 leaf.side k.side_ok k.column in
    let row = four leaf.y.0 leaf.side k.side_ok k.row in
    let rows : leaf.y.0 / 4 + leaf.side / 4 ≤ h / 4 = omega (arith, k.by_four, k.inside_down) in
    let below : (leaf.y.0 / 4 + leaf.side / 4) * (w / 4) ≤ unit_count w h = omega (arith, mul-le-mul_right (w / 4) rows, mul_comm (h / 4) (w / 4)) in
    record {
      wide = omega (arith, n.wide);
      high = omega (arith, n.high);
      right = omega (arith, k.by_four, k.inside);
      in_words = rw e below;
      in_modes = rw f below;
      in_keep = rw d below;
    }

-- its units lie in the maps: what `tell_units` leaves is the leaf told
pub told_leaf : (w : ℕ) (leaf : Leaf) (said kind mark : ℕ) {x y word mode : ℕ} {words modes keep words' modes' keep' : List ℕ} → x ≡ leaf.x.0 / 4 → y ≡ leaf.y.0 / 4
    → word ≡ said → mode ≡ kind → Inside (w / 4) (leaf.x.0 / 4) (leaf.y.0 / 4) (leaf.side / 4) words modes keep
    → maps_of words' modes' keep' ≡ told_maps (w / 4) x y (leaf.side / 4) word mode mark (maps_of words modes keep)
    → (words' ≡ told_to w leaf said words) × (modes' ≡ told_to w leaf kind modes) × (keep' ≡ told_to w leaf mark keep)
told_leaf w leaf said kind mark ex ey ew em i q =
    let e = (rw (ex, ey, ew, em) at q) ∙ told_all _ _ _ _ _ _ _ said kind mark i in
    (ap (λ (m : Maps). m.words) e, ap (λ (m : Maps). m.modes) e, ap (λ (m : Maps). m.keep) e)

-- ---- one leaf more of a list: leaf k + j is numbered from the list's first

module _ {g : Given} {y u v words modes keep : List ℕ} {end : ℕ} where
  pub leaves_start : (list : List ℕ) (k : ℕ) → StateAsked g (state_of y u v words modes keep end k)
      → Stepped g (leaves_from list 0) (state_of y u v words modes keep end k) (state_of y u v words modes keep end (k + 0))
  leaves_start list k h = let e : k + 0 ≡ k = omega arith in rw e (leaves_none g list _ h)

  pub leaves_asked : {s : State} (list : List ℕ) (k j : ℕ) → Stepped g (leaves_from list j) s (state_of y u v words modes keep end (k + j))
      → walked_to end (k + j) ≡ passed g.leaves (leaves_from list j) s.place
  leaves_asked list k j a = stepped_place g (leaves_from list j) _ _ a

module _ (g : Given) {leaf : Leaf} {kind qp mask mark at end : ℕ} {y u v words modes keep y' u' v' words' modes' keep' : List ℕ} where
  pub leaves_next : {s : State} (list : List ℕ) (k j : ℕ) → GivenAsked g → IsBlock g.w g.h leaf
      → (leaf.x.0 ≡ get_or list (3 * j) 0) × (leaf.y.0 ≡ get_or list (3 * j + 1) 0) × (leaf.side ≡ get_or list (3 * j + 2) 0)
      → (kind ≡ kind_at g.leaves (k + j)) × (qp ≡ record_qp g.leaves (k + j)) × (mask ≡ record_mask g.leaves (k + j)) × (mark ≡ keep_at g.leaves (k + j))
      → Drawn (given_of g.w g.h g.format g.constrained [] g.residual g.pred_y g.pred_u g.pred_v) leaf kind mask at words y u v y' u' v' end
      → (words' ≡ told_to g.w leaf (leaf_word (is_mode kind) qp (coded_y mask)) words) × (modes' ≡ told_to g.w leaf (pick (is_mode kind) kind 255) modes)
      × (keep' ≡ told_to g.w leaf mark keep)
      → Stepped g (leaves_from list j) s (state_of y u v words modes keep at (k + j)) → Stepped g (leaves_from list (j + 1)) s (state_of y' u' v' words' modes' keep' end (k + (j + 1)))
  unfolding step_at
  leaves_next {s = s} list k j ga b place e d t a =
      let n : k + (j + 1) ≡ k + j + 1 = omega arith in
      let one = one_leaf g leaf.x.0 leaf.y.0 leaf.side _ _ ga a.asked b drawn in
      rw n (leaves_more g list j s _ _ a (rw (place.0, place.1, place.2) at one)) where
        drawn : state_of y' u' v' words' modes' keep' end (k + j + 1) ≡ step_at g leaf.x.0 leaf.y.0 leaf.side (state_of y u v words modes keep at (k + j))
        drawn = rw (d.y_drawn, d.u_drawn, d.v_drawn, d.ends, t.0, t.1, t.2, e.0, e.1, e.2, e.3)

-- lengths stay
pub record Kept (s t : State) : Type 0 where
  pub y_kept : length t.y ≡ length s.y
  pub u_kept : length t.u ≡ length s.u
  pub v_kept : length t.v ≡ length s.v
  pub words_kept : length t.words ≡ length s.words
  pub modes_kept : length t.modes ≡ length s.modes
  pub keep_kept : length t.keep ≡ length s.keep

pub kept : (g : Given) (s t : State) → StateAsked g s → StateAsked g t → Kept s t
kept g s t a b =
    record {
      y_kept = b.y_long ∙ sym a.y_long;
      u_kept = b.u_long ∙ sym a.u_long;
      v_kept = b.v_long ∙ sym a.v_long;
      words_kept = b.words_long ∙ sym a.words_long;
      modes_kept = b.modes_long ∙ sym a.modes_long;
      keep_kept = b.keep_long ∙ sym a.keep_long;
    }

-- ---- the planes and the maps of a state

pub ended : {s : State} {y u v words modes keep : List ℕ} {at k : ℕ} → state_of y u v words modes keep at k ≡ s → Ended s y u v words modes keep
ended e =
    record {
      y_end = ap (λ (s : State). s.y) e;
      u_end = ap (λ (s : State). s.u) e;
      v_end = ap (λ (s : State). s.v) e;
      words_end = ap (λ (s : State). s.words) e;
      modes_end = ap (λ (s : State). s.modes) e;
      keep_end = ap (λ (s : State). s.keep) e;
    }

-- as the call's outcome: the words were cleared first
pub done_ended : (i : Input) {words y' u' v' words' modes' keep' : List ℕ} → words ≡ tabulate (length i.words) (λ (k : ℕ). 0)
    → Ended (steps i.given (leaves_of i.given.w i.given.h i.splits) (state_of i.y i.u i.v words i.modes i.keep 0 0)) y' u' v' words' modes' keep'
    → record { number = 0; y = y'; u = u'; v = v'; words = words'; modes = modes'; keep = keep' } ≡ done i
done_ended i e d = let f = rw e at d in rw (f.y_end, f.u_end, f.v_end, f.words_end, f.modes_end, f.keep_end)
