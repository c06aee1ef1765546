-- Two calls that are lent the same luma data leave the same luma plane, words, modes and keep bytes, whatever their formats.
--     step_same    a leaf
--     steps_same    the leaves of a list
--     same_luma    the theorem
-- Assumes nothing.
use Rattle.std.specs.Prelude.{Ok}
use Prim.Native.Nat.{ℕ, suc, ◌*◌}
use mathlib.Core.Path.{◌≡◌, refl, sym, ap, ◌∙◌}
use mathlib.Core.Bool.{Bool, true, false}
use mathlib.Core.List.{List, [], ◌∷◌}
use native.Mathlib.Omega.{arith}
use lib.IntN.{ℤ}
use Rattle.laws.specs.Index.{pick}
use Rattle.laws.specs.Orders.{run}
use Rattle.def.specs.Word.{leaf_word}
use Rattle.def.specs.declared.Component.TheVariants.{Luma}
use Rattle.nbr.specs.Gather.{Around}
use Rattle.split.specs.Walk.{Leaf}
use Rattle.driver_rules.specs.Call.{Input, leaves_of, check, start, end, outcome}
use Rattle.driver_rules.specs.Entry.{HeldForNothing}
use Rattle.driver_rules.specs.Luma.{luma_residual, SameLeaf, SameLeaves, SameGiven, SameLuma, LumaAgrees}
use Rattle.driver_rules.specs.Records.{is_mode}
use Rattle.driver_rules.specs.Steps.{Given, State, plane_of, with_units, step_at, step, steps}
use Rattle.driver_rules.proofs.Checks.{outcome_done}
use Rattle.driver_rules.proofs.Components.{plane_uncoded}
use Rattle.driver_rules.proofs.Entry.{held_for_nothing}

-- ---- a leaf

plane_same : (a : Around) (kind : ℕ) (lent : List ℕ) (coded : Bool) (coef other : List ℤ) → (coded ≡ true → coef ≡ other) → plane_of a kind lent coded coef ≡ plane_of a kind lent coded other
plane_same a kind lent true coef other e = ap (plane_of a kind lent true) (e refl)
plane_same a kind lent false coef other e = plane_uncoded a kind lent coef other

pub record Agree (s t : State) : Type 0 where
  pub y : s.y ≡ t.y
  pub words : s.words ≡ t.words
  pub modes : s.modes ≡ t.modes
  pub keep : s.keep ≡ t.keep

module _ (g o : Given) (e : SameGiven g o) where
  step_same : (x y side : ℕ) (s t : State) → Agree s t → SameLeaf g o side s.place t.place → Agree (step_at g x y side s) (step_at o x y side t)
  unfolding step_at
  step_same x y side s t a l =
      record {
        y =
            plane_same _ _ _ _ (luma_residual g side s.place) (luma_residual o side t.place) l.residual
            ∙ (λ k. plane_of
            (record { component = Luma; w = e.w k; h = e.h k; plane = a.y k; words = a.words k; x = x; y = y; side = side; constrained = e.constrained k })
            (l.kind k) (e.pred_y k) (l.coded k) (luma_residual o side t.place));
        words = (λ k. with_units (e.w k) x y side (leaf_word (is_mode (l.kind k)) (l.qp k) (l.coded k)) (a.words k));
        modes = (λ k. with_units (e.w k) x y side (pick (is_mode (l.kind k)) (l.kind k) 255) (a.modes k));
        keep = (λ k. with_units (e.w k) x y side (l.keep k) (a.keep k));
      }

  -- ---- the leaves of a list

  steps_same : (l : List Leaf) (s t : State) → Agree s t → SameLeaves g o l s.place t.place → Agree (steps g l s) (steps o l t)
  unfolding run step_at
  steps_same [] s t a f = a
  steps_same (p ∷ l) s t a f =
      steps_same l (step g p s) (step o p t) (step_same (4 * p.x) (4 * p.y) (4 * p.side) s t a (f 0 (omega arith)))
      (λ n q. f (suc n) (omega (arith, q)))

-- ---- the theorem

module _ (i j : Input) (e : SameLuma i j) where
  -- the second call's input, with what the first held in the luma plane and the maps
  abbrev alike : Input
  alike = record { given = j.given; splits = j.splits; y = i.y; u = j.u; v = j.v; words = i.words; modes = i.modes; keep = i.keep }

  held : HeldForNothing j alike
  held = held_for_nothing j alike (record { given = refl; splits = refl; y = sym e.y; u = refl; v = refl; words = sym e.words; modes = sym e.modes; keep = sym e.keep })

  same_leaves : leaves_of i.given.w i.given.h i.splits ≡ leaves_of j.given.w j.given.h j.splits
  same_leaves = (λ k. leaves_of (e.given.w k) (e.given.h k) (e.splits k))

  same_end : Agree (end i) (end alike)
  same_end =
      rw (← same_leaves)
      (steps_same i.given j.given e.given (leaves_of i.given.w i.given.h i.splits) (start i) (start alike)
      (record { y = refl; words = refl; modes = refl; keep = refl }) e.leaves)

  pub same_luma : check i ≡ Ok tt → check j ≡ Ok tt → LumaAgrees (outcome i) (outcome j)
  same_luma c d =
      rw (held.all d, outcome_done i c, outcome_done alike (sym held.answer ∙ d))
      (record { y = same_end.y; words = same_end.words; modes = same_end.modes; keep = same_end.keep })
