-- The state leaf by leaf: what each leaf asks of it holds after the leaf before.
--     plane_none    a plane of no samples stays as it is
--     mask_of_y    a mask of Y alone has no residuals of U and V
--     step_asked    a leaf more
--     steps_place    how far the walk has come
--     Stepped, stepped_none, stepped-one, stepped_then    the leaves of a list, one more, and another list's after them
-- Assumes nothing.
use Prim.Native.Nat.{ℕ, ◌+◌, ◌*◌, ◌/◌, ◌%◌, ◌≤◌}
use mathlib.Core.Path.{◌≡◌, refl, sym, ap, ◌∙◌, subst}
use mathlib.Core.Bool.{Bool, true, false}
use mathlib.Core.List.{List, [], ◌∷◌, ◌++◌}
use native.Mathlib.Omega.{arith}
use borrow.Author.Tests.{ne_eqb}
use lib.IntN.{ℤ}
use lib.ListN.{length, get_or-eq_default}
use Rattle.laws.specs.Bits.{field_of}
use Rattle.laws.specs.Orders.{run}
use Rattle.laws.proofs.Orders.{run_append}
use Rattle.laws.proofs.Planes.{length_block}
use Rattle.def.specs.Blocks.{block_ok}
use Rattle.def.specs.Components.{scale_of, plane_length}
use Rattle.def.specs.Formats.{in_format}
use Rattle.def.specs.Word.{flag_at}
use Rattle.def.specs.declared.Component.{Component}
use Rattle.def.specs.declared.Component.TheVariants.{Luma, Chroma}
use Rattle.def.specs.declared.Format.{Format}
use Rattle.def.specs.declared.Format.TheVariants.{Grey, Colour}
use Rattle.nbr.specs.Gather.{Around}
use Rattle.recon.specs.Recon.{block_at}
use Rattle.recon.proofs.Promises.{recon_at_small}
use Rattle.split.specs.Walk.{Leaf}
use Rattle.driver_rules.specs.Asked.{Small, DoneSmall, BlockAsked, LentAsked, GivenAsked, StateAsked, Stepped}
use Rattle.driver_rules.specs.Records.{coded_u, coded_v, passed}
use Rattle.driver_rules.specs.Steps.{Given, State, around_of, plane_of, prediction_of, with_units, step_at, step, steps}
use Rattle.driver_rules.proofs.Components.{plane_is, prediction_small}
use Rattle.driver_rules.proofs.Small.{done_more}

-- ---- one component

pub plane_kept : (a : Around) (kind : ℕ) (lent : List ℕ) (coded : Bool) (coef : List ℤ) → length (plane_of a kind lent coded coef) ≡ length a.plane
plane_kept a kind lent coded coef = ap length (plane_is a kind lent coded coef) ∙ length_block 0 _ _ _ _ _ _ a.plane

-- ---- what a grey picture has not

pub nothing : {A : Type 0} (l m : List A) → length l ≡ 0 → length m ≡ 0 → l ≡ m
nothing [] [] e f = refl
nothing (x ∷ l) m e f = absurd (omega (arith, e))
nothing [] (x ∷ m) e f = absurd (omega (arith, f))

pub plane_none : (a : Around) (kind : ℕ) (lent : List ℕ) (coded : Bool) (coef : List ℤ) → length a.plane ≡ 0 → plane_of a kind lent coded coef ≡ a.plane
plane_none a kind lent coded coef e = nothing _ a.plane (plane_kept a kind lent coded coef ∙ e) e

done_nothing : (c : Component) (w h : ℕ) (plane words : List ℕ) → length plane ≡ 0 → DoneSmall c w h plane words
done_nothing c w h plane words e = record { each = λ x y p q d. let z = get_or-eq_default plane 0 {n = y * (w / scale_of c) + x} (omega (arith, e)) in omega (arith, z) }

pub mask_of_y : (mask : ℕ) → mask ≤ 1 → (coded_u mask ≡ false) × (coded_v mask ≡ false)
unfolding flag_at field_of
mask_of_y mask h = (ne_eqb (mask / 2 % 2) 1 (λ e. omega (arith, e)), ne_eqb (mask / 4 % 2) 1 (λ e. omega (arith, e)))

-- ---- one component, after a leaf

pub units_kept : (w x y side v : ℕ) (l : List ℕ) → length (with_units w x y side v l) ≡ length l
units_kept w x y side v l = length_block 0 _ _ _ _ _ _ l

plane_done : (a : Around) (lent : List ℕ) → BlockAsked a → LentAsked a.component a.w a.h lent → (kind : ℕ) (coded : Bool) (coef : List ℤ) (word : ℕ)
    → DoneSmall a.component a.w a.h (plane_of a kind lent coded coef) (with_units a.w a.x a.y a.side word a.words)
plane_done a lent k l kind coded coef word =
    rw (plane_is a kind lent coded coef)
    (done_more a.component a.w a.h a.x a.y a.side k.size k.block Small a.plane a.plane a.words k.plane_long k.plane_long k.words_long
    (block_at coded (prediction_of a kind lent) coef _) (block_at coded (prediction_of a kind lent) coef _)
    (λ i j. recon_at_small coded (prediction_of a kind lent) coef (prediction_small a k lent l kind) _) word k.done_small)

-- ---- a leaf

module _ (g : Given) (x y side : ℕ) (s : State) (ga : GivenAsked g) (sa : StateAsked g s) (b : block_ok g.w g.h x y side ≡ true) where
  pub asked_y : BlockAsked (around_of g Luma x y side s.y s.words)
  asked_y = record { size = ga.size; block = b; plane_long = sa.y_long; words_long = sa.words_long; done_small = sa.y_done }

  -- U or V, where the picture has them
  asked_colour : (plane : List ℕ) → length plane ≡ in_format g.format (plane_length Chroma g.w g.h) → DoneSmall Chroma g.w g.h plane s.words
      → g.format ≡ Colour → BlockAsked (around_of g Chroma x y side plane s.words)
  asked_colour plane e d c = record { size = ga.size; block = b; plane_long = rw c at e; words_long = sa.words_long; done_small = d }

  pub asked_u : g.format ≡ Colour → BlockAsked (around_of g Chroma x y side s.u s.words)
  asked_u = asked_colour s.u sa.u_long sa.u_done

  pub asked_v : g.format ≡ Colour → BlockAsked (around_of g Chroma x y side s.v s.words)
  asked_v = asked_colour s.v sa.v_long sa.v_done

  -- U or V after the leaf: [] in a grey picture
  colour_done : (plane lent : List ℕ) → length plane ≡ in_format g.format (plane_length Chroma g.w g.h) → DoneSmall Chroma g.w g.h plane s.words
      → (g.format ≡ Colour → LentAsked Chroma g.w g.h lent) → (kind : ℕ) (coded : Bool) (coef : List ℤ) (word : ℕ)
      → DoneSmall Chroma g.w g.h (plane_of (around_of g Chroma x y side plane s.words) kind lent coded coef) (with_units g.w x y side word s.words)
  colour_done plane lent e d l kind coded coef word = go g.format refl where
    go : (f : Format) → g.format ≡ f → DoneSmall Chroma g.w g.h (plane_of (around_of g Chroma x y side plane s.words) kind lent coded coef) (with_units g.w x y side word s.words)
    go Grey c = done_nothing Chroma _ _ _ _ (plane_kept _ kind lent coded coef ∙ (rw c at e))
    go Colour c = plane_done _ lent (asked_colour plane e d c) (l c) kind coded coef word

  pub step_asked : StateAsked g (step_at g x y side s)
  unfolding step_at
  step_asked =
      record {
        y_long = plane_kept _ _ _ _ _ ∙ sa.y_long;
        u_long = plane_kept _ _ _ _ _ ∙ sa.u_long;
        v_long = plane_kept _ _ _ _ _ ∙ sa.v_long;
        words_long = units_kept _ _ _ _ _ s.words ∙ sa.words_long;
        modes_long = units_kept _ _ _ _ _ s.modes ∙ sa.modes_long;
        keep_long = units_kept _ _ _ _ _ s.keep ∙ sa.keep_long;
        y_done = plane_done _ _ asked_y ga.lent_y _ _ _ _;
        u_done = colour_done s.u g.pred_u sa.u_long sa.u_done ga.lent_u _ _ _ _;
        v_done = colour_done s.v g.pred_v sa.v_long sa.v_done ga.lent_v _ _ _ _;
      }

-- ---- the leaves of a list

pub steps_place : (g : Given) (l : List Leaf) (s : State) → (steps g l s).place ≡ passed g.leaves l s.place
unfolding run step_at
steps_place g [] s = refl
steps_place g (p ∷ l) s = steps_place g l (step g p s)

module _ (g : Given) where
  pub stepped_none : (s : State) → StateAsked g s → Stepped g [] s s
  unfolding run
  stepped_none s h = record { same = refl; asked = h }

  pub stepped_then : (l m : List Leaf) (s t u : State) → Stepped g l s t → Stepped g m t u → Stepped g (l ++ m) s u
  stepped_then l m s t u a b = record { same = b.same ∙ ap (steps g m) a.same ∙ sym (run_append (step g) l m s); asked = b.asked }

  pub stepped_as : {l m : List Leaf} {s t : State} → l ≡ m → Stepped g l s t → Stepped g m s t
  stepped_as {s = s} {t = t} e h = subst (λ (l : List Leaf). Stepped g l s t) e h
