-- The walk leaf by leaf and root by root: the state, and how far the two lists reach.
--     sides    the sides of listed blocks
--     one_leaf    a leaf, in luma samples
--     leaves_none, leaves_more, leaves_reach    the first j leaves of a list
--     roots_none, roots_more, roots_reach    the first i roots of a picture
--     Measured and its laws    the same of the places alone
-- Assumes nothing.
use Prim.Native.Nat.{ℕ, suc, ◌+◌, ◌*◌, ◌/◌, ◌%◌, ◌<◌}
use mathlib.Core.Path.{◌≡◌, refl, sym, ap, ◌∙◌}
use mathlib.Core.Bool.{true}
use mathlib.Core.List.{List, [], ◌∷◌, ◌++◌}
use native.Mathlib.Numerals.{add-one}
use native.Mathlib.Omega.{arith}
use lib.ListN.{get_or}
use Rattle.laws.specs.Orders.{run}
use Rattle.laws.proofs.Orders.{run_append}
use Rattle.def.specs.Blocks.{block_ok}
use Rattle.def.proofs.Blocks.{blocked}
use Rattle.nbr.proofs.Sides.{four}
use Rattle.split.specs.Picture.{root_leaves, leaves_of}
use Rattle.split.specs.Stored.{leaf_from, leaves_from}
use Rattle.split.specs.Walk.{Leaf, leaf}
use Rattle.driver_rules.specs.Asked.{GivenAsked, StateAsked, Reaches, Blocks, Sides, Listed, Stepped}
use Rattle.driver_rules.specs.Records.{record_mask, end_v, Place, past, advance, passed}
use Rattle.driver_rules.specs.Steps.{Given, State, step_at}
use Rattle.driver_rules.proofs.Places.{run_more, reaches_grows}
use Rattle.driver_rules.proofs.States.{step_asked, steps_place, stepped_none, stepped_then, stepped_as}

whole : (n : ℕ) → n % 4 ≡ 0 → 4 * (n / 4) ≡ n
whole n e = omega arith

-- a block's place and side are whole units
pub record Units (x y side : ℕ) : Type 0 where
  pub column : 4 * (x / 4) ≡ x
  pub row : 4 * (y / 4) ≡ y
  pub sides : 4 * (side / 4) ≡ side

pub units : (w h x y side : ℕ) → block_ok w h x y side ≡ true → Units x y side
units w h x y side b =
    let k = blocked w h x y side b in
    record { column = whole x (four x side k.side_ok k.column); row = whole y (four y side k.side_ok k.row); sides = whole side k.by_four }

pub sides : {w h : ℕ} {l : List ℕ} {n : ℕ} → Blocks w h l n → Sides l n
sides b = record { long = b.long; few = b.few; units = λ j p. (blocked _ _ _ _ _ (b.blocks j p)).by_four; most = λ j p. (blocked _ _ _ _ _ (b.blocks j p)).most }

-- ---- a leaf

module _ (g : Given) where
  pub one_leaf : (x y side : ℕ) (s t : State) → GivenAsked g → StateAsked g s → block_ok g.w g.h x y side ≡ true → t ≡ step_at g x y side s → Stepped g (leaf (x / 4) (y / 4) (side / 4) ∷ []) s t
  unfolding run
  one_leaf x y side s t ga sa b e =
      let u = units g.w g.h x y side b in
      record { same = rw (u.column, u.row, u.sides) e; asked = rw e (step_asked g x y side s ga sa b) }

  -- ---- the leaves of a list

  module _ (list : List ℕ) where
    pub leaves_none : (s : State) → StateAsked g s → Stepped g (leaves_from list 0) s s
    unfolding leaves_from
    leaves_none s h = stepped_none g s h

    pub leaves_more : (j : ℕ) (s t u : State) → Stepped g (leaves_from list j) s t → Stepped g (leaf_from list j ∷ []) t u → Stepped g (leaves_from list (j + 1)) s u
    unfolding leaves_from
    leaves_more j s t u a b = stepped_as g (ap (leaves_from list) (sym (add-one j))) (stepped_then g (leaves_from list j) (leaf_from list j ∷ []) s t u a b)

  -- ---- the roots of a picture

  module _ (splits : List ℕ) (w h : ℕ) where
    pub roots_none : (s : State) → StateAsked g s → Stepped g (leaves_of splits w h 0) s s
    unfolding leaves_of
    roots_none s k = stepped_none g s k

    pub roots_more : (i n : ℕ) (list : List ℕ) (s t u : State) → leaves_from list n ≡ root_leaves splits w h i → Stepped g (leaves_of splits w h i) s t
        → Stepped g (leaves_from list n) t u → Stepped g (leaves_of splits w h (i + 1)) s u
    unfolding leaves_of
    roots_more i n list s t u e a b =
        stepped_as g (ap (λ (l : List Leaf). leaves_of splits w h i ++ l) e ∙ ap (leaves_of splits w h) (sym (add-one i)))
        (stepped_then g (leaves_of splits w h i) (leaves_from list n) s t u a b)

  -- where a state of the walk has come
  pub stepped_place : (l : List Leaf) (s t : State) → Stepped g l s t → t.place ≡ passed g.leaves l s.place
  stepped_place l s t a = ap (λ (u : State). u.place) a.same ∙ steps_place g l s

-- ---- how far the lists reach

module _ (r : List ℕ) where
  -- past leaf j, where the list's leaf is in whole units
  pub past_leaf : (list : List ℕ) (j : ℕ) (t : Place) → get_or list (3 * j + 2) 0 % 4 ≡ 0 → passed r (leaves_from list (j + 1)) t ≡ past r (get_or list (3 * j + 2) 0) (passed r (leaves_from list j) t)
  unfolding leaves_from
  past_leaf list j t e =
      ap (λ (n : ℕ). passed r (leaves_from list n) t) (add-one j) ∙ run_more (advance r) (leaves_from list j) (leaf_from list j) t
      ∙ ap (λ (n : ℕ). past r n (passed r (leaves_from list j) t)) (whole _ e)

  pub past_root : (splits : List ℕ) (w h i n : ℕ) (list : List ℕ) (t : Place) → leaves_from list n ≡ root_leaves splits w h i
      → passed r (leaves_of splits w h (i + 1)) t ≡ passed r (leaves_from list n) (passed r (leaves_of splits w h i) t)
  unfolding leaves_of
  past_root splits w h i n list t e =
      ap (λ (m : ℕ). passed r (leaves_of splits w h m) t) (add-one i) ∙ run_append (advance r) (leaves_of splits w h i) (root_leaves splits w h i) t
      ∙ ap (λ (l : List Leaf). passed r l (passed r (leaves_of splits w h i) t)) (sym e)

  grow_leaves : (list : List ℕ) (n : ℕ) → leaves_from list (suc n) ≡ leaves_from list n ++ (leaf_from list n ∷ [])
  unfolding leaves_from
  grow_leaves list n = refl

  grow_roots : (splits : List ℕ) (w h n : ℕ) → leaves_of splits w h (suc n) ≡ leaves_of splits w h n ++ root_leaves splits w h n
  unfolding leaves_of
  grow_roots splits w h n = refl

  pub leaves_reach : (residual : ℕ) (list : List ℕ) (j n : ℕ) (t u : Place) → j < n → get_or list (3 * j + 2) 0 % 4 ≡ 0 → u ≡ passed r (leaves_from list j) t
      → Reaches r residual (passed r (leaves_from list n) t) → Reaches r residual (past r (get_or list (3 * j + 2) 0) u)
  leaves_reach residual list j n t u p e q k =
      rw (q, ← past_leaf list j t e)
      (reaches_grows r (leaves_from list) (λ (m : ℕ). leaf_from list m ∷ []) (grow_leaves list) t residual (j + 1) n (omega arith) k)

  pub roots_reach : (residual : ℕ) (splits : List ℕ) (w h i m n : ℕ) (list : List ℕ) (t u : Place) → i < m
      → leaves_from list n ≡ root_leaves splits w h i → u ≡ passed r (leaves_of splits w h i) t
      → Reaches r residual (passed r (leaves_of splits w h m) t) → Reaches r residual (passed r (leaves_from list n) u)
  roots_reach residual splits w h i m n list t u p e q k =
      rw (q, ← past_root splits w h i n list t e)
      (reaches_grows r (leaves_of splits w h) (root_leaves splits w h) (grow_roots splits w h) t residual (i + 1) m (omega arith) k)

  pub passed_none : (list : List ℕ) (t : Place) → t ≡ passed r (leaves_from list 0) t
  unfolding leaves_from run
  passed_none list t = refl

  pub passed_no_root : (splits : List ℕ) (w h : ℕ) (t : Place) → t ≡ passed r (leaves_of splits w h 0) t
  unfolding leaves_of run
  passed_no_root splits w h t = refl

  -- past leaf j, from the parts that a loop keeps
  pub past_one : (list : List ℕ) (j : ℕ) (t : Place) (at k at' k' : ℕ) → get_or list (3 * j + 2) 0 % 4 ≡ 0
      → record { at = at; k = k } ≡ passed r (leaves_from list j) t → at' ≡ end_v at (record_mask r k) (get_or list (3 * j + 2) 0) → k' ≡ k + 1
      → record { at = at'; k = k' } ≡ passed r (leaves_from list (j + 1)) t
  past_one list j t at k at' k' e p q n = rw (past_leaf list j t e, ← p, q, n)

  -- past root i
  pub past_listed : {w h : ℕ} {splits : List ℕ} {i : ℕ} {list : List ℕ} {n : ℕ} (t u v : Place) → Listed w h splits i list n → u ≡ passed r (leaves_of splits (w / 4) (h / 4) i) t
      → v ≡ passed r (leaves_from list n) u → v ≡ passed r (leaves_of splits (w / 4) (h / 4) (i + 1)) t
  past_listed {w} {h} {splits} {i} {list} {n} t u v d e f = f ∙ ap (passed r (leaves_from list n)) e ∙ sym (past_root splits (w / 4) (h / 4) i n list t d.same)
