-- Outcomes of the two calls by what their checks found: k is the answer of the checks.
-- Assumes nothing.
use Rattle.std.specs.Prelude.{Ok, Err}
use Prim.Native.Nat.{ℕ, ◌+◌, ◌*◌}
use mathlib.Core.Path.{◌≡◌, ap, ◌∙◌}
use mathlib.Core.List.{List}
use lib.ListN.{length}
use Rattle.laws.specs.Call.{Gives}
use Rattle.laws.specs.Plane.{with_row, with_block}
use Rattle.def.specs.declared.Refusal.{Refusal}
use Rattle.def.specs.Answers.{Answer}
use Rattle.def.proofs.Answers.{on_refusal, on_done}
use Rattle.recon.specs.Recon.{Input, recon_at, block_at, check, refused, done, outcome}
use Rattle.recon.specs.Plane as plane
use Rattle.recon.proofs.Rows.{row_whole}

module _ (i : Input) (k : Answer) (e : k ≡ check i) where
  pub block_refused : (r : Refusal) → k ≡ Err r → Gives outcome i (refused i r)
  unfolding outcome
  block_refused r q = on_refusal (refused i) (done i) k (check i) r e q

  pub block_done : (rec : List ℕ) → k ≡ Ok tt → length i.rec ≡ i.side * i.side
      → rec ≡ with_row 0 0 (i.side * i.side) (λ (j : ℕ). recon_at i.coded i.pred i.coef (0 + j)) i.rec → Gives outcome i (record { number = 0; rec = rec })
  unfolding outcome
  block_done rec q long p =
      on_done (refused i) (done i) k (check i) _ e q
      (ap (λ (l : List ℕ). record { number = 0; rec = l }) (row_whole i.coded i.pred i.coef i.rec rec (i.side * i.side) long p))

module _ (i : plane.Input) (k : Answer) (e : k ≡ plane.check i) where
  pub plane_refused : (r : Refusal) → k ≡ Err r → Gives plane.outcome i (plane.refused i r)
  unfolding plane.outcome
  plane_refused r q = on_refusal (plane.refused i) (plane.done i) k (plane.check i) r e q

  -- the picture's width and the block's place and side, counted in the component
  module _ (w x y n : ℕ) (wide : w ≡ plane.in_component i i.w) (column : x ≡ plane.in_component i i.x) (row : y ≡ plane.in_component i i.y) (side : n ≡ plane.in_component i i.side) where
    pub plane_done : (rec : List ℕ) → k ≡ Ok tt → rec ≡ with_block 0 w x y n n (block_at i.coded i.pred i.coef n) i.rec → Gives plane.outcome i (record { number = 0; rec = rec })
    unfolding plane.outcome
    plane_done rec q p =
        on_done (plane.refused i) (plane.done i) k (plane.check i) _ e q
        (ap (λ (l : List ℕ). record { number = 0; rec = l }) (p ∙ rw (wide, column, row, side)))
