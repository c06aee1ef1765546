-- What callers cite of the two calls.
--     recon_small    a sample that is written is at most 1023, coded or not
--     block_ok_lem, plane_ok    so what is written passes the test of samples: a block, and a plane that passed before
--     reconstructs, reconstructs_plane     a call whose input is right is done, and does not refuse
-- Assumes nothing.
use Prim.Native.Nat.{ℕ, ◌*◌, ◌/◌, ◌%◌, ◌≤◌, ◌<◌}
use mathlib.Core.Path.{◌≡◌, subst}
use mathlib.Core.Bool.{Bool, true, false}
use mathlib.Core.List.{List}
use borrow.Author.Tests.{eq-eqb}
use lib.IntN.{ℤ, pos, ◌+ℤ◌}
use lib.ListN.{length, get_or}
use Rattle.laws.specs.Call.{Gives}
use Rattle.laws.specs.Index.{tabulate}
use Rattle.laws.specs.Plane.{within, with_block}
use Rattle.laws.proofs.Planes.{length_block, get_d_block}
use Rattle.laws.proofs.Signs.{sample_le}
use Rattle.laws.proofs.Tabulate.{length_tabulate, get_d_tabulate}
use Rattle.def.specs.Blocks.{component_side_ok, block_ok}
use Rattle.def.specs.Components.{plane_length}
use Rattle.def.specs.Picture.{size_ok}
use Rattle.samples.specs.Samples.{samples_ok}
use Rattle.samples.proofs.Samples.{sample_any, samples_pass, one_of_two}
use Rattle.recon.specs.Recon.{Input, recon_of, recon_at, block_at, lengths_ok, block_check, done, outcome}
use Rattle.recon.specs.Plane as Plane

pub recon_small : (coded : Bool) (p : ℕ) (r : ℤ) → p ≤ 1023 → recon_of coded p r ≤ 1023
recon_small true p r h = sample_le (pos p +ℤ r)
recon_small false p r h = h

module _ (coded : Bool) (pred : List ℕ) (coef : List ℤ) (good : samples_ok pred ≡ true) where
  pub recon_at_small : (k : ℕ) → recon_at coded pred coef k ≤ 1023
  recon_at_small k = recon_small coded (get_or pred k 0) (get_or coef k (pos 0)) (sample_any pred k good)

  pub block_ok_lem : (n : ℕ) → samples_ok (tabulate n (recon_at coded pred coef)) ≡ true
  block_ok_lem n =
      samples_pass (tabulate n (recon_at coded pred coef))
      (λ k p.
      rw (get_d_tabulate (recon_at coded pred coef) n k 0 (subst (λ (m : ℕ). k < m) (length_tabulate (recon_at coded pred coef) n) p)) (recon_at_small k))

  module _ (w x y n : ℕ) (rec : List ℕ) (old : samples_ok rec ≡ true) where
    plane : List ℕ
    plane = with_block 0 w x y n n (block_at coded pred coef n) rec

    in_plane_lem : (k : ℕ) → k < length plane → get_or plane k 0 ≤ 1023
    unfolding plane
    in_plane_lem k p =
        let q : k < length rec = subst (λ (m : ℕ). k < m) (length_block 0 w x y n n (block_at coded pred coef n) rec) p in
        rw (get_d_block 0 w x y n n (block_at coded pred coef n) rec k q)
        (one_of_two (within y n (k / w)) _ _ (one_of_two (within x n (k % w)) _ _ (recon_at_small _) (sample_any rec k old)) (sample_any rec k old))

    pub plane_ok : samples_ok (with_block 0 w x y n n (block_at coded pred coef n) rec) ≡ true
    unfolding plane
    plane_ok = samples_pass plane in_plane_lem

pub reconstructs : (i : Input) → component_side_ok i.side ≡ true → length i.pred ≡ i.side * i.side → length i.coef ≡ i.side * i.side
    → length i.rec ≡ i.side * i.side → samples_ok i.pred ≡ true → Gives outcome i (done i)
unfolding outcome block_check lengths_ok
reconstructs i s a b c g = rw (s, eq-eqb _ _ a, eq-eqb _ _ b, eq-eqb _ _ c, g)

pub reconstructs_plane : (i : Plane.Input) → size_ok i.w i.h ≡ true → length i.rec ≡ plane_length i.component i.w i.h
    → block_ok i.w i.h i.x i.y i.side ≡ true → let n = Plane.in_component i i.side in
    length i.pred ≡ n * n → length i.coef ≡ n * n → samples_ok i.pred ≡ true → Gives Plane.outcome i (Plane.done i)
unfolding Plane.outcome Plane.plane_check Plane.block_lengths_ok
reconstructs_plane i s l p a b g = rw (s, eq-eqb _ _ l, p, eq-eqb _ _ a, eq-eqb _ _ b, g)
