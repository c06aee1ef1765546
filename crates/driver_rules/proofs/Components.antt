-- One component of a leaf: none of the calls is refused, and what they give is of 10 bits.
--     side_short, samples_few    a block's side and its samples in a component
--     run_as    gathering reads units that are done: what holds of their samples holds of the run
--     run-small, run_same    so every sample of a run is at most 1023; and what the other units hold counts for nothing
--     gathers    a call of gathering whose input is right is done
--     prediction_long, prediction_small    a prediction has its length, and its samples pass
--     plane_is    the plane with the block in it
-- Assumes nothing.
use Prim.Native.Nat.{ℕ, ◌+◌, ◌*◌, ◌/◌, ◌%◌, ◌≤◌, ◌<◌}
use mathlib.Core.Path.{◌≡◌, refl, ◌∙◌, subst}
use mathlib.Core.Bool.{Bool, true, false, not, ◌&&◌, ◌||◌}
use mathlib.Core.List.{List, [], ◌∷◌}
use native.Mathlib.Nat.{mul-le-mul}
use native.Mathlib.Omega.{arith}
use borrow.Author.Tests.{ltb-true, le-leb, eq-eqb}
use lib.Dec.{ltb}
use lib.IntN.{ℤ}
use lib.ListN.{length, get_or}
use Rattle.laws.specs.Index.{pick, tabulate}
use Rattle.laws.specs.Plane.{with_block}
use Rattle.laws.proofs.Calls.{all_at}
use Rattle.laws.proofs.ScanAll.{scan_pass}
use Rattle.laws.proofs.Tabulate.{length_tabulate, get_d_tabulate, is_tabulate}
use Rattle.def.specs.Blocks.{block_ok}
use Rattle.def.specs.Components.{scale_of, plane_length}
use Rattle.def.specs.Picture.{size_ok, unit_count}
use Rattle.def.specs.Word.{done_of, intra_of}
use Rattle.def.specs.declared.Component.{Component}
use Rattle.def.specs.declared.Component.TheVariants.{Luma, Chroma}
use Rattle.def.proofs.Blocks.{blocked}
use Rattle.def.proofs.Sides.{side_in_component}
use Rattle.def.proofs.Sizes.{sized}
use Rattle.ipred.specs.Modes.{predicted, block_of}
use Rattle.ipred.proofs.Promises as ipred
use Rattle.nbr.specs.Gather as nbr
use Rattle.nbr.specs.Gather.{Around, unit_side, side_of, across, column, row, counts, present_at, sample_at, near_at, run_at, run_of, run_length}
use Rattle.def.specs.Units.{unit_at}
use Rattle.nbr.proofs.Runs.{run_long, run_samples}
use Rattle.nbr.proofs.Sides.{scaled_le}
use Rattle.recon.specs.Recon.{block_at}
use Rattle.samples.specs.Samples.{samples_ok}
use Rattle.samples.proofs.Samples.{sample_any, samples_pass}
use Rattle.driver_rules.specs.Asked.{DoneAs, Small, DoneSmall, BlockAsked, LentAsked}
use Rattle.driver_rules.specs.Records.{is_mode, sample_count}
use Rattle.driver_rules.specs.Steps.{lent_at, prediction_of, plane_of}

-- ---- a block's side in a component

pub side_short : (c : Component) (w h x y side : ℕ) → block_ok w h x y side ≡ true → side_of c side ≤ 64
side_short c w h x y side b = scaled_le c side 64 (blocked w h x y side b).most

pub samples_few : (c : Component) (w h x y side : ℕ) → block_ok w h x y side ≡ true → sample_count c side ≤ 4096
samples_few c w h x y side b = let s = side_short c w h x y side b in mul-le-mul {n₂ = 64} {m₂ = 64} s s

-- ---- gathering

-- a sample whose unit is in the picture is in it too
in_plane_lem : (c : Component) (k n : ℕ) → n % 4 ≡ 0 → k / unit_side c < n / 4 → k < n / scale_of c
in_plane_lem Luma k n e p = omega arith
in_plane_lem Chroma k n e p = omega arith

one_as : (R : ℕ → ℕ → Type 0) (b : Bool) (x y z t : ℕ) → R x z → R y t → R (pick b x y) (pick b z t)
one_as R true x y z t p q = p
one_as R false x y z t p q = q

-- the block in another plane
abbrev pub in_plane : Around → List ℕ → Around
in_plane a plane =
    record { component = a.component; w = a.w; h = a.h; plane = plane; words = a.words; x = a.x; y = a.y; side = a.side; constrained = a.constrained }

module _ (R : ℕ → ℕ → Type 0) (missing : R 512 512) (a : Around) (other : List ℕ) (wide : a.w % 4 ≡ 0) (high : a.h % 4 ≡ 0)
    (d : DoneAs a.component a.w a.h R a.plane other a.words) where
  abbrev b : Around
  b = in_plane a other

  abbrev u : ℕ → ℕ
  u c = c / unit_side a.component

  abbrev word : ℕ → ℕ → ℕ
  word c r = unit_at a.w a.words (u c) (u r)

  abbrev tests : ℕ → ℕ → List Bool
  tests c r = ltb (u c) (a.w / 4) ∷ ltb (u r) (a.h / 4) ∷ counts a.constrained (word c r) ∷ []

  sample_as : (c r : ℕ) → R (sample_at a c r) (sample_at b c r)
  sample_as c r = go (present_at a (u c) (u r)) refl where
    go : (p : Bool) → present_at a (u c) (u r) ≡ p → R (pick p (get_or a.plane (r * across a + c) 0) 512) (pick p (get_or other (r * across a + c) 0) 512)
    go true e =
        d.each c r
        (in_plane_lem a.component c a.w wide (ltb-true _ _ (all_at (tests c r) 0 e)))
        (in_plane_lem a.component r a.h high (ltb-true _ _ (all_at (tests c r) 1 e)))
        (all_at (done_of (word c r) ∷ (not a.constrained || intra_of (word c r)) ∷ []) 0 (all_at (tests c r) 2 e))
    go false e = missing

  near_as : (i j : ℕ) → R (near_at a i j) (near_at b i j)
  unfolding near_at
  near_as i j = one_as R (ltb 0 (column a + i) && ltb 0 (row a + j)) _ _ _ _ (sample_as _ _) missing

  pub run_as : (k : ℕ) → R (run_at a k) (run_at b k)
  unfolding run_at
  run_as k = one_as R (ltb k (2 * side_of a.component a.side)) _ _ _ _ (near_as _ _) (near_as _ _)

module _ (a : Around) (wide : a.w % 4 ≡ 0) (high : a.h % 4 ≡ 0) where
  pub gathered_small : DoneSmall a.component a.w a.h a.plane a.words → nbr.samples_ok a ≡ true
  unfolding nbr.samples_ok
  gathered_small d = scan_pass _ (run_length a.component a.side) (λ k p. le-leb (run_at a k) 1023 (run_as Small (omega arith) a a.plane wide high d k))

  pub run_same : (other : List ℕ) → DoneAs a.component a.w a.h (◌≡◌ {A = ℕ}) a.plane other a.words → run_of a ≡ run_of (in_plane a other)
  unfolding run_of
  run_same other d = let n = run_length a.component a.side in
      is_tabulate (run_at (in_plane a other)) n (tabulate n (run_at a)) 0 (length_tabulate (run_at a) n) (λ k p. get_d_tabulate (run_at a) n k 0 p ∙ run_as (◌≡◌ {A = ℕ}) refl a other wide high d k)

-- a call whose input is right is done, and does not refuse
gathers : (i : nbr.Input) → let a = i.around in
    size_ok a.w a.h ≡ true → length a.plane ≡ plane_length a.component a.w a.h → length a.words ≡ unit_count a.w a.h
    → block_ok a.w a.h a.x a.y a.side ≡ true → length i.run ≡ run_length a.component a.side → nbr.samples_ok a ≡ true → nbr.outcome i ≡ nbr.done i
unfolding nbr.outcome nbr.check_of nbr.lengths_ok
gathers i s p q b r g = rw (s, eq-eqb _ _ p, eq-eqb _ _ q, b, eq-eqb _ _ r, g)

-- ---- a block that is asked

module _ (a : Around) (k : BlockAsked a) where
  abbrev n : ℕ
  n = side_of a.component a.side

  good : nbr.samples_ok a ≡ true
  good = let size = sized _ _ k.size in gathered_small a size.by_four size.by_four_down k.done_small

  pub gathers_block : (run : List ℕ) → length run ≡ run_length a.component a.side → nbr.outcome (record { around = a; run = run }) ≡ nbr.done (record { around = a; run = run })
  gathers_block run e = gathers (record { around = a; run = run }) k.size k.plane_long k.words_long k.block e good

  pub run_good : samples_ok (run_of a) ≡ true
  run_good = samples_pass (run_of a) (λ j p. run_samples a good j (subst (λ (m : ℕ). j < m) (run_long a) p))

  module _ (lent : List ℕ) (l : LentAsked a.component a.w a.h lent) where
    lent_good : samples_ok (block_of n (lent_at a lent)) ≡ true
    lent_good =
        samples_pass (block_of n (lent_at a lent))
        (λ j p. rw (get_d_tabulate (λ (m : ℕ). lent_at a lent (m / n) (m % n)) (n * n) j 0 (subst (λ (m : ℕ). j < m) (length_tabulate _ (n * n)) p)) (sample_any lent _ l.small))

    pub prediction_small : (kind : ℕ) → samples_ok (prediction_of a kind lent) ≡ true
    unfolding prediction_of
    prediction_small kind = go (is_mode kind) where
      go : (b : Bool) → samples_ok (pick b (block_of n (predicted kind n (run_of a))) (block_of n (lent_at a lent))) ≡ true
      go true = ipred.prediction_ok n (run_of a) (side_in_component a.component a.side (blocked _ _ _ _ _ k.block).side_ok) run_good kind
      go false = lent_good

pub prediction_long : (a : Around) (lent : List ℕ) (kind : ℕ) → let n = side_of a.component a.side in length (prediction_of a kind lent) ≡ n * n
unfolding prediction_of
prediction_long a lent kind = go (is_mode kind) (side_of a.component a.side) where
  go : (b : Bool) (n : ℕ) → length (pick b (block_of n (predicted kind n (run_of a))) (block_of n (lent_at a lent))) ≡ n * n
  go true n = length_tabulate _ _
  go false n = length_tabulate _ _

pub plane_is : (a : Around) (kind : ℕ) (lent : List ℕ) (coded : Bool) (coef : List ℤ) → let n = side_of a.component a.side in
    plane_of a kind lent coded coef ≡ with_block 0 (across a) (column a) (row a) n n (block_at coded (prediction_of a kind lent) coef n) a.plane
unfolding plane_of
plane_is a kind lent coded coef = refl

-- where it is not coded, nothing of the residual is read
pub plane_uncoded : (a : Around) (kind : ℕ) (lent : List ℕ) (coef other : List ℤ) → plane_of a kind lent false coef ≡ plane_of a kind lent false other
unfolding plane_of
plane_uncoded a kind lent coef other = refl
