-- How far deblocking can move a sample, by both engines.
-- Assumes nothing.
use Rattle.std.specs.Prelude.{Ok}
use Prim.Native.Nat.{ℕ, ◌*◌, ◌/◌, ◌≤◌}
use mathlib.Core.Path.{◌≡◌, refl, sym, ap, ◌∙◌, subst}
use mathlib.Core.List.{List}
use native.Mathlib.Omega.{arith}
use lib.Dec.{eqb}
use lib.ListN.{get_or}
use Rattle.laws.specs.Sign.{gap_n}
use Rattle.split.specs.Edges.{Pass, vertical, horizontal}
use Rattle.df_check.proofs.Passed.{passed}
use Rattle.df_rules.specs.Filter.{finished}
use Rattle.df_rules.specs.Moves.{largest, Once}
use Rattle.df_rules.specs.Window.{Samples}
use Rattle.df_rules.proofs.Finished.{accepted_demand_3}
use Rattle.df_rules.proofs.Moves.{both_move, listed_once}
use Rattle.bands_rules.proofs.Called.{calls_joined}
use Rattle.bands_rules.proofs.Lists.{first_once}
use Rattle.df_laws.specs.Bands.{state_after, bands, Accepted, Plane, luma_plane, u_plane, v_plane, component_of, mapped_as, plane_in, plane_of, plane_after}
use Rattle.df.specs.Deblock.{Input, checked, check, pass_edges, maps_of, deblocked, done, outcome}
use Rattle.df_laws.specs.Moved.{MovesIn, Moved, first_edges, MovedBands}
use Rattle.df.proofs.Calls.{accepted}
use Rattle.df_laws.proofs.Demand3.{is_done}
use Rattle.df_laws.proofs.Joined.{pos, after_plane, held_plane, long_words}
use Rattle.df_laws.proofs.Parted.{lengths, walked}

plane_done : (i : Input) (x : Plane) → plane_after x (done i) ≡ deblocked i (component_of x) (mapped_as x i) (plane_in x i)
plane_done i luma_plane = refl
plane_done i u_plane = refl
plane_done i v_plane = refl

some_unit : (i : Input) → check i ≡ Ok tt → 1 ≤ i.w / 4
some_unit i fine = pos i (passed (checked i) fine).size

-- a plane after the first n bands
state_plane : (i : Input) (fine : check i ≡ Ok tt) → Accepted i → (x : Plane) (n : ℕ) → n ≤ bands i
    → plane_of x (state_after i n) ≡ finished (maps_of i) i.strengths (mapped_as x i) (component_of x) (i.w / 4) (first_edges i vertical n) (first_edges i horizontal n) (plane_in x i)
state_plane i fine acc x n few =
    let size = (passed (checked i) fine).size in
    let long = lengths i fine in
    after_plane i size (long_words i size long) (bands i) (omega arith) acc x n few
    ∙ calls_joined (maps_of i) i.strengths (mapped_as x i) (component_of x) (eqb i.settings.limit 5) i.splits (i.w / 4) (i.h / 4) (pos i size)
    (walked i fine) n few (plane_in x i) (held_plane i size long x)

-- ---- the picture at once

module _ (i : Input) (fine : check i ≡ Ok tt) where
  samples : (x : Plane) → Samples (plane_in x i)
  samples luma_plane = (passed (checked i) fine).y
  samples u_plane = (passed (checked i) fine).u
  samples v_plane = (passed (checked i) fine).v

  once : (d : Pass) → Once d (i.w / 4) (pass_edges d i)
  once d = let e = accepted_demand_3 (eqb i.settings.limit 5) i.splits i.w i.h (accepted i fine) in listed_once _ _ _ _ e.lists d

  moves : (x : Plane) → MovesIn i x (pass_edges vertical i) (pass_edges horizontal i)
  moves x = both_move (maps_of i) i.strengths (mapped_as x i) (component_of x) (i.w / 4) (pass_edges vertical i) (pass_edges horizontal i) (once vertical) (once horizontal) (plane_in x i) (samples x)

  pub after : (x : Plane) → plane_after x (outcome i) ≡ deblocked i (component_of x) (mapped_as x i) (plane_in x i)
  after x = ap (plane_after x) (is_done i fine) ∙ plane_done i x

  pub moved : Moved i
  moved =
      record {
        passes = moves;
        most = λ x k. subst (λ (p : List ℕ). gap_n (get_or p k 0) (get_or (plane_in x i) k 0) ≤ 8 * largest i.strengths) (sym (after x)) ((moves x).both k);
        still = λ x k u l. ap (λ (p : List ℕ). get_or p k 0) (after x) ∙ (moves x).still k u l;
        kept = λ x k g. ap (λ (p : List ℕ). get_or p k 0) (after x) ∙ (moves x).kept k g;
      }

  -- ---- band by band

  module _ (acc : Accepted i) (n : ℕ) (few : n ≤ bands i) where
    first : (d : Pass) → Once d (i.w / 4) (first_edges i d n)
    first d = first_once d (eqb i.settings.limit 5) i.splits (i.w / 4) (i.h / 4) (some_unit i fine) n few (once d)

    moves_first : (x : Plane) → MovesIn i x (first_edges i vertical n) (first_edges i horizontal n)
    moves_first x =
        both_move (maps_of i) i.strengths (mapped_as x i) (component_of x) (i.w / 4) (first_edges i vertical n) (first_edges i horizontal n)
        (first vertical) (first horizontal) (plane_in x i) (samples x)

    pub moved_bands : MovedBands i n
    moved_bands =
        let e : (x : Plane) → plane_of x (state_after i n) ≡ finished (maps_of i) i.strengths (mapped_as x i) (component_of x) (i.w / 4)
        (first_edges i vertical n) (first_edges i horizontal n) (plane_in x i) =
        λ x. state_plane i fine acc x n few in
        record {
          passes = moves_first;
          most = λ x k. subst (λ (p : List ℕ). gap_n (get_or p k 0) (get_or (plane_in x i) k 0) ≤ 8 * largest i.strengths) (sym (e x)) ((moves_first x).both k);
          still = λ x k u l. ap (λ (p : List ℕ). get_or p k 0) (e x) ∙ (moves_first x).still k u l;
          kept = λ x k g. ap (λ (p : List ℕ). get_or p k 0) (e x) ∙ (moves_first x).kept k g;
        }
