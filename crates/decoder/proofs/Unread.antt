-- Other bytes are never read, of the calls over planes: the outcome is the same for two split maps, of one length, that agree where the walk of the first reaches;
-- for a band it is the band's own walk.
--     deblock_same, deblock_by_rows_same, deblock_band_same, reconstruct_same
-- `check`, `leaves`, `list_edges` and `root_list` are in `reach_rules`.
-- Assumes nothing.
use Rattle.std.specs.Prelude.{Ok, Err}
use Prim.Native.Nat.{ℕ, ◌+◌, ◌-◌, ◌*◌, ◌/◌}
use mathlib.Core.List.{List}
use mathlib.Core.Path.{◌≡◌, ap, ap₂}
use native.Mathlib.Omega.{arith}
use lib.ListN.{length}
use Rattle.laws.specs.Call.{unless}
use Rattle.def.specs.Picture.{size_ok}
use Rattle.def.specs.Answers.{Answer}
use Rattle.def.specs.declared.Refusal.TheVariants.{Size, Length, Band}
use Rattle.def.proofs.Ladders.{passes}
use Rattle.split.specs.Picture.{picture_walk}
use Rattle.split.specs.Walk.{Leaf, Walk}
use Rattle.reach_rules.specs.Reached.{picture_reached, AgreeAt, SameTree}
use Rattle.reach_rules.proofs.Calls.{after_same}
use Rattle.reach_rules.proofs.Reached.{same_tree}
use Rattle.band_rows.specs.Rows.{band_ok}
use Rattle.df_check.specs.BandCheck as band-checks
use Rattle.df_check.specs.Checks as checks
use Rattle.df_check.proofs.Passed.{passed, rest_passed}
use Rattle.df.specs.Band as band
use Rattle.by_rows_check.specs.Checks as rows-checks
use Rattle.by_rows_check.proofs.Ladder.{picture_fine}
use Rattle.df.specs.ByRows as by_rows_lem
use Rattle.df.specs.Deblock as deblock
use Rattle.driver_rules.specs.Call as driver
use Rattle.driver_rules.proofs.Checks.{all_passed}

-- ---- deblocking

module _ (i : deblock.Input) (t : List ℕ) (n : length t ≡ length i.splits) (o : AgreeAt (picture_reached i.splits (i.w / 4) (i.h / 4)) i.splits t) where
  -- the same call, lent the other map
  abbrev deblock_other : deblock.Input
  deblock_other =
      record {
        w = i.w;
        h = i.h;
        y = i.y;
        u = i.u;
        v = i.v;
        words = i.words;
        splits = t;
        motion = i.motion;
        refs = i.refs;
        keep = i.keep;
        table0 = i.table0;
        table1 = i.table1;
        strengths = i.strengths;
        settings = i.settings;
      }

  deblock_tree : SameTree i.splits t (i.w / 4) (i.h / 4)
  deblock_tree = same_tree i.splits t (i.w / 4) (i.h / 4) o

  checks_same : deblock.check deblock_other ≡ deblock.check i
  unfolding checks.check_of checks.from_lengths
  checks_same = rw (n, deblock_tree.walk)

  pub deblock_same : deblock.outcome deblock_other ≡ deblock.outcome i
  unfolding deblock.outcome
  deblock_same =
      after_same (deblock.refused i) (deblock.done i) (deblock.done deblock_other) (deblock.check i) (deblock.check deblock_other) checks_same
      (λ e. rw (deblock_tree.leaves (passed (deblock.checked i) e).walk))

  -- by a map of edge rows
  abbrev by_map : deblock.Input → List ℕ → by_rows_lem.Input
  by_map j rows = record { given = j; rows = rows }

  rows_checks_same : (rows : List ℕ) → by_rows_lem.check (by_map deblock_other rows) ≡ by_rows_lem.check (by_map i rows)
  unfolding rows-checks.check_of rows-checks.rows_ok
  rows_checks_same rows = rw checks_same

  pub deblock_by_rows_same : (rows : List ℕ) → by_rows_lem.outcome (by_map deblock_other rows) ≡ by_rows_lem.outcome (by_map i rows)
  unfolding by_rows_lem.outcome
  deblock_by_rows_same rows =
      after_same (deblock.refused i) (deblock.done i) (deblock.done deblock_other) (by_rows_lem.check (by_map i rows)) (by_rows_lem.check (by_map deblock_other rows)) (rows_checks_same rows)
      (λ e. rw (deblock_tree.leaves (passed (deblock.checked i) (picture_fine (by_rows_lem.checked (by_map i rows)) e)).walk))

-- ---- deblocking by bands

module _ (i : band.Input) (t : List ℕ) (n : length t ≡ length i.splits) (o : AgreeAt (picture_reached i.splits (band.wide i) (band.rows i)) i.splits t) where
  abbrev band_other : band.Input
  band_other =
      record {
        next = i.next;
        band = i.band;
        w = i.w;
        h = i.h;
        y = i.y;
        u = i.u;
        v = i.v;
        words = i.words;
        splits = t;
        motion = i.motion;
        refs = i.refs;
        keep = i.keep;
        table0 = i.table0;
        table1 = i.table1;
        strengths = i.strengths;
        settings = i.settings;
      }

  band_tree : SameTree i.splits t (band.wide i) (band.rows i)
  band_tree = same_tree i.splits t (band.wide i) (band.rows i) o

  -- the band's rows of units, from its rows of samples
  units : 4 * band.rows i / 4 ≡ band.rows i
  units = omega arith

  band_same_checks : band.check band_other ≡ band.check i
  unfolding band-checks.check_of checks.from_lengths
  band_same_checks = rw (n, units, band_tree.walk)

  band_walked : band.check i ≡ Ok tt → (picture_walk i.splits (band.wide i) (band.rows i)).answer ≡ Ok tt
  unfolding band-checks.check_of
  band_walked e =
      let rest = (passes (band_ok i.next i.band i.h) Band _ (passes (size_ok i.w i.h) Size _ e).rest).rest in
      rw units at (rest_passed (4 * (band.top i + band.rows i)) (4 * band.rows i) (4 * (band.top i - 1)) (band.checked i).lent rest).walk

  pub deblock_band_same : band.outcome band_other ≡ band.outcome i
  unfolding band.outcome
  deblock_band_same =
      after_same (band.refused i) (band.done i) (band.done band_other) (band.check i) (band.check band_other) band_same_checks
      (λ e. rw (band_tree.leaves (band_walked e)))

-- ---- the driver

module _ (i : driver.Input) (t : List ℕ) (n : length t ≡ length i.splits) (o : AgreeAt (picture_reached i.splits (i.given.w / 4) (i.given.h / 4)) i.splits t) where
  abbrev driver_other : driver.Input
  driver_other = record { given = i.given; splits = t; y = i.y; u = i.u; v = i.v; words = i.words; modes = i.modes; keep = i.keep }

  driver_tree : SameTree i.splits t (i.given.w / 4) (i.given.h / 4)
  driver_tree = same_tree i.splits t (i.given.w / 4) (i.given.h / 4) o

  -- what is judged after the walk, by the leaves; and what before it, by the map's length
  abbrev after_walk : List Leaf → Answer
  after_walk l = let g = i.given in driver.data_check g.format g.leaves (length g.residual) g.pred_y g.pred_u g.pred_v l

  abbrev before_walk : ℕ → Answer → Answer
  before_walk m k =
      let g = i.given in
      unless (size_ok g.w g.h) (Err Size)
      (unless (driver.read_ok g.w g.h g.format m (length g.pred_y) (length g.pred_u) (length g.pred_v)) (Err Length)
      (unless (driver.written_ok g.w g.h g.format (length i.y) (length i.u) (length i.v) (length i.words) (length i.modes) (length i.keep)) (Err Length) k))

  driver_checks : driver.check driver_other ≡ driver.check i
  unfolding driver.check_of
  driver_checks =
      ap₂ before_walk n
      (after_same Err _ _ _ _ (ap (λ (v : Walk). v.answer) driver_tree.walk) (λ e. ap after_walk (driver_tree.leaves e)))

  pub reconstruct_same : driver.outcome driver_other ≡ driver.outcome i
  unfolding driver.outcome
  reconstruct_same =
      after_same (driver.refused i) (driver.done i) (driver.done driver_other) (driver.check i) (driver.check driver_other) driver_checks
      (λ e. rw (driver_tree.leaves (all_passed i e).accepted.walked))
