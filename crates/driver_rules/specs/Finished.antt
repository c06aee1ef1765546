-- What is proved of every picture that the driver finishes, given nothing of what its planes and maps held before. The proof is `finished`, in proofs/.
-- Assumes nothing: these are definitions.
use Rattle.std.specs.Prelude.{ℕ, ◌/◌, ◌<◌, ◌≡◌, true, List, leb, length, get_or}
use Rattle.laws.specs.Scan.{all_in}
use Rattle.def.specs.Word.{qp_of, done_of}
use Rattle.def.specs.Units.{unit_at}
use Rattle.samples.specs.Samples.{samples_ok}
use Rattle.split.specs.Tiling.{Holds}
use Rattle.split.specs.Walk.{Leaf, leaf}
use Rattle.driver_rules.specs.Call.{Input, leaves_of, end}
use Rattle.driver_rules.specs.Records.{word_at, mode_at, keep_at}

-- the unit of column u, row v: the number of its leaf, whose record its word, its mode and its keep byte are
pub record Told (w : ℕ) (r : List ℕ) (l : List Leaf) (words modes keep : List ℕ) (u v : ℕ) : Type 0 where
  pub number : ℕ
  pub early : number < length l
  pub holds : Holds (get_or l number (leaf 0 0 0)) u v
  pub word : unit_at w words u v ≡ word_at r number
  pub mode : unit_at w modes u v ≡ mode_at r number
  pub kept : unit_at w keep u v ≡ keep_at r number
  pub done : done_of (unit_at w words u v) ≡ true

pub record Finished (i : Input) : Type 0 where
  -- every sample is at most 1023: number 7 is not given for these planes
  pub y_small : samples_ok (end i).y ≡ true
  pub u_small : samples_ok (end i).u ≡ true
  pub v_small : samples_ok (end i).v ≡ true
  -- every unit's word, mode and keep byte are those of its leaf, and it is done
  pub units : (u v : ℕ) → u < i.given.w / 4 → v < i.given.h / 4
      → Told i.given.w i.given.leaves (leaves_of i.given.w i.given.h i.splits) (end i).words (end i).modes (end i).keep u v
  -- no QP is above 51: number 6 is not given for a word
  pub qps : all_in 0 (λ (word : ℕ). leb (qp_of word) 51) (end i).words ≡ true
  -- every keep byte is 0 or 1: number 15 is not given for the map
  pub keeps : all_in 0 (λ (byte : ℕ). leb byte 1) (end i).keep ≡ true
