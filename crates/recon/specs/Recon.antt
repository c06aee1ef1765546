-- Residual addition: one sample, and the two calls of `recon`: into a block, and into a picture's plane.
-- Assumes nothing: these are definitions.
use Rattle.std.specs.Prelude.{ℕ, ◌+◌, ◌*◌, Bool, List, [], ◌∷◌, eqb, ℤ, pos, ◌+ℤ◌, length, get_or, Ok, Err}
use Rattle.laws.specs.Call.{unless, all_of}
use Rattle.laws.specs.Clip.{sample_z}
use Rattle.laws.specs.Index.{pick, tabulate}
use Rattle.def.specs.Answers.{after_checks}
use Rattle.def.specs.Blocks.{component_side_ok}
use Rattle.def.specs.Refusals.{number_of}
use Rattle.def.specs.declared.Refusal.{Refusal}
use Rattle.def.specs.declared.Refusal.TheVariants.{Block, Length, Sample}
use Rattle.def.specs.Answers.{Answer}
use Rattle.samples.specs.Samples.{samples_ok}

-- the prediction p, or clip(0, 1023, p + r) where coded
abbrev pub recon_of : Bool → ℕ → ℤ → ℕ
recon_of coded p r = pick coded (sample_z (pos p +ℤ r)) p

-- the sample that place k of a prediction and of its residual make
abbrev pub recon_at : Bool → List ℕ → List ℤ → ℕ → ℕ
recon_at coded pred coef k = recon_of coded (get_or pred k 0) (get_or coef k (pos 0))

-- the sample at row r, column c of a block of n columns
abbrev pub block_at : Bool → List ℕ → List ℤ → ℕ → ℕ → ℕ → ℕ
block_at coded pred coef n r c = recon_at coded pred coef (r * n + c)

-- ---- into a block of `side` by `side` samples

pub record Input : Type 0 where
  pub coded : Bool
  pub side : ℕ
  pub pred : List ℕ
  pub coef : List ℤ
  pub rec : List ℕ

pub record Outcome : Type 0 where
  pub number : ℕ
  pub rec : List ℕ

-- the lengths that the side fixes, of the prediction, the residual and the block
unfoldable pub lengths_ok : (side pred coef rec : ℕ) → Bool
lengths_ok side pred coef rec = all_of (eqb pred (side * side) ∷ eqb coef (side * side) ∷ eqb rec (side * side) ∷ [])

-- by the lengths of the residual and the block
unfoldable pub block_check : (side : ℕ) (pred : List ℕ) (coef rec : ℕ) → Answer
block_check side pred coef rec =
    unless (component_side_ok side) (Err Block)
    (unless (lengths_ok side (length pred) coef rec) (Err Length)
    (unless (samples_ok pred) (Err Sample)
    (Ok tt)))

abbrev pub check : Input → Answer
check i = block_check i.side i.pred (length i.coef) (length i.rec)

abbrev pub refused : Input → Refusal → Outcome
refused i r = record { number = number_of r; rec = i.rec }

abbrev pub done : Input → Outcome
done i = record { number = 0; rec = tabulate (i.side * i.side) (recon_at i.coded i.pred i.coef) }

unfoldable pub outcome : Input → Outcome
outcome i = after_checks (refused i) (done i) (check i)
