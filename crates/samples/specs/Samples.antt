-- Samples: 10 bits, 0 to 1023, in 16-bit numbers.
-- Assumes nothing: these are definitions.
use Rattle.std.specs.Prelude.{ℕ, Bool, List, leb}
use Rattle.laws.specs.Scan.{all_in}

abbrev pub sample_ok : ℕ → Bool
sample_ok x = leb x 1023

-- every sample of a list is at most 1023
unfoldable pub samples_ok : List ℕ → Bool
samples_ok p = all_in 0 sample_ok p
