-- What deblocking leaves of the words.
-- Assumes nothing: these are definitions.
use Rattle.std.specs.Prelude.{ℕ, List, length, get_or}
use Rattle.def.specs.Word.{with_done}
use Rattle.laws.specs.Index.{tabulate}

-- done set in every unit
unfoldable pub all_done : List ℕ → List ℕ
all_done l = tabulate (length l) (λ (k : ℕ). with_done (get_or l k 0))
