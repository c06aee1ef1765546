-- The highest entry, computed by the checker over the definition.
--     highest     a table with 91 in it, so that no bound below that of `values_fit` holds
-- Assumes nothing.
use mathlib.Core.Path.{◌≡◌, refl}
use mathlib.Core.Bool.{false}
use mathlib.Core.List.{[], ◌∷◌, ◌++◌}
use lib.IntN.{pos, negsuc}
use lib.ListN.{replicate}
use Rattle.laws.specs.Clip.{max_z, min_z, clip_z}
use Rattle.chroma_qp_check.specs.Pivots.{Points, start_of, in_of, out_of}
use Rattle.chroma_qp.specs.Mapping.{clip_qp, below, past, between, up_to, table_at}

-- 34 parts that fall by 1 over two entries, each of which leaves the entry where it was, and a rise back to 57 over one
abbrev pub steepest : Points
steepest = record { count = 36; a = pos 0 ∷ (replicate 34 (pos 1) ++ (pos 0 ∷ [])); b = pos 69 ∷ (replicate 34 (negsuc 2) ++ (pos 33 ∷ [])) }

pub highest : table_at (start_of false) steepest (pos 57) ≡ pos 91
unfolding table_at up_to past below between clip_qp out_of in_of clip_z min_z max_z
highest = refl
