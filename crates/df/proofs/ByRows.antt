-- Deblocking by a map of edge rows: it does what `deblock` does.
--     by_refused, same_outcome, without    the outcome
-- Assumes nothing.
use Rattle.std.specs.Prelude.{Ok, Err}
use mathlib.Core.Path.{◌≡◌, refl, ap}
use mathlib.Core.List.{[]}
use Rattle.laws.specs.Call.{Gives}
use Rattle.def.specs.Answers.{after_checks}
use Rattle.def.specs.Answers.{Answer}
use Rattle.def.specs.declared.Refusal.{Refusal}
use Rattle.def.proofs.Answers.{on_refusal}
use Rattle.by_rows_check.proofs.Ladder.{picture_fine, no_map}
use Rattle.df.specs.ByRows.{Input, checked, check, outcome}
use Rattle.df.specs.Deblock as deblock

pub by_refused : (i : Input) (k : Answer) (r : Refusal) → k ≡ check i → k ≡ Err r → Gives outcome i (deblock.refused i.given r)
unfolding outcome
by_refused i k r e q = on_refusal (deblock.refused i.given) (deblock.done i.given) k (check i) r e q

-- an accepted picture comes out as `deblock` has it
pub same_outcome : (i : Input) → check i ≡ Ok tt → deblock.outcome i.given ≡ outcome i
unfolding outcome deblock.outcome
same_outcome i e = rw (e, picture_fine (checked i) e)

-- with no map it is `deblock`
pub without : (g : deblock.Input) → outcome (record { given = g; rows = [] }) ≡ deblock.outcome g
unfolding outcome deblock.outcome
without g = ap (after_checks (deblock.refused g) (deblock.done g)) (no_map (checked (record { given = g; rows = [] })) refl)
