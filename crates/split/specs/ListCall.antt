-- The call `list_edges`: both passes' lists of a picture of w by h samples, into lent buffers of 2 * (w/4) * (h/4) numbers each.
-- Assumes nothing: these are definitions.
use Rattle.std.specs.Prelude.{ℕ, ◌*◌, ◌/◌, Bool, List, [], ◌∷◌, eqb, length, Ok, Err, Result}
use Rattle.std.proofs.lemmas.List.Edits.{sets}
use Rattle.def.specs.Answers.{after_checks}
use Rattle.def.specs.Picture.{size_ok, root_count, unit_count}
use Rattle.def.specs.Refusals.{number_of}
use Rattle.def.specs.Answers.{Answer}
use Rattle.def.specs.declared.Refusal.{Refusal}
use Rattle.def.specs.declared.Refusal.TheVariants.{Size, Length, Setting}
use Rattle.laws.specs.Call.{unless, all_of, any_of}
use Rattle.laws.specs.Orders.{each}
use Rattle.split.specs.Edges.{Pass, Edge, vertical, horizontal, edge_list, edge_numbers}
use Rattle.split.specs.Picture.{picture_walk}
use Rattle.split.specs.declared.EdgeCounts.{EdgeCounts}

pub record Input : Type 0 where
  pub w : ℕ
  pub h : ℕ
  pub splits : List ℕ
  pub limit : ℕ
  pub vertical : List ℕ
  pub horizontal : List ℕ

-- the answer's number, and both lists' lengths in edges
pub record Reading : Type 0 where
  pub number : ℕ
  pub vertical : ℕ
  pub horizontal : ℕ

abbrev pub reading_of : Result EdgeCounts Refusal → Reading
reading_of (Ok c) = record { number = 0; vertical = c.vertical; horizontal = c.horizontal }
reading_of (Err r) = record { number = number_of r; vertical = 0; horizontal = 0 }

pub record Outcome : Type 0 where
  pub reading : Reading
  pub vertical : List ℕ
  pub horizontal : List ℕ

-- 1,024 bytes a root, and two numbers a unit for each list
unfoldable pub lengths_ok : (w h splits m n : ℕ) → Bool
lengths_ok w h splits m n = all_of (eqb splits (1024 * root_count w h) ∷ eqb m (2 * unit_count w h) ∷ eqb n (2 * unit_count w h) ∷ [])

-- the transform limit is 5 or 6
unfoldable pub limit_ok : ℕ → Bool
limit_ok limit = any_of (eqb limit 5 ∷ eqb limit 6 ∷ [])

-- m, n: the buffers' lengths
unfoldable pub check_of : (w h : ℕ) → List ℕ → (limit m n : ℕ) → Answer
check_of w h s limit m n =
    unless (size_ok w h) (Err Size)
    (unless (lengths_ok w h (length s) m n) (Err Length)
    (unless (limit_ok limit) (Err Setting)
    (picture_walk s (w / 4) (h / 4)).answer))

abbrev pub check : Input → Answer
check i = check_of i.w i.h i.splits i.limit (length i.vertical) (length i.horizontal)

-- a pass's list
abbrev pub pass_edges : Pass → Input → List Edge
pass_edges d i = edge_list d (eqb i.limit 5) i.splits (i.w / 4) (i.h / 4)

-- the outcome of an answer and the two buffers at exit
abbrev pub after : Result EdgeCounts Refusal → List ℕ → List ℕ → Outcome
after r m n = record { reading = reading_of r; vertical = m; horizontal = n }

abbrev pub refused : Input → Refusal → Outcome
refused i r = after (Err r) i.vertical i.horizontal

abbrev pub done : Input → Outcome
done i =
    after (Ok (record { vertical = length (pass_edges vertical i); horizontal = length (pass_edges horizontal i) }))
    (sets i.vertical 0 (each edge_numbers (pass_edges vertical i)))
    (sets i.horizontal 0 (each edge_numbers (pass_edges horizontal i)))

unfoldable pub outcome : Input → Outcome
outcome i = after_checks (refused i) (done i) (check i)
