-- The call `root_list`: a pass's edges of the root at the luma place (x, y) of a picture of w by h samples, into a lent list of 512 numbers, as `list_edges`
-- writes them. The picture may be a band: it then lies below `top` rows of units, its edges are listed so many rows further down, and its top edge is an edge.
-- Assumes nothing: these are definitions.
use Rattle.std.specs.Prelude.{ℕ, ◌+◌, ◌/◌, Bool, List, map, eqb, leb, length, Ok, Err}
use Rattle.std.proofs.lemmas.List.Edits.{sets}
use Rattle.def.specs.Answers.{after_checks}
use Rattle.def.specs.Picture.{size_ok}
use Rattle.def.specs.Answers.{Answer}
use Rattle.def.specs.declared.Refusal.{Refusal}
use Rattle.def.specs.declared.Refusal.TheVariants.{Size, Length}
use Rattle.laws.specs.Call.{unless}
use Rattle.laws.specs.Orders.{each}
use Rattle.split.specs.Edges.{Edge, edges_of, edge_numbers, pass_of}
use Rattle.split.specs.LeavesCall as leaves
use Rattle.split.specs.Walk.{Leaf, leaf}

-- a leaf, r rows of units further down
abbrev pub leaf_down : ℕ → Leaf → Leaf
leaf_down r p = leaf p.x (p.y + r) p.side

pub record Input : Type 0 where
  pub w : ℕ
  pub h : ℕ
  pub splits : List ℕ
  pub x : ℕ
  pub y : ℕ
  pub horizontal : Bool
  pub halved : Bool
  pub top : ℕ
  pub out : List ℕ

-- 1: also where what lies above leaves no room in a picture's 1,024 rows of units; 2: also where the list has not 512 numbers; then as `leaves`
unfoldable pub check_of : (w h : ℕ) → List ℕ → (x y top out : ℕ) → Answer
check_of w h s x y top out =
    unless (size_ok w h) (Err Size)
    (unless (leb (top + h / 4) 1024) (Err Size)
    (unless (eqb out 512) (Err Length)
    (leaves.check_of w h s x y 768)))

abbrev pub check : Input → Answer
check i = check_of i.w i.h i.splits i.x i.y i.top (length i.out)

abbrev pub edges_at : Input → List Edge
edges_at i = edges_of (pass_of i.horizontal) i.halved (map (leaf_down i.top) (leaves.leaves_at i.w i.h i.splits i.x i.y))

abbrev pub refused : Input → Refusal → leaves.Outcome
refused i r = leaves.after (Err r) i.out

abbrev pub done : Input → leaves.Outcome
done i = leaves.after (Ok (length (edges_at i))) (sets i.out 0 (each edge_numbers (edges_at i)))

unfoldable pub outcome : Input → leaves.Outcome
outcome i = after_checks (refused i) (done i) (check i)
