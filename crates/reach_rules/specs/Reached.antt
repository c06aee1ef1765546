-- Which split bytes a walk reaches, by their places, in the order of the walk. A walk that is refused reaches none after that; other bytes are never read.
-- Assumes nothing: these are definitions.
use Rattle.std.specs.Prelude.{ℕ, zero, suc, ◌+◌, ◌*◌, ◌/◌, ◌%◌, ◌^◌, Bool, ◌≡◌, ltb, get_or, Ok, Err}
use mathlib.Core.List.{List, [], ◌∷◌, ◌++◌, Memᴰ, map}
use Rattle.def.specs.Answers.{Answer}
use Rattle.laws.specs.Index.{pick}
use Rattle.split.specs.Edges.{Pass, edge_list}
use Rattle.split.specs.Picture.{roots, root_bytes, root_x, root_y, root_walk, picture_walk, all_leaves}
use Rattle.split.specs.Walk.{Walk, in_turn, by_byte, place, part, walk}

-- what is reached next, unless the walk so far was refused
unfoldable pub next_reached : Answer → List ℕ → List ℕ
next_reached (Ok _) l = l
next_reached (Err r) l = []

-- walks in turn: f walks, and r is what each would reach
unfoldable pub in_turn_reached : (ℕ → Walk) → (ℕ → List ℕ) → ℕ → List ℕ
in_turn_reached f r zero = []
in_turn_reached f r (suc n) = in_turn_reached f r n ++ next_reached (in_turn f n).answer (r n)

-- a block of side 2 ^ k at (x, y): its own byte, if it starts in the picture and is no unit, and those of its parts, if that byte cuts it
unfoldable pub reached : List ℕ → (w h k x y : ℕ) → List ℕ
reached s w h zero x y = []
reached s w h (suc k) x y =
    pick (ltb x w)
    (pick (ltb y h)
    (place k x y
    ∷ by_byte (get_or s (place k x y) 0)
    []
    (in_turn_reached (part (walk s w h k) (2 ^ k) x y) (λ (n : ℕ). reached s w h k (x + n % 2 * 2 ^ k) (y + n / 2 * 2 ^ k)) 4)
    [])
    [])
    []

-- root i, by the places in the map of all roots; and a picture
abbrev pub root_reached : List ℕ → (w h i : ℕ) → List ℕ
root_reached s w h i = map (λ (p : ℕ). 1024 * i + p) (reached (root_bytes s i) w h 4 (root_x w i) (root_y w i))

abbrev pub picture_reached : List ℕ → (w h : ℕ) → List ℕ
picture_reached s w h = in_turn_reached (root_walk s w h) (root_reached s w h) (roots w h)

-- two maps have the same bytes at some places
abbrev pub AgreeAt : List ℕ → List ℕ → List ℕ → Type 0
AgreeAt l s t = (p : ℕ) → Memᴰ p l → get_or t p 0 ≡ get_or s p 0

-- of two maps that agree where the walk of the first reaches: one walk, and so one answer; where it is done, the same leaves and the same lists of edges
pub record SameTree (s t : List ℕ) (w h : ℕ) : Type 0 where
  pub walk : picture_walk t w h ≡ picture_walk s w h
  pub leaves : (picture_walk s w h).answer ≡ Ok tt → all_leaves t w h ≡ all_leaves s w h
  pub edges : (picture_walk s w h).answer ≡ Ok tt → (d : Pass) (halved : Bool) → edge_list d halved t w h ≡ edge_list d halved s w h
