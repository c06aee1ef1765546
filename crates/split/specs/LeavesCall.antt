-- The call `leaves`: the leaves of the root at the luma place (x, y) of a picture of w by h samples, into a lent list of 768 numbers.
-- Assumes nothing: these are definitions.
use Rattle.std.specs.Prelude.{ℕ, ◌+◌, ◌*◌, ◌/◌, ◌%◌, ◌≤◌, Bool, List, [], ◌∷◌, ◌≡◌, ltb, eqb, length, take, Ok, Err, Result}
use Rattle.std.proofs.lemmas.List.Edits.{sets}
use Rattle.def.specs.Answers.{after_checks}
use Rattle.def.specs.Picture.{size_ok, roots_along, root_count}
use Rattle.def.specs.Refusals.{number_of}
use Rattle.def.specs.Answers.{Answer}
use Rattle.def.specs.declared.Refusal.{Refusal}
use Rattle.def.specs.declared.Refusal.TheVariants.{Size, Length, Block}
use Rattle.laws.specs.Call.{unless, all_of}
use Rattle.laws.specs.Orders.{each}
use Rattle.split.specs.Picture.{root_walk, root_leaves}
use Rattle.split.specs.Stored.{leaf_numbers, counted}
use Rattle.split.specs.Walk.{Leaf}

pub record Input : Type 0 where
  pub w : ℕ
  pub h : ℕ
  pub splits : List ℕ
  pub x : ℕ
  pub y : ℕ
  pub out : List ℕ

-- the answer's number, and how many leaves
pub record Reading : Type 0 where
  pub number : ℕ
  pub count : ℕ

abbrev pub reading_of : Result ℕ Refusal → Reading
reading_of (Ok n) = record { number = 0; count = n }
reading_of (Err r) = record { number = number_of r; count = 0 }

pub record Outcome : Type 0 where
  pub reading : Reading
  pub out : List ℕ

-- 1,024 bytes a root, and three numbers for each of at most 256 leaves
unfoldable pub lengths_ok : (w h splits out : ℕ) → Bool
lengths_ok w h splits out = all_of (eqb splits (1024 * root_count w h) ∷ eqb out 768 ∷ [])

-- a root's place, inside the picture
abbrev pub root_tests : (w h x y : ℕ) → List Bool
root_tests w h x y = eqb (x % 64) 0 ∷ eqb (y % 64) 0 ∷ ltb x w ∷ ltb y h ∷ []

unfoldable pub root_ok : (w h x y : ℕ) → Bool
root_ok w h x y = all_of (root_tests w h x y)

-- the number of the root at (x, y), in raster order
abbrev pub root_index : (w x y : ℕ) → ℕ
root_index w x y = y / 64 * roots_along w + x / 64

-- the leaves of the root at (x, y)
abbrev pub leaves_at : (w h : ℕ) → List ℕ → (x y : ℕ) → List Leaf
leaves_at w h s x y = root_leaves s (w / 4) (h / 4) (root_index w x y)

-- out: the length of the lent list
unfoldable pub check_of : (w h : ℕ) → List ℕ → (x y out : ℕ) → Answer
check_of w h s x y out =
    unless (size_ok w h) (Err Size)
    (unless (lengths_ok w h (length s) out) (Err Length)
    (unless (root_ok w h x y) (Err Block)
    (root_walk s (w / 4) (h / 4) (root_index w x y)).answer))

abbrev pub check : Input → Answer
check i = check_of i.w i.h i.splits i.x i.y (length i.out)

-- the outcome of an answer and the list at exit
abbrev pub after : Result ℕ Refusal → List ℕ → Outcome
after r l = record { reading = reading_of r; out = l }

abbrev pub refused : Input → Refusal → Outcome
refused i r = after (Err r) i.out

abbrev pub done : Input → Outcome
done i =
    let l = leaves_at i.w i.h i.splits i.x i.y in
    after (Ok (length l)) (sets i.out 0 (each leaf_numbers l))

unfoldable pub outcome : Input → Outcome
outcome i = after_checks (refused i) (done i) (check i)

-- what the checks answer before anything is lent out: where they pass, the list starts with the leaves
pub record Met (w h : ℕ) (s : List ℕ) (x y out : ℕ) (list : List ℕ) (r : Result ℕ Refusal) : Type 0 where
  pub answer : r ≡ counted (length (leaves_at w h s x y)) (check_of w h s x y out)
  pub listed : check_of w h s x y out ≡ Ok tt → take (3 * length (leaves_at w h s x y)) list ≡ each leaf_numbers (leaves_at w h s x y)
  pub few : length (leaves_at w h s x y) ≤ 256
