-- The blocks of 8 or more that a descent meets, in the order of the walk, each with its byte: a mark. A root's digits are the bytes of its marks.
-- Places and sides are in units, as the walk's are.
-- Assumes nothing: these are definitions.
use Rattle.std.specs.Prelude.{List, [], ◌∷◌, ◌++◌, map, ℕ, zero, suc, ◌+◌, ◌*◌, ◌/◌, ◌%◌, ◌^◌, ltb, get_or, set}
use Rattle.laws.specs.Index.{pick}
use Rattle.laws.specs.Orders.{run}
use Rattle.split.specs.Walk.{by_byte, place}

-- where the byte stands among its root's 1,024, and the byte
pub record Mark : Type 0 where
  pub place : ℕ
  pub byte : ℕ

abbrev pub mark : ℕ → ℕ → Mark
mark p b = record { place = p; byte = b }

-- what four parts come to, one after the other
abbrev pub four : {A : Type 0} → (ℕ → List A) → List A
four g = g 0 ++ (g 1 ++ (g 2 ++ g 3))

-- f k x y: the byte of the block of side 2 ^ suc k at (x, y). A block that starts outside the picture is skipped; a unit has no byte
unfoldable pub marks : (ℕ → ℕ → ℕ → ℕ) → (w h k x y : ℕ) → List Mark
marks f w h zero x y = []
marks f w h (suc k) x y =
    pick (ltb x w)
    (pick (ltb y h)
    (mark (place k x y) (f k x y)
    ∷ by_byte (f k x y) [] (four (λ (n : ℕ). marks f w h k (x + n % 2 * 2 ^ k) (y + n / 2 * 2 ^ k))) [])
    [])
    []

-- the byte that stands there: s has a root's bytes
abbrev pub byte_of : List ℕ → ℕ → ℕ → ℕ → ℕ
byte_of s k x y = get_or s (place k x y) 0

abbrev pub bytes : List Mark → List ℕ
bytes l = map (λ (m : Mark). m.byte) l

-- the digits of the root at (x, y), in the order of the walk
unfoldable pub digits : List ℕ → (w h x y : ℕ) → List ℕ
digits s w h x y = bytes (marks (byte_of s) w h 4 x y)

-- the bytes with those of some marks put, the first first
unfoldable pub put_all : List Mark → List ℕ → List ℕ
put_all l s = run (λ (m : Mark) (t : List ℕ). set t m.place m.byte) l s

-- blocks of 8 or more that a block of side 2 ^ k units may have: 85 in a root
unfoldable pub blocks_in : ℕ → ℕ
blocks_in zero = 0
blocks_in (suc k) = 1 + 4 * blocks_in k
