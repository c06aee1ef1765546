-- The five modes: the sample at row i, column j of a block, from the run of its neighbours.
-- The run of a block of side n: 2n samples left of it, downwards; the corner; 2n samples above it, rightwards.
-- Assumes nothing: these are definitions.
use Rattle.std.specs.Prelude.{ℕ, zero, suc, ◌+◌, ◌-◌, ◌*◌, ◌/◌, ◌%◌, ◌^◌, List, [], ◌∷◌, ltb, eqb, get_or}
use Rattle.laws.specs.Index.{pick, tabulate}

abbrev pub left : List ℕ → ℕ → ℕ
left run k = get_or run k 0

abbrev pub corner : ℕ → List ℕ → ℕ
corner side run = get_or run (2 * side) 0

abbrev pub up : ℕ → List ℕ → ℕ → ℕ
up side run k = get_or run (2 * side + 1 + k) 0

-- f 0 + f 1 + .., n of them
unfoldable pub sum_below : (ℕ → ℕ) → ℕ → ℕ
sum_below f zero = 0
sum_below f (suc n) = sum_below f n + f n

-- how often n can be halved, at most m times, before it is below 2
abbrev pub halvings : ℕ → ℕ → ℕ
halvings zero n = 0
halvings (suc m) n = pick (ltb n 2) 0 (suc (halvings m (n / 2)))

unfoldable pub log2 : ℕ → ℕ
log2 n = halvings n n

-- ---- the modes

abbrev pub Mode : Type 0
Mode = (side : ℕ) (run : List ℕ) (i j : ℕ) → ℕ

-- (sum + side) >> (log2 side + 1), the sum being that of the first `side` samples left and above
unfoldable pub dc : Mode
dc side run i j = (sum_below (left run) side + sum_below (up side run) side + side) / 2 ^ (log2 side + 1)

abbrev pub horizontal : Mode
horizontal side run i j = left run i

abbrev pub vertical : Mode
vertical side run i j = up side run j

-- left[i-j-1], corner, up[j-i-1]
unfoldable pub up_left : Mode
up_left side run i j = pick (ltb j i) (left run (i - j - 1)) (pick (eqb j i) (corner side run) (up side run (j - i - 1)))

-- (up[i+j+1] + left[i+j+1]) >> 1
unfoldable pub up_right : Mode
up_right side run i j = (up side run (i + j + 1) + left run (i + j + 1)) / 2

-- the modes by their numbers: 0 DC, 1 horizontal, 2 vertical, 3 UL, 4 UR
abbrev pub modes : List Mode
modes = dc ∷ horizontal ∷ vertical ∷ up_left ∷ up_right ∷ []

-- what is told of a number that is no mode's: never used, such a number is refused
abbrev pub none : Mode
none side run i j = 0

unfoldable pub predicted : ℕ → Mode
predicted mode = get_or modes mode none

-- the block of `side` by `side` samples, f i j at row i, column j
abbrev pub block_of : ℕ → (ℕ → ℕ → ℕ) → List ℕ
block_of side f = tabulate (side * side) (λ (k : ℕ). f (k / side) (k % side))
