-- The line filter's steps without a sign, on samples. What moves B and C is taken twice, once for each direction, and one of the two is 0.
-- Assumes nothing: these are definitions.
use Rattle.std.specs.Prelude.{ℕ, ◌+◌, ◌-◌, ◌*◌, ◌/◌, min}

-- what raises B and lowers C: c, where d is above 0, and else 0
unfoldable pub rise_of : (a b c d st : ℕ) → ℕ
rise_of a b c d st = let m = ((a + 4 * c) - (4 * b + d)) / 8 in m - 2 * (m - st)

-- what A loses and D gains, at most h: |d2|, where A is above D, and else 0
unfoldable pub ease_of : (a d h : ℕ) → ℕ
ease_of a d h = min ((a - d) / 4) h
