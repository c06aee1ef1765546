-- Eight lines side by side in a list of 32, in one of two layouts.
--     rows      the eight As, then the Bs, the Cs and the Ds: so lie lines side by side, row by row
--     halves    A and B of each line, and then C and D of each: so lie lines below each other, half by half
-- Assumes nothing: these are definitions.
use Rattle.std.specs.Prelude.{ℕ, zero, suc, ◌+◌, ◌*◌, ◌/◌, ◌%◌, min, List, get_or}
use Rattle.laws.specs.Index.{tabulate}
use Rattle.line.specs.declared.Quad.{Quad}
use Rattle.line.specs.Line.{line_of}

-- where lane k has its samples; and whose a place is, by its lane and its sample's number
pub record Layout : Type 0 where
  pub at : ℕ → Quad
  pub lane : ℕ → ℕ
  pub sample : ℕ → ℕ

abbrev pub rows : Layout
rows = record { at = λ k. record { a = k; b = k + 8; c = k + 16; d = k + 24 }; lane = λ i. i % 8; sample = λ i. i / 8 }

abbrev pub halves : Layout
halves =
    record { at = λ k. record { a = 2 * k; b = 2 * k + 1; c = 2 * k + 16; d = 2 * k + 17 }; lane = λ i. i % 16 / 2; sample = λ i. 2 * (i / 16) + i % 2 }

abbrev pub lane_of : Layout → List ℕ → ℕ → Quad
lane_of l t k = record { a = get_or t (l.at k).a 0; b = get_or t (l.at k).b 0; c = get_or t (l.at k).c 0; d = get_or t (l.at k).d 0 }

-- a line filtered as samples: more than 1023 counts as 1023
abbrev pub held_line : Quad → (st : ℕ) → Quad
held_line q st = line_of (min q.a 1023) (min q.b 1023) (min q.c 1023) (min q.d 1023) st

-- what lane k becomes, at its own strength
abbrev pub became : Layout → (t st : List ℕ) → ℕ → Quad
became l t st k = held_line (lane_of l t k) (get_or st k 0)

-- a line's sample by its number
unfoldable pub nth : ℕ → Quad → ℕ
nth zero q = q.a
nth (suc zero) q = q.b
nth (suc (suc zero)) q = q.c
nth (suc (suc (suc n))) q = q.d

-- each place has what its lane became
unfoldable pub lanes_of : Layout → (t st : List ℕ) → List ℕ
lanes_of l t st = tabulate 32 (λ (i : ℕ). nth (l.sample i) (became l t st (l.lane i)))
