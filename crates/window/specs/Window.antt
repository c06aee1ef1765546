-- What the calls leave of a plane. Where their lines lie as the call takes them these are filtered, and else the plane stays as it was.
-- Assumes nothing: these are definitions.
use Rattle.std.specs.Prelude.{ℕ, ◌+◌, ◌-◌, ◌*◌, Bool, ◌&&◌, ◌||◌, List, eqb, leb, ltb}
use Rattle.laws.specs.Index.{pick}
use Rattle.line.specs.declared.Mask.{Mask}
use Rattle.window.specs.declared.Place.{Place}
use Rattle.window.specs.Lines.{lines_of}

-- the last sample of n lines
abbrev pub last_of : Place → (n : ℕ) → ℕ
last_of p n = p.at + (n - 1) * p.next + 3 * p.step

-- n lines lie in a plane of `long` samples
abbrev pub inside : Place → (n long : ℕ) → Bool
inside p n long = ltb (last_of p n) long

-- and side by side: their samples are four rows of n, no two of which meet
unfoldable pub by_rows : Place → (n long : ℕ) → Bool
by_rows p n long = (inside p n long && eqb p.next 1) && leb n p.step

-- or the samples of each do
unfoldable pub by_halves : Place → (n long : ℕ) → Bool
by_halves p n long = inside p n long && eqb p.step 1

-- one or the other
unfoldable pub lies : Place → (n long : ℕ) → Bool
lies p n long = by_rows p n long || by_halves p n long

-- those of two edges, n in all: the same, and no sample is in two of them
unfoldable pub lies_apart : Place → (n long : ℕ) → Bool
lies_apart p n long = by_rows p n long || (by_halves p n long && leb 4 p.next)

-- the strength of line k: s₀ for the first n, and s₁ for those after them
abbrev pub twice : (n s₀ s₁ : ℕ) → ℕ → ℕ
twice n s₀ s₁ k = pick (ltb k n) s₀ s₁

-- n lines, where they lie so
unfoldable pub window_of : (so : Bool) → Mask → (st : ℕ → ℕ) → Place → (n : ℕ) → List ℕ → List ℕ
window_of so m st p n xs = pick so (lines_of m st p.step p.next p.at n xs) xs
