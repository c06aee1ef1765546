-- The byte that a block has to have for the walk to go on: a block that reaches past the picture is cut, and any other is a leaf unless its byte
-- is 1. The walk is refused at the first block whose byte is another.
-- Assumes nothing: these are definitions.
use Rattle.std.specs.Prelude.{List, [], ◌∷◌, ℕ, suc, ◌+◌, ◌^◌, eqb, leb, ltb, get_or, Ok, Err}
use Rattle.def.specs.Answers.{Answer}
use Rattle.def.specs.declared.Refusal.{Refusal}
use Rattle.def.specs.declared.Refusal.TheVariants.{Split, Leaf as PastPicture}
use Rattle.laws.specs.Call.{unless}
use Rattle.laws.specs.Index.{pick}
use Rattle.split.specs.Walk.{by_byte}
use Rattle.marks_rules.specs.Marks.{Mark, marks, byte_of}

-- side: the block's, in units
unfoldable pub mend_by : (old w h side x y : ℕ) → ℕ
mend_by old w h side x y = pick (leb (x + side) w) (pick (leb (y + side) h) (by_byte old 0 1 0) 1) 1

abbrev pub mend_byte : List ℕ → (w h k x y : ℕ) → ℕ
mend_byte s w h k x y = mend_by (byte_of s k x y) w h (2 ^ suc k) x y

abbrev pub mend_marks : List ℕ → (w h k x y : ℕ) → List Mark
mend_marks s w h k x y = marks (mend_byte s w h) w h k x y

-- 4 for a byte that is not 0 or 1; any other that may not stand there is a leaf that reaches past the picture, 5
abbrev pub wrong : ℕ → Refusal
wrong byte = pick (ltb 1 byte) Split PastPicture

-- whether the bytes of some marks stand in s: the first that does not decides
unfoldable pub judge : List ℕ → List Mark → Answer
judge s [] = Ok tt
judge s (m ∷ l) = unless (eqb (get_or s m.place 0) m.byte) (Err (wrong (get_or s m.place 0))) (judge s l)
