-- What the functions that list marks leave behind. A mark is listed as one number.
-- Assumes nothing: these are definitions.
use Rattle.std.specs.Prelude.{Bool, true, false, List, [], ◌∷◌, map, ◌≡◌, ℕ, ◌+◌, ◌*◌, ◌/◌, ◌%◌, ◌^◌, ◌<◌, length, get_or, take, drop, Ok, Err, Result}
use Rattle.std.proofs.lemmas.List.Edits.{sets}
use Rattle.def.specs.declared.Refusal.{Refusal}
use Rattle.def.specs.Answers.{Answer}
use Rattle.laws.specs.Index.{pick}
use Rattle.marks.specs.declared.Own.{Own}
use Rattle.marks_rules.specs.Descent.{Descent, descents, part_by, after, descend}
use Rattle.marks_rules.specs.Marks.{Mark, mark, four}
use Rattle.marks_rules.specs.Mended.{mend_marks}

-- twice the place, and the byte, which is 0 or 1
abbrev pub mark_number : Mark → ℕ
mark_number m = 2 * m.place + m.byte

abbrev pub numbers : List Mark → List ℕ
numbers l = map mark_number l

-- a mark alone
abbrev pub one : ℕ → ℕ → List Mark
one p b = mark p b ∷ []

-- the answer after which n marks are listed
abbrev pub counted : ℕ → Answer → Result ℕ Refusal
counted n (Ok _) = Ok n
counted n (Err r) = Err r

-- marks are listed after the n before them
pub record Listed (l : List Mark) (out : List ℕ) (n : ℕ) (out' : List ℕ) (r : ℕ) : Type 0 where
  pub count : r ≡ n + length l
  pub stored : out' ≡ sets out n (numbers l)

-- the marks of a descent, by digits of which n were taken, are listed after the n before them, unless it is refused
pub record Grew (g : Descent) (ds out : List ℕ) (n : ℕ) (out' : List ℕ) (r : Result ℕ Refusal) : Type 0 where
  pub answer : r ≡ counted (n + length g.marks) g.walk.answer
  pub left : g.walk.answer ≡ Ok tt → g.left ≡ drop (n + length g.marks) ds
  pub stored : g.walk.answer ≡ Ok tt → out' ≡ sets out n (numbers g.marks)

-- ---- a block whose own mark comes first

-- its own mark is listed, and those of its parts are to follow where it is cut: l has its marks
pub record Opened (l parts : List Mark) (out : List ℕ) (n : ℕ) (out' : List ℕ) (r : ℕ) (cut : Bool) : Type 0 where
  pub own : Listed (take 1 l) out n out' r
  pub rest : drop 1 l ≡ pick cut parts []

-- the marks of the parts of a block of side 2 ^ suc k
abbrev pub part_marks : List ℕ → (w h k x y : ℕ) → List Mark
part_marks s w h k x y = four (λ (n : ℕ). mend_marks s w h k (x + n % 2 * 2 ^ k) (y + n / 2 * 2 ^ k))

-- and what they come to by digits
abbrev pub part_descents : (w h k x y : ℕ) → List ℕ → Descent
part_descents w h k x y = descents (part_by (descend w h k) (2 ^ k) x y) 4

-- the mark with place p is listed, and its parts' are to follow by the digits that are left
pub record Divided (g : Descent) (parts : List ℕ → Descent) (p : ℕ) (ds out : List ℕ) (n : ℕ) (out' : List ℕ) (r : Result ℕ Refusal) : Type 0 where
  pub count : ℕ
  pub answer : r ≡ Ok count
  pub own : Listed (one p 1) out n out' count
  pub rest : g ≡ after (mark p 1) (parts (drop count ds))

-- what a block's own digit comes to: all that there is of it, or its parts' are to follow
pub record Began (g : Descent) (parts : List ℕ → Descent) (p : ℕ) (ds out : List ℕ) (n : ℕ) (out' : List ℕ) (r : Result ℕ Refusal) (cut : Bool) : Type 0 where
  pub whole : cut ≡ false → Grew g ds out n out' r
  pub divided : cut ≡ true → Divided g parts p ds out n out' r

-- how many marks are listed after a block's own digit, or why it is refused
abbrev pub marked_of : Result Own Refusal → Result ℕ Refusal
marked_of (Ok o) = Ok o.count
marked_of (Err r) = Err r

-- and whether its parts' are to follow
abbrev pub cut_of : Result Own Refusal → Bool
cut_of (Ok o) = o.cut
cut_of (Err r) = false

-- ---- a list, read back

-- a mark by its number: twice its place, and its byte
abbrev pub mark_from : ℕ → Mark
mark_from n = mark (n / 2) (n % 2)

-- the first n of a list
abbrev pub marks_in : List ℕ → ℕ → List Mark
marks_in list n = map mark_from (take n list)

-- their places lie among a root's bytes
abbrev pub Small : List ℕ → ℕ → Type 0
Small list n = (j : ℕ) → j < n → get_or list j 0 < 2048
