-- The contracts over a writer and a reader, as the source has them, have one outcome. x is the struct at exit.
-- Assumes nothing.
use mathlib.Core.List.{List}
use mathlib.Core.Path.{◌≡◌, sym, ◌∙◌}
use Prim.Native.Nat.{ℕ}
use Rattle.def.specs.Answers.{answer_number}
use Rattle.def.specs.Answers.{Answer}
use Rattle.def.proofs.Answers.{answer_apart}
use Rattle.pack_parts.specs.Held.{written, wrote, taken, passed}
use Rattle.pack_parts.specs.declared.Reader.{Reader}
use Rattle.pack_parts.specs.declared.Writer.{Writer}

abbrev pub Wrote : Writer → (w h : ℕ) → List ℕ → Answer → Writer → Type 0
Wrote i w h s r x = (answer_number r ≡ (written i w h s).number) × (x ≡ wrote i w h s)

pub write_sole : (i : Writer) (w h : ℕ) (s : List ℕ) (r r' : Answer) (x x' : Writer) → Wrote i w h s r x → Wrote i w h s r' x' → (r ≡ r') × (x ≡ x')
write_sole i w h s r r' x x' p q = (answer_apart r r' (p.0 ∙ sym q.0), p.1 ∙ sym q.1)

-- m: the map at exit
abbrev pub Read : Reader → (w h : ℕ) → List ℕ → Answer → Reader → List ℕ → Type 0
Read i w h map r x m = (answer_number r ≡ (taken i w h map).number) × (x ≡ passed i w h map) × (m ≡ (taken i w h map).map)

pub read_sole : (i : Reader) (w h : ℕ) (map : List ℕ) (r r' : Answer) (x x' : Reader) (m m' : List ℕ) → Read i w h map r x m → Read i w h map r' x' m' → (r ≡ r') × (x ≡ x') × (m ≡ m')
read_sole i w h map r r' x x' m m' p q = (answer_apart r r' (p.0 ∙ sym q.0), p.1 ∙ sym q.1, p.2 ∙ sym q.2)
