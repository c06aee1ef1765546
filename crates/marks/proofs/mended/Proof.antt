-- `marks::mended` meets its contract. Assumes nothing.
use native.Mathlib.Omega.{arith}
use borrow.Author.Rules.{rules}
use Rattle.marks.proofs.Blocks.{mend_x, mend_y, mend_bad, mend_own}
use Rattle.marks.proofs.mended.Statement.{statement}
use Rattle.marks.proofs.mended.Tie as tie

returns-4 : tie.Need-returns
returns-4 c = (mend_own c.requires _ (omega arith) (omega arith) (omega arith), omega arith)

pub mended_spec : {M : Type 1} → statement M
mended_spec = tie.close (tie.spec
    (λ c. search rules)
    (λ c. (mend_x c.requires _ (omega arith), omega arith))
    (λ c. search rules)
    (λ c. (mend_y c.requires _ (omega arith) (omega arith), omega arith))
    (λ c. (mend_bad c.requires _ (omega arith) (omega arith) (omega arith), omega arith))
    returns-4)
