-- `bits::put_bit` meets its contract: past the end nothing is put. Assumes nothing.
use borrow.Author.Rules.{rules}
use Rattle.bits.specs.Bits.{with_bit}
use Rattle.bits.proofs.Laws.{put_past}
use Rattle.bits.proofs.put_bit.Statement.{statement}
use Rattle.bits.proofs.put_bit.Tie as tie

returns : tie.Need-returns-then-buf-i
returns c = put_past _ _ _ c.if-buf-i.true

returns-2 : tie.Need-returns
unfolding with_bit
returns-2 c = rw c.with_bit.ensures

pub put_bit_spec : {M : Type 1} → statement M
put_bit_spec =
    tie.close
    (tie.spec
    returns
    (λ c. search rules)
    (λ c. search rules)
    (λ c κs. search rules)
    (λ c. search rules)
    (λ c. search rules)
    returns-2)
