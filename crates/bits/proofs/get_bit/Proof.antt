-- `bits::get_bit` meets its contract: past the end a byte is read as 0. Assumes nothing.
use mathlib.Core.Path.{refl}
use borrow.Author.Rules.{rules}
use Rattle.laws.specs.Bits.{field_of}
use Rattle.bits.specs.Bits.{bit_at}
use Rattle.bits.proofs.Laws.{bit_past}
use Rattle.bits.proofs.get_bit.Statement.{statement}
use Rattle.bits.proofs.get_bit.Tie as tie

returns : tie.Need-returns-then-buf-i
returns c = bit_past _ _ c.if-buf-i.true

returns-2 : tie.Need-returns
unfolding bit_at field_of
returns-2 c = refl

pub get_bit_spec : {M : Type 1} → statement M
get_bit_spec = tie.close (tie.spec returns (λ c. search rules) (λ c. search rules) (λ c. search rules) (λ c. search rules) returns-2)
