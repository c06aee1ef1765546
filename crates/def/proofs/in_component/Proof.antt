-- `def::in_component` meets its contract: an arm for each component. Assumes nothing.
use native.Mathlib.Nat.{div-one}
use mathlib.Core.Path.{sym}
use borrow.Author.Rules.{rules}
use Rattle.def.proofs.in_component.Statement.{statement}
use Rattle.def.proofs.in_component.Tie as tie

returns : tie.Need-returns-in-Luma
returns c = rw c.in-Luma.is (sym (div-one _))

returns-2 : tie.Need-returns-in-Chroma
returns-2 c = rw c.in-Chroma.is

pub in_component_spec : {M : Type 1} → statement M
in_component_spec = tie.close (tie.spec (λ c. search rules) (λ c. search rules) returns returns-2)
