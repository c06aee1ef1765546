-- `y4m_header_out::numbers_ok` meets its contract: by the chroma format. Assumes nothing.
use mathlib.Core.Path.{◌≡◌}
use mathlib.Core.Bool.{Bool, false, ◌&&◌}
use Prim.Native.Nat.{ℕ}
use borrow.Author.Rules.{rules}
use Rattle.def.specs.declared.Format.{Format}
use Rattle.def.specs.declared.Format.TheVariants.{Grey, Colour}
use Rattle.y4m_rules.specs.Numbers.{in_range}
use Rattle.y4m_header_out.specs.WriteCall.{numbers_ok}
use Rattle.y4m_header_out.proofs.numbers_ok.Statement.{statement}
use Rattle.y4m_header_out.proofs.numbers_ok.Tie as tie

module _ (c : Format) (f g a b : ℕ) where
  grey : c ≡ Grey → false ≡ numbers_ok c f g a b
  unfolding numbers_ok
  grey e = rw e

  colour : (p q r s : Bool) → c ≡ Colour → p ≡ in_range f → q ≡ in_range g → r ≡ in_range a → s ≡ in_range b → (((p && q) && r) && s) ≡ numbers_ok c f g a b
  unfolding numbers_ok
  colour p q r s e ef eg ea eb = rw (e, ef, eg, ea, eb)

returns : tie.Need-returns-in-Grey
returns c = grey _ _ _ _ _ c.in-Grey.is

returns-2 : tie.Need-returns-in-Colour
returns-2 c =
    colour _ _ _ _ _ _ _ _ _ c.in-Colour.is c.in_range.ensures c.in_range-in-Colour.ensures c.in_range-in-Colour-2.ensures c.in_range-in-Colour-3.ensures

pub numbers_ok_spec : {M : Type 1} → statement M
numbers_ok_spec =
    tie.close
    (tie.spec (λ c. search rules) (λ c. search rules) (λ c κs. search rules) (λ c κs. search rules) (λ c κs. search rules) (λ c κs. search rules) returns returns-2)
