-- What is said of every public call in one place: that its contract has no second outcome (`Sole`), and which refusals it gives.
-- Assumes nothing: these are definitions.
use Rattle.std.specs.Prelude.{ℕ, ◌≡◌, List, [], ◌∷◌, map, ◌⊎◌}
use Rattle.def.specs.Refusals.{number_of}
use Rattle.def.specs.declared.Refusal.{Refusal}
use Rattle.sheet.specs.Text.{Found, refused, listed}
pub use Rattle.sole.specs.Sole.{Ended, ended, Sole}

-- a number is 0 or that of one of some refusals
abbrev pub OneOf : List Refusal → ℕ → Type 0
OneOf [] n = n ≡ 0
OneOf (r ∷ rs) n = (n ≡ number_of r) ⊎ OneOf rs n

-- the refusals of a call, a rung of its ladder each, in their order: no other number is given, and each of them is, to the input shown. Where what is
-- shown for a rung would be refused by the later ones too, no other order can be proved
pub record Refuses {I O : Type 0} (rule : I → O) (number : O → ℕ) (rs : List Refusal) : Type 0 where
  pub only : (i : I) → OneOf rs (number (rule i))
  pub shown : List I
  pub given : map (λ (i : I). number (rule i)) shown ≡ map number_of rs

-- the number that is found in a sheet: what is printed after `refused=`
abbrev pub refusal_in : Found → ℕ
refusal_in (refused r n) = number_of r
refusal_in (listed v h) = 0
