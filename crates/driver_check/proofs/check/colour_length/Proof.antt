-- `driver_check::check::colour_length` meets its contract: an arm for each format. Assumes nothing.
use Prim.Native.Nat.{◌*◌, ◌/◌, ◌≤◌}
use mathlib.Core.Path.{refl}
use native.Mathlib.Nat.{mul-le-mul}
use native.Mathlib.Omega.{arith}
use borrow.Author.Rules.{rules}
use Rattle.driver_check.proofs.check.colour_length.Statement.{statement}
use Rattle.driver_check.proofs.check.colour_length.Tie as tie

chroma : (s : tie.Start) → s.args.w / 2 * (s.args.h / 2) ≤ 4194304
chroma s = mul-le-mul {n₂ = 2048} {m₂ = 2048} (omega (arith, s.requires.wide)) (omega (arith, s.requires.high))

returns : tie.Need-returns-in-Grey
returns c = rw c.in-Grey.is refl

returns-2 : tie.Need-returns-in-Colour
returns-2 c = rw c.in-Colour.is refl

pub colour_length_spec : {M : Type 1} → statement M
colour_length_spec =
    tie.close (tie.spec (λ c. search rules) (λ c. search rules) (λ c. omega (arith, chroma c.before)) returns returns-2)
