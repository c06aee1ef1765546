-- The number of an answer that may have a value: 0 is done.
-- Assumes nothing: these are definitions.
use Rattle.std.specs.Prelude.{ℕ, Result, Ok, Err}
use Rattle.def.specs.Refusals.{number_of}
use Rattle.def.specs.declared.Refusal.{Refusal}

abbrev pub number_in : {T : Type 0} → Result T Refusal → ℕ
number_in (Ok x) = 0
number_in (Err r) = number_of r
