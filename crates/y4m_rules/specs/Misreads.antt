-- Why a stream is refused, with its place.
-- Assumes nothing: this is a definition.
use Rattle.std.specs.Prelude.{ℕ}
use Rattle.def.specs.declared.Refusal.{Refusal}
use Rattle.y4m_rules.specs.declared.Misread.{Misread}

abbrev pub misread : Refusal → (at : ℕ) → Misread
misread r at = record { refusal = r; at = at }
