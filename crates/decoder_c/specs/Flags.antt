-- A component, a chroma format and a bit of the unit word by their flags, and the settings of deblocking and a unit's motion by their numbers.
-- Assumes nothing: these are definitions.
use Rattle.std.specs.Prelude.{ℕ, Bool, true, false, ℤ}
use Rattle.def.specs.declared.Component.{Component}
use Rattle.def.specs.declared.Component.TheVariants.{Luma, Chroma}
use Rattle.def.specs.declared.Format.{Format}
use Rattle.def.specs.declared.Format.TheVariants.{Grey, Colour}
use Rattle.df_check.specs.declared.Settings.{Settings}
use Rattle.line.specs.declared.Motion.{Motion}
use Rattle.unit_edits.specs.declared.Flag.{Flag}
use Rattle.unit_edits.specs.declared.Flag.TheVariants.{Intra, Coded}

abbrev pub component_of : Bool → Component
component_of true = Chroma
component_of false = Luma

abbrev pub format_of : Bool → Format
format_of true = Colour
format_of false = Grey

abbrev pub flag_of : Bool → Flag
flag_of true = Coded
flag_of false = Intra

abbrev pub motion_of : (x0 y0 x1 y1 refi0 refi1 : ℤ) → Motion
motion_of x0 y0 x1 y1 refi0 refi1 = record { refi0 = refi0; refi1 = refi1; x0 = x0; y0 = y0; x1 = x1; y1 = y1 }

abbrev pub settings_of : ℕ → ℤ → ℤ → Bool → Settings
settings_of limit u v colour = record { limit = limit; u_offset = u; v_offset = v; format = format_of colour }
