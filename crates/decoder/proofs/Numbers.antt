-- The worked numbers, computed by the checker: whatever stands at the places that a line leaves open.
-- Assumes nothing.
use Prim.Native.Nat.{ℕ}
use mathlib.Core.Path.{◌≡◌, refl}
use mathlib.Core.List.{map}
use Rattle.laws.specs.Bits.{field_of, with_field}
use Rattle.laws.specs.Clip.{max_z, min_z, clip_z, abs_z, with_sign, held_to, sample_z}
use Rattle.laws.specs.Index.{tabulate_from}
use Rattle.def.specs.Word.{flag_at, leaf_word}
use Rattle.chroma_qp_check.specs.Pivots.{entry_qp, in_of, out_of}
use Rattle.chroma_qp.specs.Mapping.{clip_qp, below, past, between, up_to, table_at, table_of}
use Rattle.ipred.specs.Modes.{sum_below, log2, dc, predicted}
use Rattle.line.specs.Line.{step_of, limit_of, far_of, moved_by, line_z, line_of}
use Rattle.line.specs.Row.{eq_z, far, counted_as, same_refs, any_far, motion_row, row_of}
use Rattle.df_rules.specs.Strength.{row_by, strength_of}
use Rattle.df_rules.specs.Window.{line_at, lines_at, window_at}
use Rattle.decoder.specs.Numbers.{Line, answered, table}

pub numbers : (z : ℕ) → map (λ (l : Line). answered l.asked) (table z) ≡ map (λ (l : Line). l.answer) (table z)
unfolding answered tabulate_from window_at lines_at line_at strength_of row_by leaf_word with_field max_z min_z clip_z abs_z with_sign sample_z held_to line_of line_z
    moved_by far_of limit_of step_of row_of motion_row same_refs any_far far counted_as eq_z flag_at field_of predicted dc sum_below log2 table_of table_at up_to past below between clip_qp out_of in_of entry_qp
numbers z = refl
