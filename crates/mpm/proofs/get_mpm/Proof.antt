-- `mpm::get_mpm` meets its contract: the empty part where the checks refuse, and else five ranks within the table. Assumes nothing.
use mathlib.Core.Path.{sym, ◌∙◌}
use native.Mathlib.Omega.{arith}
use borrow.Author.Rules.{rules}
use Rattle.def.proofs.Answers.{on_refusal, on_done}
use Rattle.mpm.specs.Ranks.{PartInput, part_outcome}
use Rattle.mpm.proofs.Modes.{Accepted, accepted}
use Rattle.mpm.proofs.Parts.{no_part, a_part}
use Rattle.mpm.proofs.get_mpm.Statement.{statement}
use Rattle.mpm.proofs.get_mpm.Tie as tie

-- the input of a call
abbrev of : tie.Start → PartInput
of s =
    let a = s.args in
    record {
      input = record { w = a.w; h = a.h; words = a.words.now; modes = a.modes.now; table = a.table.now; x = a.x.0; y = a.y.0 };
      memory = a.table.ref_ptr.0;
      start = a.table.ref_ptr.1;
    }

-- past the checks
good : (c : tie.In-Ok) → Accepted (of c.before.before.before.before.before).input
good c = accepted _ (sym c.checked.ensures ∙ c.in-Ok.is)

returns : tie.Need-returns-in_default
unfolding part_outcome
returns c = no_part (of c.before.before.before.before.before) ∙ on_refusal _ _ _ _ _ c.checked.ensures c.in_default.is

row_start_requires : tie.Need-row_start-at-requires
row_start_requires c κs = ((good c).unit, (good c).modes_ok_lem)

part_result_end : tie.Need-slice_bounds-result-end-2
part_result_end c = omega (arith, (good c.before).table_long)

returns-2 : tie.Need-returns
unfolding part_outcome
returns-2 c =
    on_done _ _ _ _ _ c.checked.ensures c.in-Ok.is
    (a_part (of c.before.before.before.before.before.before.before) _ _ c.row_start-at.ensures.0)

pub get_mpm_spec : {M : Type 1} → statement M
get_mpm_spec =
    tie.close
    (tie.spec
    (λ c κs. search rules)
    (λ c. search rules)
    (λ c. search rules)
    (λ c. search rules)
    returns
    row_start_requires
    (λ c. search rules)
    (λ c. search rules)
    (λ c. search rules)
    part_result_end
    returns-2)
