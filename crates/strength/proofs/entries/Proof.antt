-- `strength::entries` meets its contract: the entries of the format, and an offset that is stored is read back as it was. Assumes nothing.
use mathlib.Core.Path.{sym, ap, ◌∙◌}
use borrow.Author.Rules.{rules}
use mir.Syntax.{w8}
use Rattle.def.specs.declared.Format.{Format}
use Rattle.laws.proofs.Widths.{back}
use Rattle.strength.specs.Entries.{entries_of, entries_in}
use Rattle.strength.proofs.entries.Statement.{statement}
use Rattle.strength.proofs.entries.Tie as tie

returns : tie.Need-returns-in-Grey
unfolding entries_in
returns c =
    let a = c.args in
    c.luma_entries.ensures
    ∙ ap (λ (f : Format). entries_in f a.strengths.now a.table_u.now a.u_offset a.table_v.now a.v_offset) (sym c.in-Grey.is)

returns-2 : tie.Need-returns-in-Colour
unfolding entries_in
returns-2 c =
    let a = c.args in
    let u = back w8 a.u_offset c.ranges.u_offset in
    let v = back w8 a.v_offset c.ranges.v_offset in
    c.colour_entries.ensures
    ∙ (λ i. entries_of a.strengths.now a.table_u.now (u i) a.table_v.now (v i))
    ∙ ap (λ (f : Format). entries_in f a.strengths.now a.table_u.now a.u_offset a.table_v.now a.v_offset) (sym c.in-Colour.is)

pub entries_spec : {M : Type 1} → statement M
entries_spec = tie.close (tie.spec (λ c. search rules) (λ c κs. search rules) (λ c. search rules) (λ c κs. search rules) returns returns-2)
