-- `df::entries_by` meets its contract: an offset that is stored is read back as it was. Assumes nothing.
use mathlib.Core.Path.{◌∙◌}
use borrow.Author.Rules.{rules}
use mir.Syntax.{w8}
use Rattle.laws.proofs.Widths.{back}
use Rattle.strength.specs.Entries.{entries_in}
use Rattle.df.proofs.entries_by.Statement.{statement}
use Rattle.df.proofs.entries_by.Tie as tie

returns : tie.Need-returns
returns c =
    let a = c.args in
    let g = c.struct_told-1.given in
    let u = back w8 a.s.u_offset (record { sfits = g.1.0.1 }) in
    let v = back w8 a.s.v_offset (record { sfits = g.1.1.0.1 }) in
    c.entries.ensures ∙ (λ i. entries_in a.s.format a.strengths.now a.table0.now (u i) a.table1.now (v i))

pub entries_by_spec : {M : Type 1} → statement M
entries_by_spec = tie.close (tie.spec (λ c κs. search rules) returns)
