-- `line::same_refs` meets its contract: the code is the list of tests. Assumes nothing.
use mathlib.Core.Path.{◌∙◌}
use mathlib.Core.Bool.{◌&&◌}
use borrow.Author.Rules.{rules}
use Rattle.line.specs.Row.{eq_z, same_refs}
use Rattle.line.proofs.Rows.{read}
use Rattle.line.proofs.same_refs.Statement.{statement}
use Rattle.line.proofs.same_refs.Tie as tie

returns : tie.Need-returns
unfolding same_refs
returns c =
    let f = c.struct_told-1.given in
    let g = c.struct_told-2-1.given in
    let q = read c.args.q f.0.1 f.1.0.1 f.1.1.0.1 f.1.1.1.0.1 f.1.1.1.1.0.1 f.1.1.1.1.1.0.1 in
    let p = read c.args.p g.0.1 g.1.0.1 g.1.1.0.1 g.1.1.1.0.1 g.1.1.1.1.0.1 g.1.1.1.1.1.0.1 in
    (λ i.
    (c.same_refi.ensures ∙ (λ j. eq_z (q.refi0 j) (p.refi0 j))) i
    && (c.same_refi-2.ensures ∙ (λ j. eq_z (q.refi1 j) (p.refi1 j))) i)

pub same_refs_spec : {M : Type 1} → statement M
same_refs_spec = tie.close (tie.spec (λ c κs. search rules) (λ c κs. search rules) returns)
