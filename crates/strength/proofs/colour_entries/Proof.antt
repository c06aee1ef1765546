-- `strength::colour_entries` meets its contract: luma's entries, then U's rows and V's, copied from them. Assumes nothing.
use mathlib.Core.Path.{ap, ◌∙◌}
use native.Mathlib.Omega.{arith}
use borrow.Author.Rules.{rules}
use lib.ListN.{length}
use mir.Syntax.{w8}
use Rattle.laws.proofs.Planes.{length_row}
use Rattle.laws.proofs.Widths.{back}
use Rattle.strength.specs.ChromaQp.{mapped_qps}
use Rattle.strength.proofs.ChromaQp.{qps_most}
use Rattle.strength.proofs.Strengths.{luma_long, rows_put_lem, whole}
use Rattle.strength.proofs.colour_entries.Statement.{statement}
use Rattle.strength.proofs.colour_entries.Tie as tie

put_rows_requires : tie.Need-put_rows-requires
put_rows_requires c κs =
    (omega arith, omega arith, rw c.mapped_qps-u.ensures (qps_most _ _))

put_v_rows_requires : tie.Need-put_v_rows-requires
put_v_rows_requires c κs =
    let e = c.put_rows.ensures in
    let l = c.luma_entries-list in
    let q = c.mapped_qps-u in
    let long = ap length l.ensures ∙ luma_long _ in (
      rw (e, length_row) (omega (arith, long)),
      rw c.mapped_qps-v.ensures (qps_most _ _),
      rw e (rows_put_lem l.result q.result (omega (arith, long)) (rw q.ensures (qps_most _ _))),
    )

returns : tie.Need-returns
returns c =
    let l = c.luma_entries-list in
    whole _ _ _ _ _ l.result l.ensures _ _ _ _
    (c.mapped_qps-u.ensures ∙ ap (mapped_qps c.args.table_u.now) (back w8 _ c.ranges.u_offset))
    (c.mapped_qps-v.ensures ∙ ap (mapped_qps c.args.table_v.now) (back w8 _ c.ranges.v_offset))
    c.put_rows.ensures
    c.put_v_rows.ensures

pub colour_entries_spec : {M : Type 1} → statement M
colour_entries_spec =
    tie.close
    (tie.spec (λ c κs. search rules) (λ c κs. search rules) (λ c. search rules) put_rows_requires (λ c κs. search rules) (λ c. search rules)
    put_v_rows_requires returns)
