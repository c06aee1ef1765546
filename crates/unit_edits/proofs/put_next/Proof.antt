-- `unit_edits::put_next` meets its contract: nothing, or the store of `put_edge`. Assumes nothing.
use mathlib.Core.Path.{sym}
use borrow.Author.Rules.{rules}
use borrow.Author.Tests.{not-true, not-false}
use Rattle.unit_edits.proofs.put_next.Statement.{statement}
use Rattle.unit_edits.proofs.put_next.Tie as tie

returns : tie.Need-returns-then-not-inside
returns c = rw (not-true c.args.inside c.if-not-inside.true-raw)

put_edge_requires : tie.Need-put_edge-requires
put_edge_requires c κs =
    let p = c.requires in
    let e = c.if-not-inside.false in
    (p.0, (p.1 e).0, sym (p.1 e).1, p.2)

returns-2 : tie.Need-returns
returns-2 c = rw (not-false c.args.inside c.if-not-inside.false-raw) c.put_edge.ensures

pub put_next_spec : {M : Type 1} → statement M
put_next_spec = tie.close (tie.spec returns put_edge_requires (λ c. search rules) returns-2)
