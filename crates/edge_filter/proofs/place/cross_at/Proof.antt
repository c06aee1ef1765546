-- `edge_filter::place::cross_at` meets its contract: of the edge's two numbers. Assumes nothing.
use Prim.Native.Nat.{ℕ, ◌≤◌}
use mathlib.Core.Path.{◌≡◌, ◌∙◌}
use borrow.Author.Rules.{rules}
use Rattle.split.specs.Edges.{Pass, vertical, horizontal, edge}
use Rattle.split.specs.Rows.{cross_of}
use Rattle.edge_filter.specs.Edges.{pass_of}
use Rattle.edge_filter.proofs.place.cross_at.Statement.{statement}
use Rattle.edge_filter.proofs.place.cross_at.Tie as tie

few : (d : Pass) {x y r n : ℕ} → x ≤ n → y ≤ n → r ≡ cross_of d (edge x y) → r ≤ n
few vertical h k e = rw e h
few horizontal h k e = rw e k

returns : tie.Need-returns
returns c =
    let d = pass_of c.args.pass in
    let x = c.number_at.ensures in
    let y = c.number_at-2.ensures in
    (c.cross_of.ensures ∙ (λ k. cross_of d (edge (x.0 k) (y.0 k))), few d x.1 y.1 c.cross_of.ensures)

pub cross_at_spec : {M : Type 1} → statement M
cross_at_spec =
    tie.close
    (tie.spec
    (λ c. search rules) (λ c κs. search rules) (λ c. search rules) (λ c. search rules) (λ c κs. search rules) (λ c κs. search rules) returns)
