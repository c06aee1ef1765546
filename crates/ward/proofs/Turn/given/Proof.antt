-- `ward::Turn::given` meets its contract: the row is put, or a sample is over. Assumes nothing.
use borrow.Author.Rules.{rules}
use Rattle.ward.proofs.Answers.{given_no, given_yes}
use Rattle.ward.proofs.Turn.given.Statement.{statement}
use Rattle.ward.proofs.Turn.given.Tie as tie

returns : tie.Need-returns-then-not-put_row
returns c =
    let a = c.args in
    let put = c.put_row.ensures in
    given_no a.self a.w a.c a.p.now _ _ _ _ _ c.in_plane-n.ensures
    c.in_plane-stride.ensures c.in_plane-x.ensures
    c.in_plane-y.ensures c.requires
    _ put.0 _ put.1 c.if-not-put_row.true-raw

returns-2 : tie.Need-returns
returns-2 c =
    let a = c.args in
    let put = c.put_row.ensures in
    given_yes a.self a.w a.c a.p.now _ _ _ _ _ c.in_plane-n.ensures
    c.in_plane-stride.ensures c.in_plane-x.ensures
    c.in_plane-y.ensures
    c.requires
    _ put.0 _ put.1 c.if-not-put_row.false-raw c.requires.row _ _
    c.after.ensures c.across_run.ensures

pub given_spec : {M : Type 1} → statement M
given_spec =
    tie.close
    (tie.spec (λ c. search rules) (λ c κs. search rules) (λ c κs. search rules) (λ c κs. search rules) (λ c κs. search rules) (λ c κs. search rules)
    (λ c. search rules) returns (λ c κs. search rules) (λ c κs. search rules) (λ c. search rules) returns-2)
