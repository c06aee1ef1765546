-- `line::moved` meets its contract: each arm's answer is its callee's.
use borrow.Author.Rules.{rules}
use Rattle.line.proofs.moved.Statement.{statement}
use Rattle.line.proofs.moved.Tie as tie

pub moved_spec : {M : Type 1} → statement M
moved_spec =
    tie.close
    (tie.spec (λ c κs. search rules) (λ c κs. search rules)
    (λ c. rw c.if-lower.true c.down.ensures) (λ c. rw c.if-lower.false c.up.ensures))
