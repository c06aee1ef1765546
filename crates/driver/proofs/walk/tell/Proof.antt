-- `driver::walk::tell` meets its contract: the leaf's units lie in the maps. Assumes nothing.
use borrow.Author.Rules.{rules}
use Rattle.driver.proofs.Leaves.{told_leaf}
use Rattle.driver.proofs.walk.tell.Statement.{statement}
use Rattle.driver.proofs.walk.tell.Tie as tie

returns : tie.Need-returns
returns c =
    told_leaf c.args.w c.args.leaf _ _ _ c.pel2scu-x.ensures c.pel2scu-y.ensures c.word_of-word.ensures c.mode_of-mode.ensures c.requires
    c.tell_units.ensures

pub tell_spec : {M : Type 1} → statement M
tell_spec =
    tie.close
    (tie.spec (λ c κs. search rules) (λ c κs. search rules) (λ c κs. search rules) (λ c κs. search rules) (λ c κs. search rules) (λ c. search rules) (λ c. search rules)
    (λ c. search rules) returns)
