-- `df::all_done` meets its contract: a loop that stores from the front. Assumes nothing.
use Prim.Native.Nat.{ℕ, ◌-◌}
use mathlib.Core.Path.{ap, ◌∙◌}
use native.Mathlib.Omega.{arith}
use borrow.Author.Rules.{rules}
use lib.ListN.{length, get_or}
use Rattle.laws.proofs.Fill.{Upto, upto_none, upto_more, upto_all}
use Rattle.def.specs.Word.{with_done}
use Rattle.df_rules.specs.Visit.{all_done}
use Rattle.df.proofs.all_done.Statement.{statement}
use Rattle.df.proofs.all_done.Tie as tie

abbrev invariant-loop : tie.invariant-loop-k
invariant-loop words₀ n k₀ words k = Upto 0 (λ (j : ℕ). with_done (get_or words₀ j 0)) words₀ words k

abbrev decreases-loop : tie.decreases-loop-k
decreases-loop words₀ n k₀ words k = length words₀ - k

loop_again : tie.Need-loop-k-preserved invariant-loop decreases-loop
loop_again c =
    let u = c.loop-k.invariant in
    let k = c.loop-k.k in
    upto_more _ _ _ _ k _ (omega arith) (c.set_cod.ensures ∙ ap with_done (u.above k (omega arith))) u

returns : tie.Need-returns invariant-loop decreases-loop
unfolding all_done
returns c = upto_all _ _ _ _ c.loop-k.k (omega arith) c.loop-k.invariant

pub all_done_spec : {M : Type 1} → statement M
all_done_spec =
    tie.close
    (tie.spec invariant-loop decreases-loop (λ c. upto_none _ _ _) (λ c. search rules) (λ c. search rules) (λ c κs. search rules) (λ c. search rules)
    (λ c. search rules) (λ c. search rules) (λ c. search rules) loop_again (λ c. c.loop-k.invariant.long) returns)
