-- That a contract has no second outcome.
-- Assumes nothing: these are definitions.
use Rattle.std.specs.Prelude.{ℕ, ◌≡◌, List}
use contract.Lifetimes.{Lfts}
use borrow.Fn.Kinds.{ParamKind, ResultKind, Dens, res_t, Out, ended_of}
use denote.Triple.Clauses.{AtExit}

-- what a caller has afterwards: the answer, and each slice that the call may write
pub record Ended (R A : Type 0) : Type 0 where
  pub answer : R
  pub lent : List (List A)

abbrev pub ended : {R A : Type 0} → R → List (List A) → Ended R A
ended r l = record { answer = r; lent = l }

-- the contract as the checker reads it from the source (`Post`, over n lifetimes, the parameters ps and the result r) has one outcome:
-- of the same arguments, all that `seen` sees is the same
abbrev pub Sole : (n : ℕ) (ps : List (ParamKind n)) (r : ResultKind n) → Out n ps r → {O : Type 0} → ((κs : Lfts n) → (res_t r κs).Denot → AtExit (ended_of n ps r) κs → O) → Type 0
Sole n ps r Post seen =
    (κs : Lfts n) (a : Dens κs ps) (y y' : (res_t r κs).Denot) (x x' : AtExit (ended_of n ps r) κs) → Post κs a y x → Post κs a y' x' → seen κs y x ≡ seen κs y' x'
