-- An answer and its number, and the form of every call: its checks, then, where they pass, what it does; a refusal leaves all as it was.
-- Assumes nothing: these are definitions.
use Rattle.std.specs.Prelude.{ℕ, Result, Ok, Err, ⊤}
use Rattle.def.specs.Refusals.{number_of}
use Rattle.def.specs.declared.Refusal.{Refusal}

-- what a call without values answers, and what the checks before a call's first write find
abbrev pub Answer : Type 0
Answer = Result ⊤ Refusal

-- 0 is done
abbrev pub answer_number : Answer → ℕ
answer_number (Ok _) = 0
answer_number (Err r) = number_of r

-- by what the checks found: the outcome of a refusal, or that of the work
abbrev pub after_checks : {O : Type 0} → (Refusal → O) → O → Answer → O
after_checks refused done (Ok _) = done
after_checks refused done (Err r) = refused r
