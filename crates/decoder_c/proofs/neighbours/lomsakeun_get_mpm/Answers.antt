-- `decoder_c::neighbours::lomsakeun_get_mpm`: past the checks the part has five bytes, and they are copied. Assumes nothing.
use Prim.Native.Nat.{ℕ}
use mathlib.Core.Path.{sym, ap, ◌∙◌}
use mathlib.Core.List.{List}
use Rattle.def.proofs.Answers.{on_refusal, on_done}
use Rattle.decoder_c.specs.Ranks.{Outcome, outcome}
use Rattle.decoder_c.proofs.Ranks.{accepted, five, ranks}
use Rattle.decoder_c.proofs.neighbours.lomsakeun_get_mpm.Goals as goal

pub copy-requires : goal.copy-requires
copy-requires c =
    let ok = accepted _ _ (sym c.ranks_checked.ensures ∙ c.in-Ok.is) in
    five _ _ c.get_mpm.ensures ok.1 ∙ sym ok.0

pub returns-in-Err : goal.returns-in-Err
unfolding outcome
returns-in-Err c = rw c.refusal_number.ensures (on_refusal _ _ _ _ _ c.ranks_checked.ensures c.in-Err.is)

-- the outcome of the ranks that were copied
abbrev copied : List ℕ → Outcome
copied l = record { number = 0; ranks = l }

pub returns-in-Ok : goal.returns-in-Ok
unfolding outcome
returns-in-Ok c =
    let told = c.in-Ok.is in
    let checks = c.ranks_checked.ensures in
    on_done _ _ _ _ _ checks told (ap copied (c.copy.ensures ∙ ranks _ _ c.get_mpm.ensures (accepted _ _ (sym checks ∙ told)).1))
