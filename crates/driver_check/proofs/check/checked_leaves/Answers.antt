-- `driver_check::check::checked_leaves`: a row of checks, the walk's among them.
use Rattle.std.specs.Prelude.{Err}
use Rattle.std.proofs.Common.{sym, ◌∙◌}
use Rattle.std.proofs.lemmas.Result.{err_from_is_err_and}
use Rattle.laws.proofs.Calls.{stops, goes_on}
use Rattle.def.proofs.Answers.{on_refusal, on_done}
use Rattle.def.proofs.Sizes.{sized}
use Rattle.driver_rules.specs.Call.{check_of}
use Rattle.driver_rules.proofs.Calls.{check_is}
use Rattle.driver_rules.proofs.Checks.{read_told, walk_answer}
use Rattle.driver_check.proofs.check.checked_leaves.Goals as goal

pub returns-then-not-size_ok : goal.returns-then-not-size_ok
unfolding check_of
returns-then-not-size_ok c = stops _ _ _ _ c.size_ok.ensures c.if-not-size_ok.true-raw

pub read_ok-requires : goal.read_ok-requires
read_ok-requires c = sized _ _ (sym c.size_ok.ensures ∙ c.if-not-size_ok.false)

pub returns-then-not-read_ok : goal.returns-then-not-read_ok
unfolding check_of
returns-then-not-read_ok c =
    goes_on _ _ _ _ _ c.size_ok.ensures c.if-not-size_ok.false-raw
    (stops _ _ _ _ c.read_ok.ensures c.if-not-read_ok.true-raw)

pub written_ok-requires : goal.written_ok-requires
written_ok-requires c = sized _ _ (sym c.size_ok.ensures ∙ c.if-not-size_ok.false)

pub returns-then-not-written_ok : goal.returns-then-not-written_ok
unfolding check_of
returns-then-not-written_ok c =
    goes_on _ _ _ _ _ c.size_ok.ensures c.if-not-size_ok.false-raw
    (goes_on _ _ _ _ _ c.read_ok.ensures c.if-not-read_ok.false-raw
    (stops _ _ _ _ c.written_ok.ensures c.if-not-written_ok.true-raw))

pub returns-in_err-check : goal.returns-in_err-check
unfolding check_of
returns-in_err-check c =
    let size = sym c.size_ok.ensures ∙ c.if-not-size_ok.false in
    let read = read_told _ _ _ _ _ _ _ (sym c.read_ok.ensures ∙ c.if-not-read_ok.false) in
    let walked = check_is _ _ c.check.ensures ∙ walk_answer _ _ _ size read.splits_long in
    let p = err_from_is_err_and c.from_residual.result c.from_residual.ensures.1 in
    goes_on _ _ _ _ _ c.size_ok.ensures c.if-not-size_ok.false-raw
    (goes_on _ _ _ _ _ c.read_ok.ensures c.if-not-read_ok.false-raw
    (goes_on _ _ _ _ _ c.written_ok.ensures c.if-not-written_ok.false-raw
    (rw (p.1, p.2) (on_refusal Err _ c.check.result _ _ walked c.in_err-check.was))))

pub data_checked-requires : goal.data_checked-requires
data_checked-requires c =
    let size = sym c.size_ok.ensures ∙ c.if-not-size_ok.false in
    let read = read_told _ _ _ _ _ _ _ (sym c.read_ok.ensures ∙ c.if-not-read_ok.false) in
    let walked = check_is _ _ c.check.ensures ∙ walk_answer _ _ _ size read.splits_long in
    record { size = size; long = read.splits_long; walked = sym walked ∙ c.in_ok-check.was }

pub returns : goal.returns
unfolding check_of
returns c =
    let size = sym c.size_ok.ensures ∙ c.if-not-size_ok.false in
    let read = read_told _ _ _ _ _ _ _ (sym c.read_ok.ensures ∙ c.if-not-read_ok.false) in
    let walked = check_is _ _ c.check.ensures ∙ walk_answer _ _ _ size read.splits_long in
    goes_on _ _ _ _ _ c.size_ok.ensures c.if-not-size_ok.false-raw
    (goes_on _ _ _ _ _ c.read_ok.ensures c.if-not-read_ok.false-raw
    (goes_on _ _ _ _ _ c.written_ok.ensures c.if-not-written_ok.false-raw
    (on_done Err _ c.check.result _ _ walked c.in_ok-check.was c.data_checked.ensures)))
