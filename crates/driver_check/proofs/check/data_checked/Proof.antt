-- `driver_check::check::data_checked` meets its contract: a row of checks, by where the walk ended. Assumes nothing.
use Prim.Native.Nat.{◌*◌}
use mathlib.Core.Path.{◌≡◌, refl, sym, ◌∙◌}
use native.Mathlib.Omega.{arith}
use borrow.Author.Rules.{rules}
use lib.ListN.{length}
use Rattle.laws.proofs.Calls.{stops, goes_on}
use Rattle.driver_rules.specs.Call.{data_check, leaves_of}
use Rattle.driver_rules.proofs.Checks.{data_row, data_row_lem, records_long}
use Rattle.driver_check.proofs.check.data_checked.Statement.{statement}
use Rattle.driver_check.proofs.check.data_checked.Tie as tie

row : (c : tie.After-past_picture-end) → let a = c.args in
    data_row a.format a.leaves.now a.residual c.past_picture-end.result.at c.past_picture-end.result.k a.pred_y.now a.pred_u.now
    a.pred_v.now ≡ data_check a.format a.leaves.now a.residual a.pred_y.now a.pred_u.now a.pred_v.now (leaves_of a.w a.h a.splits.now)
row c =
    let a = c.args in
    data_row_lem a.format a.leaves.now a.residual c.past_picture-end.result.at c.past_picture-end.result.k a.pred_y.now a.pred_u.now
    a.pred_v.now (leaves_of a.w a.h a.splits.now) c.past_picture-end.ensures.0

-- as many records as leaves
long : (c : tie.Else-not-records_ok) → length c.args.leaves.now ≡ 4 * c.past_picture-end.result.k
long c = records_long _ _ _ _ _ (sym c.records_ok.ensures ∙ c.if-not-records_ok.false)

returns : tie.Need-returns-then-not-records_ok
returns c = stops _ _ _ _ c.records_ok.ensures c.if-not-records_ok.true-raw ∙ row c.before.before

returns-2 : tie.Need-returns-then-not-bytes_ok
returns-2 c =
    goes_on _ _ _ _ _ c.records_ok.ensures c.if-not-records_ok.false-raw
    (stops _ _ _ _ c.bytes_ok.ensures c.if-not-bytes_ok.true-raw) ∙ row c.before.before.before.before

returns-3 : tie.Need-returns-then-not-bytes_ok-2
returns-3 c =
    goes_on _ _ _ _ _ c.records_ok.ensures c.if-not-records_ok.false-raw
    (goes_on _ _ _ _ _ c.bytes_ok.ensures c.if-not-bytes_ok.false-raw
    (stops _ _ _ _ c.bytes_ok-2.ensures c.if-not-bytes_ok-2.true-raw)) ∙ row c.before.before.before.before.before.before

returns-4 : tie.Need-returns-then-not-lent_ok
returns-4 c =
    goes_on _ _ _ _ _ c.records_ok.ensures c.if-not-records_ok.false-raw
    (goes_on _ _ _ _ _ c.bytes_ok.ensures c.if-not-bytes_ok.false-raw
    (goes_on _ _ _ _ _ c.bytes_ok-2.ensures c.if-not-bytes_ok-2.false-raw
    (stops _ _ _ _ c.lent_ok.ensures c.if-not-lent_ok.true-raw))) ∙ row c.before.before.before.before.before.before.before.before

returns-5 : tie.Need-returns
returns-5 c =
    goes_on _ _ _ _ _ c.records_ok.ensures c.if-not-records_ok.false-raw
    (goes_on _ _ _ _ _ c.bytes_ok.ensures c.if-not-bytes_ok.false-raw
    (goes_on _ _ _ _ _ c.bytes_ok-2.ensures c.if-not-bytes_ok-2.false-raw
    (goes_on _ _ _ _ _ c.lent_ok.ensures c.if-not-lent_ok.false-raw refl))) ∙ row c.before.before.before.before.before.before.before.before

pub data_checked_spec : {M : Type 1} → statement M
data_checked_spec =
    tie.close
    (tie.spec (λ c κs. search rules) (λ c κs. c.past_picture-end.ensures.1) returns (λ c κs. (omega (arith, long c), omega arith)) returns-2
    (λ c κs. (omega (arith, long c.before.before), omega arith)) returns-3
    (λ c κs. search rules) returns-4 returns-5)
