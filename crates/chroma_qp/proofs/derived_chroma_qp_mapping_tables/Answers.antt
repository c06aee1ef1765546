-- `chroma_qp::derived_chroma_qp_mapping_tables`: the checks, then each table.
use Rattle.std.proofs.Common.{arith, sym, ◌∙◌}
use Rattle.std.proofs.lemmas.Result.{err_from_is_err_and}
use Rattle.chroma_qp.specs.Derived.{Input}
use Rattle.chroma_qp.proofs.Outcomes.{Ready, lengths, first_checked, second_checked, by_refusal, by_copy, by_both}
use Rattle.chroma_qp.proofs.derived_chroma_qp_mapping_tables.Goals as goal

pub returns-in_err-checked_points : goal.returns-in_err-checked_points
returns-in_err-checked_points c =
    let p = err_from_is_err_and c.from_residual.result c.from_residual.ensures.1 in
    rw (p.1, p.2) (by_refusal _ _ _ c.checked_points.ensures c.in_err-checked_points.was)

pub fill-requires : goal.fill-requires
fill-requires c =
    let a = c.args in
    let i : Input =
    record {
      global_offset = a.global_offset;
      same_table = a.same_table;
      first = record { count = a.count0; a = a.a0.now; b = a.b0.now };
      second = record { count = a.count1; a = a.a1.now; b = a.b1.now };
      t0 = a.t0.now;
      t1 = a.t1.now;
    } in
    let r : Ready i c.start_qp-s.result =
    record { small = c.start_qp-s.ensures.1; start = c.start_qp-s.ensures.0; told = sym c.checked_points.ensures ∙ c.in_ok-checked_points.was } in
    ((lengths _ _ r).t0, first_checked _ _ r)

pub copy_from_slice-requires : goal.copy_from_slice-requires
copy_from_slice-requires c =
    let a = c.args in
    let i : Input =
    record {
      global_offset = a.global_offset;
      same_table = a.same_table;
      first = record { count = a.count0; a = a.a0.now; b = a.b0.now };
      second = record { count = a.count1; a = a.a1.now; b = a.b1.now };
      t0 = a.t0.now;
      t1 = a.t1.now;
    } in
    let r : Ready i c.start_qp-s.result =
    record { small = c.start_qp-s.ensures.1; start = c.start_qp-s.ensures.0; told = sym c.checked_points.ensures ∙ c.in_ok-checked_points.was } in
    let l = lengths _ _ r in
    omega (arith, c.fill.auto.t, l.t0, l.t1)

pub fill-requires-else-same_table : goal.fill-requires-else-same_table
fill-requires-else-same_table c =
    let a = c.args in
    let i : Input =
    record {
      global_offset = a.global_offset;
      same_table = a.same_table;
      first = record { count = a.count0; a = a.a0.now; b = a.b0.now };
      second = record { count = a.count1; a = a.a1.now; b = a.b1.now };
      t0 = a.t0.now;
      t1 = a.t1.now;
    } in
    let r : Ready i c.start_qp-s.result =
    record { small = c.start_qp-s.ensures.1; start = c.start_qp-s.ensures.0; told = sym c.checked_points.ensures ∙ c.in_ok-checked_points.was } in
    ((lengths _ _ r).t1, second_checked _ _ r c.if-same_table.false)

pub returns-then-same_table : goal.returns-then-same_table
returns-then-same_table c =
    let a = c.args in
    let i : Input =
    record {
      global_offset = a.global_offset;
      same_table = a.same_table;
      first = record { count = a.count0; a = a.a0.now; b = a.b0.now };
      second = record { count = a.count1; a = a.a1.now; b = a.b1.now };
      t0 = a.t0.now;
      t1 = a.t1.now;
    } in
    let r : Ready i c.start_qp-s.result =
    record { small = c.start_qp-s.ensures.1; start = c.start_qp-s.ensures.0; told = sym c.checked_points.ensures ∙ c.in_ok-checked_points.was } in
    by_copy _ _ r _ _ c.fill.ensures c.if-same_table.true c.copy_from_slice.ensures.after

pub returns-else-same_table : goal.returns-else-same_table
returns-else-same_table c =
    let a = c.args in
    let i : Input =
    record {
      global_offset = a.global_offset;
      same_table = a.same_table;
      first = record { count = a.count0; a = a.a0.now; b = a.b0.now };
      second = record { count = a.count1; a = a.a1.now; b = a.b1.now };
      t0 = a.t0.now;
      t1 = a.t1.now;
    } in
    let r : Ready i c.start_qp-s.result =
    record { small = c.start_qp-s.ensures.1; start = c.start_qp-s.ensures.0; told = sym c.checked_points.ensures ∙ c.in_ok-checked_points.was } in
    by_both _ _ r _ _ c.fill.ensures c.if-same_table.false c.fill-else-same_table.ensures
