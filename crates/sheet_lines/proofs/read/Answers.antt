-- `lₖ` is what is known once line k was read, and each way out cites those before it. Assumes nothing.
use Rattle.std.proofs.Common.{◌≤◌, length, arith}
use Rattle.std.proofs.lemmas.Result.{err_from_is_err_and}
use Rattle.sheet_lines.specs.declared.Kind.TheVariants.{Width, Height, Limit, Edge, Splits}
use Rattle.sheet_lines.proofs.Answers.{gives}
use Rattle.sheet_lines.proofs.Ladder.{step, stop, start_zero, bad_0, bad_1, bad_2, bad_3, bad_4, extra, whole}
use Rattle.sheet_lines.proofs.read.Goals as goal

pub returns-in_err-w : goal.returns-in_err-w
returns-in_err-w c =
    let s = c.args.input.now in
    let b = stop Width s 0 0 _ _ _ (start_zero s) c.line_at.ensures c.ok_or.ensures.value _ c.in_err-w.was in
    let p = err_from_is_err_and c.from_residual.result c.from_residual.ensures.1 in
    rw (p.1, p.2, b.1) (gives s _ (bad_0 s b.0))

pub line_at-requires-2 : goal.line_at-requires-2
line_at-requires-2 c =
    let s = c.args.input.now in
    let l₀ = step Width s 0 0 _ _ _ (start_zero s) c.line_at.ensures c.ok_or.ensures.value _ _ c.in_ok-w.was in
    l₀.inside

pub returns-in_err-h : goal.returns-in_err-h
returns-in_err-h c =
    let s = c.args.input.now in
    let l₀ = step Width s 0 0 _ _ _ (start_zero s) c.line_at.ensures c.ok_or.ensures.value _ _ c.in_ok-w.was in
    let b = stop Height s 1 _ _ _ _ l₀.next c.line_at-2.ensures c.ok_or-2.ensures.value _ c.in_err-h.was in
    let p = err_from_is_err_and c.from_residual-in_err-h.result c.from_residual-in_err-h.ensures.1 in
    rw (p.1, p.2, b.1) (gives s _ (bad_1 s l₀.ok b.0))

pub line_at-requires-3 : goal.line_at-requires-3
line_at-requires-3 c =
    let s = c.args.input.now in
    let l₀ = step Width s 0 0 _ _ _ (start_zero s) c.line_at.ensures c.ok_or.ensures.value _ _ c.in_ok-w.was in
    let l₁ = step Height s 1 _ _ _ _ l₀.next c.line_at-2.ensures c.ok_or-2.ensures.value _ _ c.in_ok-h.was in
    l₁.inside

pub returns-in_err-limit : goal.returns-in_err-limit
returns-in_err-limit c =
    let s = c.args.input.now in
    let l₀ = step Width s 0 0 _ _ _ (start_zero s) c.line_at.ensures c.ok_or.ensures.value _ _ c.in_ok-w.was in
    let l₁ = step Height s 1 _ _ _ _ l₀.next c.line_at-2.ensures c.ok_or-2.ensures.value _ _ c.in_ok-h.was in
    let b = stop Limit s 2 _ _ _ _ l₁.next c.line_at-3.ensures c.ok_or-3.ensures.value _ c.in_err-limit.was in
    let p = err_from_is_err_and c.from_residual-in_err-limit.result c.from_residual-in_err-limit.ensures.1 in
    rw (p.1, p.2, b.1) (gives s _ (bad_2 s l₀.ok l₁.ok b.0))

pub line_at-requires-4 : goal.line_at-requires-4
line_at-requires-4 c =
    let s = c.args.input.now in
    let l₀ = step Width s 0 0 _ _ _ (start_zero s) c.line_at.ensures c.ok_or.ensures.value _ _ c.in_ok-w.was in
    let l₁ = step Height s 1 _ _ _ _ l₀.next c.line_at-2.ensures c.ok_or-2.ensures.value _ _ c.in_ok-h.was in
    let l₂ = step Limit s 2 _ _ _ _ l₁.next c.line_at-3.ensures c.ok_or-3.ensures.value _ _ c.in_ok-limit.was in
    l₂.inside

pub returns-in_err-edge : goal.returns-in_err-edge
returns-in_err-edge c =
    let s = c.args.input.now in
    let l₀ = step Width s 0 0 _ _ _ (start_zero s) c.line_at.ensures c.ok_or.ensures.value _ _ c.in_ok-w.was in
    let l₁ = step Height s 1 _ _ _ _ l₀.next c.line_at-2.ensures c.ok_or-2.ensures.value _ _ c.in_ok-h.was in
    let l₂ = step Limit s 2 _ _ _ _ l₁.next c.line_at-3.ensures c.ok_or-3.ensures.value _ _ c.in_ok-limit.was in
    let b = stop Edge s 3 _ _ _ _ l₂.next c.line_at-4.ensures c.ok_or-4.ensures.value _ c.in_err-edge.was in
    let p = err_from_is_err_and c.from_residual-in_err-edge.result c.from_residual-in_err-edge.ensures.1 in
    rw (p.1, p.2, b.1) (gives s _ (bad_3 s l₀.ok l₁.ok l₂.ok b.0))

pub line_at-requires-5 : goal.line_at-requires-5
line_at-requires-5 c =
    let s = c.args.input.now in
    let l₀ = step Width s 0 0 _ _ _ (start_zero s) c.line_at.ensures c.ok_or.ensures.value _ _ c.in_ok-w.was in
    let l₁ = step Height s 1 _ _ _ _ l₀.next c.line_at-2.ensures c.ok_or-2.ensures.value _ _ c.in_ok-h.was in
    let l₂ = step Limit s 2 _ _ _ _ l₁.next c.line_at-3.ensures c.ok_or-3.ensures.value _ _ c.in_ok-limit.was in
    let l₃ = step Edge s 3 _ _ _ _ l₂.next c.line_at-4.ensures c.ok_or-4.ensures.value _ _ c.in_ok-edge.was in
    l₃.inside

pub returns-in_err-end : goal.returns-in_err-end
returns-in_err-end c =
    let s = c.args.input.now in
    let l₀ = step Width s 0 0 _ _ _ (start_zero s) c.line_at.ensures c.ok_or.ensures.value _ _ c.in_ok-w.was in
    let l₁ = step Height s 1 _ _ _ _ l₀.next c.line_at-2.ensures c.ok_or-2.ensures.value _ _ c.in_ok-h.was in
    let l₂ = step Limit s 2 _ _ _ _ l₁.next c.line_at-3.ensures c.ok_or-3.ensures.value _ _ c.in_ok-limit.was in
    let l₃ = step Edge s 3 _ _ _ _ l₂.next c.line_at-4.ensures c.ok_or-4.ensures.value _ _ c.in_ok-edge.was in
    let b = stop Splits s 4 _ _ _ _ l₃.next c.line_at-5.ensures c.ok_or-5.ensures.value _ c.in_err-end.was in
    let p = err_from_is_err_and c.from_residual-in_err-end.result c.from_residual-in_err-end.ensures.1 in
    rw (p.1, p.2, b.1) (gives s _ (bad_4 s l₀.ok l₁.ok l₂.ok l₃.ok b.0))

pub returns-then-end-input : goal.returns-then-end-input
returns-then-end-input c =
    let s = c.args.input.now in
    let l₀ = step Width s 0 0 _ _ _ (start_zero s) c.line_at.ensures c.ok_or.ensures.value _ _ c.in_ok-w.was in
    let l₁ = step Height s 1 _ _ _ _ l₀.next c.line_at-2.ensures c.ok_or-2.ensures.value _ _ c.in_ok-h.was in
    let l₂ = step Limit s 2 _ _ _ _ l₁.next c.line_at-3.ensures c.ok_or-3.ensures.value _ _ c.in_ok-limit.was in
    let l₃ = step Edge s 3 _ _ _ _ l₂.next c.line_at-4.ensures c.ok_or-4.ensures.value _ _ c.in_ok-edge.was in
    let l₄ = step Splits s 4 _ _ _ _ l₃.next c.line_at-5.ensures c.ok_or-5.ensures.value _ _ c.in_ok-end.was in
    gives s _ (extra s l₀.ok l₁.ok l₂.ok l₃.ok l₄.ok _ l₄.next c.if-end-input.true)

pub overflow_add-result : goal.overflow_add-result
overflow_add-result c =
    let s = c.args.input.now in
    let l₀ = step Width s 0 0 _ _ _ (start_zero s) c.line_at.ensures c.ok_or.ensures.value _ _ c.in_ok-w.was in
    let l₁ = step Height s 1 _ _ _ _ l₀.next c.line_at-2.ensures c.ok_or-2.ensures.value _ _ c.in_ok-h.was in
    let l₂ = step Limit s 2 _ _ _ _ l₁.next c.line_at-3.ensures c.ok_or-3.ensures.value _ _ c.in_ok-limit.was in
    let l₃ = step Edge s 3 _ _ _ _ l₂.next c.line_at-4.ensures c.ok_or-4.ensures.value _ _ c.in_ok-edge.was in
    let i : c.in_ok-edge.fifth ≤ length s = l₃.inside in
    omega arith

pub overflow_sub-result : goal.overflow_sub-result
overflow_sub-result c =
    let s = c.args.input.now in
    let l₀ = step Width s 0 0 _ _ _ (start_zero s) c.line_at.ensures c.ok_or.ensures.value _ _ c.in_ok-w.was in
    let l₁ = step Height s 1 _ _ _ _ l₀.next c.line_at-2.ensures c.ok_or-2.ensures.value _ _ c.in_ok-h.was in
    let l₂ = step Limit s 2 _ _ _ _ l₁.next c.line_at-3.ensures c.ok_or-3.ensures.value _ _ c.in_ok-limit.was in
    let l₃ = step Edge s 3 _ _ _ _ l₂.next c.line_at-4.ensures c.ok_or-4.ensures.value _ _ c.in_ok-edge.was in
    let l₄ = step Splits s 4 _ _ _ _ l₃.next c.line_at-5.ensures c.ok_or-5.ensures.value _ _ c.in_ok-end.was in
    l₄.some

pub returns : goal.returns
returns c =
    let s = c.args.input.now in
    let l₀ = step Width s 0 0 _ _ _ (start_zero s) c.line_at.ensures c.ok_or.ensures.value _ _ c.in_ok-w.was in
    let l₁ = step Height s 1 _ _ _ _ l₀.next c.line_at-2.ensures c.ok_or-2.ensures.value _ _ c.in_ok-h.was in
    let l₂ = step Limit s 2 _ _ _ _ l₁.next c.line_at-3.ensures c.ok_or-3.ensures.value _ _ c.in_ok-limit.was in
    let l₃ = step Edge s 3 _ _ _ _ l₂.next c.line_at-4.ensures c.ok_or-4.ensures.value _ _ c.in_ok-edge.was in
    let l₄ = step Splits s 4 _ _ _ _ l₃.next c.line_at-5.ensures c.ok_or-5.ensures.value _ _ c.in_ok-end.was in
    gives s _
    (whole s l₀.ok l₁.ok l₂.ok l₃.ok l₄.ok _ _ _ _ _ _ l₀.value l₁.value l₂.value l₃.value l₃.next l₄.next c.if-end-input.false)
