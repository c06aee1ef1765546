-- 1, 2, 8, and then what the digits are refused for; the marks are copied only where nothing was. Assumes nothing.
use Rattle.std.specs.Prelude.{Err, Result}
use mathlib.Core.List.{List, ◌++◌}
use mathlib.Core.Path.{◌≡◌, refl, sym, ap, ◌∙◌}
use Prim.Native.Nat.{ℕ, ◌≤◌, ◌<◌}
use native.Mathlib.Omega.{arith}
use borrow.Author.Rules.{rules}
use borrow.Author.Tests.{lt-ltb, le-ltb, eq-eqb, ne_eqb}
use lib.ListN.{drop, length-take}
use Rattle.def.specs.Picture.{root_count}
use Rattle.def.proofs.Sizes.{sized}
use Rattle.def.specs.declared.Refusal.{Refusal}
use Rattle.def.specs.declared.Refusal.TheVariants.{Size, Length, Block}
use Rattle.laws.proofs.Calls.{stops, goes_on, at_refusal, past_refusal}
use Rattle.split.proofs.Stores.{copied}
use Rattle.marks.specs.ListCall.{reading_of}
use Rattle.marks.specs.TakeCall as take-call
use Rattle.marks.proofs.Calls.{take_refused, taken_few, take_stopped, take_done}
use Rattle.marks.proofs.take_marks.Goals as goal

pub returns-then-not-size_ok : goal.returns-then-not-size_ok
unfolding take-call.check
returns-then-not-size_ok c = take_refused _ Size (stops _ _ _ _ c.size_ok.ensures c.if-not-size_ok.true-raw)

pub returns-then-out-ne85 : goal.returns-then-out-ne85
unfolding take-call.check
returns-then-out-ne85 c = take_refused _ Length (goes_on _ _ _ _ _ c.size_ok.ensures c.if-not-size_ok.false-raw (at_refusal _ _ _ (ne_eqb _ _ c.if-out-ne85.true)))

pub roots_in-requires : goal.roots_in-requires
roots_in-requires c = sized _ _ (sym c.size_ok.ensures ∙ c.if-not-size_ok.false)

pub returns-then-roots_in-root : goal.returns-then-roots_in-root
unfolding take-call.check
returns-then-roots_in-root c =
    let outside : root_count c.args.w c.args.h ≤ c.args.root = omega (arith, c.if-roots_in-root.true, c.roots_in.ensures.0) in
    take_refused _ Block
    (goes_on _ _ _ _ _ c.size_ok.ensures c.if-not-size_ok.false-raw
    (past_refusal _ _ _ _ (eq-eqb _ _ c.if-out-ne85.false) (at_refusal _ _ _ (le-ltb _ _ outside))))

pub root_grown-requires : goal.root_grown-requires
root_grown-requires c = (sized _ _ (sym c.size_ok.ensures ∙ c.if-not-size_ok.false), omega (arith, c.if-roots_in-root.false, c.roots_in.ensures.0))

-- the list of 85 holds them
pub slice_bounds-copy_from_slice-end : goal.slice_bounds-copy_from_slice-end
slice_bounds-copy_from_slice-end c =
    let a = c.args in
    let i : take-call.Input = record { w = a.w; h = a.h; src = a.src.now; from = a.from; to = a.to; root = a.root; out = a.out.now } in
    let f = taken_few i c.root_grown.ensures _ c.in_ok-n.was in
    omega (arith, f, c.if-out-ne85.false)

pub slice_bounds-copy_from_slice-end-2 : goal.slice_bounds-copy_from_slice-end-2
slice_bounds-copy_from_slice-end-2 c =
    let a = c.args in
    let i : take-call.Input = record { w = a.w; h = a.h; src = a.src.now; from = a.from; to = a.to; root = a.root; out = a.out.now } in
    let f = taken_few i c.root_grown.ensures _ c.in_ok-n.was in
    omega (arith, f, c.if-out-ne85.false, length-take c.in_ok-n.n a.out.now)

pub slice_bounds-list-end : goal.slice_bounds-list-end
slice_bounds-list-end c =
    let a = c.args in
    let i : take-call.Input = record { w = a.w; h = a.h; src = a.src.now; from = a.from; to = a.to; root = a.root; out = a.out.now } in
    let f = taken_few i c.root_grown.ensures _ c.in_ok-n.was in
    omega (arith, f, c.root_grown.array_long)

pub slice_bounds-copy_from_slice-end-3 : goal.slice_bounds-copy_from_slice-end-3
slice_bounds-copy_from_slice-end-3 c =
    let a = c.args in
    let i : take-call.Input = record { w = a.w; h = a.h; src = a.src.now; from = a.from; to = a.to; root = a.root; out = a.out.now } in
    let f = taken_few i c.root_grown.ensures _ c.in_ok-n.was in
    omega (arith, f, c.root_grown.array_long, length-take c.in_ok-n.n c.root_grown.new.list)

pub returns : goal.returns
unfolding take-call.check
returns c =
    let a = c.args in
    let i : take-call.Input = record { w = a.w; h = a.h; src = a.src.now; from = a.from; to = a.to; root = a.root; out = a.out.now } in
    let f = taken_few i c.root_grown.ensures _ c.in_ok-n.was in
    let in_picture : a.root < root_count a.w a.h = omega (arith, c.if-roots_in-root.false, c.roots_in.ensures.0) in
    let passed : (take-call.descent i).walk.answer ≡ take-call.check i =
    goes_on _ _ _ _ _ c.size_ok.ensures c.if-not-size_ok.false-raw
    (past_refusal _ _ _ _ (eq-eqb _ _ c.if-out-ne85.false) (past_refusal _ _ _ _ (lt-ltb _ _ in_picture) refl)) in
    let n = c.in_ok-n.n in
    let list = c.root_grown.new.list in
    take_done i c.root_grown.ensures n _ refl c.in_ok-n.was passed
    (ap (λ (l : List ℕ). l ++ drop n a.out.now) c.copy_from_slice.ensures.after ∙ copied list a.out.now n (omega (arith, f, c.root_grown.array_long)) (omega (arith, f, c.if-out-ne85.false)))

pub returns-in_err-n : goal.returns-in_err-n
unfolding take-call.check
returns-in_err-n c =
    let a = c.args in
    let i : take-call.Input = record { w = a.w; h = a.h; src = a.src.now; from = a.from; to = a.to; root = a.root; out = a.out.now } in
    let in_picture : a.root < root_count a.w a.h = omega (arith, c.if-roots_in-root.false, c.roots_in.ensures.0) in
    let passed : (take-call.descent i).walk.answer ≡ take-call.check i =
    goes_on _ _ _ _ _ c.size_ok.ensures c.if-not-size_ok.false-raw
    (past_refusal _ _ _ _ (eq-eqb _ _ c.if-out-ne85.false) (past_refusal _ _ _ _ (lt-ltb _ _ in_picture) refl)) in
    let e : c.from_residual.result ≡ Err c.in_err-n.field-0.0 = search rules in
    rw e
    (ap (λ (m : Result ℕ Refusal). record { reading = reading_of m; out = a.out.now }) (sym c.in_err-n.was)
    ∙ take_stopped i c.root_grown.ensures _ c.in_err-n.was passed)
