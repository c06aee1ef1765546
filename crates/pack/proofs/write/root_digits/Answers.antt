-- A root's marks are listed, and judged against its bytes. Assumes nothing.
use Rattle.std.specs.Prelude.{Ok, Err}
use mathlib.Core.Path.{◌≡◌, sym, ap, ap₂, ◌∙◌, subst}
use Prim.Native.Nat.{ℕ, ◌<◌}
use native.Mathlib.Omega.{arith}
use borrow.Author.Rules.{rules}
use Rattle.std.proofs.lemmas.List.{length-take-le, get_or-take}
use lib.ListN.{length}
use Rattle.def.proofs.Sizes.{sized}
use Rattle.marks.specs.Stored.{counted}
use Rattle.marks.proofs.Callers.{list_told}
use Rattle.marks.proofs.Growing.{counted_done}
use Rattle.split.proofs.Roots.{bytes_long}
use Rattle.pack.proofs.Writing.{own, own_answer, own_long, not_both}
use Rattle.pack.proofs.write.root_digits.Goals as goal

-- none of the call's tests fails
pub returns-in_err-n : goal.returns-in_err-n
returns-in_err-n c =
    let a = c.args in
    let p = c.requires in
    let t = list_told _ c.list_marks.result _ p.0.size p.0.bytes p.2 p.1 c.list_marks.ensures in
    not_both _ _ _ t.0 c.in_err-n.was

pub slice_bounds-judge_root-end-2 : goal.slice_bounds-judge_root-end-2
slice_bounds-judge_root-end-2 c =
    let a = c.args in
    let p = c.requires in
    let t = list_told _ c.list_marks.result _ p.0.size p.0.bytes p.2 p.1 c.list_marks.ensures in
    let n : c.in_ok-n.n ≡ length (own a.w a.h a.splits.now a.i) = (counted_done _ _ (Ok tt) (sym c.in_ok-n.was ∙ t.0)).1 in
    omega (arith, n, t.1.few, t.1.long)

pub slice_bounds-judge_root-end-3 : goal.slice_bounds-judge_root-end-3
slice_bounds-judge_root-end-3 c =
    let a = c.args in
    let p = c.requires in
    let t = list_told _ c.list_marks.result _ p.0.size p.0.bytes p.2 p.1 c.list_marks.ensures in
    let n : c.in_ok-n.n ≡ length (own a.w a.h a.splits.now a.i) = (counted_done _ _ (Ok tt) (sym c.in_ok-n.was ∙ t.0)).1 in
    sym (length-take-le _ _ (omega (arith, n, t.1.few, t.1.long)))

pub judge_root-requires : goal.judge_root-requires
judge_root-requires c =
    let a = c.args in
    let p = c.requires in
    let t = list_told _ c.list_marks.result _ p.0.size p.0.bytes p.2 p.1 c.list_marks.ensures in
    let n : c.in_ok-n.n ≡ length (own a.w a.h a.splits.now a.i) = (counted_done _ _ (Ok tt) (sym c.in_ok-n.was ∙ t.0)).1 in
    let few = length-take-le c.in_ok-n.n c.list_marks.new.out (omega (arith, n, t.1.few, t.1.long)) in (
      bytes_long (sized _ _ p.0.size) _ _ p.1 p.0.bytes,
      λ j l.
          let m = subst (λ (k : ℕ). j < k) few l in
          subst (λ (v : ℕ). v < 2048) (sym (get_or-take c.in_ok-n.n c.list_marks.new.out j 0 m)) (t.1.small j (subst (λ (k : ℕ). j < k) n m)),
    )

pub returns-in_err-judge_root : goal.returns-in_err-judge_root
returns-in_err-judge_root c =
    let a = c.args in
    let p = c.requires in
    let t = list_told _ c.list_marks.result _ p.0.size p.0.bytes p.2 p.1 c.list_marks.ensures in
    let n : c.in_ok-n.n ≡ length (own a.w a.h a.splits.now a.i) = (counted_done _ _ (Ok tt) (sym c.in_ok-n.was ∙ t.0)).1 in
    let e : c.from_residual-in_err-judge_root.result ≡ Err c.in_err-judge_root.field-0.0 = search rules in
    e ∙ ap (counted _) (sym c.in_err-judge_root.was ∙ own_answer a.w a.h a.splits.now a.i t.1 _ _ n c.judge_root.ensures)

pub returns : goal.returns
returns c =
    let a = c.args in
    let p = c.requires in
    let t = list_told _ c.list_marks.result _ p.0.size p.0.bytes p.2 p.1 c.list_marks.ensures in
    let n : c.in_ok-n.n ≡ length (own a.w a.h a.splits.now a.i) = (counted_done _ _ (Ok tt) (sym c.in_ok-n.was ∙ t.0)).1 in
    let d = sym (own_answer a.w a.h a.splits.now a.i t.1 _ _ n c.judge_root.ensures) ∙ c.in_ok-judge_root.was in
    sym (ap₂ counted (own_long a.w a.h a.splits.now a.i d ∙ sym n) d)
