-- A root's marks are listed, put into a copy of its bytes, and compared with them. Assumes nothing.
use Rattle.std.specs.Prelude.{Ok}
use mathlib.Core.Path.{◌≡◌, refl, sym, ap, ◌∙◌, subst}
use Prim.Native.Nat.{ℕ, ◌<◌}
use native.Mathlib.Omega.{arith}
use Rattle.std.proofs.lemmas.List.{length-take-le, get_or-take}
use lib.ListN.{length}
use Rattle.def.proofs.Sizes.{sized}
use Rattle.marks.specs.ListCall as list-call
use Rattle.marks.proofs.Callers.{list_told}
use Rattle.marks.proofs.Growing.{counted_done}
use Rattle.split.proofs.Roots.{bytes_long}
use Rattle.mend.proofs.Calls.{few_of, not_both, root_mended, root_listed}
use Rattle.mend.proofs.mend_root.Goals as goal

pub overflow_mul-start : goal.overflow_mul-start
overflow_mul-start c = omega (arith, few_of _ _ c.requires.0, c.requires.2)

pub overflow_add-end : goal.overflow_add-end
overflow_add-end c = omega (arith, few_of _ _ c.requires.0, c.requires.2)

-- none of the call's tests fails
pub returns-in_default : goal.returns-in_default
returns-in_default c =
    let a = c.args in
    let p = c.requires in
    let t = list_told _ c.list_marks.result _ p.0 p.1 refl p.2 c.list_marks.ensures in
    not_both _ _ _ t.0 c.in_default.is

pub copy-requires : goal.copy-requires
copy-requires c =
    let a = c.args in
    let p = c.requires in
    let t = list_told _ c.list_marks.result _ p.0 p.1 refl p.2 c.list_marks.ensures in
    let long = bytes_long (sized _ _ p.0) _ _ p.2 p.1 in
    long ∙ sym p.3

pub slice_bounds-put_marks-end : goal.slice_bounds-put_marks-end
slice_bounds-put_marks-end c =
    let a = c.args in
    let p = c.requires in
    let t = list_told _ c.list_marks.result _ p.0 p.1 refl p.2 c.list_marks.ensures in
    let n : c.in-Ok.n ≡ length (list-call.root_marks a.w a.h a.splits.now a.i) = (counted_done _ _ (Ok tt) (sym c.in-Ok.is ∙ t.0)).1 in
    let few = length-take-le c.in-Ok.n c.list_marks.new.out (omega (arith, n, t.1.few, t.1.long)) in
    omega (arith, n, t.1.few, t.1.long)

pub slice_bounds-marks-end : goal.slice_bounds-marks-end
slice_bounds-marks-end c =
    let a = c.args in
    let p = c.requires in
    let t = list_told _ c.list_marks.result _ p.0 p.1 refl p.2 c.list_marks.ensures in
    let n : c.in-Ok.n ≡ length (list-call.root_marks a.w a.h a.splits.now a.i) = (counted_done _ _ (Ok tt) (sym c.in-Ok.is ∙ t.0)).1 in
    let few = length-take-le c.in-Ok.n c.list_marks.new.out (omega (arith, n, t.1.few, t.1.long)) in
    omega (arith, n, t.1.few, t.1.long)

pub put_marks-requires : goal.put_marks-requires
put_marks-requires c =
    let a = c.args in
    let p = c.requires in
    let t = list_told _ c.list_marks.result _ p.0 p.1 refl p.2 c.list_marks.ensures in
    let n : c.in-Ok.n ≡ length (list-call.root_marks a.w a.h a.splits.now a.i) = (counted_done _ _ (Ok tt) (sym c.in-Ok.is ∙ t.0)).1 in
    let few = length-take-le c.in-Ok.n c.list_marks.new.out (omega (arith, n, t.1.few, t.1.long)) in (
      ap length c.copy.ensures ∙ bytes_long (sized _ _ p.0) _ _ p.2 p.1,
      (λ j l.
          let m = subst (λ (k : ℕ). j < k) few l in
          subst (λ (v : ℕ). v < 2048) (sym (get_or-take c.in-Ok.n c.list_marks.new.out j 0 m)) (t.1.small j (subst (λ (k : ℕ). j < k) n m))),
    )

pub slice_bounds-list_changes-end : goal.slice_bounds-list_changes-end
slice_bounds-list_changes-end c =
    let a = c.args in
    let p = c.requires in
    let t = list_told _ c.list_marks.result _ p.0 p.1 refl p.2 c.list_marks.ensures in
    let n : c.in-Ok.n ≡ length (list-call.root_marks a.w a.h a.splits.now a.i) = (counted_done _ _ (Ok tt) (sym c.in-Ok.is ∙ t.0)).1 in
    let few = length-take-le c.in-Ok.n c.list_marks.new.out (omega (arith, n, t.1.few, t.1.long)) in
    omega (arith, n, t.1.few, t.1.long)

pub slice_bounds-marks-end-2 : goal.slice_bounds-marks-end-2
slice_bounds-marks-end-2 c =
    let a = c.args in
    let p = c.requires in
    let t = list_told _ c.list_marks.result _ p.0 p.1 refl p.2 c.list_marks.ensures in
    let n : c.in-Ok.n ≡ length (list-call.root_marks a.w a.h a.splits.now a.i) = (counted_done _ _ (Ok tt) (sym c.in-Ok.is ∙ t.0)).1 in
    let few = length-take-le c.in-Ok.n c.list_marks.new.out (omega (arith, n, t.1.few, t.1.long)) in
    omega (arith, n, t.1.few, t.1.long)

pub list_changes-requires : goal.list_changes-requires
list_changes-requires c =
    let a = c.args in
    let p = c.requires in
    let t = list_told _ c.list_marks.result _ p.0 p.1 refl p.2 c.list_marks.ensures in
    let n : c.in-Ok.n ≡ length (list-call.root_marks a.w a.h a.splits.now a.i) = (counted_done _ _ (Ok tt) (sym c.in-Ok.is ∙ t.0)).1 in
    let few = length-take-le c.in-Ok.n c.list_marks.new.out (omega (arith, n, t.1.few, t.1.long)) in
    let long = bytes_long (sized _ _ p.0) _ _ p.2 p.1 in (
      long,
      (λ j l.
          let m = subst (λ (k : ℕ). j < k) few l in
          subst (λ (v : ℕ). v < 2048) (sym (get_or-take c.in-Ok.n c.list_marks.new.out j 0 m)) (t.1.small j (subst (λ (k : ℕ). j < k) n m))),
      omega (arith, few_of _ _ p.0, p.2),
      omega (arith, n, few, t.1.few, p.4),
    )

pub returns : goal.returns
returns c =
    let a = c.args in
    let p = c.requires in
    let t = list_told _ c.list_marks.result _ p.0 p.1 refl p.2 c.list_marks.ensures in
    let n : c.in-Ok.n ≡ length (list-call.root_marks a.w a.h a.splits.now a.i) = (counted_done _ _ (Ok tt) (sym c.in-Ok.is ∙ t.0)).1 in
    let few = length-take-le c.in-Ok.n c.list_marks.new.out (omega (arith, n, t.1.few, t.1.long)) in
    (root_mended a.w a.h a.splits.now a.i t.1 n _ _ c.copy.ensures c.put_marks.ensures, root_listed a.w a.h a.splits.now a.i t.1 n c.list_changes.ensures)
