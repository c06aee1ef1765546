-- A root's marks are listed, and their bytes are put. Assumes nothing.
use Rattle.std.specs.Prelude.{Ok}
use mathlib.Core.Path.{◌≡◌, sym, ap, ◌∙◌, subst}
use Prim.Native.Nat.{ℕ, ◌%◌, ◌<◌}
use native.Mathlib.Omega.{arith}
use Rattle.std.proofs.lemmas.List.{length-take-le, get_or-take}
use lib.ListN.{length, get_or, take}
use Rattle.bits.specs.Bits.{with_bits}
use Rattle.bits.proofs.Laws.{with_same}
use Rattle.marks.proofs.Callers.{list_told}
use Rattle.marks.proofs.Growing.{counted_done}
use Rattle.pack.proofs.Writing.{own, own_bit, own_long, not_both}
use Rattle.pack.proofs.write.put_root.Goals as goal

-- none of the call's tests fails
pub returns-in_default : goal.returns-in_default
returns-in_default c =
    let a = c.args in
    let p = c.requires in
    let t = list_told _ c.list_marks.result _ p.0.size p.0.bytes p.2 p.1 c.list_marks.ensures in
    not_both _ _ _ t.0 c.in_default.is

pub slice_bounds-put_list-end : goal.slice_bounds-put_list-end
slice_bounds-put_list-end c =
    let a = c.args in
    let p = c.requires in
    let t = list_told _ c.list_marks.result _ p.0.size p.0.bytes p.2 p.1 c.list_marks.ensures in
    let n : c.in-Ok.n ≡ length (own a.w a.h a.splits.now a.i) = (counted_done _ _ (Ok tt) (sym c.in-Ok.is ∙ t.0)).1 in
    omega (arith, n, t.1.few, t.1.long)

pub slice_bounds-put_list-end-2 : goal.slice_bounds-put_list-end-2
slice_bounds-put_list-end-2 c =
    let a = c.args in
    let p = c.requires in
    let t = list_told _ c.list_marks.result _ p.0.size p.0.bytes p.2 p.1 c.list_marks.ensures in
    let n : c.in-Ok.n ≡ length (own a.w a.h a.splits.now a.i) = (counted_done _ _ (Ok tt) (sym c.in-Ok.is ∙ t.0)).1 in
    sym (length-take-le _ _ (omega (arith, n, t.1.few, t.1.long)))

pub put_list-requires : goal.put_list-requires
put_list-requires c =
    let a = c.args in
    let p = c.requires in
    let t = list_told _ c.list_marks.result _ p.0.size p.0.bytes p.2 p.1 c.list_marks.ensures in
    let n : c.in-Ok.n ≡ length (own a.w a.h a.splits.now a.i) = (counted_done _ _ (Ok tt) (sym c.in-Ok.is ∙ t.0)).1 in
    omega (arith, n, t.1.few, t.1.long, length-take-le c.in-Ok.n c.list_marks.new.out (omega (arith, n, t.1.few, t.1.long)), p.4)

pub returns : goal.returns
returns c =
    let a = c.args in
    let p = c.requires in
    let t = list_told _ c.list_marks.result _ p.0.size p.0.bytes p.2 p.1 c.list_marks.ensures in
    let n : c.in-Ok.n ≡ length (own a.w a.h a.splits.now a.i) = (counted_done _ _ (Ok tt) (sym c.in-Ok.is ∙ t.0)).1 in
    let d = p.3 in
    let m = c.in-Ok.n in
    let l = c.list_marks.new.out in
    let few = length-take-le m l (omega (arith, n, t.1.few, t.1.long)) in (
      n ∙ sym (own_long a.w a.h a.splits.now a.i d),
      c.put_list.ensures ∙ ap (with_bits a.buf.now a.at (λ (i : ℕ). get_or (take m l) i 0 % 2)) few
          ∙ with_same _ a.at _ _ m
          (λ k i. ap (λ (v : ℕ). v % 2) (get_or-take m l k 0 i) ∙ own_bit a.w a.h a.splits.now a.i t.1 d k (subst (λ (z : ℕ). k < z) n i)),
    )
