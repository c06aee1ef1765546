-- The marks that the digits give are put. Assumes nothing.
use Rattle.std.specs.Prelude.{Ok}
use mathlib.Core.Path.{◌≡◌, sym, ap, ◌∙◌, subst}
use mathlib.Core.List.{List}
use Prim.Native.Nat.{ℕ, ◌-◌, ◌/◌, ◌<◌}
use native.Mathlib.Omega.{arith}
use Rattle.std.proofs.lemmas.List.{length-take-le, get_or-take}
use lib.ListN.{length, replicate}
use Rattle.bits.specs.Bits.{bits_from}
use Rattle.marks.specs.Stored.{counted, marks_in}
use Rattle.marks.proofs.Callers.{take_told}
use Rattle.marks.proofs.Growing.{counted_done}
use Rattle.marks_rules.specs.Descent.{root_descent}
use Rattle.marks_rules.specs.Marks.{Mark, put_all}
use Rattle.pack.proofs.Writing.{not_both}
use Rattle.unpack.proofs.read.fill_root.Goals as goal

-- the digits are not refused
pub returns-in_default : goal.returns-in_default
returns-in_default c =
    let a = c.args in
    let p = c.requires in
    let own = root_descent (a.w / 4) (a.h / 4) a.i (bits_from a.src.now a.from (a.to - a.from)) in
    let t = take_told _ c.take_marks.result _ p.0 p.3 p.1 c.take_marks.ensures in
    let told : c.take_marks.result ≡ Ok (length own.marks) = t.0 ∙ ap (counted _) p.4 in
    not_both _ _ _ told c.in_default.is

pub slice_bounds-fill_list-end : goal.slice_bounds-fill_list-end
slice_bounds-fill_list-end c =
    let a = c.args in
    let p = c.requires in
    let own = root_descent (a.w / 4) (a.h / 4) a.i (bits_from a.src.now a.from (a.to - a.from)) in
    let t = take_told _ c.take_marks.result _ p.0 p.3 p.1 c.take_marks.ensures in
    let told : c.take_marks.result ≡ Ok (length own.marks) = t.0 ∙ ap (counted _) p.4 in
    let n : c.in-Ok.n ≡ length own.marks = (counted_done _ _ (Ok tt) (sym c.in-Ok.is ∙ told)).1 in
    let u = t.1 p.4 in
    omega (arith, n, u.few, u.long)

pub slice_bounds-fill_list-end-2 : goal.slice_bounds-fill_list-end-2
slice_bounds-fill_list-end-2 c =
    let a = c.args in
    let p = c.requires in
    let own = root_descent (a.w / 4) (a.h / 4) a.i (bits_from a.src.now a.from (a.to - a.from)) in
    let t = take_told _ c.take_marks.result _ p.0 p.3 p.1 c.take_marks.ensures in
    let told : c.take_marks.result ≡ Ok (length own.marks) = t.0 ∙ ap (counted _) p.4 in
    let n : c.in-Ok.n ≡ length own.marks = (counted_done _ _ (Ok tt) (sym c.in-Ok.is ∙ told)).1 in
    let u = t.1 p.4 in
    sym (length-take-le _ _ (omega (arith, n, u.few, u.long)))

pub fill_list-requires : goal.fill_list-requires
fill_list-requires c =
    let a = c.args in
    let p = c.requires in
    let own = root_descent (a.w / 4) (a.h / 4) a.i (bits_from a.src.now a.from (a.to - a.from)) in
    let t = take_told _ c.take_marks.result _ p.0 p.3 p.1 c.take_marks.ensures in
    let told : c.take_marks.result ≡ Ok (length own.marks) = t.0 ∙ ap (counted _) p.4 in
    let n : c.in-Ok.n ≡ length own.marks = (counted_done _ _ (Ok tt) (sym c.in-Ok.is ∙ told)).1 in
    let u = t.1 p.4 in
    let few = length-take-le c.in-Ok.n c.take_marks.new.out (omega (arith, n, u.few, u.long)) in (
      p.2,
      λ j l.
          let m = subst (λ (k : ℕ). j < k) few l in
          subst (λ (v : ℕ). v < 2048) (sym (get_or-take c.in-Ok.n c.take_marks.new.out j 0 m)) (u.small j (subst (λ (k : ℕ). j < k) n m)),
    )

pub returns : goal.returns
returns c =
    let a = c.args in
    let p = c.requires in
    let own = root_descent (a.w / 4) (a.h / 4) a.i (bits_from a.src.now a.from (a.to - a.from)) in
    let t = take_told _ c.take_marks.result _ p.0 p.3 p.1 c.take_marks.ensures in
    let told : c.take_marks.result ≡ Ok (length own.marks) = t.0 ∙ ap (counted _) p.4 in
    let n : c.in-Ok.n ≡ length own.marks = (counted_done _ _ (Ok tt) (sym c.in-Ok.is ∙ told)).1 in
    let u = t.1 p.4 in
    (n, c.fill_list.ensures ∙ ap (λ (z : List Mark). put_all z (replicate 1024 0)) (ap (marks_in c.take_marks.new.out) n ∙ u.back))
