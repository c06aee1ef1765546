-- `marks::list_marks` meets its contract: 1, 2, 8, and then the marks, written straight into the lent list. Assumes nothing.
use mathlib.Core.Bool.{◌&&◌}
use mathlib.Core.Path.{◌≡◌, refl, sym, ap, ◌∙◌}
use Prim.Native.Nat.{ℕ, ◌*◌, ◌≤◌, ◌<◌}
use native.Mathlib.Omega.{arith}
use borrow.Author.Rules.{rules}
use borrow.Author.Tests.{lt-ltb, le-ltb}
use lib.Dec.{eqb}
use lib.ListN.{length}
use Rattle.def.specs.Picture.{root_count}
use Rattle.def.proofs.Sizes.{Sized, sized}
use Rattle.def.specs.declared.Refusal.TheVariants.{Size, Length, Block}
use Rattle.laws.proofs.Calls.{stops, goes_on, at_refusal, past_refusal}
use Rattle.marks.specs.ListCall as list-call
use Rattle.marks.proofs.Calls.{list_refused, list_done, lengths_told}
use Rattle.marks.proofs.list_marks.Statement.{statement}
use Rattle.marks.proofs.list_marks.Tie as tie

size_told : (c : tie.Else-not-size_ok) → Sized c.args.w c.args.h
size_told c = sized _ _ (sym c.size_ok.ensures ∙ c.if-not-size_ok.false)

-- the test of the lengths, as the rule has it
lengths : (c : tie.After-roots_in-roots) → let a = c.args in
    (eqb (length a.splits.now) (1024 * c.roots_in-roots.result) && eqb (length a.out.now) 85) ≡ list-call.lengths_ok a.w a.h (length a.splits.now) (length a.out.now)
unfolding list-call.lengths_ok
lengths c = ap (λ (n : ℕ). eqb (length c.args.splits.now) (1024 * n) && eqb
    (length c.args.out.now) 85) c.roots_in-roots.ensures.0

in_picture : (c : tie.Else-roots-root) → c.args.root < root_count
    c.args.w c.args.h
in_picture c = omega (arith, c.if-roots-root.false, c.roots_in-roots.ensures.0)

outside : (c : tie.Then-roots-root) → root_count c.args.w
    c.args.h ≤ c.args.root
outside c = omega (arith, c.if-roots-root.true, c.roots_in-roots.ensures.0)

returns : tie.Need-returns-then-not-size_ok
unfolding list-call.check
returns c = list_refused _ Size (stops _ _ _ _ c.size_ok.ensures c.if-not-size_ok.true-raw)

returns-2 : tie.Need-returns-then-not-splits-roots
unfolding list-call.check
returns-2 c =
    list_refused _ Length
    (goes_on _ _ _ _ _ c.size_ok.ensures c.if-not-size_ok.false-raw (stops _ _ _ _ (lengths c.before) c.if-not-splits-roots.true-raw))

returns-3 : tie.Need-returns-then-roots-root
unfolding list-call.check
returns-3 c =
    list_refused _ Block
    (goes_on _ _ _ _ _ c.size_ok.ensures c.if-not-size_ok.false-raw
    (goes_on _ _ _ _ _ (lengths c.before.before) c.if-not-splits-roots.false-raw
    (at_refusal _ _ _ (le-ltb _ _ (outside c)))))

root_marks_requires : tie.Need-root_marks-requires
root_marks_requires c κs =
    let l = lengths_told _ _ _ _ (sym (lengths c.before.before.before) ∙ c.if-not-splits-roots.false) in
    (size_told c.before.before.before.before, l.0, in_picture c.before, l.1)

returns-4 : tie.Need-returns
unfolding list-call.check
returns-4 c =
    list_done _ _ _
    (goes_on _ _ _ _ _ c.size_ok.ensures c.if-not-size_ok.false-raw
    (goes_on _ _ _ _ _ (lengths c.before.before.before.before.before.before) c.if-not-splits-roots.false-raw
    (past_refusal _ _ _ _ (lt-ltb _ _ (in_picture c.before.before.before.before)) refl)))
    c.root_marks.ensures

pub list_marks_spec : {M : Type 1} → statement M
list_marks_spec =
    tie.close
    (tie.spec
    (λ c κs. search rules)
    returns
    (λ c κs. size_told c)
    (λ c. search rules)
    returns-2
    returns-3
    root_marks_requires
    (λ c. search rules)
    returns-4)
