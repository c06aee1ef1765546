-- The marks before this one stand there, and this one does or decides. Assumes nothing.
use Rattle.std.specs.Prelude.{Err}
use mathlib.Core.List.{List, map}
use mathlib.Core.Path.{◌≡◌, sym, ap, subst, ◌∙◌}
use Prim.Native.Nat.{ℕ, ◌≤◌, ◌<◌}
use native.Mathlib.Nat.{le_refl}
use native.Mathlib.Omega.{arith}
use borrow.Author.Tests.{lt-ltb, le-ltb}
use lib.ListN.{length, get_or, take}
use lib.Seq.{take-length}
use Rattle.def.specs.declared.Refusal.TheVariants.{Split, Leaf}
use Rattle.marks.specs.Stored.{mark_from}
use Rattle.marks_rules.specs.Mended.{judge, wrong}
use Rattle.marks_rules.proofs.Mended.{judge_none}
use Rattle.pack.proofs.Writing.{judge_more, judge_wrong}
use Rattle.pack.proofs.write.judge_root.Goals as goal

pub loop-mark-init : goal.loop-mark-init
loop-mark-init c = judge_none _

bad : (b : ℕ) → 1 < b → wrong b ≡ Split
bad b l = rw (lt-ltb 1 b l)

past : (b : ℕ) → b ≤ 1 → wrong b ≡ Leaf
past b l = rw (le-ltb 1 b l)

pub returns-then-byte-gt1 : goal.returns-then-byte-gt1
returns-then-byte-gt1 c =
    let a = c.args in
    let stands = ap (λ (p : ℕ). get_or a.bytes.now p 0) c.mark_place.ensures in
    let all = ap (λ (z : List ℕ). judge a.bytes.now (map mark_from z)) (take-length a.marks.now) in
    let w = judge_wrong a.bytes.now a.marks.now _ c.loop-mark.invariant _ c.loop-mark-test.true (le_refl _) (λ e. c.if-byte-mark_byte.true (stands ∙ e ∙ sym c.mark_byte.ensures)) in
    sym (sym all ∙ w ∙ ap Err (bad _ (subst (λ (b : ℕ). 1 < b) stands c.if-byte-gt1.true)))

pub returns-then-byte-mark_byte : goal.returns-then-byte-mark_byte
returns-then-byte-mark_byte c =
    let a = c.args in
    let stands = ap (λ (p : ℕ). get_or a.bytes.now p 0) c.mark_place.ensures in
    let all = ap (λ (z : List ℕ). judge a.bytes.now (map mark_from z)) (take-length a.marks.now) in
    let w = judge_wrong a.bytes.now a.marks.now _ c.loop-mark.invariant _ c.loop-mark-test.true (le_refl _) (λ e. c.if-byte-mark_byte.true (stands ∙ e ∙ sym c.mark_byte.ensures)) in
    sym (sym all ∙ w ∙ ap Err (past _ (subst (λ (b : ℕ). b ≤ 1) stands c.if-byte-gt1.false)))

pub loop-mark-preserved : goal.loop-mark-preserved
loop-mark-preserved c =
    let a = c.args in
    let j = c.loop-mark.mark-index in
    let stands = ap (λ (p : ℕ). get_or a.bytes.now p 0) c.mark_place.ensures in
    judge_more a.bytes.now a.marks.now j c.loop-mark.invariant c.loop-mark-test.true (sym stands ∙ c.if-byte-mark_byte.false ∙ c.mark_byte.ensures)

pub returns : goal.returns
returns c =
    let a = c.args in
    let e : c.loop-mark.mark-index ≡ length a.marks.now = omega (arith, c.loop-mark-test.false, c.loop-mark.auto) in
    sym (sym (ap (λ (z : List ℕ). judge a.bytes.now (map mark_from z)) (ap (λ (k : ℕ). take k a.marks.now) e ∙ take-length a.marks.now)) ∙ c.loop-mark.invariant)
