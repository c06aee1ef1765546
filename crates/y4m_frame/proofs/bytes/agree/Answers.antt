-- The bytes of the key that were passed stand from the place on. Assumes nothing.
use Rattle.std.proofs.Common.{ℕ, ◌≡◌, ◌∙◌, ◌+◌, sym, ap, drop, arith}
use native.Mathlib.Nat.{add-zero}
use Rattle.y4m_rules.specs.Frames.{matches}
use Rattle.y4m_rules.proofs.Runs.{match_none, match_out, match_other, match_on}
use Rattle.y4m_frame.proofs.bytes.agree.Goals as goal

pub loop-i-init : goal.loop-i-init
loop-i-init c = let a = c.args in ap (λ (k : ℕ). matches a.short a.key.now (drop k a.s.now)) (sym (add-zero a.at))

pub returns-then-s-at : goal.returns-then-s-at
returns-then-s-at c =
    let l = c.loop-i in
    let a = c.args in
    sym (l.invariant ∙ match_out a.short a.key.now a.s.now l.i (a.at + l.i) (omega arith) (omega arith))

pub returns-then-s-at-2 : goal.returns-then-s-at-2
returns-then-s-at-2 c =
    let l = c.loop-i in
    let a = c.args in
    sym (l.invariant ∙ match_out a.short a.key.now a.s.now l.i (a.at + l.i) (omega arith) (omega arith))

pub returns-then-key-i : goal.returns-then-key-i
returns-then-key-i c =
    let l = c.loop-i in
    let a = c.args in
    sym (l.invariant ∙ match_other a.short a.key.now a.s.now l.i (a.at + l.i) (omega arith) (omega arith) c.if-key-i.true)

pub loop-i-preserved : goal.loop-i-preserved
loop-i-preserved c =
    let l = c.loop-i in
    let a = c.args in
    let e : a.at + l.i + 1 ≡ a.at + (l.i + 1) = omega arith in
    l.invariant ∙ match_on a.short a.key.now a.s.now l.i (a.at + l.i) (omega arith) (omega arith) c.if-key-i.false
    ∙ ap (λ (k : ℕ). matches a.short (drop (l.i + 1) a.key.now) (drop k a.s.now)) e

pub returns : goal.returns
returns c = let l = c.loop-i in let a = c.args in sym (l.invariant ∙ match_none a.short a.key.now a.s.now l.i (a.at + l.i) (omega arith))
