-- What is left of the header is what it comes to. Assumes nothing.
use Rattle.std.proofs.Common.{◌+◌, ◌∙◌, arith}
use Rattle.y4m_rules.proofs.Reading.{before_fits}
use Rattle.y4m_header.proofs.Lines.{word_is, going, step, at_newline, at_word, at_end}
use Rattle.y4m_header.proofs.words.words_in.Goals as goal

pub loop-at-init : goal.loop-at-init
loop-at-init c =
    let e = c.default-said.ensures in
    going _ _ (λ i. record { w = e.0 i; h = e.1.0 i; f = e.1.1.0 i; a = e.1.1.1.0 i; i = e.1.1.1.1.0 i; c = e.1.1.1.1.1 i }) c.requires.0 c.requires.1

pub returns-then-head-at-eq10 : goal.returns-then-head-at-eq10
returns-then-head-at-eq10 c = let l = c.loop-at in c.ending.ensures ∙ at_newline _ _ _ l.invariant (omega arith) c.if-head-at-eq10.true

pub overflow_add-end : goal.overflow_add-end
overflow_add-end c = let l = c.loop-at in omega (arith, word_is c.args.head.now (l.at + 1) c.count_before.result c.count_before.ensures, before_fits 32 10 c.args.head.now (l.at + 1) (omega arith))

pub slice_bounds-told_word-end : goal.slice_bounds-told_word-end
slice_bounds-told_word-end c = let l = c.loop-at in omega (arith, word_is c.args.head.now (l.at + 1) c.count_before.result c.count_before.ensures, before_fits 32 10 c.args.head.now (l.at + 1) (omega arith))

pub returns-in_default : goal.returns-in_default
returns-in_default c =
    let l = c.loop-at in
    rw c.malformed.ensures
    (at_word _ _ _ l.invariant (omega arith) c.if-head-at-eq10.false _ (word_is c.args.head.now (l.at + 1) _ c.count_before.ensures) _ c.told_word.ensures c.in_default.is)

pub loop-at-smaller : goal.loop-at-smaller
loop-at-smaller c = let l = c.loop-at in omega (arith, word_is c.args.head.now (l.at + 1) c.count_before.result c.count_before.ensures, before_fits 32 10 c.args.head.now (l.at + 1) (omega arith))

pub loop-at-preserved : goal.loop-at-preserved
loop-at-preserved c =
    let l = c.loop-at in
    step _ _ _ l.invariant (omega arith) c.if-head-at-eq10.false _ (word_is c.args.head.now (l.at + 1) _ c.count_before.ensures) _ c.told_word.ensures _ c.in-Some.is

pub returns : goal.returns
returns c = let l = c.loop-at in rw c.malformed-2.ensures (at_end _ _ _ l.invariant (omega arith))
