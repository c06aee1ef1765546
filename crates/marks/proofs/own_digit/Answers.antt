-- No digit for a block that starts outside the picture, and a mark for each digit. Assumes nothing.
use mathlib.Core.Path.{sym, subst, ◌∙◌}
use Prim.Native.Nat.{ℕ, ◌≤◌, ◌<◌}
use borrow.Author.Rules.{rules}
use Rattle.bits.proofs.Laws.{bit_small}
use Rattle.bits.specs.Bits.{bits_from}
use Rattle.split.proofs.Blocks.{started}
use Rattle.marks.proofs.Growing.{grew_as, grew_quiet, grew_short, grew_leaf, skip, short, whole, divided, only_one, began_whole, began_cut, digit_at_lem, digits_long}
use Rattle.marks.proofs.own_digit.Goals as goal

pub returns-then-w-at : goal.returns-then-w-at
returns-then-w-at c =
    let a = c.args in
    began_whole (grew_quiet _ _ (skip (bits_from a.src.now a.from a.count) a.n c.requires.0 c.if-w-at.true))

pub returns-then-count-n : goal.returns-then-count-n
returns-then-count-n c =
    let a = c.args in
    let i = started _ _ _ _ c.if-w-at.false in
    let l = subst (λ (m : ℕ). m ≤ a.n) (sym (digits_long _ a.from a.count)) c.if-count-n.true in
    began_whole (grew_as (short (bits_from a.src.now a.from a.count) _ c.requires.0 c.requires.1 i.0 i.1 l) (grew_short _ _))

pub put_mark-count-requires : goal.put_mark-count-requires
put_mark-count-requires c = (c.byte_place-place.ensures.1, subst (λ (b : ℕ). b < 2) (sym c.get_bit-byte.ensures) (bit_small _ _), search rules)

pub returns-then-byte-eq0 : goal.returns-then-byte-eq0
returns-then-byte-eq0 c =
    let a = c.args in
    let ds = bits_from a.src.now a.from a.count in
    let i = started _ _ _ _ c.if-w-at.false in
    let some = subst (λ (m : ℕ). a.n < m) (sym (digits_long _ a.from a.count)) c.if-count-n.false in
    let digit = c.get_bit-byte.ensures ∙ digit_at_lem _ a.from a.count _ c.if-count-n.false in
    rw c.leaf.ensures.whole
    (began_whole
    (grew_as (whole ds _ c.requires.0 c.requires.1 i.0 i.1 some _ _ c.byte_place-place.ensures.0 digit c.if-byte-eq0.true)
    (grew_leaf c.put_mark-count.ensures c.leaf.ensures.count)))

pub returns : goal.returns
returns c =
    let a = c.args in
    let ds = bits_from a.src.now a.from a.count in
    let i = started _ _ _ _ c.if-w-at.false in
    let some = subst (λ (m : ℕ). a.n < m) (sym (digits_long _ a.from a.count)) c.if-count-n.false in
    let digit = c.get_bit-byte.ensures ∙ digit_at_lem _ a.from a.count _ c.if-count-n.false in
    let small = subst (λ (b : ℕ). b < 2) (sym c.get_bit-byte.ensures) (bit_small _ _) in
    began_cut
    (divided ds _ c.requires.0 c.requires.1 i.0 i.1 some _ _ c.byte_place-place.ensures.0 digit c.put_mark-count.ensures (only_one _ small c.if-byte-eq0.false))
