-- By the magic word. Assumes nothing.
use Rattle.std.proofs.Common.{List, ℕ, Bool, true, false, not, ◌≡◌, ◌∙◌, sym, ap, arith, length, take}
use lib.Dec.{eqb}
use lib.Pointwise.{pointwise}
use lib.Seq.{length-take-le}
use Rattle.sheet_lines.specs.Lines.{same_line}
use Rattle.y4m_rules.specs.Words.{magic, word_of}
use Rattle.y4m_rules.proofs.Reading.{before_short, before_take}
use Rattle.y4m_header.proofs.Forms.{other_is}
use Rattle.y4m_header.proofs.Lines.{head_is, head_fits, magic_long, no_magic, with_magic}
use Rattle.y4m_header.proofs.words.header_in.Goals as goal

not_false : (t : Bool) → not t ≡ true → t ≡ false
not_false true e = cc
not_false false e = cc

not_true : (t : Bool) → not t ≡ false → t ≡ true
not_true true e = cc
not_true false e = cc

-- the first word is what was compared
first : (head key : List ℕ) (n : ℕ) (t : Bool) → n ≡ length (word_of head) → key ≡ magic → t ≡ not (pointwise eqb (take n head) key) → t ≡ not (same_line magic (word_of head))
first head key n t e k d =
    other_is magic (take n head) key t k d
    ∙ ap (λ (l : List ℕ). not (same_line magic l)) (ap (λ (m : ℕ). take m head) e ∙ before_take 32 10 head)

pub slice_bounds-ne-end : goal.slice_bounds-ne-end
slice_bounds-ne-end c = sym (length-take-le _ _ (omega (arith, c.count_before-first.ensures, before_short 32 10 (take c.head_length-n.result c.args.s.now))))

pub returns-then-ne : goal.returns-then-ne
returns-then-ne c =
    let t = first _ _ _ _ c.count_before-first.ensures c.as_slice.ensures c.ne.ensures in
    rw c.malformed.ensures (no_magic _ _ (head_is _ _ c.head_length-n.ensures) (not_false _ (sym t ∙ c.if-ne.true)))

pub words_in-requires : goal.words_in-requires
words_in-requires c =
    let head = take c.head_length-n.result c.args.s.now in
    let t = first _ _ _ _ c.count_before-first.ensures c.as_slice.ensures c.ne.ensures in
    let f = head_fits (length c.args.s.now) c.head_length-n.result c.head_length-n.ensures in
    let l : length head ≡ c.head_length-n.result = length-take-le _ _ f.0 in
    (omega (arith, magic_long (word_of head) (not_true _ (sym t ∙ c.if-ne.false)), before_short 32 10 head), omega (arith, f.1))

pub returns : goal.returns
returns c =
    let t = first _ _ _ _ c.count_before-first.ensures c.as_slice.ensures c.ne.ensures in
    with_magic _ _ (head_is _ _ c.head_length-n.ensures) _ (not_true _ (sym t ∙ c.if-ne.false)) c.words_in.ensures
