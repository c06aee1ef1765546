-- By the letter. Assumes nothing.
use Rattle.std.proofs.Common.{ℕ, sym, ap, ◌∙◌, None, is_some}
use Rattle.laws.specs.Index.{pick}
use Rattle.y4m_rules.specs.Numbers.{is_number, is_ratio, value_of}
use Rattle.y4m_rules.specs.Header.{with_w, with_h, with_f, with_a}
use Rattle.y4m_header.proofs.Forms.{both, ratio_both_is, once_no, once_yes, letter_x, letter_w, letter_h, letter_f, letter_i, letter_a, letter_c, letter_none}
use Rattle.y4m_header.proofs.words.told_letter.Goals as goal

pub returns-in-88 : goal.returns-in-88
returns-in-88 c = letter_x _ _ _ c.in-88.is

pub returns-in-73 : goal.returns-in-73
returns-in-73 c = letter_i _ _ _ _ c.in-73.is c.told_i.ensures

pub returns-in-67 : goal.returns-in-67
returns-in-67 c = letter_c _ _ _ _ c.in-67.is c.told_c.ensures

pub returns-in_default : goal.returns-in_default
returns-in_default c =
    let r = c.in_default.in_default-own.rest in
    letter_none _ _ _ r.0.0.0.0.0.0.1 r.0.0.0.0.0.1 r.0.0.0.0.1 r.0.0.0.1 r.0.0.1 r.0.1 r.1

pub returns-in_err-once-in-87 : goal.returns-in_err-once-in-87
returns-in_err-once-in-87 c =
    let a = c.args in
    rw c.from_residual.ensures
    (letter_w _ _ _ _ c.in-87.is
    (once_no a.said.w (is_number a.value.now) (value_of a.value.now) (λ (n : ℕ). with_w n a.said)
    (ap (pick (is_some a.said.w) None) (sym (c.number_in.ensures)) ∙ sym c.once.ensures ∙ c.in_err-once-in-87.was)))

pub returns-in_ok-once-in-87 : goal.returns-in_ok-once-in-87
returns-in_ok-once-in-87 c =
    let a = c.args in
    letter_w _ _ _ _ c.in-87.is
    (once_yes a.said.w (is_number a.value.now) (value_of a.value.now) (λ (n : ℕ). with_w n a.said) _
    (ap (pick (is_some a.said.w) None) (sym (c.number_in.ensures)) ∙ sym c.once.ensures ∙ c.in_ok-once-in-87.was))

pub returns-in_err-once-in-72 : goal.returns-in_err-once-in-72
returns-in_err-once-in-72 c =
    let a = c.args in
    rw c.from_residual-in_err-once-in-72.ensures
    (letter_h _ _ _ _ c.in-72.is
    (once_no a.said.h (is_number a.value.now) (value_of a.value.now) (λ (n : ℕ). with_h n a.said)
    (ap (pick (is_some a.said.h) None) (sym (c.number_in-in-72.ensures)) ∙ sym c.once-in-72.ensures ∙ c.in_err-once-in-72.was)))

pub returns-in_ok-once-in-72 : goal.returns-in_ok-once-in-72
returns-in_ok-once-in-72 c =
    let a = c.args in
    letter_h _ _ _ _ c.in-72.is
    (once_yes a.said.h (is_number a.value.now) (value_of a.value.now) (λ (n : ℕ). with_h n a.said) _
    (ap (pick (is_some a.said.h) None) (sym (c.number_in-in-72.ensures)) ∙ sym c.once-in-72.ensures ∙ c.in_ok-once-in-72.was))

pub returns-in_err-once-in-70 : goal.returns-in_err-once-in-70
returns-in_err-once-in-70 c =
    let a = c.args in
    rw c.from_residual-in_err-once-in-70.ensures
    (letter_f _ _ _ _ c.in-70.is
    (once_no a.said.f (is_ratio a.value.now) (both a.value.now) (λ (n : ℕ × ℕ). with_f n.0 n.1 a.said)
    (ap (pick (is_some a.said.f) None) (sym (c.ratio_in.ensures ∙ ratio_both_is a.value.now)) ∙ sym c.once-in-70.ensures ∙ c.in_err-once-in-70.was)))

pub returns-in_ok-once-in-70 : goal.returns-in_ok-once-in-70
returns-in_ok-once-in-70 c =
    let a = c.args in
    letter_f _ _ _ _ c.in-70.is
    (once_yes a.said.f (is_ratio a.value.now) (both a.value.now) (λ (n : ℕ × ℕ). with_f n.0 n.1 a.said) _
    (ap (pick (is_some a.said.f) None) (sym (c.ratio_in.ensures ∙ ratio_both_is a.value.now)) ∙ sym c.once-in-70.ensures ∙ c.in_ok-once-in-70.was))

pub returns-in_err-once-in-65 : goal.returns-in_err-once-in-65
returns-in_err-once-in-65 c =
    let a = c.args in
    rw c.from_residual-in_err-once-in-65.ensures
    (letter_a _ _ _ _ c.in-65.is
    (once_no a.said.a (is_ratio a.value.now) (both a.value.now) (λ (n : ℕ × ℕ). with_a n.0 n.1 a.said)
    (ap (pick (is_some a.said.a) None) (sym (c.ratio_in-in-65.ensures ∙ ratio_both_is a.value.now)) ∙ sym c.once-in-65.ensures ∙ c.in_err-once-in-65.was)))

pub returns-in_ok-once-in-65 : goal.returns-in_ok-once-in-65
returns-in_ok-once-in-65 c =
    let a = c.args in
    letter_a _ _ _ _ c.in-65.is
    (once_yes a.said.a (is_ratio a.value.now) (both a.value.now) (λ (n : ℕ × ℕ). with_a n.0 n.1 a.said) _
    (ap (pick (is_some a.said.a) None) (sym (c.ratio_in-in-65.ensures ∙ ratio_both_is a.value.now)) ∙ sym c.once-in-65.ensures ∙ c.in_ok-once-in-65.was))
