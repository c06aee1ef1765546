-- The first byte that ends them, or the end. Assumes nothing.
use Rattle.std.proofs.Common.{ℕ, List, Bool, true, false, ◌≡◌, ◌∙◌, ◌||◌, sym, length}
use Rattle.std.proofs.lemmas.Iterator.{YieldsList-from_slice, IsFirst-from_position, index_from_first}
use borrow.Author.Rules.{rules}
use borrow.Author.Tests.{tests}
use lib.Dec.{eqb}
use Rattle.y4m_rules.specs.Words.{before}
use Rattle.y4m_rules.proofs.Reading.{before_none, before_hit, before_miss}
use Rattle.y4m_header.proofs.numbers.count_before.Goals as goal

abbrev ends : (p q b : ℕ) → Bool
ends p q b = eqb b p || eqb b q

pub returns : goal.returns
returns c =
    let a = c.args in
    let s = a.s.now in
    c.unwrap_or.ensures
    ∙ sym
    (index_from_first (λ (l : List ℕ). length (before a.p a.q l)) (λ (b : ℕ). ends a.p a.q b ≡ true) (λ (b : ℕ). ends a.p a.q b ≡ false)
    (before_none a.p a.q) (before_hit a.p a.q) (before_miss a.p a.q) s c.position.result
    (IsFirst-from_position _ _ c.position.result (λ (b : ℕ). ends a.p a.q b ≡ true) (λ (b : ℕ). ends a.p a.q b ≡ false) c.position.ensures.ran
    (YieldsList-from_slice s c.iter.ensures.rest) (λ x q k. search (rules, tests)) (λ x q k. search (rules, tests))))
