-- The first newline, or the end. Assumes nothing.
use Rattle.std.proofs.Common.{ℕ, List, ◌≡◌, ◌∙◌, sym, length}
use Rattle.std.proofs.lemmas.Iterator.{YieldsList-from_slice, IsFirst-from_position, index_from_first}
use borrow.Author.Rules.{rules}
use borrow.Author.Tests.{tests}
use Rattle.sheet_lines.specs.Lines.{line_of}
use Rattle.sheet_lines.proofs.Reading.{line_none, line_hit, line_miss}
use Rattle.sheet_lines.proofs.line_length.Goals as goal

pub returns : goal.returns
returns c =
    let s = c.args.s.now in
    c.unwrap_or.ensures
    ∙ sym
    (index_from_first (λ (l : List ℕ). length (line_of l)) (λ (b : ℕ). b ≡ 10) (λ (b : ℕ). b ≡ 10 → ⊥) line_none line_hit line_miss s c.position.result
    (IsFirst-from_position _ _ c.position.result (λ (b : ℕ). b ≡ 10) (λ (b : ℕ). b ≡ 10 → ⊥) c.position.ensures.ran (YieldsList-from_slice s c.iter.ensures.rest)
    (λ x q k. search (rules, tests)) (λ x q k. search (rules, tests))))
