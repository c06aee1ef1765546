-- Assumes nothing.
use Rattle.std.proofs.Common.{◌∙◌}
use Rattle.std.proofs.lemmas.Iterator.{YieldsList-from_slice}
use Rattle.std.proofs.lemmas.Iterator.Search.{all_from_yields_List}
use borrow.Author.Rules.{rules}
use borrow.Author.Tests.{tests}
use Rattle.sheet_lines.specs.Lines.{between}
use Rattle.sheet_lines.proofs.Reading.{list_all_in}
use Rattle.sheet_lines.proofs.all_between.Goals as goal

pub returns : goal.returns
returns c =
    let a = c.args in
    all_from_yields_List (between a.low a.high) _ _ c.all.result c.all.ensures.ran (YieldsList-from_slice a.text.now c.iter.ensures.rest) (λ x b q k. search (rules, tests))
    ∙ list_all_in (between a.low a.high) a.text.now
