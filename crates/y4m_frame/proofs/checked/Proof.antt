-- `y4m_frame::checked` meets its contract: the size and the lengths, and then the frame. Assumes nothing.
use mathlib.Core.Path.{sym, ◌∙◌}
use native.Mathlib.Omega.{arith}
use borrow.Author.Rules.{rules}
use Rattle.def.proofs.Sizes.{Sized, sized}
use Rattle.y4m_rules.proofs.Runs.{area, quarter}
use Rattle.y4m_frame.proofs.Answers.{at_size, at_length, at_frame}
use Rattle.y4m_frame.proofs.checked.Statement.{statement}
use Rattle.y4m_frame.proofs.checked.Tie as tie

size : (c : tie.Else-not-size_ok) → Sized c.args.w c.args.h
size c = sized _ _ (sym c.size_ok.ensures ∙ c.if-not-size_ok.false)

returns : tie.Need-returns-then-not-size_ok
returns c = let a = c.args in rw c.from.ensures (at_size a.s.now a.at a.w a.h a.y a.u a.v _ c.size_ok.ensures c.if-not-size_ok.true-raw)

mul_luma : tie.Need-overflow_mul-luma
mul_luma c = let z = size c in omega (arith, area c.args.w c.args.h z.wide z.high)

mul_chroma : tie.Need-overflow_mul-chroma
mul_chroma c = let z = size c in omega (arith, quarter c.args.w c.args.h z.wide z.high)

returns-2 : tie.Need-returns-then-not-y-luma
returns-2 c =
    let a = c.args in
    rw c.from-then-not-y-luma.ensures
    (at_length a.s.now a.at a.w a.h a.y a.u a.v _ c.size_ok.ensures c.if-not-size_ok.false-raw c.if-not-y-luma.true-raw)

checked_frame_requires : tie.Need-checked_frame-requires
checked_frame_requires c κs =
    let z = size c.before in
    let a = c.args in
    (area a.w a.h z.wide z.high, quarter a.w a.h z.wide z.high)

returns-3 : tie.Need-returns
returns-3 c =
    let a = c.args in
    at_frame a.s.now a.at a.w a.h a.y a.u a.v _ c.size_ok.ensures c.if-not-size_ok.false-raw
    c.if-not-y-luma.false-raw _ c.checked_frame.ensures

pub checked_spec : {M : Type 1} → statement M
checked_spec = tie.close (tie.spec (λ c κs. search rules) (λ c κs. search rules) returns mul_luma mul_chroma (λ c κs. search rules) returns-2 checked_frame_requires returns-3)
