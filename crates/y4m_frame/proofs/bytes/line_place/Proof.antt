-- `y4m_frame::bytes::line_place` meets its contract: a parameter, or not. Assumes nothing.
use mathlib.Core.Path.{◌≡◌, sym, ◌∙◌}
use mathlib.Core.Bool.{Bool, true, false}
use mathlib.Core.List.{List}
use Prim.Native.Nat.{ℕ, ◌+◌}
use native.Mathlib.Omega.{arith}
use borrow.Author.Rules.{rules}
use lib.ListN.{drop, length-drop}
use Rattle.y4m_rules.specs.Words.{frame_space}
use Rattle.y4m_rules.specs.Frames.{matches, line_place}
use Rattle.y4m_rules.proofs.Runs.{match_fits}
use Rattle.y4m_frame.proofs.bytes.line_place.Statement.{statement}
use Rattle.y4m_frame.proofs.bytes.line_place.Tie as tie

module _ (s : List ℕ) (at : ℕ) (t : Bool) (e : t ≡ matches false frame_space (drop at s)) where
  with_space : t ≡ true → at + 6 ≡ line_place s at
  unfolding line_place
  with_space q = rw (sym e ∙ q)

  without : t ≡ false → at ≡ line_place s at
  unfolding line_place
  without q = rw (sym e ∙ q)

add_result : tie.Need-overflow_add-result
add_result c =
    let a = c.args in
    omega (arith, match_fits frame_space (drop a.at a.s.now) (sym c.agree.ensures ∙ c.if-agree.true), length-drop a.at a.s.now)

returns : tie.Need-returns-then-agree
returns c = with_space _ _ _ c.agree.ensures c.if-agree.true

returns-2 : tie.Need-returns
returns-2 c = without _ _ _ c.agree.ensures c.if-agree.false

pub line_place_spec : {M : Type 1} → statement M
line_place_spec = tie.close (tie.spec (λ c κs. search rules) add_result returns returns-2)
