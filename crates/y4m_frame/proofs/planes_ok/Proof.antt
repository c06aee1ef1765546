-- `y4m_frame::planes_ok` meets its contract: a plane after the other. Assumes nothing.
use mathlib.Core.Path.{◌≡◌}
use mathlib.Core.Bool.{Bool, ◌&&◌}
use mathlib.Core.List.{List}
use Prim.Native.Nat.{ℕ}
use borrow.Author.Rules.{rules}
use Rattle.samples.specs.Samples.{samples_ok}
use Rattle.y4m_rules.specs.Frames.{y_at, u_at, v_at, planes_ok}
use Rattle.y4m_frame.proofs.planes_ok.Statement.{statement}
use Rattle.y4m_frame.proofs.planes_ok.Tie as tie

all : (s : List ℕ) (at luma chroma : ℕ) (a b d : Bool) → a ≡ samples_ok (y_at s at luma) → b ≡ samples_ok (u_at s at luma chroma) → d ≡ samples_ok (v_at s at luma chroma)
    → ((a && b) && d) ≡ planes_ok s at luma chroma
unfolding planes_ok
all s at luma chroma a b d p q r = rw (p, q, r)

returns : tie.Need-returns
returns c = all _ _ _ _ _ _ _ c.plane_ok.ensures c.plane_ok-2.ensures c.plane_ok-3.ensures

pub planes_ok_spec : {M : Type 1} → statement M
planes_ok_spec =
    tie.close
    (tie.spec
    (λ c. search rules)
    (λ c. search rules)
    (λ c. search rules)
    (λ c. search rules)
    (λ c. search rules)
    (λ c. search rules)
    (λ c κs. search rules)
    (λ c κs. search rules)
    (λ c κs. search rules)
    returns)
