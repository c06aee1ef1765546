-- What the planes, the words, the modes and the keep bytes held before the call counts for nothing. The proof is `held_for_nothing`, in proofs/.
-- Assumes nothing: these are definitions.
use Rattle.std.specs.Prelude.{◌≡◌, length, Ok}
use Rattle.driver_rules.specs.Call.{Input, check, outcome}

-- two calls that differ at most in what these held
pub record SameButHeld (i j : Input) : Type 0 where
  pub given : i.given ≡ j.given
  pub splits : i.splits ≡ j.splits
  pub y : length i.y ≡ length j.y
  pub u : length i.u ≡ length j.u
  pub v : length i.v ≡ length j.v
  pub words : length i.words ≡ length j.words
  pub modes : length i.modes ≡ length j.modes
  pub keep : length i.keep ≡ length j.keep

-- both are refused alike or neither is, and where neither is all that they leave is the same
pub record HeldForNothing (i j : Input) : Type 0 where
  pub answer : check i ≡ check j
  pub all : check i ≡ Ok tt → outcome i ≡ outcome j
