-- From the driver to deblocking: what the one leaves of a picture, the other accepts, in both formats. The proof is `joined`, in proofs/.
-- Assumes nothing: these are definitions.
use Rattle.std.specs.Prelude.{◌*◌, true, ◌≡◌, Ok}
use Rattle.def.specs.Picture.{unit_count}
use Rattle.driver_rules.specs.Call as driver
use Rattle.df_check.specs.Checks as deblocking

-- deblocking is lent the picture that the driver finished, in its format: its sides, its split bytes, its planes, its words and its keep marks
pub record Follows (i : driver.Input) (j : deblocking.Input) : Type 0 where
  pub w : j.w ≡ i.given.w
  pub h : j.h ≡ i.given.h
  pub format : j.settings.format ≡ i.given.format
  pub splits : j.splits ≡ i.splits
  pub y : j.y ≡ (driver.outcome i).y
  pub u : j.u ≡ (driver.outcome i).u
  pub v : j.v ≡ (driver.outcome i).v
  pub words : j.words ≡ (driver.outcome i).words
  pub keep : j.keep ≡ (driver.outcome i).keep

-- what deblocking asks besides: the lengths of what it alone is lent, and its settings
pub record Lent (j : deblocking.Input) : Type 0 where
  pub motion : j.motion ≡ 4 * unit_count j.w j.h
  pub refs : j.refs ≡ 2 * unit_count j.w j.h
  pub table0 : j.table0 ≡ deblocking.table_length j.settings.format
  pub table1 : j.table1 ≡ deblocking.table_length j.settings.format
  pub strengths : j.strengths ≡ 208
  pub settings : deblocking.settings_ok j.settings ≡ true

-- then it is accepted, whatever QPs the leaf records hold
abbrev pub Joined : Type 0
Joined = (i : driver.Input) → driver.check i ≡ Ok tt → (j : deblocking.Input) → Follows i j → Lent j → deblocking.check_of j ≡ Ok tt
