-- What an input that no check refuses is.
-- Assumes nothing.
use Rattle.std.specs.Prelude.{Ok}
use Prim.Native.Nat.{ℕ, ◌+◌, ◌*◌, ◌/◌, ◌≤◌}
use mathlib.Core.List.{List}
use mathlib.Core.Path.{◌≡◌}
use native.Mathlib.Omega.{arith}
use borrow.Author.Tests.{eqb-true}
use lib.ListN.{length}
use Rattle.def.specs.Picture.{unit_count}
use Rattle.def.specs.declared.Refusal.TheVariants.{Size, Length, Block}
use Rattle.def.proofs.Ladders.{passes}
use Rattle.def.proofs.Sizes.{Sized, sized}
use Rattle.def.proofs.Blocks.{Blocked, blocked}
use Rattle.avail.specs.Around.{Input}
use Rattle.avail.specs.Near.{Reach}
use Rattle.avail.specs.Calls.{check, check_of}

pub record Accepted (i : Input) : Type 0 where
  pub size : Sized i.w i.h
  pub long : length i.words ≡ unit_count i.w i.h
  pub block : Blocked i.w i.h i.x i.y i.side

pub accepted : (i : Input) → check i ≡ Ok tt → Accepted i
unfolding check_of
accepted i e =
    let p = passes _ Size _ e in
    let q = passes _ Length _ p.rest in
    let r = passes _ Block _ q.rest in
    record {
      size = sized _ _ p.holds;
      long = eqb-true _ _ q.holds;
      block = blocked _ _ _ _ _ r.holds;
    }

-- the units around an accepted block are within reach
pub in_reach : (w h : ℕ) (words : List ℕ) (x y side a b : ℕ) → check (record { w = w; h = h; words = words; x = x; y = y; side = side }) ≡ Ok tt
    → a ≤ side / 4 + 1 → b ≤ 2 * (side / 4) + 1 → Reach w h words x y a b
in_reach w h words x y side a b e p q =
    let ok = accepted (record { w = w; h = h; words = words; x = x; y = y; side = side }) e in
    let s = ok.size in
    let k = ok.block in
    record { long = ok.long; wide = omega arith; high = omega arith; across = omega arith; down = omega arith }
