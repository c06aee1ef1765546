-- What is proved of every map that is mended.
-- Assumes nothing: these are definitions.
use mathlib.Core.List.{List, [], Memᴰ}
use Rattle.std.specs.Prelude.{◌≡◌, ℕ, ◌*◌, ◌+◌, ◌≤◌, length, get_or, set, Ok}
use Rattle.laws.specs.Orders.{run}
use Rattle.split.specs.CheckCall as check-call
use Rattle.split.specs.Picture.{roots, picture_walk}
use Rattle.mend.specs.Changes.{Change, mend_map, all_changes}
use Rattle.mend.specs.MendCall as mend-call

-- where the byte of a change stands in the map
abbrev pub change_place : Change → ℕ
change_place c = 1024 * c.root + (256 * c.level + c.place)

-- a map with a value of each change put in: the new ones, or the old ones
abbrev pub put_each : (Change → ℕ) → List Change → List ℕ → List ℕ
put_each value l s = run (λ (c : Change) (t : List ℕ). set t (change_place c) (value c)) l s

-- a change is one: the old value stood there, the new one stands there, and they differ
pub record Real (s mended : List ℕ) (c : Change) : Type 0 where
  pub stood : get_or s (change_place c) 0 ≡ c.old
  pub stands : get_or mended (change_place c) 0 ≡ c.new
  pub differs : c.old ≡ c.new → ⊥

-- of the split bytes s of all roots of a picture whose sides are w and h units
pub record Kept (s : List ℕ) (w h : ℕ) : Type 0 where
  -- the result is always accepted by the walk
  pub accepted : (picture_walk (mend_map s w h) w h).answer ≡ Ok tt
  -- an accepted map is unchanged, with an empty list
  pub unchanged : (picture_walk s w h).answer ≡ Ok tt → (mend_map s w h ≡ s) × (all_changes s w h ≡ [])
  -- mending twice changes nothing and lists nothing the second time
  pub twice : (mend_map (mend_map s w h) w h ≡ mend_map s w h) × (all_changes (mend_map s w h) w h ≡ [])
  -- each change is listed: the mended map is the old one with the new values put in, and the old one is had back by the old values
  pub listed : put_each (λ (c : Change). c.new) (all_changes s w h) s ≡ mend_map s w h
  pub back : put_each (λ (c : Change). c.old) (all_changes s w h) (mend_map s w h) ≡ s
  -- and nothing else is
  pub real : (c : Change) → Memᴰ c (all_changes s w h) → Real s (mend_map s w h) c
  -- at most 85 a root
  pub few : length (all_changes s w h) ≤ 85 * roots w h

-- the outcome of a call that changes nothing and lists nothing
abbrev pub as_it_was : List ℕ → List ℕ → mend-call.Outcome
as_it_was s list = record { reading = record { number = 0; count = 0 }; out = s; list = list }

-- of every call that is not refused
pub record Mends (i : mend-call.Input) : Type 0 where
  -- `check` accepts what it writes
  pub accepted : check-call.outcome (record { w = i.w; h = i.h; splits = (mend-call.outcome i).out }) ≡ check-call.numbered 0
  -- what `check` accepts it copies, and it lists nothing
  pub unchanged : check-call.outcome (record { w = i.w; h = i.h; splits = i.splits }) ≡ check-call.numbered 0 → mend-call.outcome i ≡ as_it_was i.splits i.list
  -- so what it writes, mended again into any buffers of the same lengths
  pub twice : (out list : List ℕ) → length out ≡ length i.out → length list ≡ length i.list
      → mend-call.outcome (record { w = i.w; h = i.h; splits = (mend-call.outcome i).out; out = out; list = list }) ≡ as_it_was (mend-call.outcome i).out list
