-- What is proved of every map that is written: it can be read back from any buffer that holds its bits, and no other byte moves. And of every map that is
-- read, from whatever bits.
-- Assumes nothing: these are definitions.
use mathlib.Core.List.{List, ◌++◌, Memᴰ}
use Rattle.std.specs.Prelude.{◌⊎◌, ◌≡◌, ℕ, ◌+◌, ◌*◌, ◌/◌, ◌≤◌, ◌<◌, length, get_or, replicate, Ok}
use Rattle.bits.specs.Bits.{bit_at, bits_from}
use Rattle.marks_rules.specs.Descent.{Descent}
use Rattle.marks_rules.specs.Marks.{Mark, marks, byte_of, put_all}
use Rattle.marks_rules.specs.Pictures.{joined, picture_digits, upto}
use Rattle.split.specs.Picture.{roots, root_bytes, root_x, root_y, picture_walk}
use Rattle.pack_rules.specs.Form.{bits_in, start_of, end_of, digit_at}
use Rattle.pack_rules.specs.GetCall as get-call
use Rattle.pack_rules.specs.PutCall as put-call

-- the blocks of 8 or more that the walk of root i reaches, each with its byte
abbrev pub reached : List ℕ → (w h i : ℕ) → List Mark
reached s w h i = marks (byte_of (root_bytes s i)) w h 4 (root_x w i) (root_y w i)

-- the map that is read back: the bytes that the walk reaches, and 0 at every other place
abbrev pub back_of : List ℕ → (w h : ℕ) → List ℕ
back_of s w h = joined (λ (i : ℕ). put_all (reached s w h i) (replicate 1024 0)) (roots w h)

-- a buffer has the digits ds in their compact form at position p
pub record Holds (src : List ℕ) (p : ℕ) (ds : List ℕ) : Type 0 where
  pub bits : (i : ℕ) → i < (length ds + 7) / 8 * 8 → bit_at src (start_of p + i) ≡ digit_at ds i
  pub room : end_of p (length ds) ≤ bits_in (length src)

-- of every map whose walk is not refused; w and h are the picture's sides in units
pub record Back (s : List ℕ) (w h : ℕ) : Type 0 where
  -- the same blocks
  pub blocks : picture_walk (back_of s w h) w h ≡ picture_walk s w h
  -- the byte that stood at each place that the walk reaches, and 0 at every other
  pub there : (i : ℕ) → i < roots w h → (m : Mark) → Memᴰ m (reached s w h i) → get_or (root_bytes (back_of s w h) i) m.place 0 ≡ get_or (root_bytes s i) m.place 0
  pub zero : (i : ℕ) → i < roots w h → (p : ℕ) → p < 1024 → ((m : Mark) → Memᴰ m (reached s w h i) → m.place ≡ p → ⊥) → get_or (root_bytes (back_of s w h) i) p 0 ≡ 0
  -- the sheet's descent over the digits gives the same walk and leaves nothing
  pub walked : (upto w h (picture_digits s w h) (roots w h)).walk ≡ picture_walk s w h
  pub whole : length (upto w h (picture_digits s w h) (roots w h)).left ≡ 0
  -- at most 85 digits a root
  pub few : length (picture_digits s w h) ≤ 85 * roots w h
  -- a map with other blocks never has the same digits, not even where one goes on after the other's end
  pub apart : (t r r' : List ℕ) → (picture_walk t w h).answer ≡ Ok tt → picture_digits s w h ++ r ≡ picture_digits t w h ++ r' → picture_walk s w h ≡ picture_walk t w h

-- of every call that `put_map` accepts
pub record Kept (i : put-call.Input) : Type 0 where
  pub back : Back i.splits (i.w / 4) (i.h / 4)
  -- the buffer has the map
  pub holds : Holds (put-call.outcome i).buf i.at (put-call.digits i)
  -- bytes outside the map's own are as they were
  pub others : (j : ℕ) → (j < start_of i.at / 8) ⊎ (end_of i.at (length (put-call.digits i)) / 8 ≤ j) → get_or (put-call.outcome i).buf j 0 ≡ get_or i.buf j 0
  -- `get_map` reads it back from any buffer that has it, and moves on behind it
  pub read : (src map : List ℕ) → Holds src i.at (put-call.digits i) → length map ≡ length i.splits
      → get-call.outcome (record { w = i.w; h = i.h; src = src; at = i.at; map = map })
      ≡ record { number = 0; at = (put-call.outcome i).at; map = back_of i.splits (i.w / 4) (i.h / 4) }
  -- a map that is written behind it leaves it where it is
  pub next : (k : put-call.Input) → put-call.check k ≡ Ok tt → k.buf ≡ (put-call.outcome i).buf → k.at ≡ (put-call.outcome i).at
      → Holds (put-call.outcome k).buf i.at (put-call.digits i)

-- of every call that `get_map` accepts: the map that it leaves is walked as the digits say, and to the end
pub record Reads (i : get-call.Input) : Type 0 where
  pub walked : picture_walk (get-call.outcome i).map (i.w / 4) (i.h / 4) ≡ (get-call.descent i).walk
  pub accepted : (picture_walk (get-call.outcome i).map (i.w / 4) (i.h / 4)).answer ≡ Ok tt
