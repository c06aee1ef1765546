-- What the functions of the compact form ask: what is known once a call's first tests have passed.
-- Assumes nothing: these are definitions.
use Rattle.std.specs.Prelude.{List, true, ◌≡◌, ℕ, ◌*◌, ◌/◌, ◌≤◌, length, Ok}
use Rattle.def.specs.Picture.{size_ok, root_count}
use Rattle.marks_rules.specs.Pictures.{picture_digits}
use Rattle.pack_rules.specs.Form.{bits_in, start_of}
use Rattle.split.specs.Picture.{picture_walk}

-- a picture's size, and the length of its map
pub record Mapped (w h long : ℕ) : Type 0 where
  pub size : size_ok w h ≡ true
  pub bytes : long ≡ 1024 * root_count w h

-- a map whose walk is not refused, and how many digits it has
pub record Accepted (w h : ℕ) (s : List ℕ) (n : ℕ) : Type 0 where
  pub mapped : Mapped w h (length s)
  pub done : (picture_walk s (w / 4) (h / 4)).answer ≡ Ok tt
  pub count : n ≡ length (picture_digits s (w / 4) (h / 4))

-- where a map starts in a buffer of so many bytes, and where the buffer ends
pub record Span (bytes at start end : ℕ) : Type 0 where
  pub first : start ≡ start_of at
  pub last : end ≡ bits_in bytes
  pub inside : start ≤ end
  pub near : end ≤ 4611686018427387904
