-- Decimal numbers in a text, one after another.
-- Assumes nothing: these are definitions.
use Rattle.std.specs.Prelude.{ℕ, zero, suc, ◌+◌, ◌-◌, ◌*◌, ◌%◌, min, Bool, true, false, not, ◌&&◌, ◌||◌, List, ◌≡◌, leb, ltb, eqb, ℤ, length, get_or, take, drop}
use Rattle.laws.specs.Index.{pick, tabulate}
use Rattle.laws.specs.Sign.{sg}
use Rattle.cases.specs.declared.Part.{Part}
use Rattle.cases.specs.declared.Written.{Written}

-- a digit, or the minus before one; or any other byte
abbrev pub number_byte : ℕ → Bool → Bool
number_byte b true = eqb b 45 || (leb 48 b && leb b 57)
number_byte b false = not (eqb b 45 || (leb 48 b && leb b 57))

-- the first of the n places from i on where a number's byte stands, or where none does; or the place after them
unfoldable pub first : Bool → List ℕ → ℕ → ℕ → ℕ
first wanted s zero i = i
first wanted s (suc n) i = pick (number_byte (get_or s i 0) wanted) i (first wanted s n (i + 1))

-- what the n digits from place i on come to, modulo 2 ^ 60
unfoldable pub value_of : List ℕ → ℕ → ℕ → ℕ
value_of s i zero = 0
value_of s i (suc n) = (10 * value_of s i n + get_or s (i + n) 0 % 48) % 1152921504606846976

abbrev pub written : Bool → ℕ → ℕ → Written
written negative size next = record { negative = negative; size = size; next = next }

-- the number whose bytes stand from start to stop
abbrev pub between : List ℕ → ℕ → ℕ → Written
between s start stop =
    pick (eqb start stop) (written false 0 stop)
    (pick (eqb (get_or s start 0) 45) (written true (value_of s (start + 1) (stop - (start + 1))) stop) (written false (value_of s start (stop - start)) stop))

-- the first number from place i on
unfoldable pub number_at : List ℕ → ℕ → Written
number_at s i =
    pick (ltb (length s) i) (written false 0 i)
    (let start = first true s (length s - i) i in between s start (first false s (length s - start) start))

-- the place of the k-th number after place i
unfoldable pub place_after : List ℕ → ℕ → ℕ → ℕ
place_after s i zero = i
place_after s i (suc k) = (number_at s (place_after s i k)).next

-- a number with its sign, of those down to -m and below m
unfoldable pub signed_of : ℕ → Written → ℤ
signed_of m n = pick n.negative (sg true (n.size % (m + 1))) (sg false (n.size % m))

-- out is filled with the numbers from place i on, each read by f, and r is the place after them
pub record Filled {A : Type 0} (f : Written → A) (s : List ℕ) (i : ℕ) (out out' : List A) (r : ℕ) : Type 0 where
  pub next : r ≡ place_after s i (length out)
  pub filled : out' ≡ tabulate (length out) (λ (k : ℕ). f (number_at s (place_after s i k)))

-- a slice of a case, its length first, was taken into the front of room, as far as room goes
pub record Took {A : Type 0} (f : Written → A) (s : List ℕ) (i : ℕ) (room room' : List A) (p : Part) : Type 0 where
  pub len : p.len ≡ min (number_at s i).size (length room)
  pub front : Filled f s (number_at s i).next (take p.len room) (take p.len room') p.next
  pub rest : drop p.len room' ≡ drop p.len room
