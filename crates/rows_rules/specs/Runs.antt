-- Runs of units that follow each other in one row of units, and what is tested of all of them at once.
-- Assumes nothing: these are definitions.
use Rattle.std.specs.Prelude.{ℕ, ◌+◌, ◌-◌, ◌*◌, ◌%◌, ◌≤◌, ◌<◌, ◌≡◌, Bool, ◌&&◌, List, eqb, ℤ, pos, length, get_or}
use Rattle.laws.specs.Bits.{field_of}
use Rattle.laws.specs.Index.{pick}
use Rattle.laws.specs.Scan.{all_below}
use Rattle.def.specs.Word.{intra_of, coded_of}
use Rattle.line.specs.Row.{eq_z}
use Rattle.row.specs.Between.{row_in}
use Rattle.rows_rules.specs.Rule.{rule_byte}

-- n numbers from `at` on are those from `from` on
abbrev pub same_from : List ℤ → (at from n : ℕ) → Bool
same_from l at from n = all_below (λ (j : ℕ). eq_z (get_or l (at + j) (pos 0)) (get_or l (from + j) (pos 0))) n

-- two units are both intra or both not, and both luma-coded or both not
unfoldable pub same_flags : (a b : ℕ) → Bool
same_flags a b = eqb (field_of 15 1 a) (field_of 15 1 b) && eqb (field_of 24 1 a) (field_of 24 1 b)

abbrev pub flags_from : List ℕ → (at from n : ℕ) → Bool
flags_from words at from n = all_below (λ (j : ℕ). same_flags (get_or words (at + j) 0) (get_or words (from + j) 0)) n

-- n units from `at` on are what those from `from` on are: their references, their motion, their two flags
unfoldable pub units_from : List ℕ → (motion refs : List ℤ) → (at from n : ℕ) → Bool
units_from words motion refs at from n = same_from refs (2 * at) (2 * from) (2 * n) && (same_from motion (4 * at) (4 * from) (4 * n) && flags_from words at from n)

-- n units from `at` on are intra
abbrev pub all_intra : List ℕ → (at n : ℕ) → Bool
all_intra words at n = all_below (λ (j : ℕ). intra_of (get_or words (at + j) 0)) n

-- the row between two units that are alike, by the word of one
unfoldable pub self_row : ℕ → ℕ
self_row word = pick (intra_of word) 0 (pick (coded_of word) 1 3)

-- the byte of unit k of the first row of units: the row of its left edge, which the first of them has none of
unfoldable pub first_byte : List ℕ → (motion refs : List ℤ) → ℕ → ℕ
first_byte words motion refs k = pick (eqb k 0) 0 (row_in words motion refs k (k - 1))

-- the first n of a list are those of another from k on
abbrev pub bytes_from : List ℕ → (k n : ℕ) → List ℕ → Bool
bytes_from bytes k n rows = all_below (λ (j : ℕ). eqb (get_or rows (k + j) 0) (get_or bytes j 0)) n

-- n bytes of a map from k on are right
abbrev pub right_run : List ℕ → (motion refs : List ℤ) → (c : ℕ) → List ℕ → (k n : ℕ) → Bool
right_run words motion refs c rows k n = all_below (λ (j : ℕ). eqb (get_or rows (k + j) 0) (rule_byte words motion refs c (k + j))) n

-- all before k are
abbrev pub RightBelow : List ℕ → (motion refs : List ℤ) → (c : ℕ) → List ℕ → ℕ → Type 0
RightBelow words motion refs c rows k = (i : ℕ) → i < k → get_or rows i 0 ≡ rule_byte words motion refs c i

-- n units from unit k on, which stands in column x of c: all in one row of units
pub record Run (c size x k n : ℕ) : Type 0 where
  pub column : x ≡ k % c
  pub fits : x + n ≤ c
  pub inside : k + n ≤ size

-- the first n of a list have become those of f, and it is as long as before
pub record FirstOf (f : ℕ → ℕ) (n : ℕ) (before after : List ℕ) : Type 0 where
  pub long : length after ≡ length before
  pub at : (j : ℕ) → j < n → get_or after j 0 ≡ f j

-- n bytes have been stored from k on, and those before k are as they were
pub record Stored (bytes : List ℕ) (k n : ℕ) (before after : List ℕ) : Type 0 where
  pub long : length after ≡ length before
  pub kept : (i : ℕ) → i < k → get_or after i 0 ≡ get_or before i 0
  pub new : (j : ℕ) → j < n → get_or after (k + j) 0 ≡ get_or bytes j 0
