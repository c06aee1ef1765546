-- The eight answers of availability in one byte.
--     masked_done, masked_refused    an answer's numbers by its case
--     masked_gives    a call's promise, read in numbers
--     mask_apart    the byte tells all eight answers apart
-- Assumes nothing.
use Rattle.std.specs.Prelude.{Ok, Err, Result}
use Prim.Native.Nat.{ℕ, ◌+◌, ◌*◌, ◌≤◌}
use mathlib.Core.Path.{◌≡◌, refl}
use mathlib.Core.Bool.{Bool, true, false}
use native.Mathlib.Omega.{arith}
use Rattle.def.specs.Refusals.{number_of}
use Rattle.def.specs.Word.{bit}
use Rattle.def.specs.declared.Refusal.{Refusal}
use Rattle.avail.specs.Calls as calls
use Rattle.avail.specs.declared.Neighbours.{Neighbours}
use Rattle.decoder_c.specs.Masks.{byte_of, masked_of}

abbrev Numbers : Result Neighbours Refusal → ℕ → ℕ → Type 0
Numbers a n m = (n ≡ (calls.reading_of a).number) × (m ≡ byte_of (calls.reading_of a).neighbours)

pub masked_done : (a : Result Neighbours Refusal) (found : Neighbours) (m : ℕ) → a ≡ Ok found → m ≡ byte_of found → Numbers a 0 m
masked_done a found m q e = rw q (refl, e)

pub masked_refused : (a : Result Neighbours Refusal) (r : Refusal) (n : ℕ) → a ≡ Err r → n ≡ number_of r → Numbers a n 0
masked_refused a r n q e = rw q (e, refl)

pub masked_gives : (a : Result Neighbours Refusal) (o : calls.Outcome) (n m : ℕ) → record { reading = calls.reading_of a } ≡ o → Numbers a n m → record { number = n; neighbours = m } ≡ masked_of o.reading
masked_gives a o n m p e = rw (← p, e.0, e.1) refl

-- ---- the bits, one after the other

bit_small : (b : Bool) → bit b ≤ 1
bit_small true = omega arith
bit_small false = omega arith

bit_back : (a b : Bool) → bit a ≡ bit b → a ≡ b
bit_back true true e = refl
bit_back false false e = refl
bit_back true false e = absurd (omega arith)
bit_back false true e = absurd (omega arith)

first : (a b : Bool) (m n : ℕ) → bit a + 2 * m ≡ bit b + 2 * n → (a ≡ b) × (m ≡ n)
first a b m n e = (bit_back a b (omega (arith, bit_small a, bit_small b)), omega (arith, bit_small a, bit_small b))

abbrev eight : (up left right up-left up-right low-left low-right right-up : Bool) → Neighbours
eight a b c d e f g h = record { up = a; left = b; right = c; up_left = d; up_right = e; low_left = f; low_right = g; right_up = h }

pub mask_apart : (m n : Neighbours) → byte_of m ≡ byte_of n → m ≡ n
mask_apart m n e =
    let p = first m.up n.up _ _ e in
    let q = first m.left n.left _ _ p.1 in
    let r = first m.right n.right _ _ q.1 in
    let s = first m.up_left n.up_left _ _ r.1 in
    let t = first m.up_right n.up_right _ _ s.1 in
    let u = first m.low_left n.low_left _ _ t.1 in
    let v = first m.low_right n.low_right _ _ u.1 in
    let last = bit_back m.right_up n.right_up v.1 in
    let same : eight m.up m.left m.right m.up_left m.up_right m.low_left m.low_right m.right_up ≡ eight n.up
    n.left n.right n.up_left n.up_right n.low_left n.low_right n.right_up = rw (p.0, q.0, r.0, s.0, t.0, u.0, v.0, last) refl in
    same
