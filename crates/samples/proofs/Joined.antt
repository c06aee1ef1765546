-- What a fold by `|` over a list of samples tells of it.
--     joined_all    numbers joined bit by bit are a sample where all of them are
-- Assumes nothing.
use Prim.Native.Nat.{ℕ, zero, suc}
use mathlib.Core.Path.{◌≡◌, refl, sym, ap, ◌∙◌}
use mathlib.Core.Bool.{Bool, true, false, ◌&&◌}
use mathlib.Core.List.{List, [], ◌∷◌}
use lib.Bits.{bit_or}
use lib.ListN.{length, get_or}
use Rattle.std.specs.List.{fold}
use Rattle.laws.specs.Scan.{all_below}
use Rattle.samples.specs.Samples.{samples_ok, sample_ok}
use Rattle.samples.proofs.Samples.{joined}

and_assoc : (a b c : Bool) → ((a && b) && c) ≡ (a && (b && c))
and_assoc true b c = refl
and_assoc false b c = refl

and_true : (a : Bool) → a ≡ (a && true)
and_true true = refl
and_true false = refl

-- a scan by its first place
scan_first : (f : ℕ → Bool) (n : ℕ) → all_below f (suc n) ≡ (f 0 && all_below (λ (k : ℕ). f (suc k)) n)
unfolding all_below
scan_first f zero = and_true (f 0)
scan_first f (suc n) = ap (λ (b : Bool). b && f (suc n)) (scan_first f n) ∙ and_assoc (f 0) _ (f (suc n))

pub joined_all : (a : ℕ) (p : List ℕ) → sample_ok (fold bit_or a p) ≡ (sample_ok a && samples_ok p)
unfolding samples_ok all_below
joined_all a [] = and_true (sample_ok a)
joined_all a (x ∷ p) =
    joined_all (bit_or a x) p
    ∙ ap (λ (b : Bool). b && samples_ok p) (joined a x)
    ∙ and_assoc (sample_ok a) (sample_ok x) (samples_ok p)
    ∙ ap (λ (b : Bool). sample_ok a && b) (sym (scan_first (λ (k : ℕ). sample_ok (get_or (x ∷ p) k 0)) (length p)))
