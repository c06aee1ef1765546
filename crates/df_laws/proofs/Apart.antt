-- The reading of what `deblock` answers tells all answers apart. Assumes nothing.
use Rattle.std.specs.Prelude.{Ok, Err, Result}
use Prim.Native.Nat.{ℕ}
use mathlib.Core.Path.{◌≡◌, refl, sym, ap, ◌∙◌}
use native.Mathlib.Omega.{arith}
use Rattle.def.proofs.Answers.{number_some, number_apart}
use Rattle.df.specs.Band as band
use Rattle.df.specs.declared.band.Banded.{Banded}
use Rattle.df.specs.Deblock.{Reading, reading_of}
use Rattle.def.specs.declared.Refusal.{Refusal}
use Rattle.split.specs.declared.EdgeCounts.{EdgeCounts}

pub reading_apart : (a b : Result EdgeCounts Refusal) → reading_of a ≡ reading_of b → a ≡ b
reading_apart (Ok c) (Ok d) e = λ x. Ok (record { vertical = (e x).vertical; horizontal = (e x).horizontal })
reading_apart (Ok c) (Err r) e = absurd (omega (arith, number_some r, ap (λ (x : Reading). x.number) e))
reading_apart (Err r) (Ok c) e = absurd (omega (arith, number_some r, ap (λ (x : Reading). x.number) e))
reading_apart (Err r) (Err q) e = ap Err (number_apart r q (ap (λ (x : Reading). x.number) e))

counts_apart : (a b : Result EdgeCounts Refusal) (m n : ℕ) → band.counted a m ≡ band.counted b n → a ≡ b
counts_apart (Ok c) (Ok d) m n e = λ x. Ok (record { vertical = (e x).vertical; horizontal = (e x).horizontal })
counts_apart (Ok c) (Err r) m n e = absurd (omega (arith, number_some r, ap (λ (x : band.Reading). x.number) e))
counts_apart (Err r) (Ok c) m n e = absurd (omega (arith, number_some r, ap (λ (x : band.Reading). x.number) e))
counts_apart (Err r) (Err q) m n e = ap Err (number_apart r q (ap (λ (x : band.Reading). x.number) e))

counted_next : (a : Result EdgeCounts Refusal) (n : ℕ) → (band.counted a n).next ≡ n
counted_next (Ok c) n = refl
counted_next (Err r) n = refl

pub banded_apart : (a b : Banded) → band.reading_of a ≡ band.reading_of b → a ≡ b
banded_apart a b e =
    let c = counts_apart a.counts b.counts a.next.next b.next.next e in
    let n : a.next.next ≡ b.next.next =
    sym (counted_next a.counts a.next.next) ∙ ap (λ (x : band.Reading). x.next) e ∙ counted_next b.counts b.next.next in
    λ x. record { counts = c x; next = record { next = n x } }
