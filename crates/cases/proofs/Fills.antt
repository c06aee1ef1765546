-- A slice filled with the numbers of a text, at any element type: what holds after i of them; and a slice taken into the front of a room.
-- Assumes nothing.
use mathlib.Core.Path.{◌≡◌, refl, sym, ap, ◌∙◌, subst}
use mathlib.Core.List.{List, ◌++◌}
use Prim.Native.Nat.{ℕ, ◌+◌, ◌<◌, ◌≤◌, min}
use native.Mathlib.Numerals.{add-one}
use native.Mathlib.Omega.{arith}
use lib.ListN.{length, set, take, drop}
use lib.Seq.{length-take-le, take_at, drop_at}
use Rattle.laws.proofs.Tabulate.{length_tabulate}
use Rattle.laws.proofs.Fill.{Upto, upto_none, upto_more, upto_all}
use Rattle.cases.specs.Numbers.{number_at, place_after, Filled, Took}
use Rattle.cases.specs.declared.Written.{Written}

module _ {A : Type 0} (d : A) (f : Written → A) (s : List ℕ) (at : ℕ) where
  pub record Filling (out₀ out : List A) (i place : ℕ) : Type 0 where
    pub upto : Upto d (λ (k : ℕ). f (number_at s (place_after s at k))) out₀ out i
    pub here : place ≡ place_after s at i

  pub filling_none : (out : List A) → Filling out out 0 at
  unfolding place_after
  filling_none out = record { upto = upto_none d _ out; here = refl }

  pub filling_more : (out₀ out : List A) (i place : ℕ) (n : Written) (v : A) → i < length out₀ → n ≡ number_at s place → v ≡ f n
      → Filling out₀ out i place → Filling out₀ (set out i v) (i + 1) n.next
  unfolding place_after
  filling_more out₀ out i place n v h e q u =
      let r : n ≡ number_at s (place_after s at i) = e ∙ ap (number_at s) u.here in
      record {
        upto = upto_more d _ out₀ out i v h (q ∙ ap f r) u.upto;
        here = ap (λ (m : Written). m.next) r ∙ ap (place_after s at) (sym (add-one i));
      }

  pub filling_all : (out₀ out : List A) (i place : ℕ) → length out₀ ≤ i → Filling out₀ out i place → Filled f s at out₀ out place
  filling_all out₀ out i place h u =
      let e : i ≡ length out₀ = omega (arith, u.upto.within) in
      record { next = u.here ∙ ap (place_after s at) e; filled = upto_all d _ out₀ out i h u.upto }

-- the front of a room filled, and the rest of it after that
module _ {A : Type 0} (f : Written → A) (s : List ℕ) (at : ℕ) (room front : List A) (n : Written) (len next : ℕ) where
  pub took : n ≡ number_at s at → len ≡ min n.size (length room) → Filled f s n.next (take len room) front next → Took f s at room (front ++ drop len room) (record { len = len; next = next })
  took e q u =
      let h : len ≤ length room = omega arith in
      let long : length front ≡ len = ap length u.filled ∙ length_tabulate _ _ ∙ length-take-le len room h in
      record {
        len = q ∙ ap (λ (m : Written). min m.size (length room)) e;
        front =
            rw (take_at front (drop len room) len long)
            (subst (λ (m : Written). Filled f s m.next (take len room) front next) e u);
        rest = drop_at front (drop len room) len long;
      }

-- as many as were taken, of a room of n, stand at its front
pub part_long : {A : Type 0} (room : List A) (len size n : ℕ) → len ≡ min size n → length room ≡ n → len ≡ length (take len room)
part_long room len size n e k = sym (length-take-le len room (omega arith))
