-- Laws of a frame's bytes: a key byte by byte, the samples of a plane, and samples written one after the other.
--     match_none, match_out, match_other, match_on, match_fits    what is left of a key and of the bytes
--     scan_plane    the samples of a plane, one by one
--     put_start, put_sample    a plane's bytes
--     area, quarter, small_chroma    how large planes are
-- Assumes nothing.
use mathlib.Core.Bool.{Bool, true, false}
use mathlib.Core.List.{List, [], ◌∷◌, ◌++◌}
use mathlib.Core.Path.{◌≡◌, refl, sym, ap, ◌∙◌, subst}
use Prim.Native.Nat.{ℕ, ◌+◌, ◌*◌, ◌/◌, ◌%◌, ◌≤◌, ◌<◌}
use native.Mathlib.Nat.{mul-le-mul}
use native.Mathlib.Numerals.{add-one}
use native.Mathlib.Omega.{arith}
use borrow.Author.Tests.{eq-eqb, ne_eqb}
use lib.Dec.{eqb}
use lib.ListN.{length, take, drop, get_or, set, drop_of_length-le}
use lib.Seq.{take-suc}
use Rattle.def.specs.Formats.{colour_length}
use Rattle.def.specs.declared.Format.{Format}
use Rattle.def.specs.declared.Format.TheVariants.{Grey, Colour}
use Rattle.laws.specs.Scan.{all_below}
use Rattle.laws.proofs.Bools.{both_right}
use Rattle.laws.proofs.Parts.{scan_alike}
use Rattle.laws.proofs.Tabulate.{length_tabulate, get_d_tabulate}
use Rattle.samples.specs.Samples.{sample_ok, samples_ok}
use Rattle.edges.specs.Put.{Put}
use Rattle.edges.proofs.Puts.{put_as, put_then}
use Rattle.sheet.proofs.Puts.{put_byte}
use Rattle.y4m_rules.specs.Frames.{bytes_of, sample_at, plane_at, matches}
use Rattle.y4m_rules.proofs.Reading.{here}

-- ---- a key, byte by byte

-- i bytes of the key have been passed, and j of the text
module _ (short : Bool) (key s : List ℕ) (i j : ℕ) where
  pub match_none : length key ≤ i → matches short (drop i key) (drop j s) ≡ true
  unfolding matches
  match_none h = ap (λ (k : List ℕ). matches short k (drop j s)) (drop_of_length-le key h)

  pub match_out : i < length key → length s ≤ j → matches short (drop i key) (drop j s) ≡ short
  unfolding matches
  match_out h p = rw (here key i h, drop_of_length-le s p)

  pub match_other : i < length key → j < length s → (get_or key i 0 ≡ get_or s j 0 → ⊥) → matches short (drop i key) (drop j s) ≡ false
  unfolding matches
  match_other h p e = rw (here key i h, here s j p, ne_eqb (get_or key i 0) (get_or s j 0) e)

  pub match_on : i < length key → j < length s → get_or key i 0 ≡ get_or s j 0 → matches short (drop i key) (drop j s) ≡ matches short (drop (i + 1) key) (drop (j + 1) s)
  unfolding matches
  match_on h p e = rw (here key i h, here s j p, eq-eqb (get_or key i 0) (get_or s j 0) e)

pub match_fits : (key l : List ℕ) → matches false key l ≡ true → length key ≤ length l
unfolding matches
match_fits [] l e = omega arith
match_fits (k ∷ key) [] e = absurd (let z : ◌≡◌ {A = ℕ} 0 1 = cc in omega arith)
match_fits (k ∷ key) (b ∷ l) e = omega (arith, match_fits key l (both_right (eqb k b) (matches false key l) e))

-- ---- samples

-- the samples of a plane, one by one
pub scan_plane : (s : List ℕ) (from n : ℕ) → all_below (λ (k : ℕ). sample_ok (sample_at s (from + 2 * k))) n ≡ samples_ok (plane_at s from n)
unfolding samples_ok
scan_plane s from n =
    scan_alike (λ (k : ℕ). sample_ok (sample_at s (from + 2 * k))) (λ (k : ℕ). sample_ok (get_or (plane_at s from n) k 0)) n
    (λ k h. ap sample_ok (sym (get_d_tabulate (λ (j : ℕ). sample_at s (from + 2 * j)) n k 0 h)))
    ∙ ap (all_below (λ (k : ℕ). sample_ok (get_or (plane_at s from n) k 0))) (sym (length_tabulate (λ (k : ℕ). sample_at s (from + 2 * k)) n))

-- ---- samples written one after the other

bytes_snoc : (p : List ℕ) (x : ℕ) → bytes_of (p ++ (x ∷ [])) ≡ bytes_of p ++ ((x % 256) ∷ (x / 256) ∷ [])
unfolding bytes_of
bytes_snoc [] x = refl
bytes_snoc (y ∷ p) x = ap (λ (l : List ℕ). (y % 256) ∷ (y / 256) ∷ l) (bytes_snoc p x)

pub put_start : (p out : List ℕ) (at : ℕ) → Put (bytes_of (take 0 p)) out at out (at + 2 * 0)
unfolding bytes_of
put_start p out at = record { count = refl; put = refl }

pub put_sample : (p out out₁ : List ℕ) (at i : ℕ) → i < length p → Put (bytes_of (take i p)) out at out₁ (at + 2 * i)
    → Put (bytes_of (take (i + 1) p)) out at (set (set out₁ (at + 2 * i) (get_or p i 0 % 256)) (at + 2 * i + 1) (get_or p i 0 / 256)) (at + 2 * (i + 1))
put_sample p out out₁ at i h q =
    let x = get_or p i 0 in
    let m = at + 2 * i in
    let e : bytes_of (take i p) ++ ((x % 256) ∷ (x / 256) ∷ []) ≡ bytes_of (take (i + 1) p)
    = sym (bytes_snoc (take i p) x) ∙ ap bytes_of (sym (ap (λ (k : ℕ). take k p) (add-one i) ∙ take-suc p i 0 h)) in
    let n : m + 1 + 1 ≡ at + 2 * (i + 1) = omega arith in
    subst (Put (bytes_of (take (i + 1) p)) out at (set (set out₁ m (x % 256)) (m + 1) (x / 256))) n
    (put_as e (put_then q (put_then (put_byte (x % 256) out₁ m) (put_byte (x / 256) (set out₁ m (x % 256)) (m + 1)))))

-- ---- how large planes are

pub area : (w h : ℕ) → w ≤ 4096 → h ≤ 4096 → w * h ≤ 16777216
area w h p q = omega (arith, mul-le-mul p q)

pub quarter : (w h : ℕ) → w ≤ 4096 → h ≤ 4096 → (w / 2) * (h / 2) ≤ 4194304
quarter w h p q =
    let a : w / 2 ≤ 2048 = omega arith in
    let b : h / 2 ≤ 2048 = omega arith in
    omega (arith, mul-le-mul a b)

pub small_chroma : (c : Format) (w h n : ℕ) → w ≤ 4096 → h ≤ 4096 → n ≡ colour_length c w h → n ≤ 4194304
small_chroma Grey w h n p q e = omega arith
small_chroma Colour w h n p q e = omega (arith, quarter w h p q)
