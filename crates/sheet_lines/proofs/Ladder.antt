-- The lines of a sheet one after another: what is known once line k was read, and the answer at each way out.
--     Said, step, stop         a line that was read, and one that was not
--     bad-0 .. bad-4, extra, whole    the answer where that line is malformed, where bytes follow the five, and where all is well
-- Assumes nothing.
use Rattle.std.specs.Prelude.{Option, Some, None, Result, Ok, Err, ok_or}
use mathlib.Core.Path.{◌≡◌, refl, sym, ap, ◌∙◌}
use mathlib.Core.Bool.{Bool, true, false}
use mathlib.Core.List.{List}
use Prim.Native.Nat.{ℕ, suc, ◌+◌, ◌-◌, ◌≤◌, ◌<◌}
use native.Mathlib.Omega.{arith}
use borrow.Author.Tests.{ltb-true, le-leb, lt-leb}
use lib.Dec.{eqb}
use lib.ListN.{length}
use Rattle.std.proofs.lemmas.Option.{same_Some}
use Rattle.laws.specs.Index.{pick}
use Rattle.laws.proofs.Calls.{all_at}
use Rattle.sheet_lines.specs.Lines.{next_line, start_of, line, says_of, line_ok, line_tests, first_bad, width_of, height_of, limit_of}
use Rattle.sheet_lines.specs.Fields.{field_of}
use Rattle.sheet_lines.specs.ReadCall.{malformed, read_of}
use Rattle.sheet_lines.specs.declared.Malformed.{Malformed}
use Rattle.sheet_lines.specs.declared.Kind.{Kind}
use Rattle.sheet_lines.specs.declared.Kind.TheVariants.{Width, Height, Limit, Edge, Splits}

-- ---- line k was read: v is what it says, and n the place after it

pub record Said (kind : Kind) (s : List ℕ) (k v n : ℕ) : Type 0 where
  pub ok : line_ok kind s (start_of s k) ≡ true
  pub value : v ≡ says_of kind (line s k)
  pub next : n ≡ start_of s (suc k)
  pub some : 1 ≤ n
  pub inside : n ≤ length s

module _ (kind : Kind) (s : List ℕ) (k at : ℕ) (f : Option (ℕ × ℕ)) (here : at ≡ start_of s k) (e : f ≡ field_of kind s at) where
  field : f ≡ pick {A = Option (ℕ × ℕ)} (line_ok kind s (start_of s k)) (Some (says_of kind (line s k), next_line s (start_of s k))) None
  unfolding field_of
  field = e ∙ ap (field_of kind s) here

  said : (v n : ℕ) → f ≡ Some (v, n) → Said kind s k v n
  unfolding start_of line_ok
  said v n q = go (line_ok kind s (start_of s k)) refl (sym field ∙ q) where
    go : (t : Bool) → line_ok kind s (start_of s k) ≡ t → pick {A = Option (ℕ × ℕ)} t (Some (says_of kind (line s k), next_line s (start_of s k))) None ≡ Some (v, n) → Said kind s k v n
    go true o z =
        let y : ◌≡◌ {A = ℕ × ℕ} (says_of kind (line s k), next_line s (start_of s k)) (v, n) = same_Some _ _ z in
        let m : next_line s (start_of s k) ≡ n = ap (λ (x : ℕ × ℕ). x.1) y in
        let l : start_of s k + length (line s k) < length s = ltb-true (start_of s k + length (line s k)) (length s) (all_at (line_tests kind s (start_of s k)) 0 o) in
        record { ok = o; value = sym (ap (λ (x : ℕ × ℕ). x.0) y); next = sym m; some = omega arith; inside = omega arith }
    go false o z = absurd (let y : ◌≡◌ {A = ℕ} 0 1 = cc in omega arith)

  unsaid : f ≡ None → line_ok kind s (start_of s k) ≡ false
  unsaid q = go (line_ok kind s (start_of s k)) (sym field ∙ q) where
    go : (t : Bool) → pick {A = Option (ℕ × ℕ)} t (Some (says_of kind (line s k), next_line s (start_of s k))) None ≡ None → t ≡ false
    go true z = cc
    go false z = refl

-- the same of what the code makes of it: line k, or that line m is malformed
module _ (kind : Kind) (s : List ℕ) (k at : ℕ) (f : Option (ℕ × ℕ)) (r : Result (ℕ × ℕ) Malformed) (m : Malformed)
    (here : at ≡ start_of s k) (e : f ≡ field_of kind s at) (d : r ≡ ok_or f m) where
  pub step : (v n : ℕ) → r ≡ Ok (v, n) → Said kind s k v n
  step v n q = said kind s k at f here e v n (go f (sym d ∙ q)) where
    go : (g : Option (ℕ × ℕ)) → ok_or g m ≡ Ok (v, n) → g ≡ Some (v, n)
    go None z = absurd (let y : ◌≡◌ {A = ℕ} 0 1 = cc in omega arith)
    go (Some x) z = let y : x ≡ (v, n) = cc in ap (λ (p : ℕ × ℕ). Some p) y

  pub stop : (b : Malformed) → r ≡ Err b → (line_ok kind s (start_of s k) ≡ false) × (b ≡ m)
  stop b q = let p = go f (sym d ∙ q) in (unsaid kind s k at f here e p.0, p.1) where
    go : (g : Option (ℕ × ℕ)) → ok_or g m ≡ Err b → (g ≡ None) × (b ≡ m)
    go None z = (refl, cc)
    go (Some x) z = absurd (let y : ◌≡◌ {A = ℕ} 0 1 = cc in omega arith)

pub start_zero : (s : List ℕ) → 0 ≡ start_of s 0
unfolding start_of
start_zero s = refl

-- ---- the answers, in the order of the lines

module _ (s : List ℕ) where
  pub bad_0 : line_ok Width s (start_of s 0) ≡ false → malformed 1 ≡ read_of s
  unfolding read_of first_bad
  bad_0 e = rw e

  module _ (o₀ : line_ok Width s (start_of s 0) ≡ true) where
    pub bad_1 : line_ok Height s (start_of s 1) ≡ false → malformed 2 ≡ read_of s
    unfolding read_of first_bad
    bad_1 e = rw (o₀, e)

    module _ (o₁ : line_ok Height s (start_of s 1) ≡ true) where
      pub bad_2 : line_ok Limit s (start_of s 2) ≡ false → malformed 3 ≡ read_of s
      unfolding read_of first_bad
      bad_2 e = rw (o₀, o₁, e)

      module _ (o₂ : line_ok Limit s (start_of s 2) ≡ true) where
        pub bad_3 : line_ok Edge s (start_of s 3) ≡ false → malformed 4 ≡ read_of s
        unfolding read_of first_bad
        bad_3 e = rw (o₀, o₁, o₂, e)

        module _ (o₃ : line_ok Edge s (start_of s 3) ≡ true) where
          pub bad_4 : line_ok Splits s (start_of s 4) ≡ false → malformed 5 ≡ read_of s
          unfolding read_of first_bad
          bad_4 e = rw (o₀, o₁, o₂, o₃, e)

          module _ (o₄ : line_ok Splits s (start_of s 4) ≡ true) where
            pub extra : (n : ℕ) → n ≡ start_of s 5 → n < length s → malformed 6 ≡ read_of s
            unfolding read_of first_bad
            extra n e h = rw (o₀, o₁, o₂, o₃, o₄, lt-leb (length s) (start_of s 5) (omega arith))

            pub whole : (w h limit edge from n : ℕ) → w ≡ width_of s → h ≡ height_of s → limit ≡ limit_of s → edge ≡ says_of Edge (line s 3) → from ≡ start_of s 4 → n ≡ start_of s 5 → length s ≤ n
                → Ok (record { w = w; h = h; limit = limit; old = eqb edge 1; from = from + 7; to = n - 1 }) ≡ read_of s
            unfolding read_of first_bad start_of
            whole w h limit edge from n ew eh el eo ef en p =
                let q : n - 1 ≡ start_of s 4 + length (line s 4) = omega arith in
                rw (o₀, o₁, o₂, o₃, o₄, le-leb (length s) (start_of s 5) (omega arith)) (cc)
