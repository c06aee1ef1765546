-- Laws of a line's form, by the ways through the code that reads it.
--     key_fits, rest_of                               what follows a key
--     no_key, after_key, same_is                      a key, and a text that is just some bytes
--     number_no_key, number_is                        a key and a number
--     edge_old, edge_own, edge_no, splits_no_key, splits_is, splits_no
--     line_fits, line_part                            the line that starts at a place, as a part of the text
--     field_cut, field_no, field_is                   that line, by its tests
-- Assumes nothing.
use Rattle.std.specs.Prelude.{Option, Some, None, Decides}
use mathlib.Core.Path.{◌≡◌, refl, sym, ap, ap₂, ◌∙◌}
use mathlib.Core.Bool.{Bool, true, false, ◌&&◌, ◌||◌}
use mathlib.Core.List.{List, [], ◌∷◌}
use Rattle.std.proofs.lemmas.Bool.Decides.{Decides-eqb}
use Rattle.std.proofs.lemmas.Slice.Eq.{slice_eq-Decides}
use borrow.Author.Tests.{eq-eqb, ne_eqb, eqb-true}
use lib.Pointwise.{pointwise}
use Prim.Native.Nat.{ℕ, ◌+◌, ◌-◌, ◌≤◌}
use native.Mathlib.Omega.{arith}
use lib.Dec.{ltb, eqb}
use lib.ListN.{length, take, drop, length-drop}
use lib.Seq.{take_all}
use Rattle.std.proofs.lemmas.Option.{same_Some}
use Rattle.laws.specs.Index.{pick}
use Rattle.laws.proofs.Bools.{both_left, both_right}
use Rattle.sheet_lines.specs.Lines.{line_of, line_from, next_line, starts_with, is_number, number_line, number_after, same_line, edge_line, old_edge, splits_line}
use Rattle.sheet_lines.specs.Lines.{no_value, binary, form_of, says_of, line_ok}
use Rattle.sheet_lines.specs.Words.{own_edge, source_edge, splits_key}
use Rattle.sheet_lines.specs.Fields.{number_by, value_by, field_of}
use Rattle.sheet_lines.specs.declared.Kind.{Kind}
use Rattle.sheet_lines.proofs.Reading.{line_short}

-- ---- what follows a key

pub key_fits : (key l : List ℕ) → starts_with key l ≡ true → length key ≤ length l
unfolding starts_with
key_fits [] l e = omega arith
key_fits (k ∷ key) [] e = absurd (let z : ◌≡◌ {A = ℕ} 0 1 = cc in omega arith)
key_fits (k ∷ key) (b ∷ l) e = omega (arith, key_fits key l (both_right (eqb k b) (starts_with key l) e))

pub rest_of : (n : ℕ) (l : List ℕ) → take (length l - n) (drop n l) ≡ drop n l
rest_of n l = take_all (length l - n) (drop n l) (simp length-drop (omega arith))

eqb_sym : (a b : ℕ) → eqb a b ≡ eqb b a
eqb_sym a b = go (eqb a b) refl where
  go : (t : Bool) → eqb a b ≡ t → t ≡ eqb b a
  go true e = sym (eq-eqb b a (sym (eqb-true a b e)))
  go false e = sym (ne_eqb b a (λ q. absurd (let z : ◌≡◌ {A = Bool} true false = sym (eq-eqb a b (sym q)) ∙ e in let y : ◌≡◌ {A = ℕ} 0 1 = cc in omega arith)))

-- what `strip_prefix` tests
stripped : (key l : List ℕ) → pointwise eqb (take (length key) l) key ≡ starts_with key l
unfolding starts_with
stripped [] l = refl
stripped (k ∷ key) [] = refl
stripped (k ∷ key) (b ∷ l) = ap₂ (λ (x y : Bool). x && y) (eqb_sym b k) (stripped key l)

pub no_key : (key l k : List ℕ) → k ≡ key → pointwise eqb (take (length k) l) k ≡ false → starts_with key l ≡ false
no_key key l k e p = sym (ap (λ (x : List ℕ). pointwise eqb (take (length x) l) x) e ∙ stripped key l) ∙ p

pub after_key : (key l k d : List ℕ) → k ≡ key → pointwise eqb (take (length k) l) k ≡ true → d ≡ drop (length k) l → (starts_with key l ≡ true) × (d ≡ drop (length key) l)
after_key key l k d e p q =
    (sym (ap (λ (x : List ℕ). pointwise eqb (take (length x) l) x) e ∙ stripped key l) ∙ p, q ∙ ap (λ (x : List ℕ). drop (length x) l) e)

-- ---- a text that is just some bytes

-- a list that begins with all of a list as long is that list
begins : (key l : List ℕ) → starts_with key l ≡ true → length l ≡ length key → l ≡ key
unfolding starts_with
begins [] [] e n = refl
begins [] (b ∷ l) e n = absurd (omega arith)
begins (k ∷ key) [] e n = absurd (omega arith)
begins (k ∷ key) (b ∷ l) e n =
    ap₂ (λ (x : ℕ) (m : List ℕ). x ∷ m) (sym (eqb-true k b (both_left (eqb k b) (starts_with key l) e)))
    (begins key l (both_right (eqb k b) (starts_with key l) e) (omega arith))

begins_all : (key : List ℕ) → starts_with key key ≡ true
unfolding starts_with
begins_all [] = refl
begins_all (k ∷ key) = rw (eq-eqb k k refl) (begins_all key)

decided : (key l : List ℕ) (t : Bool) → Decides t (l ≡ key) → t ≡ same_line key l
unfolding same_line
decided key l true d =
    let e : l ≡ key = d.0 refl in rw (e, begins_all key, eq-eqb (length key) (length key) refl)
decided key l false d = go (starts_with key l && eqb (length l) (length key)) refl where
  go : (b : Bool) → (starts_with key l && eqb (length l) (length key)) ≡ b → false ≡ (starts_with key l && eqb (length l) (length key))
  go false e = sym e
  go true e =
      absurd (let z : ◌≡◌ {A = Bool} false true = d.1 (begins key l (both_left (starts_with key l) _ e) (eqb-true (length l) (length key) (both_right (starts_with key l) _ e))) in
      let y : ◌≡◌ {A = ℕ} 0 1 = cc in omega arith)

-- what `==` of two slices found
pub same_is : (key l k : List ℕ) (t : Bool) → k ≡ key → t ≡ pointwise eqb l k → t ≡ same_line key l
same_is key l k t e d =
    d ∙ ap (pointwise eqb l) e ∙ decided key l (pointwise eqb l key) (slice_eq-Decides Decides-eqb l key (pointwise eqb l key) refl)

-- ---- the five forms

module _ (key l : List ℕ) where
  pub number_no_key : starts_with key l ≡ false → None ≡ value_by (number_line key) (number_after key) l
  unfolding number_line
  number_no_key e = rw e

  -- d: what follows the key, and v: that as a number
  pub number_is : starts_with key l ≡ true → (d : List ℕ) (v : Option ℕ) → d ≡ drop (length key) l → v ≡ number_by 4 d → v ≡ value_by (number_line key) (number_after key) l
  unfolding number_line number_after is_number
  number_is e d v p q = q ∙ ap (number_by 4) p ∙ rw e

module _ (l : List ℕ) where
  pub edge_old : same_line source_edge l ≡ true → Some 1 ≡ value_by edge_line old_edge l
  unfolding edge_line old_edge
  edge_old e = rw e (go (same_line own_edge l)) where
    go : (a : Bool) → ◌≡◌ {A = Option ℕ} (Some 1) (pick (a || true) (Some 1) None)
    go true = refl
    go false = refl

  pub edge_own : same_line source_edge l ≡ false → same_line own_edge l ≡ true → Some 0 ≡ value_by edge_line old_edge l
  unfolding edge_line old_edge
  edge_own e f = rw (e, f)

  pub edge_no : same_line source_edge l ≡ false → same_line own_edge l ≡ false → None ≡ value_by edge_line old_edge l
  unfolding edge_line old_edge
  edge_no e f = rw (e, f)

module _ (l : List ℕ) where
  pub splits_no_key : starts_with splits_key l ≡ false → None ≡ value_by splits_line no_value l
  unfolding splits_line
  splits_no_key e = rw e

  pub splits_is : starts_with splits_key l ≡ true → (d : List ℕ) → d ≡ drop 7 l → binary d ≡ true → Some 0 ≡ value_by splits_line no_value l
  unfolding splits_line
  splits_is e d p n = rw (e, sym (ap binary p) ∙ n)

  pub splits_no : starts_with splits_key l ≡ true → (d : List ℕ) → d ≡ drop 7 l → binary d ≡ false → None ≡ value_by splits_line no_value l
  unfolding splits_line
  splits_no e d p n = rw (e, sym (ap binary p) ∙ n)

-- ---- the line that starts at a place

pub line_is : (s : List ℕ) (at n : ℕ) → n ≡ length (line_of (take (length s - at) (drop at s))) → n ≡ length (line_from s at)
line_is s at n e = e ∙ ap (λ (l : List ℕ). length (line_of l)) (rest_of at s)

pub line_fits : (s : List ℕ) (at : ℕ) → at ≤ length s → at + length (line_from s at) ≤ length s
line_fits s at h = omega (arith, line_short (drop at s), length-drop at s)

take_line : (s : List ℕ) → take (length (line_of s)) s ≡ line_of s
unfolding line_of
take_line [] = refl
take_line (b ∷ s) = go (eqb b 10) (take_line s) where
  go : (t : Bool) → take (length (line_of s)) s ≡ line_of s → take (length (pick t [] (b ∷ line_of s))) (b ∷ s) ≡ pick t [] (b ∷ line_of s)
  go true h = refl
  go false h = ap (λ (l : List ℕ). b ∷ l) h

pub line_part : (s : List ℕ) (at n : ℕ) → n ≡ length (line_from s at) → take (at + n - at) (drop at s) ≡ line_from s at
line_part s at n e = let q : at + n - at ≡ length (line_from s at) = omega arith in ap (λ (k : ℕ). take k (drop at s)) q ∙ take_line (drop at s)

module _ (kind : Kind) (s : List ℕ) (at n : ℕ) (e : n ≡ length (line_from s at)) where
  pub field_cut : (ltb (at + n) (length s) && ltb (at + n) 4096) ≡ false → None ≡ field_of kind s at
  unfolding field_of line_ok
  field_cut q = rw (sym e, q)

  module _ (v : Option ℕ) (whole : (ltb (at + n) (length s) && ltb (at + n) 4096) ≡ true) (d : v ≡ value_by (form_of kind) (says_of kind) (take (at + n - at) (drop at s))) where
    value_of_line : v ≡ value_by (form_of kind) (says_of kind) (line_from s at)
    value_of_line = d ∙ ap (value_by (form_of kind) (says_of kind)) (line_part s at n e)

    field : field_of kind s at ≡ pick {A = Option (ℕ × ℕ)} (form_of kind (line_from s at)) (Some (says_of kind (line_from s at), next_line s at)) None
    unfolding field_of line_ok
    field = rw (sym e, whole)

    pub field_no : v ≡ None → None ≡ field_of kind s at
    field_no q = go (form_of kind (line_from s at)) (sym value_of_line ∙ q) ∙ sym field where
      go : (t : Bool) → pick t (Some (says_of kind (line_from s at))) None ≡ None → None ≡ pick {A = Option (ℕ × ℕ)} t (Some (says_of kind (line_from s at), next_line s at)) None
      go true z = cc
      go false z = refl

    pub field_is : (x : ℕ) → v ≡ Some x → Some (x, at + n + 1) ≡ field_of kind s at
    field_is x q = go (form_of kind (line_from s at)) (sym value_of_line ∙ q) ∙ sym field where
      go : (t : Bool) → pick t (Some (says_of kind (line_from s at))) None ≡ Some x → Some (x, at + n + 1) ≡ pick {A = Option (ℕ × ℕ)} t (Some (says_of kind (line_from s at), next_line s at)) None
      go true z = ap₂ (λ (v k : ℕ). Some (v, at + k + 1)) (sym (same_Some _ _ z)) e
      go false z = cc
