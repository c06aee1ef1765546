-- What the checks of deblocking by a map of edge rows found.
--     no_size, no_length, no_picture, none_lent, wrong_map, right_map    the ladder, by the steps of the code
--     picture_fine, rows_fine    where nothing is refused
--     no_map    with no map it is that of `df_check`
-- Assumes nothing.
use Rattle.std.specs.Prelude.{Ok, Err}
use Prim.Native.Nat.{ℕ, ◌/◌, ◌<◌}
use mathlib.Core.Path.{◌≡◌, refl, sym, ◌∙◌}
use mathlib.Core.Bool.{Bool, true, false, not, ◌||◌}
use mathlib.Core.List.{[]}
use native.Mathlib.Omega.{arith}
use borrow.Author.Tests.{eqb-true, eq-eqb, ne_eqb, not-true, not-false}
use lib.Dec.{eqb}
use lib.ListN.{length, get_or}
use Rattle.laws.specs.Call.{unless}
use Rattle.laws.proofs.Bools.{or_true}
use Rattle.laws.proofs.Calls.{stops, goes_on}
use Rattle.def.specs.Answers.{after_checks}
use Rattle.def.specs.Picture.{size_ok}
use Rattle.def.specs.Answers.{Answer}
use Rattle.def.specs.declared.Refusal.{Refusal}
use Rattle.def.specs.declared.Refusal.TheVariants.{Size, Length, Rows}
use Rattle.def.proofs.Answers.{on_refusal, on_done}
use Rattle.def.proofs.Ladders.{passes}
use Rattle.df_check.specs.Checks as checks
use Rattle.rows_rules.specs.Checks.{right_ok}
use Rattle.rows_rules.specs.Rule.{rule_byte}
use Rattle.rows_rules.proofs.RightMap.{right_byte}
use Rattle.by_rows_check.specs.Checks.{Input, checked, rows_length_ok, rows_ok, check_of}

module _ (i : Input) where
  abbrev picture : Answer
  picture = checks.check_of (checked i)

  abbrev right : Bool
  right = right_ok i.w i.h i.words i.motion i.refs i.rows

  abbrev last : Answer
  last = unless (rows_ok i) (Err Rows) (Ok tt)

  abbrev from : Answer
  from = after_checks Err last picture

  pub no_size : (a : Bool) → a ≡ size_ok i.w i.h → not a ≡ true → Err Size ≡ check_of i
  unfolding check_of
  no_size a e n = stops a _ _ _ e n

  module _ (a b : Bool) (e : a ≡ size_ok i.w i.h) (n : not a ≡ false) (f : b ≡ rows_length_ok i.w i.h (length i.rows)) where
    pub no_length : not b ≡ true → Err Length ≡ check_of i
    unfolding check_of
    no_length m = goes_on a _ _ _ _ e n (stops b _ _ _ f m)

    module _ (m : not b ≡ false) where
      past : (x : Answer) → x ≡ from → x ≡ check_of i
      unfolding check_of
      past x p = goes_on a _ _ _ x e n (goes_on b _ _ _ x f m p)

      pub no_picture : (k : Answer) (r : Refusal) → k ≡ picture → k ≡ Err r → Err r ≡ check_of i
      no_picture k r g q = past _ (on_refusal Err last k picture r g q)

      module _ (k : Answer) (g : k ≡ picture) (q : k ≡ Ok tt) where
        to_last : (x : Answer) → x ≡ last → x ≡ check_of i
        to_last x p = past x (on_done Err last k picture x g q p)

        pub none_lent : length i.rows ≡ 0 → (Ok tt) ≡ check_of i
        unfolding rows_ok
        none_lent z = to_last (Ok tt) (rw (eq-eqb (length i.rows) 0 z))

        module _ (t : Bool) where
          pub wrong_map : (length i.rows ≡ 0 → ⊥) → t ≡ right → not t ≡ true → Err Rows ≡ check_of i
          unfolding rows_ok
          wrong_map z r m = to_last (Err Rows) (rw (ne_eqb (length i.rows) 0 z, sym r ∙ not-true t m))

          pub right_map : t ≡ right → not t ≡ false → (Ok tt) ≡ check_of i
          unfolding rows_ok
          right_map r m = to_last (Ok tt) (rw (sym r ∙ not-false t m, or_true (eqb (length i.rows) 0)))

  -- ---- where nothing is refused

  record Passed : Type 0 where
    picture : picture ≡ Ok tt
    rows : rows_ok i ≡ true

  split_last : (k : Answer) → after_checks Err last k ≡ Ok tt → picture ≡ k → Passed
  split_last (Ok _) e q = record { picture = q; rows = (passes (rows_ok i) Rows (Ok tt) e).holds }
  split_last (Err r) e q = absurd (let z : ◌≡◌ {A = ℕ} 0 1 = cc in omega arith)

  passed : check_of i ≡ Ok tt → Passed
  unfolding check_of
  passed e =
      let p = passes (size_ok i.w i.h) Size _ e in
      let q = passes (rows_length_ok i.w i.h (length i.rows)) Length from p.rest in
      split_last picture q.rest refl

  pub picture_fine : check_of i ≡ Ok tt → checks.check_of (checked i) ≡ Ok tt
  picture_fine e = (passed e).picture

  -- each byte that is lent is the rule's
  pub rows_fine : check_of i ≡ Ok tt → (k : ℕ) → k < length i.rows → get_or i.rows k 0 ≡ rule_byte i.words i.motion i.refs (i.w / 4) k
  unfolding rows_ok
  rows_fine e k l = go (eqb (length i.rows) 0) refl (passed e).rows where
    go : (b : Bool) → eqb (length i.rows) 0 ≡ b → (b || right) ≡ true → get_or i.rows k 0 ≡ rule_byte i.words i.motion i.refs (i.w / 4) k
    go true f g = absurd (omega (arith, eqb-true (length i.rows) 0 f))
    go false f g = right_byte i.w i.h i.words i.motion i.refs i.rows g k l

-- ---- with no map

same_answer : (k : Answer) → after_checks Err (Ok tt) k ≡ k
same_answer (Ok _) = refl
same_answer (Err r) = refl

no_size_first : (i : checks.Input) → size_ok i.w i.h ≡ false → Err Size ≡ checks.check_of i
unfolding checks.check_of
no_size_first i e = rw e

pub no_map : (i : Input) → i.rows ≡ [] → check_of i ≡ checks.check_of (checked i)
unfolding check_of rows_length_ok rows_ok
no_map i z = rw z (go (size_ok i.w i.h) refl) where
  go : (b : Bool) → size_ok i.w i.h ≡ b → unless b (Err Size) (after_checks Err (Ok tt) (checks.check_of (checked i))) ≡ checks.check_of (checked i)
  go true e = same_answer (checks.check_of (checked i))
  go false e = no_size_first (checked i) e
