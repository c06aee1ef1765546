-- What is found in a sheet, by the ways through the code that prints it.
--     sided, limit_test                                       the tests of the sides and of the limit
--     size_no, limit_no, old_no, not_old, walk_no, left-over, all_listed       the text for the digits of a sheet
--     good_sheet, bad_sheet                                   the text for a sheet, by what its lines say
-- Assumes nothing.
use Rattle.std.specs.Prelude.{Ok}
use mathlib.Core.Bool.{Bool, true, false, ◌||◌}
use mathlib.Core.List.{List}
use mathlib.Core.Path.{◌≡◌, refl, sym, ap, ◌∙◌}
use Prim.Native.Nat.{ℕ, ◌-◌, ◌/◌, ◌%◌, ◌≤◌, ◌<◌}
use native.Mathlib.Omega.{arith}
use borrow.Author.Tests.{leb-true, eqb-true, eq-eqb, ne_eqb}
use lib.Dec.{eqb}
use lib.ListN.{length, take, drop}
use Rattle.laws.proofs.Calls.{all_at}
use Rattle.def.specs.declared.Refusal.{Refusal}
use Rattle.def.specs.declared.Refusal.TheVariants.{Size, Setting, Sheet, Old}
use Rattle.split.specs.Edges.{vertical, horizontal, edge_list}
use Rattle.split.specs.ListCall.{limit_ok}
use Rattle.split.specs.Picture.{roots, picture_walk, all_leaves}
use Rattle.split.specs.Walk.{Walk}
use Rattle.sheet_lines.specs.Lines.{first_bad}
use Rattle.sheet_lines.proofs.Answers.{Whole, Bad}
use Rattle.sheet.specs.Descent.{picture_descent}
use Rattle.sheet.specs.Taken.{Sides, Met, Stopped}
use Rattle.sheet.specs.Text.{side_tests, sides_ok, found_by, found_of, found_in, refused_text, listed_text, printed, text_of}
use Rattle.sheet.proofs.Room.{leaves_met}

pub sided : (w h : ℕ) → sides_ok w h ≡ true → Sides w h
unfolding sides_ok
sided w h e =
    record {
      some_wide = leb-true 4 w (all_at (side_tests w h) 0 e);
      wide = leb-true w 256 (all_at (side_tests w h) 1 e);
      units_wide = eqb-true (w % 4) 0 (all_at (side_tests w h) 2 e);
      some_high = leb-true 4 h (all_at (side_tests w h) 3 e);
      high = leb-true h 256 (all_at (side_tests w h) 4 e);
      units_high = eqb-true (h % 4) 0 (all_at (side_tests w h) 5 e);
    }

-- the code's test of the limit
pub limit_test : (limit : ℕ) → limit_ok limit ≡ (eqb limit 5 || eqb limit 6)
unfolding limit_ok
limit_test limit = refl

-- ---- the digits

module _ (w h limit : ℕ) (digits : List ℕ) where
  pub size_no : (old : Bool) → sides_ok w h ≡ false → refused_text Size 0 ≡ printed (found_of w h limit old digits)
  unfolding found_of
  size_no old e = rw e

  module _ (sides : sides_ok w h ≡ true) where
    pub limit_no : (old : Bool) → limit_ok limit ≡ false → refused_text Setting 0 ≡ printed (found_of w h limit old digits)
    unfolding found_of
    limit_no old e = rw (sides, e)

    module _ (limited : limit_ok limit ≡ true) where
      pub old_no : (old : Bool) → old ≡ true → refused_text Old 0 ≡ printed (found_of w h limit old digits)
      unfolding found_of
      old_no old e = rw (sides, limited, e)

      -- of a sheet that is not old
      pub not_old : (old : Bool) → old ≡ false → printed (found_of w h limit false digits) ≡ printed (found_of w h limit old digits)
      not_old old e = ap (λ (o : Bool). printed (found_of w h limit o digits)) (sym e)

      pub walk_no : (r : Refusal) → Stopped (w / 4) (h / 4) digits r → refused_text r 5 ≡ printed (found_of w h limit false digits)
      unfolding found_of found_by
      walk_no r e = rw (sides, limited, e.found) (ap (λ (q : Refusal). refused_text q 5) e.said)

      module _ (map : List ℕ) (next : ℕ) (met : Met (w / 4) (h / 4) digits map next) where
        pub left_over : next < length digits → refused_text Sheet 5 ≡ printed (found_of w h limit false digits)
        unfolding found_of found_by
        left_over l =
            let e : eqb (length (picture_descent (w / 4) (h / 4) digits).left) 0 ≡ false =
            ne_eqb (length (picture_descent (w / 4) (h / 4) digits).left) 0 (λ z. omega (arith, met.left)) in
            rw (sides, limited, met.done, e)

        -- the walk of the map ends, and its leaves are those of the digits
        pub walked : (picture_walk map (w / 4) (h / 4)).answer ≡ Ok tt
        walked = ap (λ (v : Walk). v.answer) met.reads ∙ met.done

        leaves : (picture_descent (w / 4) (h / 4) digits).walk.list ≡ all_leaves map (w / 4) (h / 4)
        leaves = sym (ap (λ (v : Walk). v.list) met.reads) ∙ leaves_met map (w / 4) (h / 4) (roots (w / 4) (h / 4)) walked

        pub all_listed : length digits ≤ next → listed_text (edge_list vertical (eqb limit 5) map (w / 4) (h / 4))
            (edge_list horizontal (eqb limit 5) map (w / 4) (h / 4)) ≡ printed (found_of w h limit false digits)
        unfolding found_of found_by
        all_listed l =
            let e : eqb (length (picture_descent (w / 4) (h / 4) digits).left) 0 ≡ true = eq-eqb (length (picture_descent (w / 4) (h / 4) digits).left) 0 (omega (arith, met.left)) in
            rw (sides, limited, met.done, e, leaves)

-- ---- a sheet, by what its lines say

pub good_sheet : (s : List ℕ) (w h limit : ℕ) (old : Bool) (from to : ℕ) → Whole s w h limit old from to → printed (found_of w h limit old (take (to - from) (drop from s))) ≡ text_of s
unfolding found_in
good_sheet s w h limit old from to u = rw (u.digits, u.width, u.height, u.limited, u.aged, eq-eqb (first_bad s) 0 u.good)

pub bad_sheet : (s : List ℕ) (n : ℕ) → Bad s n → refused_text Sheet n ≡ text_of s
unfolding found_in
bad_sheet s n b = rw b.some (ap (refused_text Sheet) (sym b.first))
