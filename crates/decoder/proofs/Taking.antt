-- What a map by its digits is refused for: digits that run out, or a leaf.
--     root_takes, picture_takes    a root, and a picture
--     bits_rung    a descent among the rungs: its refusals, above those of what comes after it
--     digits_said    by the digits of a sheet, for the sheet or a leaf: 4 never comes from a sheet
-- Assumes nothing.
use Rattle.std.specs.Prelude.{Ok, Err}
use Prim.Native.Nat.{ℕ, zero, suc, ◌+◌, ◌^◌, ◌<◌}
use mathlib.Core.Path.{◌≡◌, refl, sym, ap, ◌∙◌, subst}
use mathlib.Core.Bool.{Bool, true, false}
use mathlib.Core.List.{List, [], ◌∷◌, ◌++◌}
use mathlib.Core.Logic.{inl, inr}
use native.Mathlib.Omega.{arith}
use borrow.Author.Tests.{eq-eqb}
use lib.Dec.{eqb, leb}
use lib.ListN.{length}
use Rattle.laws.specs.Call.{unless}
use Rattle.laws.specs.Index.{pick}
use Rattle.def.specs.Answers.{answer_number, after_checks}
use Rattle.def.specs.Refusals.{number_of}
use Rattle.def.specs.declared.Refusal.{Refusal}
use Rattle.def.specs.declared.Refusal.TheVariants.{Leaf as PastPicture, Sheet, Bits}
use Rattle.def.specs.Answers.{Answer}
use Rattle.def.proofs.Answers.{number_some}
use Rattle.split.specs.Picture.{roots, root_x, root_y}
use Rattle.split.specs.Walk.{Walk, met, leaf, leaf_walk}
use Rattle.split.proofs.Walks.{onward_done}
use Rattle.marks_rules.specs.Descent.{Descent, descend_on, descend_then, descents, run_out, descend, root_descent}
use Rattle.marks_rules.specs.Pictures.{upto}
use Rattle.marks_rules.proofs.Blocks.{part_x, part_y, by_start}
use Rattle.marks_rules.proofs.Descents.{part_of, descend_x, descend_y, descend_none, descend_leaf, descend_cut, descend_bad, unit_quiet}
use Rattle.sheet.specs.Descent.{picture_descent, as_sheet}
use Rattle.sheet.specs.Text.{Found, refused, listed, found_by}
use Rattle.decoder.specs.Promise.{OneOf}
use Rattle.decoder.proofs.Refusing.{Stops, zeroth, longer, Says, sheet_rung}

abbrev pub by_bits : List Refusal
by_bits = Bits ∷ PastPicture ∷ []

record Ends (d : Descent) : Type 0 where
  by : Stops by_bits d.walk.answer

done : {d : Descent} → d.walk.answer ≡ Ok tt → Ends d
done e = record { by = record { by = subst (λ (a : Answer). OneOf by_bits (answer_number a)) (sym e) (zeroth by_bits) } }

ends_as : {a b : Descent} → a ≡ b → Ends b → Ends a
ends_as e p = subst Ends (sym e) p

out : Ends run_out
out = record { by = record { by = inl refl } }

leaf_stops : (w h n x y : ℕ) → Stops by_bits (leaf_walk w h n x y).answer
unfolding leaf_walk
leaf_stops w h n x y = by (leb (x + n) w) (leb (y + n) h) where
  by : (a b : Bool) → Stops by_bits (unless a (met [] (Err PastPicture)) (unless b (met [] (Err PastPicture)) (met (leaf x y n ∷ []) (Ok tt)))).answer
  by true true = record { by = zeroth by_bits }
  by true false = record { by = inr (inl refl) }
  by false b = record { by = inr (inl refl) }

then_ends : (a : Descent) (g : List ℕ → Descent) → Ends a → ((l : List ℕ) → Ends (g l)) → Ends (descend_then a g)
unfolding descend_on
then_ends a g p q = by a.walk.answer refl where
  by : (z : Answer) → a.walk.answer ≡ z → Ends (descend_on z a g)
  by (Ok _) e =
      let b = g a.left in
      record { by = subst (Stops by_bits) (sym (ap (λ (v : Walk). v.answer) (onward_done a.walk.answer a.walk.list b.walk e))) (q a.left).by }
  by (Err r) e = p

all_end : (f : ℕ → List ℕ → Descent) → ((i : ℕ) (l : List ℕ) → Ends (f i l)) → (n : ℕ) (ds : List ℕ) → Ends (descents f n ds)
unfolding descents
all_end f p zero ds = done refl
all_end f p (suc n) ds = then_ends (descents f n ds) (f n) (all_end f p n ds) (p n)

block_ends : (w h k x y : ℕ) (ds : List ℕ) → Ends (descend w h k x y ds)
block_ends w h zero x y ds = done (unit_quiet w h x y ds).done
block_ends w h (suc k) x y ds =
    by_start w h x y (Ends (descend w h (suc k) x y ds))
    (λ p. ends_as (descend_x w h (suc k) x y ds p) (done refl))
    (λ p q. ends_as (descend_y w h (suc k) x y ds p q) (done refl))
    (λ p q. inside p q ds (λ l. all_end (part_of w h k x y) (λ i m. block_ends w h k (part_x k x i) (part_y k y i) m) 4 l)) where
      inside : x < w → y < h → (ds : List ℕ) → ((l : List ℕ) → Ends (descents (part_of w h k x y) 4 l)) → Ends (descend w h (suc k) x y ds)
      inside p q [] f = ends_as (descend_none w h k x y p q) out
      inside p q (zero ∷ ds) f = ends_as (descend_leaf w h k x y ds p q) (record { by = leaf_stops w h (2 ^ suc k) x y })
      inside p q (suc zero ∷ ds) f = ends_as (descend_cut w h k x y ds p q) (record { by = (f ds).by })
      inside p q (suc (suc d) ∷ ds) f = ends_as (descend_bad w h k x y d ds p q) out

pub root_takes : (w h i : ℕ) (ds : List ℕ) → Stops by_bits (root_descent w h i ds).walk.answer
root_takes w h i ds = (block_ends w h 4 (root_x w i) (root_y w i) ds).by

pub picture_takes : (w h : ℕ) (ds : List ℕ) → Stops by_bits (upto w h ds (roots w h)).walk.answer
picture_takes w h ds = (all_end (root_descent w h) (λ i l. record { by = root_takes w h i l }) (roots w h) ds).by

pub bits_rung : (rs : List Refusal) (k a : Answer) → Stops by_bits a → Stops rs k → Stops (by_bits ++ rs) (after_checks Err k a)
bits_rung rs k (Ok _) p q = record { by = inr (inr q.by) }
bits_rung rs k (Err r) p q = record { by = longer by_bits rs (number_of r) p.by }

-- ---- the digits of a sheet

-- digits that ran out, a leaf, digits that are left over
abbrev by_sheet : List Refusal
by_sheet = Sheet ∷ PastPicture ∷ Sheet ∷ []

said : (r : Refusal) → OneOf by_bits (number_of r) → OneOf by_sheet (number_of (as_sheet r))
said r (inl e) = inl (ap (λ (b : Bool). number_of (pick b Sheet r)) (eq-eqb (number_of r) 16 e))
said r (inr (inl e)) = inr (inl (ap (λ (n : ℕ). number_of (pick (eqb n 16) Sheet r)) e ∙ e))
said r (inr (inr e)) = absurd (omega (arith, number_some r))

pub digits_said : (halved : Bool) (w h : ℕ) (ds : List ℕ) → Says by_sheet (found_by halved (picture_descent w h ds))
unfolding found_by
digits_said halved w h ds = go d.walk.answer (picture_takes w h _) (sheet_rung (eqb (length d.left) 0) Sheet 5 (listed _ _) (record { by = zeroth (PastPicture ∷ Sheet ∷ []) })) where
  d : Descent
  d = picture_descent w h ds

  go : (a : Answer) {k : Found} → Stops by_bits a → Says by_sheet k → Says by_sheet (after_checks (λ (r : Refusal). refused (as_sheet r) 5) k a)
  go (Ok _) p q = q
  go (Err r) p q = record { by = said r p.by }
