-- Laws of the refusals that a call gives: by the rungs of its ladder, and by its walk.
--     last, rung, again, by_checks
--     root_stops, picture_stops    a walk is refused for a split byte or a leaf
--     walk_rung    a walk among the rungs: its refusals, above those of what comes after it
--     line_said    what is read from a sheet
--     sheet_rung    what is found in a sheet
-- Assumes nothing.
use Rattle.std.specs.Prelude.{Result, Ok, Err}
use Prim.Native.Nat.{ℕ, zero, suc, ◌+◌, ◌^◌}
use mathlib.Core.Path.{◌≡◌, refl, sym, subst}
use mathlib.Core.Bool.{Bool, true, false}
use mathlib.Core.List.{List, [], ◌∷◌, ◌++◌}
use mathlib.Core.Logic.{inl, inr}
use lib.Dec.{ltb, leb}
use lib.ListN.{get_or}
use Rattle.laws.specs.Call.{unless}
use Rattle.laws.specs.Index.{pick}
use Rattle.def.specs.Answers.{answer_number, after_checks}
use Rattle.def.specs.Refusals.{number_of}
use Rattle.def.specs.declared.Refusal.{Refusal}
use Rattle.def.specs.declared.Refusal.TheVariants.{Split, Leaf as PastPicture, Sheet}
use Rattle.def.specs.Answers.{Answer}
use Rattle.split.specs.Picture.{roots, root_walk, picture_walk}
use Rattle.split.specs.Walk.{Leaf, Walk, met, nothing, onward, in_turn, leaf_walk, by_byte, place, walk}
use Rattle.sheet_lines.specs.ReadCall.{reading_of, malformed}
use Rattle.sheet_lines.specs.declared.Malformed as bad
use Rattle.sheet_lines.specs.declared.Sheet as lines
use Rattle.sheet.specs.Text.{Found, refused}
use Rattle.decoder.specs.Promise.{OneOf, refusal_in}

-- an answer is done, or one of some refusals
pub record Stops (rs : List Refusal) (a : Answer) : Type 0 where
  pub by : OneOf rs (answer_number a)

-- ---- a ladder

-- 0 is done
pub zeroth : (l : List Refusal) → OneOf l 0
zeroth [] = refl
zeroth (r ∷ l) = inr (zeroth l)

pub last : Stops [] (Ok tt)
last = record { by = refl }

-- the rung of a test and its refusal, above those of the rest
pub rung : {rs : List Refusal} (t : Bool) (r : Refusal) (k : Answer) → Stops rs k → Stops (r ∷ rs) (unless t (Err r) k)
rung true r k p = record { by = inr p.by }
rung false r k p = record { by = inl refl }

-- one whose refusal is among those of the rest
pub again : {rs : List Refusal} (t : Bool) (r : Refusal) (k : Answer) → OneOf rs (number_of r) → Stops rs k → Stops rs (unless t (Err r) k)
again true r k m p = p
again false r k m p = record { by = m }

-- the number of an outcome is that of the answer of the checks
pub by_checks : {O : Type 0} (number : O → ℕ) (stop : Refusal → O) (done : O) (rs : List Refusal) (a : Answer) → ((r : Refusal) → number (stop r) ≡ number_of r)
    → number done ≡ 0 → Stops rs a → OneOf rs (number (after_checks stop done a))
by_checks number stop done rs (Ok _) f e p = subst (OneOf rs) (sym e) p.by
by_checks number stop done rs (Err r) f e p = subst (OneOf rs) (sym (f r)) p.by

-- ---- a walk

-- the walk of a block, by bytes or by digits; byte and past: what a byte and a leaf are refused for
module _ (rs : List Refusal) where
  record Ends (v : Walk) : Type 0 where
    by : Stops rs v.answer

  fine : Ends nothing
  fine = record { by = record { by = zeroth rs } }

  met_done : (l : List Leaf) → Ends (met l (Ok tt))
  met_done l = record { by = record { by = zeroth rs } }

  then : (a : Answer) (l : List Leaf) (b : Walk) → Stops rs a → Ends b → Ends (onward a l b)
  unfolding onward
  then (Ok _) l b p q = record { by = q.by }
  then (Err r) l b p q = record { by = p }

  turns : (f : ℕ → Walk) → ((i : ℕ) → Ends (f i)) → (n : ℕ) → Ends (in_turn f n)
  unfolding in_turn
  turns f h zero = fine
  turns f h (suc n) = then (in_turn f n).answer (in_turn f n).list (f n) (turns f h n).by (h n)

  picked : (t : Bool) (a b : Walk) → Ends a → Ends b → Ends (pick t a b)
  picked true a b p q = p
  picked false a b p q = q

  tested : (t : Bool) (a b : Walk) → Ends a → Ends b → Ends (unless t a b)
  tested true a b p q = q
  tested false a b p q = p

  leaf_ends : Ends (met [] (Err PastPicture)) → (w h n x y : ℕ) → Ends (leaf_walk w h n x y)
  unfolding leaf_walk
  leaf_ends past w h n x y = tested (leb (x + n) w) _ _ past (tested (leb (y + n) h) _ _ past (met_done _))

  by_byte_lem : (n : ℕ) (a b c : Walk) → Ends a → Ends b → Ends c → Ends (by_byte n a b c)
  unfolding by_byte
  by_byte_lem zero a b c p q r = p
  by_byte_lem (suc zero) a b c p q r = q
  by_byte_lem (suc (suc n)) a b c p q r = r

  block_ends : Ends (met [] (Err Split)) → Ends (met [] (Err PastPicture)) → (s : List ℕ) (w h k x y : ℕ) → Ends (walk s w h k x y)
  unfolding walk
  block_ends byte past s w h zero x y = picked (ltb x w) _ _ (picked (ltb y h) _ _ (leaf_ends past w h 1 x y) fine) fine
  block_ends byte past s w h (suc k) x y =
      picked (ltb x w) _ _
      (picked (ltb y h) _ _
      (by_byte_lem (get_or s (place k x y) 0) _ _ _
      (leaf_ends past w h (2 ^ suc k) x y)
      (turns _ (λ n. block_ends byte past s w h k _ _) 4)
      byte)
      fine)
      fine

abbrev by_walk : List Refusal
by_walk = Split ∷ PastPicture ∷ []

pub root_stops : (s : List ℕ) (w h i : ℕ) → Stops by_walk (root_walk s w h i).answer
root_stops s w h i =
    (block_ends by_walk (record { by = record { by = inl refl } }) (record { by = record { by = inr (inl refl) } }) _ w h 4 _ _).by

pub picture_stops : (s : List ℕ) (w h : ℕ) → Stops by_walk (picture_walk s w h).answer
picture_stops s w h = (turns by_walk (root_walk s w h) (λ i. record { by = root_stops s w h i }) (roots w h)).by

-- a number of some refusals is one of more
pub longer : (l rs : List Refusal) (n : ℕ) → OneOf l n → OneOf (l ++ rs) n
longer [] rs n e = subst (OneOf rs) (sym e) (zeroth rs)
longer (r ∷ l) rs n (inl e) = inl e
longer (r ∷ l) rs n (inr p) = inr (longer l rs n p)

pub walk_rung : (rs : List Refusal) (k a : Answer) → Stops by_walk a → Stops rs k → Stops (by_walk ++ rs) (after_checks Err k a)
walk_rung rs k (Ok _) p q = record { by = inr (inr q.by) }
walk_rung rs k (Err r) p q = record { by = longer by_walk rs (number_of r) p.by }

-- what is read from a sheet is 12, or its lines
pub line_said : (t : Bool) (n : ℕ) (k : Result lines.Sheet bad.Malformed) → (reading_of k).number ≡ 0 → OneOf (Sheet ∷ []) (reading_of (unless t (malformed n) k)).number
line_said true n k e = inr e
line_said false n k e = inl refl

-- what is found in a sheet is one of some refusals, or the edges
pub record Says (rs : List Refusal) (f : Found) : Type 0 where
  pub by : OneOf rs (refusal_in f)

pub sheet_rung : {rs : List Refusal} (t : Bool) (r : Refusal) (n : ℕ) (k : Found) → Says rs k → Says (r ∷ rs) (unless t (refused r n) k)
sheet_rung true r n k p = record { by = inr p.by }
sheet_rung false r n k p = record { by = inl refl }
