-- A whole picture's map and its digits, root by root.
--     length_joined, part_back, split_at    parts that are joined
--     picture_back    the digits of an accepted map give its walk and its marks, and leave what follows them
--     root_back    the bytes that are read back for a root
--     same_blocks, same_there, zero_else    the map that is read back: the same walk, the bytes that the walk reaches, and 0 at every other place
--     told_apart    maps with different blocks never have equal digits, not even where one goes on after the other's end
--     few_digits    at most 85 digits a root
-- Assumes nothing.
use Rattle.std.specs.Prelude.{Ok}
use mathlib.Core.Bool.{Bool, true, false}
use mathlib.Core.List.{List, [], ◌∷◌, ◌++◌, append_assoc, append-nil, Memᴰ}
use mathlib.Core.Path.{◌≡◌, refl, sym, ap, ◌∙◌, subst}
use Prim.Native.Nat.{ℕ, zero, suc, ◌+◌, ◌-◌, ◌*◌, ◌/◌, ◌%◌, ◌≤◌, ◌<◌}
use native.Mathlib.Nat.{not-suc-le-zero, suc-mul}
use native.Mathlib.Omega.{arith}
use borrow.Author.Tests.{eqb-true, eqb-false}
use lib.Dec.{eqb}
use lib.ListN.{length, get_or, take, drop, replicate, length-append, length-take, length-drop, length-replicate, length-map, get_or-replicate}
use lib.Seq.{take_at, drop_at, take_all, take-append-le, drop-append-le}
use Rattle.split.specs.Walk.{Walk, in_turn, walk}
use Rattle.split.specs.Picture.{across, roots, root_bytes, root_x, root_y, root_walk, picture_walk}
use Rattle.split.proofs.Walks.{each_done}
use Rattle.marks_rules.specs.Descent.{Descent, grown, descents, root_descent}
use Rattle.marks_rules.specs.Marks.{Mark, marks, byte_of, bytes, digits, put_all, blocks_in}
use Rattle.marks_rules.specs.Pictures.{joined, root_digits, digits_of, picture_digits, upto, root_by, root_map, map_of}
use Rattle.marks_rules.proofs.Descents.{bytes_append, in_turn_lem, read_back}
use Rattle.marks_rules.proofs.Marks.{few}
use Rattle.marks_rules.proofs.Puts.{Formed, formed, at_root, length_put, put_else, all_there}
use Rattle.marks_rules.proofs.Walks.{turn_same, same_walk}

-- ---- parts that are joined

module _ {A : Type 0} (f : ℕ → List A) where
  -- what comes before part i, the part, and what comes after it
  pub record Around (n i : ℕ) : Type 0 where
    pub rest : List A
    pub split : joined f n ≡ joined f i ++ (f i ++ rest)

  pub split_at : (n i : ℕ) → i < n → Around n i
  unfolding joined
  split_at zero i l = absurd (not-suc-le-zero l)
  split_at (suc n) i l = by (eqb i n) refl (λ m. split_at n i m) where
    below : (i n : ℕ) → (i ≡ n → ⊥) → i < suc n → i < n
    below i n d h = omega arith

    by : (last : Bool) → eqb i n ≡ last → (i < n → Around n i) → Around (suc n) i
    by true e g = let q = eqb-true i n e in record { rest = []; split = rw q (ap (λ (z : List A). joined f n ++ z) (sym (append-nil (f n)))) }
    by false e g =
        let a = g (below i n (eqb-false i n e) l) in
        record { rest = a.rest ++ f n; split = ap (λ (z : List A). z ++ f n) a.split ∙ simp append_assoc }

module _ (f : ℕ → List ℕ) where
  pub length_joined : (n : ℕ) → ((i : ℕ) → i < n → length (f i) ≡ 1024) → length (joined f n) ≡ 1024 * n
  unfolding joined
  length_joined zero e = refl
  length_joined (suc n) e =
      let a = length_joined n (λ i l. e i (omega arith)) in
      let b = e n (omega arith) in
      length-append (joined f n) (f n) ∙ omega arith

  pub part_back : (n : ℕ) → ((i : ℕ) → i < n → length (f i) ≡ 1024) → (i : ℕ) → i < n → root_bytes (joined f n) i ≡ f i
  part_back n e i l =
      let a = split_at f n i l in
      let b = length_joined i (λ j m. e j (omega arith)) in
      ap (λ (z : List ℕ). take 1024 (drop (1024 * i) z)) a.split
      ∙ ap (take 1024) (drop_at (joined f i) (f i ++ a.rest) (1024 * i) b)
      ∙ take_at (f i) a.rest 1024 (e i l)

-- ---- an accepted map: s its bytes, n roots of it

module _ (s : List ℕ) (w h : ℕ) where
  -- the marks of root i
  abbrev pub root_marks : ℕ → List Mark
  root_marks i = marks (byte_of (root_bytes s i)) w h 4 (root_x w i) (root_y w i)

  pub marks_digits : (n : ℕ) → bytes (joined root_marks n) ≡ digits_of s w h n
  unfolding joined digits
  marks_digits zero = refl
  marks_digits (suc n) = bytes_append (joined root_marks n) (root_marks n) ∙ ap (λ (z : List ℕ). z ++ bytes (root_marks n)) (marks_digits n)

  pub few_digits : (n : ℕ) → length (digits_of s w h n) ≤ 85 * n
  unfolding joined digits blocks_in
  few_digits zero = omega arith
  few_digits (suc n) =
      let a = few_digits n in
      let b = few (byte_of (root_bytes s n)) w h 4 (root_x w n) (root_y w n) in
      let c = length-map (root_marks n) (λ (m : Mark). m.byte) in
      omega (arith, length-append (digits_of s w h n) (bytes (root_marks n)))

  module _ (d : (picture_walk s w h).answer ≡ Ok tt) where
    pub upto_back : (n : ℕ) → n ≤ roots w h → (r : List ℕ) → upto w h (digits_of s w h n ++ r) n ≡ grown (in_turn (root_walk s w h) n) (joined root_marks n) r
    upto_back n l r =
        ap (λ (z : List ℕ). upto w h (z ++ r) n) (sym (marks_digits n))
        ∙ in_turn_lem (root_descent w h) root_marks (root_walk s w h) n
        (λ i m. each_done (root_walk s w h) (roots w h) d i (omega arith))
        (λ i m z. read_back (root_bytes s i) w h 4 (root_x w i) (root_y w i) z (each_done (root_walk s w h) (roots w h) d i (omega arith))) r

    -- the sheet's descent over the digits gives the walk of the map, and leaves what follows them
    pub picture_back : (r : List ℕ) → upto w h (picture_digits s w h ++ r) (roots w h) ≡ grown (picture_walk s w h) (joined root_marks (roots w h)) r
    picture_back r = upto_back (roots w h) (omega arith) r

    pub root_back : (r : List ℕ) (i : ℕ) → i < roots w h → (root_by w h (picture_digits s w h ++ r) i).marks ≡ root_marks i
    unfolding digits
    root_back r i l =
        let a = split_at (root_digits s w h) (roots w h) i l in
        let e : picture_digits s w h ++ r ≡ digits_of s w h i ++ (root_digits s w h i ++ (a.rest ++ r)) = ap (λ (z : List ℕ). z ++ r) a.split ∙ simp append_assoc in
        let u = ap (λ (z : Descent). z.left) (ap (λ (z : List ℕ). upto w h z i) e ∙ upto_back i (omega arith) (root_digits s w h i ++ (a.rest ++ r))) in
        ap (λ (z : List ℕ). (root_descent w h i z).marks) u
        ∙ ap (λ (z : Descent). z.marks) (read_back (root_bytes s i) w h 4 (root_x w i) (root_y w i) (a.rest ++ r) (each_done (root_walk s w h) (roots w h) d i l))

    -- ---- the map that is read back from the digits and whatever follows them

    module _ (r : List ℕ) where
      abbrev pub back : List ℕ
      back = map_of w h (picture_digits s w h ++ r)

      zeros_long : length {A = ℕ} (replicate 1024 0) ≡ 1024
      zeros_long = length-replicate {A = ℕ} 1024 0

      pub back_root : (i : ℕ) → i < roots w h → root_bytes back i ≡ put_all (root_marks i) (replicate 1024 0)
      back_root i l =
          part_back (root_map w h (picture_digits s w h ++ r)) (roots w h)
          (λ j m. length_put (root_by w h (picture_digits s w h ++ r) j).marks (replicate 1024 0) ∙ zeros_long) i l
          ∙ ap (λ (z : List Mark). put_all z (replicate 1024 0)) (root_back r i l)

      there : (i : ℕ) → i < roots w h → (m : Mark) → Memᴰ m (root_marks i) → get_or (root_bytes back i) m.place 0 ≡ m.byte
      there i l m k =
          ap (λ (z : List ℕ). get_or z m.place 0) (back_root i l)
          ∙ all_there (byte_of (root_bytes s i)) w h (i % across w) (i / across w) (replicate 1024 0) zeros_long m k

      -- the same blocks
      pub same_blocks : picture_walk back w h ≡ picture_walk s w h
      same_blocks =
          turn_same (root_walk back w h) (root_walk s w h) (roots w h)
          (λ i l. same_walk (root_bytes s i) w h (root_bytes back i) 4 (root_x w i) (root_y w i) (each_done (root_walk s w h) (roots w h) d i l) (there i l))

      -- the byte that stood at each place that the walk reaches
      pub same_there : (i : ℕ) → i < roots w h → (m : Mark) → Memᴰ m (root_marks i) → get_or (root_bytes back i) m.place 0 ≡ get_or (root_bytes s i) m.place 0
      same_there i l m k =
          let a = formed (byte_of (root_bytes s i)) w h (i % across w) (i / across w) 4 (root_x w i) (root_y w i)
          (at_root (byte_of (root_bytes s i)) w h (i % across w) (i / across w) (replicate 1024 0) zeros_long) m k in
          there i l m k ∙ a.has ∙ ap (λ (p : ℕ). get_or (root_bytes s i) p 0) (sym a.there)

      -- and 0 at every other
      pub zero_else : (i : ℕ) → i < roots w h → (p : ℕ) → p < 1024 → ((m : Mark) → Memᴰ m (root_marks i) → m.place ≡ p → ⊥) → get_or (root_bytes back i) p 0 ≡ 0
      zero_else i l p q z =
          ap (λ (t : List ℕ). get_or t p 0) (back_root i l) ∙ put_else p (root_marks i) (replicate 1024 0) z ∙ get_or-replicate 1024 p 0 0 q

-- two maps of one picture size with different blocks
pub told_apart : (w h : ℕ) (s t : List ℕ) → (picture_walk s w h).answer ≡ Ok tt → (picture_walk t w h).answer ≡ Ok tt
    → (r r' : List ℕ) → picture_digits s w h ++ r ≡ picture_digits t w h ++ r' → picture_walk s w h ≡ picture_walk t w h
told_apart w h s t ds dt r r' e =
    ap (λ (z : Descent). z.walk) (sym (picture_back s w h ds r) ∙ ap (λ (z : List ℕ). upto w h z (roots w h)) e ∙ picture_back t w h dt r')
