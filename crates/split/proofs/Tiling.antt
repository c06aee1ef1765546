-- The leaves of a walk that is not refused tile the block: each unit of the picture is in the leaf that the descent finds,
-- that leaf is in the list, and each leaf of the list is what the descent finds from each of its units.
-- Assumes nothing.
use Rattle.std.specs.Prelude.{Ok}
use mathlib.Core.Logic.{⊎_elim}
use mathlib.Core.List.Memᴰ
use mathlib.Core.List.{List, Memᴰ}
use mathlib.Core.Path.{◌≡◌, refl, sym, ◌∙◌, subst}
use Prim.Native.Nat.{ℕ, suc, ◌+◌, ◌^◌, ◌≤◌, ◌<◌}
use native.Mathlib.Nat.{two-pow-succ, le_refl}
use native.Mathlib.Omega.{arith}
use borrow.Author.Tests.{lt-ltb, le-ltb, ltb-true, ltb-false}
use lib.Dec.{ltb}
use lib.ListN.{get_or}
use Rattle.laws.specs.Index.{pick}
use Rattle.split.specs.Walk.{Leaf, leaf, by_byte, place, walk}
use Rattle.split.specs.Tiling.{Holds, leaf_at}
use Rattle.split.proofs.Induct.{Cases, walk_ind, test}

pick_lt : {u m : ℕ} (a b : ℕ) → u < m → pick (ltb u m) a b ≡ a
pick_lt {u} {m} a b h = simp (lt-ltb u m h)

pick_ge : {u m : ℕ} (a b : ℕ) → m ≤ u → pick (ltb u m) a b ≡ b
pick_ge {u} {m} a b h = simp (le-ltb u m h)

module _ (s : List ℕ) where
  at_whole : (k x y u v : ℕ) → get_or s (place k x y) 0 ≡ 0 → leaf_at s (suc k) x y u v ≡ leaf x y (2 ^ suc k)
  unfolding leaf_at by_byte
  at_whole k x y u v e = simp e

  at_cut : (k x y u v x' y' : ℕ) → get_or s (place k x y) 0 ≡ 1 → pick (ltb u (x + 2 ^ k)) x (x + 2 ^ k) ≡ x' → pick (ltb v (y + 2 ^ k)) y (y + 2 ^ k) ≡ y'
      → leaf_at s (suc k) x y u v ≡ leaf_at s k x' y' u v
  unfolding leaf_at by_byte
  at_cut k x y u v x' y' e p q = simp (e, p, q)

  module _ (c r : ℕ) where
    -- a unit of the block and of the picture is in the leaf that the descent finds, and that leaf is listed
    abbrev pub Covers : ℕ → ℕ → ℕ → List Leaf → Type 0
    Covers k x y l =
        (u v : ℕ) → x ≤ u → u < x + 2 ^ k → y ≤ v → v < y + 2 ^ k → u < c → v < r
        → Memᴰ (leaf_at s k x y u v) l × Holds (leaf_at s k x y u v) u v

    covers_cases : Cases s c r Covers
    unfolding leaf_at
    covers_cases = record {
      skip = λ k x y o u v a b d e f g. absurd (⊎_elim (λ h. omega arith) (λ h. omega arith) o);
      unit = λ x y p q u v a b d e f g. (Memᴰ.head refl, record { left = a; right = b; top = d; bottom = e });
      whole = λ k x y z p q u v a b d e f g. rw (at_whole k x y u v z) (Memᴰ.head refl, record { left = a; right = b; top = d; bottom = e });
      cut = λ k x y l₀ l₁ l₂ l₃ z c₀ c₁ c₂ c₃ u v a b d e f g.
          let h = 2 ^ k in
          let w = two-pow-succ k in
          test (ltb u (x + h))
          (λ i. let i' = ltb-true u (x + h) i in test (ltb v (y + h))
          (λ j. let j' = ltb-true v (y + h) j in
          let m = c₀ u v a i' d j' f g in
          rw (at_cut k x y u v x y z (pick_lt x (x + h) i') (pick_lt y (y + h) j')) (Memᴰ.append_left _ m.0, m.1))
          (λ j. let j' = ltb-false v (y + h) j in
          let m = c₂ u v a i' j' (omega arith) f g in
          rw (at_cut k x y u v x (y + h) z (pick_lt x (x + h) i') (pick_ge y (y + h) j'))
          (Memᴰ.append_right l₀ (Memᴰ.append_right l₁ (Memᴰ.append_left l₃ m.0)), m.1)))
          (λ i. let i' = ltb-false u (x + h) i in test (ltb v (y + h))
          (λ j. let j' = ltb-true v (y + h) j in
          let m = c₁ u v i' (omega arith) d j' f g in
          rw (at_cut k x y u v (x + h) y z (pick_ge x (x + h) i') (pick_lt y (y + h) j'))
          (Memᴰ.append_right l₀ (Memᴰ.append_left _ m.0), m.1))
          (λ j. let j' = ltb-false v (y + h) j in
          let m = c₃ u v i' (omega arith) j' (omega arith) f g in
          rw (at_cut k x y u v (x + h) (y + h) z (pick_ge x (x + h) i') (pick_ge y (y + h) j'))
          (Memᴰ.append_right l₀ (Memᴰ.append_right l₁ (Memᴰ.append_right l₂ m.0)), m.1)));
    }

    pub covers : (k x y : ℕ) → (walk s c r k x y).answer ≡ Ok tt → Covers k x y (walk s c r k x y).list
    covers = walk_ind s c r Covers covers_cases

    -- a leaf that is listed: it lies in the block and in the picture, its side is a power of 2, and the descent finds it from each of its units
    pub record Sound (k x y : ℕ) (p : Leaf) : Type 0 where
      pub left : x ≤ p.x
      pub right : p.x + p.side ≤ x + 2 ^ k
      pub top : y ≤ p.y
      pub bottom : p.y + p.side ≤ y + 2 ^ k
      pub columns : p.x + p.side ≤ c
      pub rows : p.y + p.side ≤ r
      pub log : ℕ
      pub power : p.side ≡ 2 ^ log
      pub small : log ≤ k
      pub found : (u v : ℕ) → Holds p u v → leaf_at s k x y u v ≡ p

    abbrev pub Sounds : ℕ → ℕ → ℕ → List Leaf → Type 0
    Sounds k x y l = (p : Leaf) → Memᴰ p l → Sound k x y p

    -- from a part of a block that is cut to the block
    module _ (k x y x' y' : ℕ) (z : get_or s (place k x y) 0 ≡ 1) (gx : x ≤ x') (hx : x' ≤ x + 2 ^ k) (gy : y ≤ y') (hy : y' ≤ y + 2 ^ k)
        (px : (u : ℕ) → x' ≤ u → u < x' + 2 ^ k → pick (ltb u (x + 2 ^ k)) x (x + 2 ^ k) ≡ x')
        (py : (v : ℕ) → y' ≤ v → v < y' + 2 ^ k → pick (ltb v (y + 2 ^ k)) y (y + 2 ^ k) ≡ y') where
      up : (p : Leaf) → Sound k x' y' p → Sound (suc k) x y p
      up p h =
          let w = two-pow-succ k in
          record {
            left = omega arith;
            right = omega arith;
            top = omega arith;
            bottom = omega arith;
            columns = h.columns;
            rows = h.rows;
            log = h.log;
            power = h.power;
            small = omega arith;
            found = λ u v i. at_cut k x y u v x' y' z (px u (omega arith) (omega arith)) (py v (omega arith) (omega arith)) ∙ h.found u v i;
          }

    sound_cases : Cases s c r Sounds
    unfolding leaf_at
    sound_cases = record {
      skip = λ k x y o p m. absurd (Memᴰ.not-nil m);
      unit = λ x y f g p m. subst (Sound 0 x y) (sym (Memᴰ.eq_of_singleton m)) (record {
        left = le_refl x;
        right = le_refl (x + 1);
        top = le_refl y;
        bottom = le_refl (y + 1);
        columns = f;
        rows = g;
        log = 0;
        power = refl;
        small = le_refl 0;
        found = λ u v i. refl;
      });
      whole = λ k x y z f g p m. subst (Sound (suc k) x y) (sym (Memᴰ.eq_of_singleton m)) (record {
        left = le_refl x;
        right = le_refl _;
        top = le_refl y;
        bottom = le_refl _;
        columns = f;
        rows = g;
        log = suc k;
        power = refl;
        small = le_refl (suc k);
        found = λ u v i. at_whole k x y u v z;
      });
      cut = λ k x y l₀ l₁ l₂ l₃ z c₀ c₁ c₂ c₃ p m.
          let h = 2 ^ k in
          let lo : (x u : ℕ) → x ≤ u → u < x + h → pick (ltb u (x + h)) x (x + h) ≡ x = λ x u a b. pick_lt x (x + h) b in
          let hi : (x u : ℕ) → x + h ≤ u → u < x + h + h → pick (ltb u (x + h)) x (x + h) ≡ x + h = λ x u a b. pick_ge x (x + h) a in
          ⊎_elim (λ m₀. up k x y x y z (omega arith) (omega arith) (omega arith) (omega arith) (lo x) (lo y) p (c₀ p m₀))
          (λ n. ⊎_elim (λ m₁. up k x y (x + h) y z (omega arith) (omega arith) (omega arith) (omega arith) (hi x) (lo y) p (c₁ p m₁))
          (λ n'. ⊎_elim (λ m₂. up k x y x (y + h) z (omega arith) (omega arith) (omega arith) (omega arith) (lo x) (hi y) p (c₂ p m₂))
          (λ m₃. up k x y (x + h) (y + h) z (omega arith) (omega arith) (omega arith) (omega arith) (hi x) (hi y) p (c₃ p m₃))
          (Memᴰ.append_cases l₂ n')) (Memᴰ.append_cases l₁ n)) (Memᴰ.append_cases l₀ m);
    }

    pub sound : (k x y : ℕ) → (walk s c r k x y).answer ≡ Ok tt → Sounds k x y (walk s c r k x y).list
    sound = walk_ind s c r Sounds sound_cases

    -- two leaves of the list that share a unit are the same
    pub one_leaf : (k x y : ℕ) → (walk s c r k x y).answer ≡ Ok tt → (p q : Leaf) → Memᴰ p (walk s c r k x y).list → Memᴰ q (walk s c r k x y).list
        → (u v : ℕ) → Holds p u v → Holds q u v → p ≡ q
    one_leaf k x y z p q m n u v i j = sym ((sound k x y z p m).found u v i) ∙ (sound k x y z q n).found u v j
