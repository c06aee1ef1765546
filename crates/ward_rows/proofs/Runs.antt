-- Laws of the two runs: where a row lies, and what putting it answers and leaves.
--     Within, within, lies_within    the test passes exactly where the row lies in the plane and in the buffer
--     full_inside, full_room, preview_inside, preview_room    the places of a row
--     put_none, full_put, preview_put    what putting a row answers and leaves
-- Assumes nothing.
use Rattle.std.proofs.Common.{◌≡◌, ℕ, ◌+◌, ◌*◌, ◌/◌, ◌≤◌, Bool, true, false, ◌&&◌, List, length, sym, refl, ap, ◌∙◌, ap₂, arith, le-leb, leb-true}
use Rattle.laws.specs.Index.{pick}
use Rattle.laws.specs.Plane.{with_row}
use Rattle.laws.proofs.Calls.{all_at}
use Rattle.ward_check.specs.Sizes.{across}
use Rattle.ward_check.specs.declared.Run.{Run}
use Rattle.ward_check.specs.declared.Run.TheVariants.{Full, Preview}
use Rattle.ward_rows.specs.Rows.{full_at, half_at, sample_at, made_ok, last_row, lies_tests, lies, put_ok, put_row}
use Rattle.ward_rows.specs.Samples.{run_ok}

pub last_small : (run : Run) (r : ℕ) → r ≤ 4096 → last_row run r ≤ 8193
last_small Full r h = omega arith
last_small Preview r h = omega arith

module _ (run : Run) (w x y n r : ℕ) where
  -- ---- where the row lies
  pub record Within (long out : ℕ) : Type 0 where
    pub wide : w ≤ 4096
    pub high : y ≤ 4096
    pub some : r ≤ 4096
    pub columns : x + n ≤ w
    pub inside : (y + last_row run r) * w + x + n ≤ long
    pub room : across run n ≤ out

  pub within : (long out : ℕ) → lies run w x y n r long out ≡ true → Within long out
  unfolding lies
  within long out e =
      let tests = lies_tests run w x y n r long out in
      record {
        wide = leb-true _ _ (all_at tests 0 e);
        high = leb-true _ _ (all_at tests 1 e);
        some = leb-true _ _ (all_at tests 2 e);
        columns = leb-true _ _ (all_at tests 3 e);
        inside = leb-true _ _ (all_at tests 4 e);
        room = leb-true _ _ (all_at tests 5 e);
      }

  pub lies_within : (long out : ℕ) → Within long out → lies run w x y n r long out ≡ true
  unfolding lies
  lies_within long out i = simp (le-leb _ _ i.wide, le-leb _ _ i.high, le-leb _ _ i.some, le-leb _ _ i.columns, le-leb _ _ i.inside, le-leb _ _ i.room)

  -- ---- what putting it answers, and what it leaves
  module _ (p out : List ℕ) where
    abbrev pub Put : Bool → List ℕ → Type 0
    Put b out' = (b ≡ put_ok run w x y n r p (length out)) × (out' ≡ put_row run w x y n r p out)

    pub put_none : lies run w x y n r (length p) (length out) ≡ false → Put false out
    unfolding put_ok
    put_none e = rw e (refl, refl)

    -- where it lies there, as its samples are
    pub put_made : lies run w x y n r (length p) (length out) ≡ true → (b : Bool) → b ≡ made_ok run w x y n r p → (f : ℕ → ℕ) (out' : List ℕ)
        → with_row 0 0 (across run n) (sample_at run w x y r p) out ≡ with_row 0 0 (across run n) f out → out' ≡ pick b (with_row 0 0 (across run n) f out) out → Put b out'
    unfolding put_ok
    put_made l b e f out' s g =
        let t : b ≡ put_ok run w x y n r p (length out) = e ∙ rw l in
        (t, g ∙ ap₂ (λ (c : Bool) (q : List ℕ). pick c q out) t (sym s))

  -- ---- full size
  module _ (e : run ≡ Full) where
    pub full_inside : (long out : ℕ) → Within long out → (y + r) * w + x + n ≤ long
    full_inside long out h = rw e at h.inside

    pub full_room : (long out : ℕ) → Within long out → n ≤ out
    full_room long out h = rw e at h.room

    pub full_put : (p out : List ℕ) → lies run w x y n r (length p) (length out) ≡ true → (b : Bool) (out' : List ℕ)
        → (b ≡ run_ok p ((y + r) * w + x) n) × (out' ≡ pick b (with_row 0 0 n (full_at p ((y + r) * w + x)) out) out) → Put p out b out'
    unfolding made_ok
    full_put p out l b out' g = put_made p out l b (rw e g.0) (full_at p ((y + r) * w + x)) out' (rw e refl) (rw e g.1)

  -- ---- the preview: two rows, one below the other
  next : (y + (2 * r + 1)) * w + x ≡ (y + 2 * r) * w + x + w
  next = omega arith

  module _ (e : run ≡ Preview) where
    pub preview_inside : (long out : ℕ) → Within long out → (y + 2 * r) * w + x + w + n ≤ long
    preview_inside long out h = let i : (y + (2 * r + 1)) * w + x + n ≤ long = rw e at h.inside in omega (arith, next)

    pub preview_room : (long out : ℕ) → Within long out → n / 2 ≤ out
    preview_room long out h = rw e at h.room

    pub preview_put : (p out : List ℕ) → lies run w x y n r (length p) (length out) ≡ true → (b : Bool) (out' : List ℕ)
        → (b ≡ (run_ok p ((y + 2 * r) * w + x) n && run_ok p ((y + 2 * r) * w + x + w) n))
        × (out' ≡ pick b (with_row 0 0 (n / 2) (half_at p ((y + 2 * r) * w + x) ((y + 2 * r) * w + x + w)) out) out) → Put p out b out'
    unfolding made_ok
    preview_put p out l b out' g =
        put_made p out l b (rw e (g.0 ∙ ap (λ (k : ℕ). run_ok p ((y + 2 * r) * w + x) n && run_ok p k n) (sym next)))
        (half_at p ((y + 2 * r) * w + x) ((y + 2 * r) * w + x + w)) out' (rw e refl) (rw e g.1)
