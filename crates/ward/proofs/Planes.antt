-- What is shown of a plane: cropping and converting commute; larger input never gives smaller output; a sample of the preview lies between the least and the
-- greatest of its four; and each row that a run gives is that row of what it shows.
--     screened_mono, quarter_mono, quarter_least, quarter_greatest    a sample
--     commute, convert_mono, crop_mono, half_mono, shown_mono, half_least, half_greatest    a plane
--     length_shown, row_shown    the rows
--     faithful    all of this together
-- Assumes nothing.
use mathlib.Core.Bool.{Bool, true, false}
use mathlib.Core.List.{List}
use mathlib.Core.Path.{◌≡◌, refl, sym, ap, ap₂, ◌∙◌, subst}
use Prim.Native.Nat.{ℕ, ◌+◌, ◌*◌, ◌/◌, ◌%◌, ◌≤◌, ◌<◌}
use native.Mathlib.Omega.{arith}
use native.Mathlib.Nat.{mul-add-div_right, mul-add-mod_self_right, div-eq_of_lt, mod-eq_of_lt}
use borrow.Author.Tests.{ltb-true, ltb-false}
use lib.Dec.{ltb}
use lib.ListN.{length, get_or, get_or-eq_default}
use lib.Seq.{ext_get_or}
use Rattle.laws.specs.Index.{tabulate}
use Rattle.laws.proofs.Flat.{flat_within}
use Rattle.laws.proofs.Tabulate.{length_tabulate, get_d_tabulate}
use Rattle.ward_check.specs.Sizes.{across}
use Rattle.ward_check.specs.declared.Run.{Run}
use Rattle.ward_check.specs.declared.Run.TheVariants.{Full, Preview}
use Rattle.ward_rows.specs.Rows.{sample_at}
use Rattle.ward_rows.specs.Samples.{screened, quarter}
use Rattle.ward_rows.proofs.Samples.{by_held, screened_small}
use Rattle.ward.specs.Faithful.{Below, Faithful}
use Rattle.ward.specs.Screen.{convert, crop, corner, fourth, half, shown}

-- ---- a sample

pub screened_mono : (u v : ℕ) → u ≤ v → screened u ≤ screened v
screened_mono u v l =
    by_held u (λ n. n ≤ screened v)
    (λ p. by_held v (λ n. 255 ≤ n) (λ q. omega arith) (λ q. omega arith))
    (λ p. by_held v (λ n. (u + 2) / 4 ≤ n) (λ q. omega arith) (λ q. omega arith))

screened_0 : screened 0 ≡ 0
unfolding screened
screened_0 = refl

-- the values on both sides of the hold
pub screened_1021 : screened 1021 ≡ 255
unfolding screened
screened_1021 = refl

pub screened_1023 : screened 1023 ≡ 255
unfolding screened
screened_1023 = refl

pub quarter_mono : (a b c d a' b' c' d' : ℕ) → a ≤ a' → b ≤ b' → c ≤ c' → d ≤ d' → quarter a b c d ≤ quarter a' b' c' d'
unfolding quarter
quarter_mono a b c d a' b' c' d' p q r s = omega arith

pub quarter_least : (a b c d n : ℕ) → n ≤ a → n ≤ b → n ≤ c → n ≤ d → n ≤ quarter a b c d
unfolding quarter
quarter_least a b c d n p q r s = omega arith

pub quarter_greatest : (a b c d n : ℕ) → a ≤ n → b ≤ n → c ≤ n → d ≤ n → quarter a b c d ≤ n
unfolding quarter
quarter_greatest a b c d n p q r s = omega arith

-- ---- a plane

past : (l : List ℕ) (i : ℕ) → length l ≤ i → get_or l i 0 ≡ 0
past l i h = get_or-eq_default l 0 h

-- a table below another, place by place
table_mono : (n : ℕ) (f g : ℕ → ℕ) → ((i : ℕ) → i < n → f i ≤ g i) → Below (tabulate n f) (tabulate n g)
table_mono n f g b i = go (ltb i n) refl where
  go : (t : Bool) → ltb i n ≡ t → get_or (tabulate n f) i 0 ≤ get_or (tabulate n g) i 0
  go true e = let l = ltb-true i n e in rw (get_d_tabulate f n i 0 l, get_d_tabulate g n i 0 l) (b i l)
  go false e =
      let l = ltb-false i n e in
      let u = past (tabulate n f) i (subst (λ (k : ℕ). k ≤ i) (sym (length_tabulate f n)) l) in
      omega arith

pub length_convert : (p : List ℕ) → length (convert p) ≡ length p
unfolding convert
length_convert p = length_tabulate _ (length p)

-- past the end both are 0
convert_at : (p : List ℕ) (i : ℕ) → get_or (convert p) i 0 ≡ screened (get_or p i 0)
unfolding convert
convert_at p i = go (ltb i (length p)) refl where
  go : (t : Bool) → ltb i (length p) ≡ t → get_or (tabulate (length p) (λ (k : ℕ). screened (get_or p k 0))) i 0 ≡ screened (get_or p i 0)
  go true e = get_d_tabulate (λ (k : ℕ). screened (get_or p k 0)) (length p) i 0 (ltb-true i (length p) e)
  go false e =
      let l = ltb-false i (length p) e in
      let n = length_tabulate (λ (k : ℕ). screened (get_or p k 0)) (length p) in
      past (tabulate (length p) (λ (k : ℕ). screened (get_or p k 0))) i (subst (λ (k : ℕ). k ≤ i) (sym n) l)
      ∙ sym screened_0 ∙ ap screened (sym (past p i l))

module _ (w x y n m : ℕ) where
  length_crop : (p : List ℕ) → length (crop w x y n m p) ≡ m * n
  unfolding crop
  length_crop p = length_tabulate _ (m * n)

  crop_at : (p : List ℕ) (i : ℕ) → i < m * n → get_or (crop w x y n m p) i 0 ≡ get_or p ((y + i / n) * w + (x + i % n)) 0
  unfolding crop
  crop_at p i l = get_d_tabulate _ (m * n) i 0 l

  -- cropping then converting equals converting then cropping
  pub commute : (p : List ℕ) → convert (crop w x y n m p) ≡ crop w x y n m (convert p)
  commute p =
      ext_get_or 0 (convert (crop w x y n m p)) (crop w x y n m (convert p))
      (length_convert (crop w x y n m p) ∙ length_crop p ∙ sym (length_crop (convert p)))
      (λ i l.
      let l' : i < m * n = subst (λ (k : ℕ). i < k) (length_convert (crop w x y n m p) ∙ length_crop p) l in
      convert_at (crop w x y n m p) i
      ∙ ap screened (crop_at p i l')
      ∙ sym (convert_at p ((y + i / n) * w + (x + i % n)))
      ∙ sym (crop_at (convert p) i l'))

  pub crop_mono : (p q : List ℕ) → Below p q → Below (crop w x y n m p) (crop w x y n m q)
  unfolding crop
  crop_mono p q b = table_mono (m * n) _ _ (λ i l. b _)

pub convert_mono : (p q : List ℕ) → Below p q → Below (convert p) (convert q)
convert_mono p q l i = rw (convert_at p i, convert_at q i) (screened_mono _ _ (l i))

-- ---- half the size

pub length_half : (n m : ℕ) (p : List ℕ) → length (half n m p) ≡ m / 2 * (n / 2)
unfolding half
length_half n m p = length_tabulate _ (m / 2 * (n / 2))

pub half_mono : (n m : ℕ) (p q : List ℕ) → Below p q → Below (half n m p) (half n m q)
unfolding half fourth
half_mono n m p q b = table_mono (m / 2 * (n / 2)) _ _ (λ i l. quarter_mono _ _ _ _ _ _ _ _ (b _) (b _) (b _) (b _))

-- place i of a table of rows of n, by its row and column
module _ (n r j : ℕ) (jl : j < n) where
  row_of : (r * n + j) / n ≡ r
  row_of =
      let pos : 0 < n = omega arith in
      let e = div-eq_of_lt jl in
      mul-add-div_right pos r j ∙ omega arith

  column_of : (r * n + j) % n ≡ j
  column_of = mul-add-mod_self_right r n j ∙ mod-eq_of_lt jl

half_at_lem : (n m : ℕ) (p : List ℕ) (r j : ℕ) → r < m / 2 → j < n / 2 → get_or (half n m p) (r * (n / 2) + j) 0 ≡ fourth n r j p
unfolding half
half_at_lem n m p r j rl jl =
    get_d_tabulate (λ (i : ℕ). fourth n (i / (n / 2)) (i % (n / 2)) p) (m / 2 * (n / 2)) (r * (n / 2) + j) 0 (flat_within r j (n / 2) (m / 2) jl rl)
    ∙ ap₂ (λ (a b : ℕ). fourth n a b p) (row_of (n / 2) r j jl) (column_of (n / 2) r j jl)

-- a sample of the preview lies between the least and the greatest of its four
module _ (n m : ℕ) (p : List ℕ) (r j : ℕ) (rl : r < m / 2) (jl : j < n / 2) (k : ℕ) where
  pub half_least : ((a b : ℕ) → a ≤ 1 → b ≤ 1 → k ≤ corner n r j p a b) → k ≤ get_or (half n m p) (r * (n / 2) + j) 0
  unfolding fourth
  half_least h =
      rw (half_at_lem n m p r j rl jl)
      (quarter_least _ _ _ _ k (h 0 0 (omega arith) (omega arith)) (h 0 1 (omega arith) (omega arith)) (h 1 0 (omega arith) (omega arith)) (h 1 1 (omega arith) (omega arith)))

  pub half_greatest : ((a b : ℕ) → a ≤ 1 → b ≤ 1 → corner n r j p a b ≤ k) → get_or (half n m p) (r * (n / 2) + j) 0 ≤ k
  unfolding fourth
  half_greatest h =
      rw (half_at_lem n m p r j rl jl)
      (quarter_greatest _ _ _ _ k (h 0 0 (omega arith) (omega arith)) (h 0 1 (omega arith) (omega arith)) (h 1 0 (omega arith) (omega arith)) (h 1 1 (omega arith) (omega arith)))

-- ---- what a run shows

pub shown_mono : (run : Run) (w x y n m : ℕ) (p q : List ℕ) → Below p q → Below (shown run w x y n m p) (shown run w x y n m q)
unfolding shown
shown_mono Full w x y n m p q b = convert_mono _ _ (crop_mono w x y n m p q b)
shown_mono Preview w x y n m p q b = half_mono n m _ _ (convert_mono _ _ (crop_mono w x y n m p q b))

pub length_shown : (run : Run) (w x y n m : ℕ) (p : List ℕ) → length (shown run w x y n m p) ≡ across run m * across run n
unfolding shown
length_shown Full w x y n m p = length_convert (crop w x y n m p) ∙ length_crop w x y n m p
length_shown Preview w x y n m p = length_half n m (convert (crop w x y n m p))

module _ (w x y n m : ℕ) (p : List ℕ) where
  -- row r of the window, converted
  full_shown : (r j : ℕ) → r < m → j < n → get_or (convert (crop w x y n m p)) (r * n + j) 0 ≡ screened (get_or p ((y + r) * w + x + j) 0)
  full_shown r j rl jl =
      convert_at (crop w x y n m p) (r * n + j)
      ∙ ap screened (crop_at w x y n m p (r * n + j) (flat_within r j n m jl rl)
      ∙ ap₂ (λ (a b : ℕ). get_or p ((y + a) * w + (x + b)) 0) (row_of n r j jl) (column_of n r j jl)
      ∙ ap (λ (k : ℕ). get_or p k 0) (omega arith))

  -- of the four, the one a rows down and b columns on
  one_of_four : (r j a b : ℕ) → r < m / 2 → j < n / 2 → a ≤ 1 → b ≤ 1 → (k : ℕ) → k ≡ (y + 2 * r) * w + a * w + x + 2 * j + b
      → get_or (convert (crop w x y n m p)) ((2 * r + a) * n + (2 * j + b)) 0 ≡ screened (get_or p k 0)
  one_of_four r j a b rl jl al bl k e =
      full_shown (2 * r + a) (2 * j + b) (omega arith) (omega arith)
      ∙ ap (λ (z : ℕ). screened (get_or p z 0)) (omega (arith, e, down))
    where
      down : (y + (2 * r + a)) * w ≡ (y + 2 * r) * w + a * w
      down = omega arith

  pub row_shown : (run : Run) (r j : ℕ) → r < across run m → j < across run n → get_or (shown run w x y n m p) (r * across run n + j) 0 ≡ sample_at run w x y r p j
  unfolding shown fourth
  row_shown Full r j rl jl = full_shown r j rl jl
  row_shown Preview r j rl jl =
      half_at_lem n m (convert (crop w x y n m p)) r j rl jl
      ∙ four (one_of_four r j 0 0 rl jl (omega arith) (omega arith) _ (omega arith))
      (one_of_four r j 0 1 rl jl (omega arith) (omega arith) _ (omega arith))
      (one_of_four r j 1 0 rl jl (omega arith) (omega arith) _ (omega arith))
      (one_of_four r j 1 1 rl jl (omega arith) (omega arith) _ (omega arith))
    where
      four : {a b c d a' b' c' d' : ℕ} → a ≡ a' → b ≡ b' → c ≡ c' → d ≡ d' → quarter a b c d ≡ quarter a' b' c' d'
      four e f g h = cc

pub faithful : Faithful
faithful =
    record {
      in_8_bits = screened_small;
      commutes = commute;
      converted = convert_mono;
      cropped = crop_mono;
      halved = half_mono;
      larger = shown_mono;
      least = half_least;
      greatest = half_greatest;
    }
