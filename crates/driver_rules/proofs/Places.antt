-- How far the walk has come, in the records and in the residual list.
--     run_more    a member more
--     passed_count, passed_more    a record for each leaf, and never back
--     passed_grows    where a list of leaves has come is not past where a longer one comes
--     passed-few    a leaf takes at most 6144 residuals
-- Assumes nothing.
use Prim.Native.Nat.{ℕ, zero, suc, ◌+◌, ◌*◌, ◌≤◌, ◌<◌}
use mathlib.Core.Path.{◌≡◌, sym, ◌∙◌}
use mathlib.Core.Bool.{Bool, true, false}
use mathlib.Core.List.{List, [], ◌∷◌, ◌++◌}
use native.Mathlib.Nat.{add-zero, mul-le-mul, le_trans, le_refl}
use native.Mathlib.Decide.{dec_lt}
use native.Mathlib.Omega.{arith}
use lib.ListN.{length}
use Rattle.laws.specs.Index.{pick}
use Rattle.laws.specs.Orders.{run}
use Rattle.laws.proofs.Orders.{run_append}
use Rattle.split.specs.Walk.{Leaf}
use Rattle.driver_rules.specs.Asked.{Reaches}
use Rattle.driver_rules.specs.Records.{Place, advance, passed}

pub run_more : {E A : Type 0} (op : E → A → A) (l : List E) (e : E) (a : A) → run op (l ++ (e ∷ [])) a ≡ op e (run op l a)
unfolding run
run_more op l e a = run_append op l (e ∷ []) a

module _ (r : List ℕ) where
  pub passed_count : (l : List Leaf) (t : Place) → (passed r l t).k ≡ t.k + length l
  unfolding run
  passed_count [] t = sym (add-zero t.k)
  passed_count (p ∷ l) t = passed_count l (advance r p t) ∙ omega arith

  pub passed_more : (l : List Leaf) (t : Place) → (t.at ≤ (passed r l t).at) × (t.k ≤ (passed r l t).k)
  unfolding run
  passed_more [] t = (le_refl _, le_refl _)
  passed_more (p ∷ l) t = let h = passed_more l (advance r p t) in let a = h.0 in let b = h.1 in (omega arith, omega arith)

  -- lists that each have the one before as their start
  module _ (f g : ℕ → List Leaf) (grow : (n : ℕ) → f (suc n) ≡ f n ++ g n) (t : Place) where
    pub passed_grows : (i n : ℕ) → i ≤ n → ((passed r (f i) t).at ≤ (passed r (f n) t).at) × ((passed r (f i) t).k ≤ (passed r (f n) t).k)
    passed_grows i zero h = let e : i ≡ 0 = omega arith in rw e (le_refl _, le_refl _)
    passed_grows i (suc n) h = go (dec_lt i (suc n)) (λ q. passed_grows i n q) where
      go : Dec (i < suc n) → (i ≤ n → ((passed r (f i) t).at ≤ (passed r (f n) t).at) × ((passed r (f i) t).k ≤ (passed r (f n) t).k))
          → ((passed r (f i) t).at ≤ (passed r (f (suc n)) t).at) × ((passed r (f i) t).k ≤ (passed r (f (suc n)) t).k)
      go (yes p) before =
          let e = before (omega arith) in
          let m = passed_more (g n) (passed r (f n) t) in
          rw (grow n, run_append (advance r) (f n) (g n) t) (le_trans e.0 m.0, le_trans e.1 m.1)
      go (no p) before = let e : i ≡ suc n = omega arith in rw e (le_refl _, le_refl _)

    pub reaches_grows : (residual i n : ℕ) → i ≤ n → Reaches r residual (passed r (f n) t) → Reaches r residual (passed r (f i) t)
    reaches_grows residual i n h k =
        let e = passed_grows i n h in
        let a = e.0 in
        let b = e.1 in
        record { records = omega (arith, k.records); residuals = omega (arith, k.residuals) }

pub few_samples : (coded : Bool) (n m : ℕ) → n ≤ m → pick coded (n * n) 0 ≤ m * m
few_samples true n m h = mul-le-mul h h
few_samples false n m h = omega arith
