-- Laws of the visiting rank and of its call.
--     ranks, rank_at    the table by its rule
--     rank_refused, rank_done    the call's outcome
--     rank_apart    its reading tells all answers apart
-- Assumes nothing.
use Rattle.std.specs.Prelude.{Ok, Err, Result}
use Prim.Native.Nat.{ℕ, ◌+◌, ◌*◌, ◌/◌, ◌%◌, ◌<◌}
use mathlib.Core.Path.{◌≡◌, sym, ap, ◌∙◌}
use mathlib.Core.Bool.{true, false}
use mathlib.Core.List.{List, [], ◌∷◌}
use native.Mathlib.Omega.{arith}
use borrow.Author.Tests.{lt-ltb}
use lib.Dec.{ltb}
use lib.ListN.{get_or}
use Rattle.laws.specs.Index.{tabulate}
use Rattle.laws.proofs.Calls.{all_fails}
use Rattle.laws.proofs.Tabulate.{get_d_tabulate}
use Rattle.def.specs.Refusals.{number_of}
use Rattle.def.specs.declared.Refusal.{Refusal}
use Rattle.def.specs.declared.Refusal.TheVariants.{Block}
use Rattle.def.proofs.Answers.{number_apart, number_some}
use Rattle.rank.specs.RankCall as rank-call
use Rattle.rank.specs.Ranks.{rank}

-- ---- the table of ranks, by its rule, at 16 * row + column

unfoldable pub ranks : List ℕ
ranks = tabulate 256 (λ (k : ℕ). rank (k % 16) (k / 16))

pub rank_at : (x y : ℕ) → x < 16 → y < 16 → get_or ranks (16 * y + x) 0 ≡ rank x y
unfolding ranks
rank_at x y p q =
    let a : (16 * y + x) % 16 ≡ x = omega arith in
    let b : (16 * y + x) / 16 ≡ y = omega arith in
    get_d_tabulate (λ (k : ℕ). rank (k % 16) (k / 16)) 256 (16 * y + x) 0 (omega arith) ∙ rw (a, b)

-- ---- the outcome, by what its checks find

module _ (i : rank-call.Input) where
  pub rank_refused : (k : ℕ) → get_or (ltb i.x 16 ∷ ltb i.y 16 ∷ []) k true ≡ false → rank-call.after (Err Block) ≡ rank-call.outcome i
  unfolding rank-call.outcome rank-call.check
  rank_refused k e = rw (all_fails (ltb i.x 16 ∷ ltb i.y 16 ∷ []) k e)

  pub rank_done : (n : ℕ) → i.x < 16 → i.y < 16 → n ≡ rank i.x i.y → rank-call.after (Ok n) ≡ rank-call.outcome i
  unfolding rank-call.outcome rank-call.check
  rank_done n p q e = rw (e, lt-ltb _ _ p, lt-ltb _ _ q)

-- ---- the answers

-- no refusal reads as done
never : (r : Refusal) → number_of r ≡ 0 → ⊥
never r e = omega (arith, number_some r)

pub rank_apart : (a b : Result ℕ Refusal) → rank-call.reading_of a ≡ rank-call.reading_of b → a ≡ b
rank_apart (Ok m) (Ok n) e = ap Ok (ap (λ (r : rank-call.Reading). r.rank) e)
rank_apart (Ok m) (Err r) e = absurd (never r (sym (ap (λ (q : rank-call.Reading). q.number) e)))
rank_apart (Err r) (Ok n) e = absurd (never r (ap (λ (q : rank-call.Reading). q.number) e))
rank_apart (Err r) (Err q) e = ap Err (number_apart r q (ap (λ (z : rank-call.Reading). z.number) e))
