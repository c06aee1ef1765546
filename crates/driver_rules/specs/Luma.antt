-- What two calls have in common that are lent the same luma data, whatever their formats: they leave the same luma plane, words, modes and keep bytes (`same_luma`, in proofs/).
-- So a grey picture's are those of the run in colour. That the leaves are the same needs no word: `leaves_of` is not given the format.
-- And a picture without its colour is accepted where the picture is (`without_colour_lem`, in proofs/).
-- Assumes nothing: these are definitions.
use Rattle.std.specs.Prelude.{ℕ, ◌*◌, ◌%◌, ◌<◌, ◌≡◌, true, List, [], ◌∷◌, ◌++◌, eqb, ℤ, length, get_or, take, drop, Ok}
use Rattle.laws.specs.Index.{pick, tabulate}
use Rattle.def.specs.declared.Component.TheVariants.{Luma}
use Rattle.def.specs.declared.Format.TheVariants.{Grey}
use Rattle.split.specs.Walk.{Leaf, leaf}
use Rattle.driver_rules.specs.Call.{Input, Outcome, leaves_of, check, outcome}
use Rattle.driver_rules.specs.Records.{kind_at, record_qp, record_mask, keep_at, coded_y, sample_count, Place, first, advance, passed}
use Rattle.driver_rules.specs.Steps.{Given}

-- ---- a leaf

-- Y's residual of a leaf of side `side` that stands at place t
abbrev pub luma_residual : Given → (side : ℕ) → Place → List ℤ
luma_residual g side t = take (sample_count Luma side) (drop t.at g.residual)

-- its kind, its QP, its keep byte, whether Y is coded, and Y's residual where it is. The masks' other bits, and so the two places, may differ
pub record SameLeaf (g o : Given) (side : ℕ) (t u : Place) : Type 0 where
  pub kind : kind_at g.leaves t.k ≡ kind_at o.leaves u.k
  pub qp : record_qp g.leaves t.k ≡ record_qp o.leaves u.k
  pub keep : keep_at g.leaves t.k ≡ keep_at o.leaves u.k
  pub coded : coded_y (record_mask g.leaves t.k) ≡ coded_y (record_mask o.leaves u.k)
  pub residual : coded_y (record_mask g.leaves t.k) ≡ true → luma_residual g side t ≡ luma_residual o side u

-- each leaf of a list, from these places on
abbrev pub SameLeaves : (g o : Given) → List Leaf → (t u : Place) → Type 0
SameLeaves g o l t u = (n : ℕ) → n < length l → SameLeaf g o (4 * (get_or l n (leaf 0 0 0)).side) (passed g.leaves (take n l) t) (passed o.leaves (take n l) u)

-- ---- a call

pub record SameGiven (g o : Given) : Type 0 where
  pub w : g.w ≡ o.w
  pub h : g.h ≡ o.h
  pub constrained : g.constrained ≡ o.constrained
  pub pred_y : g.pred_y ≡ o.pred_y

pub record SameLuma (i j : Input) : Type 0 where
  pub given : SameGiven i.given j.given
  pub splits : i.splits ≡ j.splits
  pub leaves : SameLeaves i.given j.given (leaves_of i.given.w i.given.h i.splits) first first
  -- what these held counts for nothing
  pub y : length i.y ≡ length j.y
  pub words : length i.words ≡ length j.words
  pub modes : length i.modes ≡ length j.modes
  pub keep : length i.keep ≡ length j.keep

-- what both leave
pub record LumaAgrees (a b : Outcome) : Type 0 where
  pub y : a.y ≡ b.y
  pub words : a.words ≡ b.words
  pub modes : a.modes ≡ b.modes
  pub keep : a.keep ≡ b.keep

-- ---- a picture without its colour

-- the leaf records, the masks with Y's bit alone
abbrev pub luma_records : List ℕ → List ℕ
luma_records r = tabulate (length r) (λ (k : ℕ). pick (eqb (k % 4) 2) (get_or r k 0 % 2) (get_or r k 0))

-- the residuals of Y, of the leaves of a list that stands at place t
unfoldable pub luma_residuals : Given → List Leaf → Place → List ℤ
luma_residuals g [] t = []
luma_residuals g (p ∷ l) t = pick (coded_y (record_mask g.leaves t.k)) (luma_residual g (4 * p.side) t) [] ++ luma_residuals g l (advance g.leaves p t)

abbrev pub without_colour : Input → Input
without_colour i =
    let g = i.given in
    record {
      given =
          record {
            w = g.w;
            h = g.h;
            format = Grey;
            constrained = g.constrained;
            leaves = luma_records g.leaves;
            residual = luma_residuals g (leaves_of g.w g.h i.splits) first;
            pred_y = g.pred_y;
            pred_u = [];
            pred_v = [];
          };
      splits = i.splits;
      y = i.y;
      u = [];
      v = [];
      words = i.words;
      modes = i.modes;
      keep = i.keep;
    }

pub record WithoutColour (i : Input) : Type 0 where
  pub accepted : check (without_colour i) ≡ Ok tt
  pub luma : LumaAgrees (outcome i) (outcome (without_colour i))
