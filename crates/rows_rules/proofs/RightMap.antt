-- What a right map tells.
--     row_in_byte    at a side's two bits the rule's byte has the row of its unit and the unit on that side
--     right_byte    a map that passes the test has the rule's byte of every unit
-- Assumes nothing.
use Rattle.std.specs.Prelude.{Ok, Err}
use Prim.Native.Nat.{ℕ, ◌-◌, ◌/◌, ◌<◌}
use mathlib.Core.Path.{◌≡◌, refl, sym, ap, ◌∙◌}
use mathlib.Core.Bool.{true, false}
use mathlib.Core.List.{List}
use native.Mathlib.Omega.{arith}
use borrow.Author.Tests.{eqb-true}
use lib.IntN.{ℤ}
use lib.ListN.{length, get_or}
use Rattle.laws.specs.Bits.{field_of, with_field}
use Rattle.laws.proofs.Bits.{field_same, field_below}
use Rattle.laws.proofs.Scans.{scan_at}
use Rattle.def.specs.Answers.{after_checks}
use Rattle.def.specs.Answers.{Answer}
use Rattle.split.specs.Edges.{Pass, vertical, horizontal}
use Rattle.df_rules.specs.Places.{step_across}
use Rattle.df_rules.specs.Strength.{row_by}
use Rattle.rows_rules.specs.Checks.{check_maps, right_ok}
use Rattle.rows_rules.specs.Rule.{has_side, first_bit, edge_row, rule_byte, right_bytes}
use Rattle.rows_rules.proofs.Sides.{edge_few}

module _ (words : List ℕ) (motion refs : List ℤ) (c : ℕ) where
  small : (d : Pass) (k : ℕ) → edge_row words motion refs c d k < 4
  small d k = omega (arith, edge_few words motion refs c d k)

  rule_read : (d : Pass) (k : ℕ) → field_of (first_bit d) 2 (rule_byte words motion refs c k) ≡ edge_row words motion refs c d k
  unfolding rule_byte
  rule_read vertical k = field_below 2 2 _ _ 0 2 (omega arith) ∙ field_same 0 2 _ 0 (small vertical k)
  rule_read horizontal k = field_same 2 2 _ _ (small horizontal k)

  side_row : (d : Pass) (k : ℕ) → has_side d c k ≡ true → edge_row words motion refs c d k ≡ row_by words motion refs k (k - step_across d c)
  unfolding edge_row
  side_row d k s = rw s

  pub row_in_byte : (d : Pass) (k byte : ℕ) → byte ≡ rule_byte words motion refs c k → has_side d c k ≡ true → field_of (first_bit d) 2 byte ≡ row_by words motion refs k (k - step_across d c)
  row_in_byte d k byte e s = ap (field_of (first_bit d) 2) e ∙ rule_read d k ∙ side_row d k s

pub right_byte : (w h : ℕ) (words : List ℕ) (motion refs : List ℤ) (rows : List ℕ) → right_ok w h words motion refs rows ≡ true
    → (k : ℕ) → k < length rows → get_or rows k 0 ≡ rule_byte words motion refs (w / 4) k
unfolding right_ok right_bytes
right_byte w h words motion refs rows e k l = go (check_maps w h (length words) (length motion) (length refs) (length rows)) e where
  go : (a : Answer) → after_checks (λ r. false) (right_bytes words motion refs (w / 4) rows) a ≡ true → get_or rows k 0 ≡ rule_byte words motion refs (w / 4) k
  go (Ok _) f = eqb-true _ _ (scan_at _ (length rows) k l f)
  go (Err r) f = absurd (let z : ◌≡◌ {A = ℕ} 0 1 = cc in omega arith)
