-- `strength::mapped` meets its contract: the entry at the clipped place, held, and 0 past the end. Assumes nothing.
use mathlib.Core.Path.{◌≡◌, sym, ap, ◌∙◌}
use Prim.Native.Nat.{ℕ}
use borrow.Author.Rules.{rules}
use lib.IntN.{ℤ, pos}
use lib.ListN.{get_or, get_or-eq_default}
use mir.Syntax.{w8}
use Rattle.laws.specs.Clip.{clip_z, max_z, min_z, held_to}
use Rattle.laws.proofs.Widths.{back}
use Rattle.strength.specs.ChromaQp.{index_of, mapped_z, held_qp}
use Rattle.strength.proofs.mapped.Statement.{statement}
use Rattle.strength.proofs.mapped.Tie as tie

-- the entry at the place that was found
at : (c : tie.After-index_of-i) → let a = c.args in get_or a.table.now c.index_of-i.result (pos 0) ≡ mapped_z a.table.now a.offset a.qp
unfolding mapped_z
at c =
    let a = c.args in
    ap (λ (i : ℕ). get_or a.table.now i (pos 0)) (c.index_of-i.ensures ∙ ap (λ (z : ℤ). index_of z a.qp) (back w8 _ c.ranges.offset))

returns : tie.Need-returns-then-i-table
returns c = c.held_qp.ensures ∙ ap held_qp (back w8 _ (record { sfits = c.held_qp-arg-1.given }) ∙ at c.before.before.before)

returns-2 : tie.Need-returns-else-i-table
unfolding held_to clip_z max_z min_z
returns-2 c = ap held_qp (sym (get_or-eq_default c.args.table.now (pos 0) c.if-i-table.false) ∙ at c.before)

pub mapped_spec : {M : Type 1} → statement M
mapped_spec = tie.close (tie.spec (λ c κs. search rules) (λ c. search rules) (λ c κs. search rules) returns returns-2)
