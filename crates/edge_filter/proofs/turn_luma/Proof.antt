-- `edge_filter::turn_luma` meets its contract: an edge without a strength is left, two that lie right after each other are filtered at once, and else one is. Assumes nothing.
use mathlib.Core.Bool.{not}
use mathlib.Core.Path.{sym, ap, ◌∙◌}
use native.Mathlib.Omega.{arith}
use borrow.Author.Rules.{rules}
use borrow.Author.Tests.{eq-eqb, ne_eqb, not-true}
use lib.Dec.{eqb}
use Rattle.def.specs.declared.Component.TheVariants.{Luma}
use Rattle.edge_filter.specs.Edges.{pass_of}
use Rattle.edge_filter.specs.Filter.{quiet_luma, edge_of}
use Rattle.edge_filter.proofs.Turns.{pair_left, turn_quiet, turn_edge, turn_pair}
use Rattle.edge_filter.proofs.turn_luma.Statement.{statement}
use Rattle.edge_filter.proofs.turn_luma.Tie as tie

strength_at_requires : tie.Need-strength_at-s0-requires
strength_at_requires c κs = omega arith

returns : tie.Need-returns-then-s0-eq0
returns c =
    let a = c.args in
    turn_quiet (quiet_luma a.entries.now a.places.now) _ 0 Luma (pass_of a.pass) _ _ _ _ a.n a.i a.y.now c.requires.1
    (eq-eqb _ 0 (sym c.strength_at-s0.ensures ∙ c.if-s0-eq0.true))

strength_at_requires_2 : tie.Need-strength_at-s1-requires
strength_at_requires_2 c κs = omega arith

returns-2 : tie.Need-returns-then-two_luma
returns-2 c =
    let a = c.args in
    let s₀ = c.strength_at-s0 in
    let s₁ = c.strength_at-s1 in
    let r = c.after-j in
    turn_pair (quiet_luma a.entries.now a.places.now) _ 0 Luma (pass_of a.pass) _ _ _ _ (not (eqb s₁.result 0)) a.n a.i r.result _ _ _ _ a.y.now _
    r.ensures.0 r.ensures.1 r.ensures.2 (ne_eqb _ 0 (λ e. c.if-s0-eq0.false (s₀.ensures ∙ e)))
    (λ h. ap (λ k. eqb k 0) (sym s₁.ensures) ∙ not-true _ h) s₀.ensures s₁.ensures c.luma_place-p.ensures
    c.if-two_luma.true c.two_luma.ensures

returns-3 : tie.Need-returns
returns-3 c =
    let a = c.args in
    let s₀ = c.strength_at-s0 in
    let p = c.luma_place-p in
    let e = pair_left c.if-two_luma.false c.two_luma.ensures in
    turn_edge (quiet_luma a.entries.now a.places.now) _ 0 Luma (pass_of a.pass) _ _ _ _ a.n a.i _ _ a.y.now _ c.requires.1
    (ne_eqb _ 0 (λ e. c.if-s0-eq0.false (s₀.ensures ∙ e))) s₀.ensures p.ensures
    (c.edge_luma.ensures ∙ ap (edge_of Luma _ s₀.result p.result) e)

pub turn_luma_spec : {M : Type 1} → statement M
turn_luma_spec =
    tie.close
    (tie.spec
    (λ c. search rules) strength_at_requires (λ c. search rules) returns (λ c κs. search rules) (λ c κs. search rules) (λ c. search rules) strength_at_requires_2
    (λ c κs. search rules) (λ c. search rules) (λ c. search rules) returns-2 (λ c. search rules) (λ c κs. search rules) (λ c. search rules) (λ c. search rules) returns-3)
