-- `edge_filter::turn_chroma` meets its contract: an edge without a strength in both planes is left, two that lie right after each other are filtered at once, and else one is. Assumes nothing.
use Prim.Native.Nat.{ℕ}
use mathlib.Core.Bool.{Bool, true, false, not, ◌&&◌, ◌||◌}
use mathlib.Core.Path.{◌≡◌, refl, sym, ap, ◌∙◌}
use native.Mathlib.Omega.{arith}
use borrow.Author.Rules.{rules}
use lib.Dec.{eqb}
use lib.ListN.{length}
use Rattle.def.specs.declared.Component.TheVariants.{Chroma}
use Rattle.edge_filter.specs.Edges.{pass_of}
use Rattle.edge_filter.specs.Filter.{quiet_chroma, edge_of}
use Rattle.edge_filter.proofs.Turns.{pair_left, turn_quiet, turn_edge, turn_pair}
use Rattle.edge_filter.proofs.turn_chroma.Statement.{statement}
use Rattle.edge_filter.proofs.turn_chroma.Tie as tie

one_loud : (a b : Bool) → (not a || not b) ≡ true → (a && b) ≡ false
one_loud true true h = sym h
one_loud true false h = refl
one_loud false b h = refl

-- an edge that has a strength in one plane is not quiet
heard : (u v x z : ℕ) → u ≡ x → v ≡ z → (not (eqb u 0) || not (eqb v 0)) ≡ true → (eqb x 0 && eqb z 0) ≡ false
heard u v x z e f h = sym (λ k. eqb (e k) 0 && eqb (f k) 0) ∙ one_loud (eqb u 0) (eqb v 0) h

strength_at_requires : tie.Need-strength_at-u0-requires
strength_at_requires c κs = omega arith

strength_at_requires_2 : tie.Need-strength_at-v0-requires
strength_at_requires_2 c κs = omega arith

returns : tie.Need-returns-then-u0-v0
returns c =
    let a = c.args in
    let u₀ = c.strength_at-u0 in
    let v₀ = c.strength_at-v0 in
    let q₀ = sym (λ k. eqb (u₀.ensures k) 0 && eqb (v₀.ensures k) 0) ∙ c.if-u0-v0.true in (
      turn_quiet (quiet_chroma a.entries.now a.places.now) _ 208 Chroma (pass_of a.pass) _ _ _ _ a.n a.i a.u.now c.requires.1 q₀,
      turn_quiet (quiet_chroma a.entries.now a.places.now) _ 416 Chroma (pass_of a.pass) _ _ _ _ a.n a.i a.v.now c.requires.1 q₀,
    )

strength_at_requires_3 : tie.Need-strength_at-u1-requires
strength_at_requires_3 c κs = omega arith

strength_at_requires_4 : tie.Need-strength_at-v1-requires
strength_at_requires_4 c κs = omega arith

-- where the lemmas go back to: from both edges tried to edge i found loud, and from there to the start
abbrev first : tie.After-two_chroma → tie.Else-u0-v0
first c = c.before.before.before.before.before.before.before.before

abbrev start : tie.Else-u0-v0 → tie.Start
start c = c.before.before.before.before.before.before.before

own_loud : (c : tie.Else-u0-v0) → let a = (start c).args in quiet_chroma a.entries.now a.places.now a.i ≡ false
own_loud c =
    let u = c.strength_at-u0.ensures in
    let v = c.strength_at-v0.ensures in
    sym (λ k. eqb (u k) 0 && eqb (v k) 0) ∙ c.if-u0-v0.false

add_result_2 : tie.Need-overflow_add-result-then-two_chroma
add_result_2 c =
    omega (arith, (start (first c.before.before.before.before.before)).requires.2, c.after-j.ensures.2)

returns-2 : tie.Need-returns-then-two_chroma
returns-2 c =
    let own = first c.before.before.before.before.before in
    let a = (start own).args in
    let q₀ = own_loud own in
    let u₀ = own.strength_at-u0.ensures in
    let v₀ = own.strength_at-v0.ensures in
    let p = c.chroma_place-p.ensures in
    let r = c.after-j in
    let u₁ = c.strength_at-u1 in
    let v₁ = c.strength_at-v1 in
    let q₁ = heard u₁.result v₁.result _ _ u₁.ensures v₁.ensures in
    let t = c.two_chroma.ensures in (
      turn_pair (quiet_chroma a.entries.now a.places.now) _ 208 Chroma (pass_of a.pass) _ _ _ _ _ a.n a.i r.result _ _ _ _ a.u.now _
          r.ensures.0 r.ensures.1 r.ensures.2 q₀ q₁ u₀ u₁.ensures p c.if-two_chroma.true t.0,
      turn_pair (quiet_chroma a.entries.now a.places.now) _ 416 Chroma (pass_of a.pass) _ _ _ _ _ a.n a.i r.result _ _ _ _ a.v.now _
          r.ensures.0 r.ensures.1 r.ensures.2 q₀ q₁ v₀ v₁.ensures p c.if-two_chroma.true t.1,
    )

-- ---- where edge j was not filtered with it

abbrev tried : tie.Else-two_chroma → tie.After-two_chroma
tried c = c.before.before.before.before.before

marked : tie.Need-bounds-marks-i
marked c = let s = start (first (tried c.before.before.before)) in omega (arith, s.requires.1, s.requires.2)

-- both planes are as they were
edge_chroma_requires : tie.Need-edge_chroma-requires
edge_chroma_requires c κs =
    let t = (tried c.before.before.before.before).two_chroma.ensures in
    ap length (pair_left c.if-two_chroma.false t.0) ∙ (start (first (tried c.before.before.before.before))).requires.3 ∙ sym (ap length (pair_left c.if-two_chroma.false t.1))

add_result_3 : tie.Need-overflow_add-result-2
add_result_3 c =
    let s = start (first (tried c.before.before.before.before.before.before.before.before.before)) in
    omega (arith, s.requires.1, s.requires.2)

returns-3 : tie.Need-returns
returns-3 c =
    let own = first (tried c.before.before.before.before.before.before.before.before.before) in
    let s = start own in
    let a = s.args in
    let q₀ = own_loud own in
    let u₀ = own.strength_at-u0 in
    let v₀ = own.strength_at-v0 in
    let p = (tried c.before.before.before.before.before.before.before.before.before).chroma_place-p in
    let two = (tried c.before.before.before.before.before.before.before.before.before).two_chroma.ensures in
    let t = c.edge_chroma.ensures in (
      turn_edge (quiet_chroma a.entries.now a.places.now) _ 208 Chroma (pass_of a.pass) _ _ _ _ a.n a.i _ _ a.u.now _ s.requires.1
          q₀ u₀.ensures p.ensures (t.0 ∙ ap (edge_of Chroma _ u₀.result p.result) (pair_left c.if-two_chroma.false two.0)),
      turn_edge (quiet_chroma a.entries.now a.places.now) _ 416 Chroma (pass_of a.pass) _ _ _ _ a.n a.i _ _ a.v.now _ s.requires.1
          q₀ v₀.ensures p.ensures (t.1 ∙ ap (edge_of Chroma _ v₀.result p.result) (pair_left c.if-two_chroma.false two.1)),
    )

pub turn_chroma_spec : {M : Type 1} → statement M
turn_chroma_spec =
    tie.close
    (tie.spec
    (λ c. search rules) strength_at_requires strength_at_requires_2 (λ c. search rules) returns (λ c κs. search rules) (λ c κs. search rules) (λ c. search rules)
    strength_at_requires_3 strength_at_requires_4 (λ c κs. search rules) add_result_2 (λ c. search rules) (λ c. search rules) returns-2
    marked edge_chroma_requires add_result_3 (λ c. search rules) (λ c. search rules) returns-3)
