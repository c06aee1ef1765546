-- After i turns i places are written, of at most 10 bytes each. Assumes nothing.
use Rattle.std.proofs.Common.{◌≡◌, ◌∙◌, ◌+◌, ◌*◌, refl, subst, ℕ, arith}
use Rattle.edges.specs.Put.{Put}
use Rattle.sheet.specs.Puts.{places_text}
use Rattle.sheet.proofs.Puts.{places_none, places_more}
use Rattle.sheet.proofs.print.put_places.Goals as goal

pub loop-i-init : goal.loop-i-init
loop-i-init c = (refl, omega arith, places_none _ _ _ _)

pub put_place-next-requires : goal.put_place-next-requires
put_place-next-requires c =
    let l = c.loop-i in (
      omega (arith, c.from-x.ensures, c.requires.0.small (2 * l.i) (omega arith)),
      omega (arith, c.from-y.ensures, c.requires.0.small (2 * l.i + 1) (omega arith)),
      omega (arith, l.invariant.0, l.invariant.1, c.requires.1),
    )

pub loop-i-preserved : goal.loop-i-preserved
loop-i-preserved c =
    let l = c.loop-i in
    let p = c.put_place-next in (
      p.auto.out ∙ l.invariant.0,
      omega (arith, p.ensures.1, l.invariant.1),
      places_more c.args.letter c.args.numbers.now l.i _ _ c.from-x.ensures c.from-y.ensures l.invariant.2 p.ensures.0,
    )

pub returns : goal.returns
returns c =
    let l = c.loop-i in
    let s = c.args in
    let e : l.i ≡ s.n = omega arith in
    (subst (λ (k : ℕ). Put (places_text s.letter s.numbers.now k) s.out.now s.at l.out l.next) e l.invariant.2, omega (arith, l.invariant.1))
