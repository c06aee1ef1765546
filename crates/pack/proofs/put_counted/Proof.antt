-- `pack::put_counted` meets its contract: the room is tested, and then the digits and the zeros after them are put. Assumes nothing.
use mathlib.Core.Path.{◌≡◌, refl}
use Prim.Native.Nat.{ℕ, ◌+◌, ◌*◌, ◌/◌, ◌≤◌, ◌<◌}
use native.Mathlib.Omega.{arith}
use borrow.Author.Rules.{rules}
use Rattle.marks_rules.proofs.Pictures.{few_digits}
use Rattle.def.proofs.Sizes.{sized}
use Rattle.split.specs.Picture.{roots}
use Rattle.split.proofs.Roots.{roots_units}
use Rattle.pack.proofs.Calls.{put_short, put_done}
use Rattle.pack.proofs.Writing.{few_of, filled}
use Rattle.pack.proofs.put_counted.Statement.{statement}
use Rattle.pack.proofs.put_counted.Tie as tie

-- the digits are few
few : (c : tie.Start) → c.args.n ≤ 348160
few c =
    let a = c.args in
    let z = c.requires.mapped.size in
    omega (arith, c.requires.count, few_digits a.splits.now (a.w / 4) (a.h / 4) (roots (a.w / 4) (a.h / 4)), roots_units (sized _ _ z), few_of _ _ z)

returns : tie.Need-returns-then-end-at
returns c =
    let b = c.bits_in-end.ensures.0 in
    put_short _ c.requires (past c.args.at c.args.n _ _ b c.if-end-at.true) where
      past : (at n end bits : ℕ) → end ≡ bits → end < at → bits < (at + 7) / 8 * 8 + (n + 7) / 8 * 8
      past at n end bits e l = omega arith

returns-2 : tie.Need-returns-then-end-next
returns-2 c =
    let b = c.bits_in-end.ensures.0 in
    put_short _ c.requires (past _ _ _ b c.if-end-next.true) where
      past : (next end bits : ℕ) → end ≡ bits → end < next → bits < next
      past next end bits e l = omega arith

put_digits_requires : tie.Need-put_digits-requires
put_digits_requires c κs =
    let p = c.requires in
    (p.mapped, p.done, omega (arith, c.if-end-at.false, c.bits_in-end.ensures.1, c.if-end-next.false))

returns-3 : tie.Need-returns
returns-3 c =
    let b = c.bits_in-end.ensures.0 in
    put_done _ c.requires _ _
    (inside _ _ _ b c.if-end-next.false) refl
    (filled _ _ _ _ c.args.at
    c.args.n
    c.requires.count
    c.put_digits.ensures c.put_zeros.ensures) where
      inside : (next end bits : ℕ) → end ≡ bits → next ≤ end → next ≤ bits
      inside next end bits e l = omega arith

pub put_counted_spec : {M : Type 1} → statement M
put_counted_spec =
    tie.close
    (tie.spec
    (λ c κs. search rules)
    returns
    (λ c. omega (arith, c.if-end-at.false, c.bits_in-end.ensures.1))
    (λ c. omega (arith, c.if-end-at.false, c.bits_in-end.ensures.1))
    (λ c. omega (arith, few c.before.before.before.before))
    (λ c. omega (arith, few c.before.before.before.before))
    (λ c. omega (arith, c.if-end-at.false, c.bits_in-end.ensures.1, few c.before.before.before.before))
    returns-2
    put_digits_requires
    (λ c. omega (
      arith,
      few c.before.before.before.before.before.before.before.before.before.before,
      c.if-end-at.false,
      c.bits_in-end.ensures.1,
    ))
    (λ c κs. search rules)
    (λ c. search rules)
    returns-3)
