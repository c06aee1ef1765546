-- `sheet::print::put_place` meets its contract. Assumes nothing.
use Prim.Native.Nat.{ℕ, ◌+◌, ◌≤◌}
use mathlib.Core.Path.{◌≡◌, ◌∙◌}
use native.Mathlib.Omega.{arith}
use borrow.Author.Rules.{rules}
use lib.ListN.{length, length-set}
use Rattle.sheet.proofs.Puts.{decimal_three, place_put, place_short}
use Rattle.sheet.proofs.print.put_place.Statement.{statement}
use Rattle.sheet.proofs.print.put_place.Tie as tie

-- after the first number, and after the second: the buffer's length, and the room that is left
record Room (n k m : ℕ) : Type 0 where
  same : k ≡ m
  room : n ≤ k

first : (c : tie.After-put_decimal-second) → Room (c.put_decimal-second.result + 5) (length c.put_decimal-second.new.out) (length c.args.out.now)
first c =
    let e : length c.put_decimal-second.new.out ≡ length c.args.out.now = c.put_decimal-second.auto.out ∙ simp length-set in
    record { same = e; room = omega (arith, c.put_decimal-second.ensures.count, decimal_three c.args.x c.requires.0, c.requires.2) }

second : (c : tie.After-put_decimal-end) → Room (c.put_decimal-end.result + 1) (length c.put_decimal-end.new.out) (length c.args.out.now)
second c =
    let e : length c.put_decimal-end.new.out ≡ length c.args.out.now = c.put_decimal-end.auto.out ∙ simp length-set (first c.before.before.before.before).same in
    record {
      same = e;
      room = omega (
        arith,
        place_short c.args.letter c.args.x c.args.y c.args.out.now c.args.at
            c.put_decimal-second.ensures c.put_decimal-end.ensures c.requires.0 c.requires.1,
        c.requires.2,
      );
    }

put_decimal_requires : tie.Need-put_decimal-second-requires
put_decimal_requires c κs = (omega arith, simp length-set (omega arith))

put_decimal_requires_2 : tie.Need-put_decimal-end-requires
put_decimal_requires_2 c κs = (omega arith, simp length-set (omega (arith, (first c.before.before.before).room)))

returns : tie.Need-returns
returns c =
    let p = c.put_decimal-second.ensures in
    let q = c.put_decimal-end.ensures in (
      place_put c.args.letter c.args.x c.args.y c.args.out.now c.args.at p q,
      place_short c.args.letter c.args.x c.args.y c.args.out.now c.args.at p q c.requires.0 c.requires.1,
    )

pub put_place_spec : {M : Type 1} → statement M
put_place_spec =
    tie.close
    (tie.spec
    (λ c. search rules)
    (λ c. search rules)
    (λ c. simp length-set (omega arith))
    (λ c. search rules)
    put_decimal_requires
    (λ c. omega (arith, (first c.before.before).room))
    (λ c. let f = first c.before.before.before in omega (arith, f.room, f.same))
    put_decimal_requires_2
    (λ c. omega (arith, (second c.before.before).room))
    (λ c. let f = second c.before.before in omega (arith, f.room, f.same))
    (λ c. simp length-set (second c.before.before).same)
    returns)
