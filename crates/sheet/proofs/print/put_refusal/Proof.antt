-- `sheet::print::put_refusal` meets its contract. Assumes nothing.
use Prim.Native.Nat.{ℕ, ◌+◌, ◌≤◌}
use mathlib.Core.Path.{◌≡◌, ◌∙◌}
use native.Mathlib.Omega.{arith}
use borrow.Author.Rules.{rules}
use lib.ListN.{length, length-set}
use Rattle.sheet.proofs.Puts.{decimal_four, line_length, refused_put}
use Rattle.sheet.proofs.print.put_refusal.Statement.{statement}
use Rattle.sheet.proofs.print.put_refusal.Tie as tie

-- after the number: the buffer's length, and the room that is left
record Room (n k m : ℕ) : Type 0 where
  same : k ≡ m
  room : n ≤ k

first : (c : tie.After-put_decimal-next) → Room (c.put_decimal-next.result + 20) (length c.put_decimal-next.new.out)
    (length c.args.out.now)
first c =
    let d = c.put_decimal-next in
    let b = c.put_bytes-digits in
    let n = c.refusal_number-number.result in
    let e : length d.new.out ≡ length c.args.out.now = d.auto.out ∙ b.auto.out in
    record { same = e; room = omega (arith, d.ensures.count, b.ensures.count, decimal_four n (omega arith), c.requires.1) }

second : (c : tie.After-put_line-end) → Room (c.put_line-end.result + 1) (length c.put_line-end.new.out)
    (length c.args.out.now)
second c =
    let n = c.refusal_number-number.result in
    let e : length c.put_line-end.new.out ≡ length c.args.out.now = c.put_line-end.auto.out ∙ (first c.before.before.before.before).same in
    record { same = e; room = omega (arith, c.put_line-end.ensures.count, (first c.before.before.before.before).room, (first c.before.before.before.before).same, line_length n c.args.line c.requires.0) }

returns : tie.Need-returns
returns c =
    let f = second c.before.before in
    record {
      put = refused_put c.args.r c.args.line c.refusal_number-number.ensures c.put_bytes-digits.ensures
          c.put_decimal-next.ensures c.put_line-end.ensures;
      fits = omega (arith, f.room, f.same);
    }

pub put_refusal_spec : {M : Type 1} → statement M
put_refusal_spec =
    tie.close
    (tie.spec
    (λ c κs. search rules)
    (λ c. search rules)
    (λ c κs. search rules)
    (λ c κs. search rules)
    (λ c κs. (c.requires.0, omega (arith, (first c.before.before.before).room)))
    (λ c. omega (arith, (second c.before.before).room))
    (λ c. let f = second c.before.before in omega (arith, f.room, f.same))
    (λ c. simp length-set (second c.before.before).same)
    returns)
