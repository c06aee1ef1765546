-- `sheet::print::put_count` meets its contract. Assumes nothing.
use Prim.Native.Nat.{◌+◌, ◌≤◌}
use mathlib.Core.Path.{◌∙◌}
use native.Mathlib.Omega.{arith}
use borrow.Author.Rules.{rules}
use lib.ListN.{length, length-set}
use Rattle.sheet.proofs.Puts.{decimal_four, count_put, count_short}
use Rattle.sheet.proofs.print.put_count.Statement.{statement}
use Rattle.sheet.proofs.print.put_count.Tie as tie

-- the place of the newline is within the buffer
room : (c : tie.After-slice_known-3-1) → c.put_decimal-end.result + 1 ≤ length c.put_decimal-end.new.out
room c =
    let d = c.put_decimal-end in
    let b = c.put_bytes-digits in
    omega (arith, d.ensures.count, d.auto.out, b.ensures.count, b.auto.out, decimal_four c.args.n c.requires.0, c.requires.1, c.requires.2)

add_result : tie.Need-overflow_add-result
add_result c = omega (arith, room c)

same_length : tie.Need-shape_of-out
same_length c = simp length-set (c.put_decimal-end.auto.out ∙ c.put_bytes-digits.auto.out)

returns : tie.Need-returns
returns c =
    let d = c.put_decimal-end.ensures in
    let b = c.put_bytes-digits.ensures in
    (count_put c.args.n b d, count_short c.args.n b d c.requires.0 c.requires.1)

pub put_count_spec : {M : Type 1} → statement M
put_count_spec = tie.close (tie.spec (λ c κs. search rules) (λ c κs. search rules) (λ c. omega (arith, room c)) add_result same_length returns)
