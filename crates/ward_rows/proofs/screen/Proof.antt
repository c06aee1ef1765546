-- `ward_rows::screen` meets its contract: the value, or 255 where it is over. Assumes nothing.
use Rattle.std.proofs.Common.{◌≡◌, ℕ, ◌+◌, ◌/◌, ap, ◌∙◌, arith, rules}
use Rattle.ward_rows.proofs.Samples.{screened_over, screened_under}
use Rattle.ward_rows.proofs.screen.Statement.{statement}
use Rattle.ward_rows.proofs.screen.Tie as tie

returns : tie.Need-returns-then-q-gt255
returns c =
    let v = c.args.v in
    let e : c.wrapping_add_u16-q.result ≡ v + 2 = omega (arith, c.wrapping_add_u16-q.ensures, c.requires) in
    (screened_over v (omega (arith, e)), omega arith)

returns-2 : tie.Need-returns
returns-2 c =
    let v = c.args.v in
    let e : c.wrapping_add_u16-q.result ≡ v + 2 = omega (arith, c.wrapping_add_u16-q.ensures, c.requires) in
    (ap (λ (k : ℕ). k / 4) e ∙ screened_under v (omega (arith, e)), omega arith)

pub screen_spec : {M : Type 1} → statement M
screen_spec = tie.close (tie.spec (λ c κs. search rules) returns returns-2)
