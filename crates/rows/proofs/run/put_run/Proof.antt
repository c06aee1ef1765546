-- `rows::run::put_run` meets its contract: a run that is all intra, one of the first row, one that is what lies above it, or any other. Assumes nothing.
use Prim.Native.Nat.{ℕ, ◌+◌, ◌-◌, ◌*◌, ◌%◌}
use mathlib.Core.Path.{◌≡◌, sym, ap, ◌∙◌}
use native.Mathlib.Nat.{mod-eq_of_lt}
use native.Mathlib.Omega.{arith}
use borrow.Author.Rules.{rules}
use lib.ListN.{get_or}
use Rattle.laws.proofs.Scans.{scan_at}
use Rattle.rows_rules.specs.Runs.{self_row}
use Rattle.rows_rules.proofs.Runs.{intra_byte, first_byte_lem}
use Rattle.rows.proofs.run.put_run.Statement.{statement}
use Rattle.rows.proofs.run.put_run.Tie as tie

put_zeros_requires : tie.Need-put_zeros-requires
put_zeros_requires c κs = c.requires.4

returns : tie.Need-returns-then-all_intra
returns c =
    let z = c.put_zeros.ensures in
    let a = c.args in (
      (λ r. record {
        long = z.long;
        at = λ j h.
            z.at j h ∙ sym (intra_byte a.words.now a.motion.now a.refs.now a.columns (a.k + j)
            (scan_at _ a.n j h (sym c.all_intra.ensures ∙ c.if-all_intra.true)));
      }),
      z.long,
    )

put_first_requires : tie.Need-put_first-requires
put_first_requires c κs = let p = c.requires in (p.2.inside, p.4)

returns-2 : tie.Need-returns-then-k-columns
returns-2 c =
    let z = c.put_first.ensures in
    let a = c.args in
    let w = c.requires.2 in
    let column : a.k % a.columns ≡ a.k = mod-eq_of_lt c.if-k-columns.true in (
      (λ r. record {
        long = z.long;
        at = λ j h.
            first_byte_lem a.words.now a.motion.now a.refs.now a.columns c.requires.0 (a.k + j) _ (omega (arith, column, w.column, w.fits)) (omega (arith, w.inside)) (z.at j h);
      }),
      z.long,
    )

as_above_requires : tie.Need-as_above-requires
as_above_requires c κs = let p = c.requires in (p.0, p.2, omega (arith, c.if-k-columns.false))

put_as_above_requires : tie.Need-put_as_above-requires
put_as_above_requires c κs =
    let p = c.requires in
    (p.2.inside, omega (arith, p.1, p.2.inside, c.if-k-columns.false), p.0.few, omega (arith, p.0.few, p.1), p.4)

returns-3 : tie.Need-returns-then-as_above
returns-3 c =
    let z = c.put_as_above.ensures in
    let a = c.args in (
      (λ r. record {
        long = z.long;
        at = λ j h.
            z.at j h ∙ ap (λ (v : ℕ). v % 4 + 4 * self_row (get_or a.words.now (a.k + j) 0)) (r (a.k - a.columns + j) (omega (arith, c.if-k-columns.false, c.requires.2.fits, c.requires.2.column, h)))
            ∙ sym (c.as_above.ensures c.if-as_above.true j h);
      }),
      z.long,
    )

put_sides_requires : tie.Need-put_sides-requires
put_sides_requires c κs =
    let p = c.requires in
    (p.0, p.2, omega (arith, c.if-k-columns.false), p.3, p.4)

returns-4 : tie.Need-returns
returns-4 c = let z = c.put_sides.ensures in ((λ r. z), z.long)

pub put_run_spec : {M : Type 1} → statement M
put_run_spec =
    tie.close
    (tie.spec (λ c κs. c.requires.2.inside) put_zeros_requires (λ c. search rules) returns put_first_requires (λ c. search rules) returns-2 as_above_requires
    put_as_above_requires (λ c. search rules) returns-3 put_sides_requires (λ c. search rules) returns-4)
