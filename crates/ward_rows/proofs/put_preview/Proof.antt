-- `ward_rows::put_preview` meets its contract: a turn stores sixteen samples more, and then come the rest. Assumes nothing.
use Rattle.std.proofs.Common.{◌+◌, ◌-◌, ◌*◌, ◌≤◌, ◌∙◌, arith, rules}
use Rattle.laws.proofs.Planes.{Rowed, rowed_none, rowed_all}
use Rattle.ward_rows.specs.Rows.{half_at}
use Rattle.ward_rows.proofs.Stores.{first_part, small_part}
use Rattle.ward_rows.proofs.Sums.{sums_small, pair_shown, quarter_later}
use Rattle.ward_rows.proofs.put_preview.Statement.{statement}
use Rattle.ward_rows.proofs.put_preview.Tie as tie

abbrev invariant-loop : tie.invariant-loop-i
invariant-loop p from below n out₀ i₀ out i = (i ≤ n) × Rowed 0 0 (half_at p from below) out₀ out i

abbrev decreases-loop : tie.decreases-loop-i
decreases-loop p from below n out₀ i₀ out i = n - i

column_sums_requires : tie.Need-column_sums-requires invariant-loop decreases-loop
column_sums_requires c κs =
    let i = c.loop-i.i in
    (small_part c.args.p.now _ _ (2 * i) 32 (omega arith) c.requires.0, small_part c.args.p.now _ _ (2 * i) 32 (omega arith) c.requires.1, omega arith, omega arith)

put_sums_requires : tie.Need-put_sums-requires invariant-loop decreases-loop
put_sums_requires c κs =
    let a = c.args in
    let l = c.loop-i in
    ((λ k. rw c.column_sums.ensures (sums_small a.p.now (a.from + 2 * l.i) (a.below + 2 * l.i) k)), omega (arith, l.invariant.1.long))

loop_again : tie.Need-loop-i-preserved invariant-loop decreases-loop
loop_again c =
    let a = c.args in
    let l = c.loop-i in (
      omega arith,
      rw c.put_sums.ensures
          (first_part _ _ _ l.i 16 _ (omega arith) (λ j h. rw c.column_sums.ensures (pair_shown a.p.now a.from a.below l.i j h)) l.invariant.1),
    )

put_singly_requires : tie.Need-put_singly-requires invariant-loop decreases-loop
put_singly_requires c κs =
    let i = c.loop-i.i in
    let n = c.args.n in (
      small_part c.args.p.now _ _ (2 * i) (2 * (n - i)) (omega arith) c.requires.0,
      small_part c.args.p.now _ _ (2 * i) (2 * (n - i)) (omega arith) c.requires.1,
      omega arith,
      omega arith,
      omega (arith, c.loop-i.invariant.1.long),
    )

returns : tie.Need-returns invariant-loop decreases-loop
returns c =
    let a = c.args in
    let l = c.loop-i in
    c.put_singly.ensures
    ∙ rowed_all _ _ _ _ _ _ (l.i + (a.n - l.i)) (omega arith)
    (first_part _ _ _ l.i (a.n - l.i) _ (omega arith) (λ j h. quarter_later a.p.now a.from a.below l.i j) l.invariant.1)

pub put_preview_spec : {M : Type 1} → statement M
put_preview_spec =
    tie.close
    (tie.spec invariant-loop decreases-loop (λ c. (omega arith, rowed_none _ _ _ _)) (λ c. search rules) (λ c. search rules) (λ c. search rules) (λ c. search rules) (λ c. search rules)
    column_sums_requires put_sums_requires (λ c. search rules) (λ c. search rules) loop_again
    (λ c. search rules) (λ c. search rules) (λ c. search rules) (λ c. search rules) (λ c. search rules) put_singly_requires (λ c. search rules) returns)
