-- `ward_rows::put_row` meets its contract: nothing where the test fails, and else by the run a row of the plane or two. Assumes nothing.
use Rattle.std.proofs.Common.{◌≡◌, ◌+◌, ◌*◌, ◌≤◌, true, length, sym, ◌∙◌, arith, rules}
use Rattle.ward_rows.specs.Rows.{lies}
use Rattle.ward_rows.proofs.Runs.{Within, within, full_inside, full_room, preview_inside, preview_room, put_none, full_put, preview_put}
use Rattle.ward_rows.proofs.put_row.Statement.{statement}
use Rattle.ward_rows.proofs.put_row.Tie as tie

returns : tie.Need-returns-then-not-lies
returns c = put_none _ _ _ _ _ _ _ _ (sym c.lies.ensures ∙ c.if-not-lies.true)

-- the row lies in the plane and in the buffer
module _ (c : tie.Else-not-lies) where
  abbrev start : tie.Start
  start = c.before.before.before.before

  passed : let a = start.args in lies a.run a.stride a.x a.y a.n a.row (length a.p.now) (length a.out.now) ≡ true
  passed = sym c.lies.ensures ∙ c.if-not-lies.false

  there : let a = start.args in Within a.run a.stride a.x a.y a.n a.row (length a.p.now) (length a.out.now)
  there = within _ _ _ _ _ _ _ _ passed

-- ---- full size

module _ (c : tie.In-Full) where
  full_in : let a = (start c.before).args in (a.y + a.row) * a.stride + a.x + a.n ≤ length a.p.now
  full_in = let a = (start c.before).args in full_inside a.run a.stride a.x a.y a.n a.row c.in-Full.is _ _ (there c.before)

full_row_requires : tie.Need-full_row-requires
full_row_requires c κs =
    let a = (start c.before.before).args in
    (full_in c.before, full_room a.run a.stride a.x a.y a.n a.row c.in-Full.is _ _ (there c.before.before))

returns-2 : tie.Need-returns-in-Full
returns-2 c =
    let a = (start c.before.before.before.before.before).args in
    full_put a.run a.stride a.x a.y a.n a.row c.in-Full.is _ _ (passed c.before.before.before.before.before) _ _ c.full_row.ensures

-- ---- the preview

module _ (c : tie.In-Preview) where
  preview_in : let a = (start c.before).args in (a.y + 2 * a.row) * a.stride + a.x + a.stride + a.n ≤ length a.p.now
  preview_in =
      let a = (start c.before).args in
      preview_inside a.run a.stride a.x a.y a.n a.row c.in-Preview.is _ _ (there c.before)

preview_row_requires : tie.Need-preview_row-requires
preview_row_requires c κs =
    let a = (start c.before.before).args in
    (omega (arith, preview_in c.before), preview_in c.before, preview_room a.run a.stride a.x a.y a.n a.row c.in-Preview.is _ _ (there c.before.before))

returns-3 : tie.Need-returns-in-Preview
returns-3 c =
    let a = (start c.before.before.before.before.before).args in
    preview_put a.run a.stride a.x a.y a.n a.row c.in-Preview.is _ _ (passed c.before.before.before.before.before) _ _ c.preview_row.ensures

pub put_row_spec : {M : Type 1} → statement M
put_row_spec =
    tie.close
    (tie.spec
    (λ c κs. search rules) returns
    (λ c. search rules) (λ c. omega (arith, (there c.before).high, (there c.before).some)) (λ c. omega (arith, full_in c)) (λ c. omega (arith, full_in c)) full_row_requires
    (λ c. search rules) (λ c. omega (arith, (there c.before).some)) (λ c. omega (arith, (there c.before).high, (there c.before).some))
    (λ c. omega (arith, preview_in c)) (λ c. omega (arith, preview_in c)) (λ c. omega (arith, preview_in c)) preview_row_requires
    (λ c. search rules) returns-2 (λ c. search rules) returns-3)
