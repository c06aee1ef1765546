-- `ward_check::checked_row` meets its contract: a row of checks. Assumes nothing.
use Rattle.std.specs.Prelude.{Ok}
use mathlib.Core.Path.{sym, ◌∙◌}
use borrow.Author.Rules.{rules}
use Rattle.ward_check.proofs.Ladder.{sides, inside, at_size, at_length, at_window, at_turn, at_end}
use Rattle.ward_check.proofs.checked_row.Statement.{statement}
use Rattle.ward_check.proofs.checked_row.Tie as tie

returns : tie.Need-returns-then-not-size_ok
returns c =
    let a = c.args in
    at_size a.run a.k a.nth a.plane a.row a.format a.w a.h a.y a.u a.v a.c a.out (Ok tt) _ c.size_ok.ensures c.if-not-size_ok.true-raw

lengths_ok_requires : tie.Need-lengths_ok-requires
lengths_ok_requires c κs =
    let s = sides c.args.w c.args.h (sym c.size_ok.ensures ∙ c.if-not-size_ok.false) in
    (s.wide, s.high)

returns-2 : tie.Need-returns-then-not-lengths_ok
returns-2 c =
    let a = c.args in
    at_length a.run a.k a.nth a.plane a.row a.format a.w a.h a.y a.u a.v a.c a.out (Ok tt) _ c.size_ok.ensures
    c.if-not-size_ok.false-raw
    _ c.lengths_ok.ensures c.if-not-lengths_ok.true-raw

returns-3 : tie.Need-returns-then-not-window_ok
returns-3 c =
    let a = c.args in
    at_window a.run a.k a.nth a.plane a.row a.format a.w a.h a.y a.u a.v a.c a.out (Ok tt) _ c.size_ok.ensures
    c.if-not-size_ok.false-raw
    _ c.lengths_ok.ensures c.if-not-lengths_ok.false-raw _ c.window_ok.ensures c.if-not-window_ok.true-raw

turn_ok_requires : tie.Need-turn_ok-requires
turn_ok_requires c κs =
    (inside c.args.c c.args.w c.args.h
    (sym c.window_ok.ensures ∙ c.if-not-window_ok.false)).rows

returns-4 : tie.Need-returns-then-not-turn_ok
returns-4 c =
    let a = c.args in
    at_turn a.run a.k a.nth a.plane a.row a.format a.w a.h a.y a.u a.v a.c a.out (Ok tt)
    _ c.size_ok.ensures
    c.if-not-size_ok.false-raw
    _ c.lengths_ok.ensures c.if-not-lengths_ok.false-raw _ c.window_ok.ensures c.if-not-window_ok.false-raw
    _ c.turn_ok.ensures c.if-not-turn_ok.true-raw

returns-5 : tie.Need-returns
returns-5 c =
    let a = c.args in
    at_end a.run a.k a.nth a.plane a.row a.format a.w a.h a.y a.u a.v a.c a.out (Ok tt)
    _ c.size_ok.ensures
    c.if-not-size_ok.false-raw
    _ c.lengths_ok.ensures c.if-not-lengths_ok.false-raw _ c.window_ok.ensures c.if-not-window_ok.false-raw
    _ c.turn_ok.ensures c.if-not-turn_ok.false-raw

pub checked_row_spec : {M : Type 1} → statement M
checked_row_spec =
    tie.close
    (tie.spec (λ c κs. search rules) returns lengths_ok_requires returns-2 (λ c κs. search rules) returns-3 turn_ok_requires returns-4 returns-5)
