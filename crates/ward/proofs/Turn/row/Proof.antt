-- `ward::Turn::row` meets its contract: the checks, and then the plane whose turn it is. Assumes nothing.
use mathlib.Core.Path.{◌≡◌, sym, ◌∙◌}
use borrow.Author.Rules.{rules}
use lib.ListN.{length}
use Rattle.ward.specs.RowCall.{Input}
use Rattle.ward.proofs.Ladder.{Asked}
use Rattle.ward.proofs.Answers.{lent_0, lent_1, lent_2, same_turn, long_0, long_1, long_2, fits, row_refused, all_passed, row_given}
use Rattle.ward.proofs.Turn.row.Statement.{statement}
use Rattle.ward.proofs.Turn.row.Tie as tie

-- what is lent
abbrev input : tie.Start → Input
input s =
    let a = s.args in
    record {
      turn = a.self;
      plane = a.plane;
      row = a.row;
      format = a.format;
      w = a.w;
      h = a.h;
      y = a.y.now;
      u = a.u.now;
      v = a.v.now;
      window = a.window;
      out = a.out.now;
    }

abbrev start : tie.In-Ok → tie.Start
start c = c.before.before.before.before.before.before

-- ---- where the checks found nothing

AskedOf : Input → Type 0
AskedOf i = Asked i.turn i.plane i.row i.format i.w i.h (length i.y) (length i.u) (length i.v) i.window (length i.out)

asked : (c : tie.In-Ok) → AskedOf (input (start c))
unfolding AskedOf
asked c = all_passed (input (start c)) _ c.checked_row-found.ensures c.in-Ok.is

-- the turn's plane is the one that is asked for
same : (i : Input) → AskedOf i → i.turn.plane ≡ i.plane
unfolding AskedOf
same i a = same_turn _ _ _ _ _ _ _ _ _ _ _ a

given_requires : tie.Need-given-requires
unfolding AskedOf
given_requires c κs =
    let i = input c.before.before.before.before.before.before.before.before in
    let a = asked c.before.before in
    fits i.turn i.plane i.row i.format i.w i.h (length i.y) (length i.u) (length i.v) i.window (length i.out) a _
    (long_0 i.turn i.plane i.row i.format i.w i.h (length i.y) (length i.u) (length i.v) i.window (length i.out) a (same i a ∙ c.in-0.is))

given_requires_2 : tie.Need-given-requires-in-1
unfolding AskedOf
given_requires_2 c κs =
    let i = input c.before.before.before.before.before.before.before.before in
    let a = asked c.before.before in
    fits i.turn i.plane i.row i.format i.w i.h (length i.y) (length i.u) (length i.v) i.window (length i.out) a _
    (long_1 i.turn i.plane i.row i.format i.w i.h (length i.y) (length i.u) (length i.v) i.window (length i.out) a (same i a ∙ c.in-1.is))

given_requires_3 : tie.Need-given-requires-in_default
unfolding AskedOf
given_requires_3 c κs =
    let i = input c.before.before.before.before.before.before.before.before in
    let a = asked c.before.before in
    let r = c.in_default.in_default-own.rest in
    fits i.turn i.plane i.row i.format i.w i.h (length i.y) (length i.u) (length i.v) i.window (length i.out) a _
    (long_2 i.turn i.plane i.row i.format i.w i.h (length i.y) (length i.u) (length i.v) i.window (length i.out) a
    (λ e. r.0.1 (sym (same i a) ∙ e)) (λ e. r.1 (sym (same i a) ∙ e)))

-- ---- the outcome

returns : tie.Need-returns-in-Err
returns c = row_refused (input c.before.before.before.before.before.before) _ c.checked_row-found.ensures _ c.in-Err.is

returns-2 : tie.Need-returns-in-0
returns-2 c =
    let i = input c.before.before.before.before.before.before.before.before.before.before.before in
    row_given i _ c.checked_row-found.ensures c.in-Ok.is _
    (lent_0 i.y i.u i.v i.turn.plane (same i (asked c.before.before.before.before.before) ∙ c.in-0.is)) _ c.given.ensures

returns-3 : tie.Need-returns-in-1
returns-3 c =
    let i = input c.before.before.before.before.before.before.before.before.before.before.before in
    row_given i _ c.checked_row-found.ensures c.in-Ok.is _
    (lent_1 i.y i.u i.v i.turn.plane (same i (asked c.before.before.before.before.before) ∙ c.in-1.is)) _
    c.given-in-1.ensures

returns-4 : tie.Need-returns-in_default
returns-4 c =
    let i = input c.before.before.before.before.before.before.before.before.before.before.before in
    let s = same i (asked c.before.before.before.before.before) in
    let r = c.in_default.in_default-own.rest in
    row_given i _ c.checked_row-found.ensures c.in-Ok.is _
    (lent_2 i.y i.u i.v i.turn.plane (λ e. r.0.1 (sym s ∙ e)) (λ e. r.1 (sym s ∙ e))) _ c.given-in_default.ensures

pub row_spec : {M : Type 1} → statement M
row_spec =
    tie.close
    (tie.spec (λ c κs. search rules) (λ c. search rules) (λ c. search rules) given_requires given_requires_2 given_requires_3 returns
    (λ c. search rules) returns-2 (λ c. search rules) returns-3 (λ c. search rules) returns-4)
