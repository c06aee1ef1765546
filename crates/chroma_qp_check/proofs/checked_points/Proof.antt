-- `chroma_qp_check::checked_points` meets its contract: a row of checks. `past-K` is what check K, passed, tells; each return cites those before it.
-- Assumes nothing.
use mathlib.Core.Path.{◌≡◌, sym, ap, ◌∙◌}
use mathlib.Core.Bool.{true, ◌||◌}
use borrow.Author.Rules.{rules}
use lib.IntN.{ℤ}
use Rattle.chroma_qp_check.specs.Check.{Input, input_start, input_lengths_ok, points_ok, pivots_ok}
use Rattle.chroma_qp_check.proofs.Checks.{at_length, at_first_points, at_second_points, at_first_pivots, at_second_pivots, past_all, Long, long}
use Rattle.chroma_qp_check.proofs.checked_points.Statement.{statement}
use Rattle.chroma_qp_check.proofs.checked_points.Tie as tie

-- the input of a call
abbrev input : tie.Start → Input
input c =
    let a = c.args in
    record {
      global_offset = a.global_offset;
      same_table = a.same_table;
      first = record { count = a.count0; a = a.a0.now; b = a.b0.now };
      second = record { count = a.count1; a = a.a1.now; b = a.b1.now };
      t0 = a.t0;
      t1 = a.t1;
    }

past_1 : (c : tie.Else-not-lengths_ok) → input_lengths_ok (input c.before.before) ≡ true
past_1 c = sym c.lengths_ok.ensures ∙ c.if-not-lengths_ok.false

lengths : (c : tie.Else-not-lengths_ok) → Long (input c.before.before)
lengths c = long _ (past_1 c)

returns : tie.Need-returns-then-not-lengths_ok
returns c = at_length _ (sym c.lengths_ok.ensures ∙ c.if-not-lengths_ok.true)

points_ok_requires : tie.Need-points_ok-requires
points_ok_requires c κs = (lengths c).a0

returns-2 : tie.Need-returns-then-not-points_ok
returns-2 c = at_first_points _ (past_1 c.before.before) (sym c.points_ok.ensures ∙ c.if-not-points_ok.true)

past_2 : (c : tie.Else-not-points_ok) → let i = input c.before.before.before.before in points_ok i.first.count i.first.a ≡ true
past_2 c = sym c.points_ok.ensures ∙ c.if-not-points_ok.false

second_points_ok_requires : tie.Need-second_points_ok-requires
second_points_ok_requires c κs = (lengths c.before.before).a1

returns-3 : tie.Need-returns-then-not-second_points_ok
returns-3 c =
    at_second_points _ (past_1 c.before.before.before.before) (past_2 c.before.before) (sym c.second_points_ok.ensures ∙ c.if-not-second_points_ok.true)

past_3 : (c : tie.Else-not-second_points_ok) → let i = input c.before.before.before.before.before.before in (i.same_table || points_ok i.second.count i.second.a) ≡ true
past_3 c = sym c.second_points_ok.ensures ∙ c.if-not-second_points_ok.false

pivots_ok_requires : tie.Need-pivots_ok-requires
pivots_ok_requires c κs =
    let l = lengths c.before.before.before.before.before in
    record { start = c.start_qp-s.ensures.1; a_long = l.a0; b_long = l.b0; points = past_2 c.before.before.before }

-- what `pivots_ok` answers, at the start itself
first_pivots : (c : tie.After-pivots_ok) → let i = input c.before.before.before.before.before.before.before.before in c.pivots_ok.result ≡ pivots_ok (input_start i) i.first
first_pivots c =
    let i = input c.before.before.before.before.before.before.before.before in
    c.pivots_ok.ensures ∙ ap (λ (z : ℤ). pivots_ok z i.first) c.start_qp-s.ensures.0

returns-4 : tie.Need-returns-then-not-pivots_ok
returns-4 c =
    at_first_pivots _ (past_1 c.before.before.before.before.before.before.before) (past_2 c.before.before.before.before.before) (past_3 c.before.before.before) (sym (first_pivots c.before) ∙ c.if-not-pivots_ok.true)

past_4 : (c : tie.Else-not-pivots_ok) → let i = input c.before.before.before.before.before.before.before.before.before in pivots_ok (input_start i) i.first ≡ true
past_4 c = sym (first_pivots c.before) ∙ c.if-not-pivots_ok.false

second_pivots_ok_requires : tie.Need-second_pivots_ok-requires
second_pivots_ok_requires c κs =
    let l = lengths c.before.before.before.before.before.before.before in
    (c.start_qp-s.ensures.1, l.a1, l.b1, past_3 c.before.before.before)

second_pivots : (c : tie.After-second_pivots_ok) → let i = input c.before.before.before.before.before.before.before.before.before.before in
    c.second_pivots_ok.result ≡ (i.same_table || pivots_ok (input_start i) i.second)
second_pivots c =
    let i = input c.before.before.before.before.before.before.before.before.before.before in
    c.second_pivots_ok.ensures ∙ ap (λ (z : ℤ). i.same_table || pivots_ok z i.second) c.start_qp-s.ensures.0

returns-5 : tie.Need-returns-then-not-second_pivots_ok
returns-5 c =
    at_second_pivots _ (past_1 c.before.before.before.before.before.before.before.before.before) (past_2 c.before.before.before.before.before.before.before) (past_3 c.before.before.before.before.before) (past_4 c.before.before) (sym (second_pivots c.before) ∙ c.if-not-second_pivots_ok.true)

returns-6 : tie.Need-returns
returns-6 c =
    past_all _
    (record {
      lengths = past_1 c.before.before.before.before.before.before.before.before.before;
      first_points = past_2 c.before.before.before.before.before.before.before;
      second_points = past_3 c.before.before.before.before.before;
      first_pivots = past_4 c.before.before;
      second_pivots = sym (second_pivots c.before) ∙ c.if-not-second_pivots_ok.false;
    })

pub checked_points_spec : {M : Type 1} → statement M
checked_points_spec =
    tie.close
    (tie.spec (λ c κs. search rules) returns points_ok_requires returns-2 second_points_ok_requires returns-3 (λ c κs. search rules) pivots_ok_requires returns-4
    second_pivots_ok_requires returns-5 returns-6)
