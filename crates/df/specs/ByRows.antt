-- The call `deblock_by_rows`: deblocking that is lent a map of edge rows, or none. Its planes, words and counts are those of `deblock`; the map is judged
-- last, and where it is right the passes read their rows from it.
-- Assumes nothing: these are definitions.
use Rattle.std.specs.Prelude.{ℕ, List, length}
use Rattle.def.specs.Answers.{after_checks}
use Rattle.def.specs.Answers.{Answer}
use Rattle.by_rows_check.specs.Checks as checks
use Rattle.df.specs.Deblock as deblock

-- what `deblock` takes, and the map
pub record Input : Type 0 where
  pub given : deblock.Input
  pub rows : List ℕ

-- 1, 2, then those of `deblock`, and 19 last
abbrev pub checked : Input → checks.Input
checked i =
    record {
      w = i.given.w;
      h = i.given.h;
      y = i.given.y;
      u = i.given.u;
      v = i.given.v;
      words = i.given.words;
      splits = i.given.splits;
      motion = i.given.motion;
      refs = i.given.refs;
      keep = i.given.keep;
      rows = i.rows;
      table0 = length i.given.table0;
      table1 = length i.given.table1;
      strengths = length i.given.strengths;
      settings = i.given.settings;
    }

abbrev pub check : Input → Answer
check i = checks.check_of (checked i)

unfoldable pub outcome : Input → deblock.Outcome
outcome i = after_checks (deblock.refused i.given) (deblock.done i.given) (check i)
