-- What deblocking by a map of edge rows refuses: 1, 2, then what `checked` of `df_check` refuses, and 19 last. None may be lent.
-- Assumes nothing: these are definitions.
use Rattle.std.specs.Prelude.{ℕ, Bool, ◌||◌, List, eqb, ℤ, length, Ok, Err}
use Rattle.laws.specs.Call.{unless}
use Rattle.def.specs.Answers.{after_checks}
use Rattle.def.specs.Picture.{size_ok, unit_count}
use Rattle.def.specs.Answers.{Answer}
use Rattle.def.specs.declared.Refusal.TheVariants.{Size, Length, Rows}
use Rattle.df_check.specs.Checks as checks
use Rattle.df_check.specs.declared.Settings.{Settings}
use Rattle.rows_rules.specs.Checks.{right_ok}

-- what is lent to a call. Of tables and strengths the length alone
pub record Input : Type 0 where
  pub w : ℕ
  pub h : ℕ
  pub y : List ℕ
  pub u : List ℕ
  pub v : List ℕ
  pub words : List ℕ
  pub splits : List ℕ
  pub motion : List ℤ
  pub refs : List ℤ
  pub keep : List ℕ
  pub rows : List ℕ
  pub table0 : ℕ
  pub table1 : ℕ
  pub strengths : ℕ
  pub settings : Settings

-- without the map
abbrev pub checked : Input → checks.Input
checked i =
    record {
      w = i.w;
      h = i.h;
      y = i.y;
      u = i.u;
      v = i.v;
      words = i.words;
      splits = i.splits;
      motion = length i.motion;
      refs = length i.refs;
      keep = i.keep;
      table0 = i.table0;
      table1 = i.table1;
      strengths = i.strengths;
      settings = i.settings;
    }

-- a byte a unit, or none
unfoldable pub rows_length_ok : (w h rows : ℕ) → Bool
rows_length_ok w h rows = eqb rows 0 || eqb rows (unit_count w h)

-- none is lent, or it is right
unfoldable pub rows_ok : Input → Bool
rows_ok i = eqb (length i.rows) 0 || right_ok i.w i.h i.words i.motion i.refs i.rows

unfoldable pub check_of : Input → Answer
check_of i =
    unless (size_ok i.w i.h) (Err Size)
    (unless (rows_length_ok i.w i.h (length i.rows)) (Err Length)
    (after_checks Err (unless (rows_ok i) (Err Rows) (Ok tt))
    (checks.check_of (checked i))))
