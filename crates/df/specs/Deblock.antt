-- The call `deblock`: the planes are those of filtering the vertical list and then the horizontal one, each as listing writes it; done is set in every unit.
-- Each plane's part is a function of its own samples, its table and its offset.
-- Assumes nothing: these are definitions.
use Rattle.std.specs.Prelude.{ℕ, ◌/◌, List, eqb, ℤ, length, Ok, Err, Result}
use Rattle.def.specs.Answers.{after_checks}
use Rattle.def.specs.Refusals.{number_of}
use Rattle.def.specs.Answers.{Answer}
use Rattle.def.specs.declared.Component.{Component}
use Rattle.def.specs.declared.Component.TheVariants.{Luma, Chroma}
use Rattle.def.specs.declared.Refusal.{Refusal}
use Rattle.split.specs.Edges.{Pass, vertical, horizontal, Edge, edge_list}
use Rattle.strength.specs.ChromaQp.{mapped}
use Rattle.df_check.specs.Checks as checks
use Rattle.df_check.specs.declared.Settings.{Settings}
use Rattle.df_rules.specs.Filter.{finished}
use Rattle.df_rules.specs.Strength.{Maps}
use Rattle.df_rules.specs.Visit.{all_done}
use Rattle.split.specs.declared.EdgeCounts.{EdgeCounts}

pub record Input : Type 0 where
  pub w : ℕ
  pub h : ℕ
  pub y : List ℕ
  pub u : List ℕ
  pub v : List ℕ
  pub words : List ℕ
  pub splits : List ℕ
  pub motion : List ℤ
  pub refs : List ℤ
  pub keep : List ℕ
  pub table0 : List ℤ
  pub table1 : List ℤ
  pub strengths : List ℕ
  pub settings : Settings

-- the answer's number, and both passes' edge counts
pub record Reading : Type 0 where
  pub number : ℕ
  pub vertical : ℕ
  pub horizontal : ℕ

abbrev pub reading_of : Result EdgeCounts Refusal → Reading
reading_of (Ok c) = record { number = 0; vertical = c.vertical; horizontal = c.horizontal }
reading_of (Err r) = record { number = number_of r; vertical = 0; horizontal = 0 }

pub record Outcome : Type 0 where
  pub reading : Reading
  pub y : List ℕ
  pub u : List ℕ
  pub v : List ℕ
  pub words : List ℕ

-- 1, 2, 3, 4 or 5, 15, 6, 7
abbrev pub checked : Input → checks.Input
checked i =
    record {
      w = i.w;
      h = i.h;
      y = i.y;
      u = i.u;
      v = i.v;
      words = i.words;
      splits = i.splits;
      motion = length i.motion;
      refs = length i.refs;
      keep = i.keep;
      table0 = length i.table0;
      table1 = length i.table1;
      strengths = length i.strengths;
      settings = i.settings;
    }

abbrev pub check : Input → Answer
check i = checks.check_of (checked i)

-- a pass's list
abbrev pub pass_edges : Pass → Input → List Edge
pass_edges d i = edge_list d (eqb i.settings.limit 5) i.splits (i.w / 4) (i.h / 4)

-- where a plane's strength is looked up in its row, by Q's QP
abbrev pub qp_y : Input → ℕ → ℕ
qp_y i qp = qp

abbrev pub qp_u : Input → ℕ → ℕ
qp_u i qp = mapped i.table0 i.settings.u_offset qp

abbrev pub qp_v : Input → ℕ → ℕ
qp_v i qp = mapped i.table1 i.settings.v_offset qp

abbrev pub maps_of : Input → Maps
maps_of i = record { words = i.words; over = record { motion = i.motion; refs = i.refs; keep = i.keep } }

-- a plane after both passes
abbrev pub deblocked : Input → Component → (ℕ → ℕ) → List ℕ → List ℕ
deblocked i c at p = finished (maps_of i) i.strengths at c (i.w / 4) (pass_edges vertical i) (pass_edges horizontal i) p

abbrev pub refused : Input → Refusal → Outcome
refused i r = record { reading = reading_of (Err r); y = i.y; u = i.u; v = i.v; words = i.words }

abbrev pub done : Input → Outcome
done i =
    record {
      reading = reading_of (Ok (record { vertical = length (pass_edges vertical i); horizontal = length (pass_edges horizontal i) }));
      y = deblocked i Luma (qp_y i) i.y;
      u = deblocked i Chroma (qp_u i) i.u;
      v = deblocked i Chroma (qp_v i) i.v;
      words = all_done i.words;
    }

unfoldable pub outcome : Input → Outcome
outcome i = after_checks (refused i) (done i) (check i)
