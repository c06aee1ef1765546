-- `df::deblock` meets its contract: that of `deblock_by_rows`, with no byte of a map. Assumes nothing.
use mathlib.Core.Path.{refl, ◌∙◌}
use Rattle.df.specs.Deblock.{Input}
use Rattle.df.proofs.ByRows.{without}
use Rattle.df.proofs.deblock.Statement.{statement}
use Rattle.df.proofs.deblock.Tie as tie

-- the input of a call
of : tie.Start → Input
of s =
    let a = s.args in
    record {
      w = a.w;
      h = a.h;
      y = a.y.now;
      u = a.u.now;
      v = a.v.now;
      words = a.words.now;
      splits = a.splits.now;
      motion = a.motion.now;
      refs = a.refs.now;
      keep = a.keep.now;
      table0 = a.table0.now;
      table1 = a.table1.now;
      strengths = a.strengths.now;
      settings = a.settings;
    }

returns : tie.Need-returns
unfolding of
returns c = c.deblock_by_rows.ensures
    ∙ without (of c.before.before.before.before.before.before.before.before.before.before.before.before.before.before.before.before.before.before.before.before)

pub deblock_spec : {M : Type 1} → statement M
deblock_spec =
    tie.close
    (tie.spec
    (λ c. refl)
    (λ c κs. tt)
    (λ c. c.deblock_by_rows.auto.y)
    (λ c. c.deblock_by_rows.auto.u)
    (λ c. c.deblock_by_rows.auto.v)
    (λ c. c.deblock_by_rows.auto.words)
    returns)
