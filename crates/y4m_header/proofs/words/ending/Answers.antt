-- What the header has to say, or what is missing. Assumes nothing.
use Rattle.std.proofs.Common.{refl, ◌&&◌, is_some}
use Rattle.laws.proofs.Bools.{and_false}
use Rattle.y4m_header.proofs.Lines.{ending_whole, ending_missing}
use Rattle.y4m_header.proofs.words.ending.Goals as goal
use Rattle.y4m_header.proofs.words.ending.Goals.{in_default-via-in-Some+in-Some-said-2+else-said, in_default-via-in-Some+in_default, in_default-via-in_default}

pub returns-in_default : goal.returns-in_default
returns-in_default c =
    rw c.malformed.ensures
    (elim c.in_default.branch [
      | in_default-via-in-Some+in-Some-said-2+else-said w ↦ ending_missing c.args.said c.args.at (rw (w.if-said-1.false) (and_false (is_some c.args.said.w && is_some c.args.said.h) _ refl))
      | in_default-via-in-Some+in_default w ↦ ending_missing c.args.said c.args.at (rw (w.in_default.is-0, w.in_default.is-1))
      | in_default-via-in_default w ↦ ending_missing c.args.said c.args.at (rw w.in_default.is-0)
    ])

pub returns : goal.returns
returns c =
    let s = c.in-Some-Some-true in
    rw (c.unwrap_or-f.ensures, c.unwrap_or-a.ensures)
    (ending_whole c.args.said c.args.at s.w s.h s.is-0 s.is-1 s.is-2)
