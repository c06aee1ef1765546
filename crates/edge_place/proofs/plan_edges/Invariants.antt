-- After k turns the first k edges are planned: the place of each one's strength, and its keep marks. Assumes nothing.
use Prim.Native.Nat.{◌-◌, ◌≤◌}
use Rattle.laws.proofs.Fill.{Upto}
use Rattle.edge_place.specs.Plans.{Input, planned_place, planned_marks}
use Rattle.split.specs.Edges.{pass_of}
use Rattle.edge_place.proofs.plan_edges.Given as goal

abbrev pub invariant-loop-k : goal.invariant-loop-k
invariant-loop-k l =
    let i : Input =
    record {
      pass = pass_of l.horizontal;
      columns = l.columns;
      words = l.words;
      motion = l.motion;
      refs = l.refs;
      keep = l.keep;
      rows = l.rows;
      list = l.list;
      n = l.n;
    } in
    (l.k ≤ l.edges) × Upto 0 (planned_place i) l.initial.places l.places l.k × Upto 0 (planned_marks i) l.initial.marks l.marks l.k

abbrev pub decreases-loop-k : goal.decreases-loop-k
decreases-loop-k l = l.edges - l.k
