-- What deblocking does to the words: every unit is done after it and no other bit of a word moves; and which units were done before counts for nothing.
-- The proofs are `done_after` and `done_before`, in proofs/.
-- Assumes nothing: these are definitions.
use Rattle.std.specs.Prelude.{ℕ, ◌+◌, ◌≤◌, ◌<◌, true, List, ◌≡◌, length, get_or, Ok}
use Rattle.laws.specs.Bits.{field_of}
use Rattle.def.specs.Word.{done_of, with_done}
use Rattle.df.specs.Deblock.{Input, check, outcome}

-- of a call that is accepted
pub record DoneAfter (i : Input) : Type 0 where
  pub long : length (outcome i).words ≡ length i.words
  pub done : (k : ℕ) → k < length i.words → done_of (get_or (outcome i).words k 0) ≡ true
  -- done is bit 31, the highest: the m bits from place q on are as they were
  pub others : (k q m : ℕ) → k < length i.words → q + m ≤ 31 → field_of q m (get_or (outcome i).words k 0) ≡ field_of q m (get_or i.words k 0)

-- words that differ in done at most
pub record ButDone (l m : List ℕ) : Type 0 where
  pub long : length l ≡ length m
  pub same : (k : ℕ) → with_done (get_or l k 0) ≡ with_done (get_or m k 0)

-- the same call, lent other words
abbrev pub lent_words : Input → List ℕ → Input
lent_words i l =
    record {
      w = i.w;
      h = i.h;
      y = i.y;
      u = i.u;
      v = i.v;
      words = l;
      splits = i.splits;
      motion = i.motion;
      refs = i.refs;
      keep = i.keep;
      table0 = i.table0;
      table1 = i.table1;
      strengths = i.strengths;
      settings = i.settings;
    }

-- both calls are refused alike or neither is, and where neither is all that they leave is the same
pub record DoneBefore (i : Input) (l : List ℕ) : Type 0 where
  pub answer : check (lent_words i l) ≡ check i
  pub all : check i ≡ Ok tt → outcome (lent_words i l) ≡ outcome i
