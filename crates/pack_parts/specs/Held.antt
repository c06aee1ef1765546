-- What a writer is once a map is written, and a reader once one is read. `at_last x l` is the reference x at the list l.
-- Assumes nothing: these are definitions.
use Rattle.std.specs.Prelude.{List, ℕ}
use denote.Ref.{at_last}
use Rattle.pack_rules.specs.GetCall as get-call
use Rattle.pack_rules.specs.PutCall as put-call
use Rattle.pack_parts.specs.declared.Reader.{Reader}
use Rattle.pack_parts.specs.declared.Writer.{Writer}

-- what `put_map` comes to over the writer's part and position
abbrev pub written : Writer → (w h : ℕ) → List ℕ → put-call.Outcome
written x w h s = put-call.outcome (record { w = w; h = h; splits = s; buf = x.buf.now; at = x.at })

abbrev pub wrote : Writer → (w h : ℕ) → List ℕ → Writer
wrote x w h s = record { buf = at_last x.buf (written x w h s).buf; at = (written x w h s).at }

-- what `get_map` comes to over the reader's part and position
abbrev pub taken : Reader → (w h : ℕ) → List ℕ → get-call.Outcome
taken x w h m = get-call.outcome (record { w = w; h = h; src = x.src.now; at = x.at; map = m })

abbrev pub passed : Reader → (w h : ℕ) → List ℕ → Reader
passed x w h m = record { src = x.src; at = (taken x w h m).at }
