-- No call over the tree reads another byte: its outcome is the same for two maps, of one length, that agree where the walk of the first reaches.
--     check_same, edges_same    over a picture: `check`, `list_edges`
--     leaves_same, root_same    over a root: `leaves`, `root_list`
--     after_same    a call whose checks answer alike, and whose rule gives alike where they pass
-- `deblock` and `reconstruct` are in `decoder`.
-- Assumes nothing.
use Rattle.std.specs.Prelude.{Ok, Err}
use Prim.Native.Nat.{ℕ, ◌+◌, ◌/◌}
use mathlib.Core.Bool.{Bool}
use mathlib.Core.List.{List, map}
use mathlib.Core.Path.{◌≡◌, refl, ap, ap₂}
use lib.Dec.{eqb, leb}
use lib.ListN.{length}
use lib.Seq.{sets}
use Rattle.def.specs.Answers.{after_checks}
use Rattle.def.specs.Picture.{size_ok}
use Rattle.def.specs.Answers.{Answer}
use Rattle.def.specs.declared.Refusal.{Refusal}
use Rattle.def.specs.declared.Refusal.TheVariants.{Size, Length, Setting, Block}
use Rattle.laws.specs.Call.{unless}
use Rattle.laws.specs.Orders.{each}
use Rattle.split.specs.CheckCall as check
use Rattle.split.specs.LeavesCall as leaves
use Rattle.split.specs.ListCall as list
use Rattle.split.specs.RootCall as root
use Rattle.split.specs.Edges.{Edge, vertical, horizontal, edges_of, edge_numbers, pass_of}
use Rattle.split.specs.Picture.{root_walk, picture_walk}
use Rattle.split.specs.Stored.{leaf_numbers}
use Rattle.split.specs.Walk.{Leaf, Walk}
use Rattle.split.proofs.Outcomes.{past}
use Rattle.reach_rules.specs.Reached.{root_reached, picture_reached, AgreeAt, SameTree}
use Rattle.reach_rules.proofs.Reached.{same_root, same_tree}

pub after_same : {O : Type 0} (stop : Refusal → O) (d d' : O) (a a' : Answer) → a' ≡ a → (a ≡ Ok tt → d' ≡ d) → after_checks stop d' a' ≡ after_checks stop d a
after_same stop d d' (Ok _) a' e f = rw e (f refl)
after_same stop d d' (Err r) a' e f = rw e

-- ---- over a picture

abbrev checking : (w h : ℕ) → List ℕ → check.Input
checking w h s = record { w = w; h = h; splits = s }

pub check_same : (w h : ℕ) (s t : List ℕ) → length t ≡ length s → AgreeAt (picture_reached s (w / 4) (h / 4)) s t → check.outcome (checking w h t) ≡ check.outcome (checking w h s)
unfolding check.outcome check.check
check_same w h s t n o = rw (n, (same_tree s t (w / 4) (h / 4) o).walk)

module _ (i : list.Input) (t : List ℕ) (n : length t ≡ length i.splits) (o : AgreeAt (picture_reached i.splits (i.w / 4) (i.h / 4)) i.splits t) where
  abbrev listing : list.Input
  listing = record { w = i.w; h = i.h; splits = t; limit = i.limit; vertical = i.vertical; horizontal = i.horizontal }

  tree : SameTree i.splits t (i.w / 4) (i.h / 4)
  tree = same_tree i.splits t (i.w / 4) (i.h / 4) o

  -- the checks, by the map's length and the walk's answer
  abbrev list_checks : ℕ → Answer → Answer
  list_checks m a =
      unless (size_ok i.w i.h) (Err Size)
      (unless (list.lengths_ok i.w i.h m (length i.vertical) (length i.horizontal)) (Err Length)
      (unless (list.limit_ok i.limit) (Err Setting) a))

  walked : list.check i ≡ Ok tt → (picture_walk i.splits (i.w / 4) (i.h / 4)).answer ≡ Ok tt
  unfolding list.check_of
  walked e =
      let lengths = list.lengths_ok i.w i.h (length i.splits) (length i.vertical) (length i.horizontal) in
      (past (list.limit_ok i.limit) Setting _ (past lengths Length _ (past (size_ok i.w i.h) Size _ e).1).1).1

  -- the two lists, by the leaves
  abbrev written : List Leaf → list.Outcome
  written l =
      let v = edges_of vertical (eqb i.limit 5) l in
      let h = edges_of horizontal (eqb i.limit 5) l in
      list.after (Ok (record { vertical = length v; horizontal = length h })) (sets i.vertical 0 (each edge_numbers v)) (sets i.horizontal 0 (each edge_numbers h))

  pub edges_same : list.outcome listing ≡ list.outcome i
  unfolding list.outcome list.check_of
  edges_same =
      after_same (list.refused i) (list.done i) (list.done listing) (list.check i) (list.check listing)
      (ap₂ list_checks n (ap (λ (v : Walk). v.answer) tree.walk))
      (λ e. ap written (tree.leaves (walked e)))

-- ---- over a root

module _ (w h : ℕ) (s t : List ℕ) (x y : ℕ) (n : length t ≡ length s) (o : AgreeAt (root_reached s (w / 4) (h / 4) (leaves.root_index w x y)) s t) where
  root_walk_lem : root_walk t (w / 4) (h / 4) (leaves.root_index w x y) ≡ root_walk s (w / 4) (h / 4) (leaves.root_index w x y)
  root_walk_lem = same_root s t (w / 4) (h / 4) (leaves.root_index w x y) o

  checks_same : (out : ℕ) → leaves.check_of w h t x y out ≡ leaves.check_of w h s x y out
  unfolding leaves.check_of
  checks_same out =
      ap₂ (λ (m : ℕ) (a : Answer). unless (size_ok w h) (Err Size) (unless (leaves.lengths_ok w h m out) (Err Length) (unless (leaves.root_ok w h x y) (Err Block) a)))
      n (ap (λ (v : Walk). v.answer) root_walk_lem)

  abbrev leaving : List ℕ → List ℕ → leaves.Input
  leaving z out = record { w = w; h = h; splits = z; x = x; y = y; out = out }

  pub leaves_same : (out : List ℕ) → leaves.outcome (leaving t out) ≡ leaves.outcome (leaving s out)
  unfolding leaves.outcome
  leaves_same out =
      after_same (leaves.refused (leaving s out)) (leaves.done (leaving s out)) (leaves.done (leaving t out)) (leaves.check (leaving s out)) (leaves.check (leaving t out))
      (checks_same (length out))
      (λ e. ap (λ (v : Walk). leaves.after (Ok (length v.list)) (sets out 0 (each leaf_numbers v.list))) root_walk_lem)

  abbrev root_listing : List ℕ → (horizontal halved : Bool) (top : ℕ) → List ℕ → root.Input
  root_listing z d halved top out = record { w = w; h = h; splits = z; x = x; y = y; horizontal = d; halved = halved; top = top; out = out }

  pub root_same : (d halved : Bool) (top : ℕ) (out : List ℕ) → root.outcome (root_listing t d halved top out) ≡ root.outcome (root_listing s d halved top out)
  unfolding root.outcome root.check_of
  root_same d halved top out =
      let i = root_listing s d halved top out in
      let j = root_listing t d halved top out in
      after_same (root.refused i) (root.done i) (root.done j) (root.check i) (root.check j)
      (ap (λ (a : Answer). unless (size_ok w h) (Err Size) (unless (leb (top + h / 4) 1024) (Err Size) (unless (eqb (length out) 512) (Err Length) a))) (checks_same 768))
      (λ e. ap (λ (v : Walk). listed (edges_of (pass_of d) halved (map (root.leaf_down top) v.list))) root_walk_lem)
    where
      listed : List Edge → leaves.Outcome
      listed l = leaves.after (Ok (length l)) (sets out 0 (each edge_numbers l))
