-- What is proved of every picture that the driver finishes.
--     steps_asked    what each leaf asks of the state holds of the last
--     unit_told    each leaf of the list has told its units, by the record of its number
--     finished    the theorem
--     reconstructed    the same from an answer of 0 of the call
-- Assumes nothing.
use Rattle.std.specs.Prelude.{Ok, Err}
use Prim.Native.Nat.{ℕ, suc, ◌+◌, ◌*◌, ◌/◌, ◌%◌, ◌≤◌, ◌<◌}
use mathlib.Core.Path.{◌≡◌, refl, sym, ap, ◌∙◌, subst}
use mathlib.Core.Bool.{Bool, true, false}
use mathlib.Core.Logic.{⊎_elim}
use mathlib.Core.List.{List, [], ◌∷◌, Memᴰ}
use native.Mathlib.Nat.{add-zero, zero-add}
use native.Mathlib.Omega.{arith}
use borrow.Author.Tests.{le-leb, leb-true}
use lib.Dec.{leb}
use lib.ListN.{length, get_or}
use Rattle.laws.specs.Call.{Gives}
use Rattle.laws.specs.Index.{pick}
use Rattle.laws.specs.Orders.{Pairwise, run}
use Rattle.laws.specs.Plane.{within}
use Rattle.laws.proofs.Planes.{within_yes, within_low}
use Rattle.laws.proofs.ScanAll.{scan_pass}
use Rattle.laws.proofs.Scans.{scan_at}
use Rattle.def.specs.Blocks.{block_ok}
use Rattle.def.specs.Components.{plane_length}
use Rattle.def.specs.Formats.{in_format}
use Rattle.def.specs.Picture.{size_ok, unit_count}
use Rattle.def.specs.Word.{qp_of, done_of}
use Rattle.def.specs.Answers.{after_checks}
use Rattle.def.specs.Answers.{Answer}
use Rattle.def.proofs.Answers.{number_some}
use Rattle.def.specs.declared.Component.{Component}
use Rattle.def.specs.declared.Component.TheVariants.{Luma, Chroma}
use Rattle.def.specs.declared.Format.{Format}
use Rattle.def.specs.declared.Format.TheVariants.{Grey, Colour}
use Rattle.def.proofs.Sizes.{sized}
use Rattle.def.proofs.Words.{leaf_word_lem}
use Rattle.def.specs.Units.{unit_at}
use Rattle.samples.specs.Samples.{samples_ok}
use Rattle.samples.proofs.Samples.{samples_pass}
use Rattle.split.specs.Picture.{roots, root_walk}
use Rattle.split.specs.Tiling.{Holds}
use Rattle.split.specs.Walk.{Leaf, leaf}
use Rattle.split.proofs.Demand3.{demand_3}
use Rattle.split.proofs.Places.{Before, leaves_order}
use Rattle.split.proofs.Roots.{some_wide}
use Rattle.split.proofs.Walks.{each_done}
use Rattle.driver_rules.specs.Asked.{Small, DoneSmall, GivenAsked, StateAsked}
use Rattle.driver_rules.specs.Call.{Input, Outcome, check, leaves_of, start, end, refused, done, outcome}
use Rattle.driver_rules.specs.Finished.{Told, Finished}
use Rattle.driver_rules.specs.Records.{byte_at, record_qp, bytes_ok, word_at, mode_at, keep_at}
use Rattle.driver_rules.specs.Steps.{Given, State, with_units, step_at, step, steps}
use Rattle.driver_rules.proofs.Checks.{Passed, all_passed}
use Rattle.driver_rules.proofs.Lists.{leaf_block}
use Rattle.driver_rules.proofs.Small.{at_block, every_place, whole_as}
use Rattle.driver_rules.proofs.States.{step_asked}

-- ---- a unit of a map in which a leaf's units are told

module _ (w h : ℕ) (p : Leaf) (v₀ : ℕ) (l : List ℕ) (long : length l ≡ unit_count w h) (u v : ℕ) (cu : u < w / 4) (cv : v < h / 4) where
  abbrev after : ℕ
  after = unit_at w (with_units w (4 * p.x) (4 * p.y) (4 * p.side) v₀ l) u v

  -- the leaf's place in units
  place : (n : ℕ) → 4 * n / 4 ≡ n
  place n = omega arith

  told_as : after ≡ pick (within p.y p.side v) (pick (within p.x p.side u) v₀ (unit_at w l u v)) (unit_at w l u v)
  told_as =
      at_block 0 (w / 4) (h / 4) (4 * p.x / 4) (4 * p.y / 4) (4 * p.side / 4) (4 * p.side / 4) (λ (r c : ℕ). v₀) l long u v cu cv
      ∙ rw (place p.x, place p.y, place p.side)

  pub told_in : Holds p u v → after ≡ v₀
  told_in k = told_as ∙ rw (within_yes p.y p.side v k.top k.bottom, within_yes p.x p.side u k.left k.right)

  -- a leaf that comes after one that holds the unit does not hold it
  pub told_out : (q : Leaf) → Holds q u v → Before q p → after ≡ unit_at w l u v
  told_out q k b =
      ⊎_elim
      (λ (g : q.x + q.side ≤ p.x). told_as ∙ rw (within_low p.x p.side u (omega (arith, k.right))) (same (within p.y p.side v)))
      (λ (g : q.y + q.side ≤ p.y). told_as ∙ rw (within_low p.y p.side v (omega (arith, k.bottom))))
      b where
        same : (b : Bool) → pick b (unit_at w l u v) (unit_at w l u v) ≡ unit_at w l u v
        same true = refl
        same false = refl

-- ---- all leaves of a list

module _ (g : Given) (ga : GivenAsked g) where
  -- each of a list is a block of the picture
  abbrev pub Fits : List Leaf → Type 0
  Fits l = (p : Leaf) → Memᴰ p l → block_ok g.w g.h (4 * p.x) (4 * p.y) (4 * p.side) ≡ true

  pub steps_asked : (l : List Leaf) (s : State) → Fits l → StateAsked g s → StateAsked g (steps g l s)
  unfolding run
  steps_asked [] s f k = k
  steps_asked (p ∷ l) s f k =
      steps_asked l (step g p s) (λ q m. f q (Memᴰ.tail m)) (step_asked g (4 * p.x) (4 * p.y) (4 * p.side) s ga k (f p (Memᴰ.head refl)))

  module _ (u v : ℕ) (cu : u < g.w / 4) (cv : v < g.h / 4) where
    abbrev word : State → ℕ
    word s = unit_at g.w s.words u v

    abbrev mode : State → ℕ
    mode s = unit_at g.w s.modes u v

    abbrev mark : State → ℕ
    mark s = unit_at g.w s.keep u v

    -- what leaves that come after the unit's own do not change
    kept : (q : Leaf) (l : List Leaf) (s : State) → Holds q u v → ((p : Leaf) → Memᴰ p l → Before q p) → Fits l → StateAsked g s
        → (word (steps g l s) ≡ word s) × (mode (steps g l s) ≡ mode s) × (mark (steps g l s) ≡ mark s)
    unfolding run step_at
    kept q [] s k b f a = (refl, refl, refl)
    kept q (p ∷ l) s k b f a =
        let next = step_asked g (4 * p.x) (4 * p.y) (4 * p.side) s ga a (f p (Memᴰ.head refl)) in
        let r = kept q l (step g p s) k (λ i m. b i (Memᴰ.tail m)) (λ i m. f i (Memᴰ.tail m)) next in
        let h = b p (Memᴰ.head refl) in (
          r.0 ∙ told_out g.w g.h p (word_at g.leaves s.place.k) s.words a.words_long u v cu cv q k h,
          r.1 ∙ told_out g.w g.h p (mode_at g.leaves s.place.k) s.modes a.modes_long u v cu cv q k h,
          r.2 ∙ told_out g.w g.h p (keep_at g.leaves s.place.k) s.keep a.keep_long u v cu cv q k h,
        )

    -- the leaf of a list that holds the unit, by its number
    pub record Numbered (k : ℕ) (l : List Leaf) (s : State) : Type 0 where
      pub number : ℕ
      pub early : number < length l
      pub holds : Holds (get_or l number (leaf 0 0 0)) u v
      pub the_word : word s ≡ word_at g.leaves (k + number)
      pub the_mode : mode s ≡ mode_at g.leaves (k + number)
      pub the_mark : mark s ≡ keep_at g.leaves (k + number)

    pub unit_told : (q : Leaf) (l : List Leaf) (s : State) → Memᴰ q l → Holds q u v → Pairwise Before l → Fits l → StateAsked g s → Numbered s.place.k l (steps g l s)
    unfolding run step_at
    unit_told q [] s x5 k b f a = elim x5 [ ]
    unit_told q (p ∷ l) s (Memᴰ.head e) k b f a =
        let mine = subst (λ (r : Leaf). Holds r u v) e k in
        let next = step_asked g (4 * p.x) (4 * p.y) (4 * p.side) s ga a (f p (Memᴰ.head refl)) in
        let r = kept p l (step g p s) mine b.0 (λ i m. f i (Memᴰ.tail m)) next in
        let z = add-zero s.place.k in
        record {
          number = 0;
          early = omega arith;
          holds = mine;
          the_word = r.0 ∙ told_in g.w g.h p (word_at g.leaves s.place.k) s.words a.words_long u v cu cv mine ∙ ap (word_at g.leaves) (sym z);
          the_mode = r.1 ∙ told_in g.w g.h p (mode_at g.leaves s.place.k) s.modes a.modes_long u v cu cv mine ∙ ap (mode_at g.leaves) (sym z);
          the_mark = r.2 ∙ told_in g.w g.h p (keep_at g.leaves s.place.k) s.keep a.keep_long u v cu cv mine ∙ ap (keep_at g.leaves) (sym z);
        }
    unit_told q (p ∷ l) s (Memᴰ.tail m) k b f a =
        let next = step_asked g (4 * p.x) (4 * p.y) (4 * p.side) s ga a (f p (Memᴰ.head refl)) in
        let r = unit_told q l (step g p s) m k b.1 (λ i j. f i (Memᴰ.tail j)) next in
        let e : s.place.k + 1 + r.number ≡ s.place.k + suc r.number = omega arith in
        record {
          number = suc r.number;
          early = omega (arith, r.early);
          holds = r.holds;
          the_word = r.the_word ∙ ap (word_at g.leaves) e;
          the_mode = r.the_mode ∙ ap (mode_at g.leaves) e;
          the_mark = r.the_mark ∙ ap (keep_at g.leaves) e;
        }

-- ---- a plane all of whose units are done

plane_small : (c : Component) (w h : ℕ) (plane words : List ℕ) → size_ok w h ≡ true → length plane ≡ plane_length c w h → DoneSmall c w h plane words
    → ((u v : ℕ) → u < w / 4 → v < h / 4 → done_of (unit_at w words u v) ≡ true) → samples_ok plane ≡ true
plane_small c w h plane words s long d all = samples_pass plane (λ k p. whole_as c w h Small plane plane words s d all k (rw long at p))

-- U or V: in a grey picture there is no sample
colour_small : (f : Format) (w h : ℕ) (plane words : List ℕ) → size_ok w h ≡ true → length plane ≡ in_format f (plane_length Chroma w h) → DoneSmall Chroma w h plane words
    → ((u v : ℕ) → u < w / 4 → v < h / 4 → done_of (unit_at w words u v) ≡ true) → samples_ok plane ≡ true
colour_small Grey w h plane words s long d all = samples_pass plane (λ k p. absurd (omega (arith, long, p)))
colour_small Colour w h plane words s long d all = plane_small Chroma w h plane words s long d all

-- ---- the theorem

module _ (i : Input) (accepted : check i ≡ Ok tt) where
  abbrev p : Passed i
  p = all_passed i accepted

  abbrev w : ℕ
  w = i.given.w

  abbrev h : ℕ
  h = i.given.h

  abbrev l : List Leaf
  l = leaves_of w h i.splits

  fine : (j : ℕ) → j < roots (w / 4) (h / 4) → (root_walk i.splits (w / 4) (h / 4) j).answer ≡ Ok tt
  fine = each_done (root_walk i.splits (w / 4) (h / 4)) (roots (w / 4) (h / 4)) p.accepted.walked

  some : 1 ≤ w / 4
  some = some_wide (sized w h p.accepted.size)

  pub fits : (q : Leaf) → Memᴰ q l → block_ok w h (4 * q.x) (4 * q.y) (4 * q.side) ≡ true
  fits q m =
      let a = (demand_3 false i.splits (w / 4) (h / 4) some p.accepted.walked).aligned q m in
      let x : 4 * q.x / 4 ≡ q.x = omega arith in
      let y : 4 * q.y / 4 ≡ q.y = omega arith in
      leaf_block w h a.log (4 * q.x) (4 * q.y) (4 * q.side) a.small (omega arith) (omega arith)
      (rw (x, ← a.power) a.column) (rw (y, ← a.power) a.row) (ap (λ (n : ℕ). 4 * n) a.power) (rw (x, ← a.power) a.right) (rw (y, ← a.power) a.bottom)

  pub last : StateAsked i.given (end i)
  last = steps_asked i.given p.given l (start i) fits p.state

  units : (u v : ℕ) → u < w / 4 → v < h / 4 → Told w i.given.leaves l (end i).words (end i).modes (end i).keep u v
  units u v cu cv =
      let t = (demand_3 false i.splits (w / 4) (h / 4) some p.accepted.walked).tiles u v cu cv in
      let n = unit_told i.given p.given u v cu cv t.one l (start i) t.listed t.holds (leaves_order i.splits (w / 4) (h / 4) some fine) fits p.state in
      let word = n.the_word ∙ ap (word_at i.given.leaves) (zero-add n.number) in
      record {
        number = n.number;
        early = n.early;
        holds = n.holds;
        word = word;
        mode = n.the_mode ∙ ap (mode_at i.given.leaves) (zero-add n.number);
        kept = n.the_mark ∙ ap (keep_at i.given.leaves) (zero-add n.number);
        done = ap done_of word ∙ (leaf_word_lem _ _ _).done_bit;
      }

  pub all_done_lem : (u v : ℕ) → u < w / 4 → v < h / 4 → done_of (unit_at w (end i).words u v) ≡ true
  all_done_lem u v cu cv = (units u v cu cv).done

  -- the QP of a leaf's record
  record-qp : (k : ℕ) → k < length l → record_qp i.given.leaves k ≤ 51
  unfolding bytes_ok
  record-qp k q = leb-true _ _ (scan_at (λ (j : ℕ). leb (byte_at i.given.leaves j 1) 51) (length l) k q p.qps)

  word_qp : (k : ℕ) → k < w / 4 * (h / 4) → qp_of (get_or (end i).words k 0) ≤ 51
  word_qp =
      every_place (w / 4) (h / 4) some (λ (k : ℕ). qp_of (get_or (end i).words k 0) ≤ 51)
      (λ u v cu cv.
      let t = units u v cu cv in
      let f : qp_of (unit_at w (end i).words u v) ≡ record_qp i.given.leaves t.number % 128 = ap qp_of t.word ∙ (leaf_word_lem _ _ _).qp_bits in
      omega (arith, f, record-qp t.number t.early))

  -- the keep byte of a leaf's record
  record-keep : (k : ℕ) → k < length l → keep_at i.given.leaves k ≤ 1
  unfolding bytes_ok
  record-keep k q = leb-true _ _ (scan_at (λ (j : ℕ). leb (byte_at i.given.leaves j 3) 1) (length l) k q p.spares)

  unit_keep : (k : ℕ) → k < w / 4 * (h / 4) → get_or (end i).keep k 0 ≤ 1
  unit_keep =
      every_place (w / 4) (h / 4) some (λ (k : ℕ). get_or (end i).keep k 0 ≤ 1)
      (λ u v cu cv. let t = units u v cu cv in omega (arith, t.kept, record-keep t.number t.early))

  pub finished : Finished i
  finished =
      record {
        y_small = plane_small Luma w h _ _ p.accepted.size last.y_long last.y_done all_done_lem;
        u_small = colour_small i.given.format w h _ _ p.accepted.size last.u_long last.u_done all_done_lem;
        v_small = colour_small i.given.format w h _ _ p.accepted.size last.v_long last.v_done all_done_lem;
        units = units;
        qps = scan_pass _ (length (end i).words) (λ k q. le-leb _ _ (word_qp k (rw last.words_long at q)));
        keeps = scan_pass _ (length (end i).keep) (λ k q. le-leb _ _ (unit_keep k (rw last.keep_long at q)));
      }

-- ---- what a caller learns from an answer of 0

pub record Reconstructed (i : Input) (o : Outcome) : Type 0 where
  pub made : o ≡ done i
  pub whole : Finished i

told_by_lem : (i : Input) (o : Outcome) (k : Answer) → check i ≡ k → o ≡ after_checks (refused i) (done i) k → o.number ≡ 0 → Reconstructed i o
told_by_lem i o (Ok _) e g n = record { made = g; whole = finished i e }
told_by_lem i o (Err r) e g n = absurd (omega (arith, number_some r, ap (λ (q : Outcome). q.number) g))

pub reconstructed : (i : Input) (o : Outcome) → Gives outcome i o → o.number ≡ 0 → Reconstructed i o
unfolding outcome
reconstructed i o g n = told_by_lem i o (check i) refl g n
