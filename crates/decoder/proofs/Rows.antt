-- The calls of the map of edge rows: of each NAME-once and NAME-refusals, as in `Promises`; an input that each accepts; and what is proved of every such map.
-- Assumes nothing.
use Prim.Native.Nat.{ℕ}
use mathlib.Core.Path.{◌≡◌, refl, sym, ◌∙◌}
use mathlib.Core.Bool.{true}
use mathlib.Core.List.{List, [], ◌∷◌}
use lib.IntN.{pos, negsuc}
use lib.ListN.{length, replicate}
use Rattle.def.specs.Answers.{answer_number}
use Rattle.def.specs.Blocks.{unit_ok}
use Rattle.def.specs.Picture.{size_ok}
use Rattle.def.specs.Answers.{Answer}
use Rattle.def.specs.declared.Refusal.TheVariants.{Size, Length, Block}
use Rattle.def.proofs.Answers.{answer_apart}
use Rattle.line.specs.declared.Motion.{Motion}
use Rattle.rows_rules.specs.Checks.{lengths_ok, check_maps, check_unit}
use Rattle.rows_rules.specs.FillCall as fill
use Rattle.rows_rules.specs.MotionCall as move
use Rattle.unit_edits.specs.FlagCall as flag
use Rattle.unit_edits.specs.declared.Flag.TheVariants.{Coded}
use Rattle.rows_laws.specs.Held.{Kept}
use Rattle.rows_laws.proofs.Held.{kept}
use Rattle.decoder.specs.Promise.{ended, Sole, Refuses}
use Rattle.decoder.proofs.Settled.{settled}
use Rattle.decoder.proofs.Refusing.{Stops, last, rung, by_checks}
use Rattle.decoder.proofs.checked_maps.Kinds as checked-maps-kinds
use Rattle.decoder.proofs.checked_maps.Reads as checked-maps-reads
use Rattle.decoder.proofs.fill_rows.Kinds as fill-rows-kinds
use Rattle.decoder.proofs.fill_rows.Reads as fill-rows-reads
use Rattle.decoder.proofs.set_motion.Kinds as set-motion-kinds
use Rattle.decoder.proofs.set_motion.Reads as set-motion-reads
use Rattle.decoder.proofs.set_flag.Kinds as set-flag-kinds
use Rattle.decoder.proofs.set_flag.Reads as set-flag-reads

-- ---- the maps checked

pub checked_maps_once : Sole 0 checked-maps-kinds.ps checked-maps-kinds.r checked-maps-reads.Post (λ κs r x. r)
checked_maps_once κs a r r' x x' p q = p ∙ sym q

maps_stop : (w h words motion refs rows : ℕ) → Stops (Size ∷ Length ∷ []) (check_maps w h words motion refs rows)
unfolding check_maps
maps_stop w h words motion refs rows = rung (size_ok w h) Size _ (rung (lengths_ok w h words motion refs rows) Length _ last)

-- a picture's size, and the lengths of its maps
record Maps : Type 0 where
  w : ℕ
  h : ℕ
  words : ℕ
  motion : ℕ
  refs : ℕ
  rows : ℕ

abbrev checking : Maps → Answer
checking m = check_maps m.w m.h m.words m.motion m.refs m.rows

abbrev one_unit : ℕ → ℕ → Maps
one_unit side rows = record { w = side; h = side; words = 1; motion = 4; refs = 2; rows = rows }

pub checked_maps_refusals : Refuses checking answer_number (Size ∷ Length ∷ [])
unfolding check_maps lengths_ok size_ok
checked_maps_refusals =
    record { only = λ m. (maps_stop m.w m.h m.words m.motion m.refs m.rows).by; shown = one_unit 0 0 ∷ one_unit 4 0 ∷ []; given = refl }

-- ---- the map filled

pub fill_rows_once : Sole 4 fill-rows-kinds.ps fill-rows-kinds.r fill-rows-reads.Post (λ κs r x. ended r (x.1.1.1.1.1.0.now ∷ []))
fill_rows_once κs a r r' x x' p q = settled fill.outcome (λ o. o.number) (λ o. o.rows ∷ []) p q (answer_apart r r')

-- the maps of one unit, with a map of edge rows
abbrev filling : ℕ → List ℕ → fill.Input
filling side rows = record { w = side; h = side; words = 0 ∷ []; motion = replicate 4 (pos 0); refs = replicate 2 (pos 0); rows = rows }

pub fill_rows_refusals : Refuses fill.outcome (λ o. o.number) (Size ∷ Length ∷ [])
unfolding fill.outcome check_maps lengths_ok size_ok
fill_rows_refusals =
    record {
      only = λ i.
          by_checks (λ o. o.number) (fill.refused i) (fill.done i) (Size ∷ Length ∷ []) (fill.check i) (λ r. refl) refl
          (maps_stop i.w i.h (length i.words) (length i.motion) (length i.refs) (length i.rows));
      shown = filling 0 [] ∷ filling 4 [] ∷ [];
      given = refl;
    }

-- ---- a unit edited

unit_stops : (w h words motion refs rows x y : ℕ) → Stops (Size ∷ Length ∷ Block ∷ []) (check_unit w h words motion refs rows x y)
unfolding check_unit
unit_stops w h words motion refs rows x y =
    rung (size_ok w h) Size _
    (rung (lengths_ok w h words motion refs rows) Length _
    (rung (unit_ok w h x y) Block _ last))

pub set_motion_once : Sole 4 set-motion-kinds.ps set-motion-kinds.r set-motion-reads.Post
    (λ κs r x. ended (ended r (x.1.1.1.1.1.1.1.1.0.now ∷ [])) (x.1.1.1.1.1.1.0.now ∷ x.1.1.1.1.1.1.1.0.now ∷ []))
set_motion_once κs a r r' x x' p q =
    settled move.outcome (λ o. o) (λ o. o.motion ∷ o.refs ∷ []) p q
    (λ e. settled move.outcome (λ o. o.number) (λ o. o.rows ∷ []) p q (answer_apart r r'))

abbrev still : Motion
still = record { refi0 = negsuc 0; refi1 = negsuc 0; x0 = pos 0; y0 = pos 0; x1 = pos 0; y1 = pos 0 }

abbrev moving : ℕ → List ℕ → ℕ → move.Input
moving side rows x = record { w = side; h = side; x = x; y = 0; moved = still; words = 0 ∷ []; motion = replicate 4 (pos 0); refs = replicate 2 (pos 0); rows = rows }

pub set_motion_refusals : Refuses move.outcome (λ o. o.number) (Size ∷ Length ∷ Block ∷ [])
unfolding move.outcome check_unit lengths_ok size_ok unit_ok
set_motion_refusals =
    record {
      only = λ i.
          by_checks (λ o. o.number) (move.refused i) (move.done i) (Size ∷ Length ∷ Block ∷ []) (move.check i) (λ r. refl) refl
          (unit_stops i.w i.h (length i.words) (length i.motion) (length i.refs) (length i.rows) i.x i.y);
      shown = moving 0 [] 1 ∷ moving 4 [] 1 ∷ moving 4 (0 ∷ []) 1 ∷ [];
      given = refl;
    }

pub set_flag_once : Sole 4 set-flag-kinds.ps set-flag-kinds.r set-flag-reads.Post (λ κs r x. ended r (x.1.1.1.1.1.1.0.now ∷ x.1.1.1.1.1.1.1.1.1.0.now ∷ []))
set_flag_once κs a r r' x x' p q = settled flag.outcome (λ o. o.number) (λ o. o.words ∷ o.rows ∷ []) p q (answer_apart r r')

abbrev flagging : ℕ → List ℕ → ℕ → flag.Input
flagging side rows x =
    record { w = side; h = side; x = x; y = 0; flag = Coded; on = true; words = 0 ∷ []; motion = replicate 4 (pos 0); refs = replicate 2 (pos 0); rows = rows }

pub set_flag_refusals : Refuses flag.outcome (λ o. o.number) (Size ∷ Length ∷ Block ∷ [])
unfolding flag.outcome check_unit lengths_ok size_ok unit_ok
set_flag_refusals =
    record {
      only = λ i.
          by_checks (λ o. o.number) (flag.refused i) (flag.done i) (Size ∷ Length ∷ Block ∷ []) (flag.check i) (λ r. refl) refl
          (unit_stops i.w i.h (length i.words) (length i.motion) (length i.refs) (length i.rows) i.x i.y);
      shown = flagging 0 [] 1 ∷ flagging 4 [] 1 ∷ flagging 4 (0 ∷ []) 1 ∷ [];
      given = refl;
    }

-- ---- none of them refuses always

pub accepted : (fill.outcome (filling 4 (0 ∷ []))).number ∷ (move.outcome (moving 4 (0 ∷ []) 0)).number ∷ (flag.outcome (flagging 4 (0 ∷ []) 0)).number ∷ [] ≡ replicate 3 0
unfolding fill.outcome move.outcome flag.outcome check_maps check_unit lengths_ok size_ok unit_ok
accepted = refl

-- ---- every map: filled it is right, and edits keep it right

pub rows_kept : (w h : ℕ) → Kept w h
rows_kept = kept
