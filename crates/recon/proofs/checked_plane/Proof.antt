-- `recon::checked_plane` meets its contract: a row of checks. `past-K` is what check K, passed, leaves of the row. Assumes nothing.
use Rattle.std.specs.Prelude.{Ok, Err}
use Prim.Native.Nat.{◌/◌}
use mathlib.Core.Path.{◌≡◌, refl, sym, ◌∙◌}
use borrow.Author.Rules.{rules}
use lib.Dec.{eqb}
use lib.ListN.{length}
use Rattle.laws.specs.Call.{unless}
use Rattle.laws.proofs.Calls.{stops, goes_on}
use Rattle.def.specs.Blocks.{block_ok}
use Rattle.def.specs.Components.{scale_of, plane_length}
use Rattle.def.specs.Answers.{Answer}
use Rattle.def.specs.declared.Refusal.TheVariants.{Length, Block, Sample}
use Rattle.def.proofs.Blocks.{blocked}
use Rattle.def.proofs.Sizes.{sized}
use Rattle.samples.specs.Samples.{samples_ok}
use Rattle.recon.specs.Plane.{block_lengths_ok, plane_check}
use Rattle.recon.proofs.checked_plane.Statement.{statement}
use Rattle.recon.proofs.checked_plane.Tie as tie

-- the row, and what is left of it after each check
abbrev all : tie.Start → Answer
all s = let a = s.args in plane_check a.component a.w a.h a.x.0 a.y.0 a.side a.pred.now a.coef a.rec

abbrev after4 : tie.Start → Answer
after4 s = unless (samples_ok s.args.pred.now) (Err Sample) (Ok tt)

abbrev after3 : tie.Start → Answer
after3 s = let a = s.args in unless (block_lengths_ok (a.side / scale_of a.component) (length a.pred.now) a.coef) (Err Length) (after4 s)

abbrev after2 : tie.Start → Answer
after2 s = let a = s.args in unless (block_ok a.w a.h a.x.0 a.y.0 a.side) (Err Block) (after3 s)

abbrev after1 : tie.Start → Answer
after1 s = let a = s.args in unless (eqb a.rec (plane_length a.component a.w a.h)) (Err Length) (after2 s)

past1 : (c : tie.Else-not-size_ok) (x : Answer) → x ≡ after1 c.before.before.before → x ≡ all c.before.before.before
unfolding plane_check
past1 c x p = goes_on _ _ _ _ x c.size_ok.ensures c.if-not-size_ok.false-raw p

past2 : (c : tie.Else-not-plane_length_ok) (x : Answer) → x ≡ after2 c.before.before.before.before.before → x ≡ all c.before.before.before.before.before
past2 c x p = past1 c.before.before x (goes_on _ _ _ _ x c.plane_length_ok.ensures c.if-not-plane_length_ok.false-raw p)

past3 : (c : tie.Else-not-block_ok) (x : Answer) → x ≡ after3 c.before.before.before.before.before.before.before → x ≡ all c.before.before.before.before.before.before.before
past3 c x p = past2 c.before.before x (goes_on _ _ _ _ x c.block_ok.ensures c.if-not-block_ok.false-raw p)

past4 : (c : tie.Else-not-block_lengths_ok) (x : Answer) → x ≡ after4 c.before.before.before.before.before.before.before.before.before
    → x ≡ all c.before.before.before.before.before.before.before.before.before
past4 c x p = past3 c.before.before x (goes_on _ _ _ _ x c.block_lengths_ok.ensures c.if-not-block_lengths_ok.false-raw p)

returns : tie.Need-returns-then-not-size_ok
unfolding plane_check
returns c = stops _ _ _ _ c.size_ok.ensures c.if-not-size_ok.true-raw

plane_length_ok_requires : tie.Need-plane_length_ok-requires
plane_length_ok_requires c κs =
    let s = sized _ _ (sym c.size_ok.ensures ∙ c.if-not-size_ok.false) in
    (s.wide, s.high)

returns-2 : tie.Need-returns-then-not-plane_length_ok
returns-2 c = past1 c.before.before _ (stops _ _ _ _ c.plane_length_ok.ensures c.if-not-plane_length_ok.true-raw)

returns-3 : tie.Need-returns-then-not-block_ok
returns-3 c = past2 c.before.before _ (stops _ _ _ _ c.block_ok.ensures c.if-not-block_ok.true-raw)

block_lengths_ok_requires : tie.Need-block_lengths_ok-requires
block_lengths_ok_requires c κs = (blocked _ _ _ _ _ (sym c.block_ok.ensures ∙ c.if-not-block_ok.false)).most

returns-4 : tie.Need-returns-then-not-block_lengths_ok
returns-4 c = past3 c.before.before _ (stops _ _ _ _ c.block_lengths_ok.ensures c.if-not-block_lengths_ok.true-raw)

returns-5 : tie.Need-returns-then-not-samples_ok
returns-5 c = past4 c.before.before _ (stops _ _ _ _ c.samples_ok.ensures c.if-not-samples_ok.true-raw)

returns-6 : tie.Need-returns
returns-6 c = past4 c.before.before _ (goes_on _ _ _ _ _ c.samples_ok.ensures c.if-not-samples_ok.false-raw refl)

pub checked_plane_spec : {M : Type 1} → statement M
checked_plane_spec =
    tie.close
    (tie.spec (λ c κs. search rules) returns plane_length_ok_requires returns-2 (λ c κs. search rules) returns-3
    block_lengths_ok_requires returns-4 (λ c κs. search rules) returns-5 returns-6)
