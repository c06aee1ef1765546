-- `df::passes_by` meets its contract: the vertical pass, then the horizontal over what it left; then every unit is done. Assumes nothing.
use Prim.Native.Nat.{ℕ, ◌*◌, ◌/◌, ◌≤◌}
use mathlib.Core.Path.{◌∙◌}
use native.Mathlib.Nat.{add-mul, mul-le-mul_right, le_refl}
use native.Mathlib.Omega.{arith}
use mir.Syntax.{w64}
use mir.Val.{Fits}
use lib.ListN.{length}
use Rattle.df_rules.specs.Visit.{all_done}
use Rattle.df_check.proofs.Fronts.{end_put}
use Rattle.df.proofs.Turns.{both_done, frame_done}
use Rattle.df.proofs.passes_by.Statement.{statement}
use Rattle.df.proofs.passes_by.Tie as tie

-- the units above
room : (s : tie.Start) → s.args.shape.top * (s.args.shape.w / 4) ≤ length s.args.words.now
room s = omega (arith, s.requires.0.long_words, add-mul s.args.shape.top (s.args.shape.h / 4) (s.args.shape.w / 4))

few : (s : tie.Start) → s.args.shape.top * (s.args.shape.w / 4) ≤ 1048576
few s =
    let high : s.args.shape.top ≤ 1024 = omega (arith, s.requires.0.high) in
    omega (arith, mul-le-mul_right {m = s.args.shape.top} {n = 1024} (s.args.shape.w / 4) high, s.requires.0.wide)

-- the start, from where both passes were made
abbrev begun : tie.After-struct_known-2-1 → tie.Start
begun c = c.before.before.before.before.before.before.before.before.before.before.before.before.before.before.before.before.before.before.before.before.before.before.before.before.before.before.before.before.before

fits : {n : ℕ} → n ≤ 1048576 → Fits w64 n
fits l = omega arith

bytes : {n : ℕ} → n ≤ 1048576 → Fits w64 (n * 4)
bytes l = omega arith

deblock_pass_requires : tie.Need-deblock_pass-m-requires
deblock_pass_requires c κs = let p = c.requires in (p.0, p.1, p.2)

deblock_pass_requires_2 : tie.Need-deblock_pass-n-requires
deblock_pass_requires_2 c κs =
    (frame_done c.deblock_pass-m.ensures c.requires.0, c.requires.1, c.requires.2)

returns : tie.Need-returns
returns c =
    both_done c.deblock_pass-m.ensures c.deblock_pass-n.ensures
    (end_put (c.args.shape.top * (c.args.shape.w / 4)) c.args.words.now all_done _ c.all_done.ensures)

pub passes_by_spec : {M : Type 1} → statement M
passes_by_spec =
    tie.close
    (tie.spec
    deblock_pass_requires
    deblock_pass_requires_2
    (λ c. fits (few (begun c)))
    (λ c. bytes (few (begun c)))
    (λ c. room (begun c))
    (λ c. room (begun c))
    (λ c. le_refl _)
    (λ c κs. tt)
    (λ c. c.deblock_pass-n.auto.y ∙ c.deblock_pass-m.auto.y)
    (λ c. c.deblock_pass-n.auto.u ∙ c.deblock_pass-m.auto.u)
    (λ c. c.deblock_pass-n.auto.v ∙ c.deblock_pass-m.auto.v)
    (λ c. search)
    returns)
