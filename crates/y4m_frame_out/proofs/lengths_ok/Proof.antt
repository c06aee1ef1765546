-- `y4m_frame_out::lengths_ok` meets its contract: the products fit. Assumes nothing.
use mathlib.Core.Bool.{◌&&◌}
use mathlib.Core.Path.{◌≡◌}
use Prim.Native.Nat.{ℕ, ◌+◌, ◌*◌, ◌≤◌}
use native.Mathlib.Omega.{arith}
use borrow.Author.Rules.{rules}
use lib.Dec.{eqb}
use Rattle.def.specs.Formats.{colour_length}
use Rattle.def.specs.declared.Format.{Format}
use Rattle.y4m_rules.proofs.Runs.{area, small_chroma}
use Rattle.y4m_frame_out.specs.WriteCall.{lengths_ok}
use Rattle.y4m_frame_out.proofs.lengths_ok.Statement.{statement}
use Rattle.y4m_frame_out.proofs.lengths_ok.Tie as tie

lengths : (c : Format) (w h y u v out n : ℕ) → n ≡ colour_length c w h
    → (((eqb y (w * h) && eqb u n) && eqb v n) && eqb out (6 + 2 * (w * h + 2 * n))) ≡ lengths_ok c w h y u v out
unfolding lengths_ok
lengths c w h y u v out n e = rw e

luma : (c : tie.Start) → c.args.w * c.args.h ≤ 16777216
luma c = area c.args.w c.args.h c.requires.0 c.requires.1

chroma : (c : tie.After-chroma_length-chroma) → c.chroma_length-chroma.result ≤ 4194304
chroma c = small_chroma c.args.format c.args.w c.args.h _ c.requires.0 c.requires.1 c.chroma_length-chroma.ensures

returns : tie.Need-returns
returns c = let a = c.args in lengths a.format a.w a.h a.y a.u a.v a.out _ c.chroma_length-chroma.ensures

pub lengths_ok_spec : {M : Type 1} → statement M
lengths_ok_spec =
    tie.close
    (tie.spec
    (λ c. omega (arith, luma c))
    (λ c κs. search rules)
    (λ c. omega (arith, chroma c))
    (λ c. omega (arith, luma c.before, chroma c))
    (λ c. omega (arith, luma c.before, chroma c))
    (λ c. omega (arith, luma c.before, chroma c))
    returns)
