-- The line filter: four samples A B | C D across an edge, whole numbers with a sign, division toward zero (`quot_z`), and each new sample
-- clipped to 0..1023. What a strength of 0 means is said of a window.
-- Assumes nothing: these are definitions.
use Rattle.std.specs.Prelude.{ℕ, Bool, false, not, ℤ, pos, neg_ℤ, ◌+ℤ◌, ◌-ℤ◌, ◌*ℤ◌}
use Rattle.std.specs.Int.Signed.{quot_z}
use Rattle.laws.specs.Clip.{max_z, clip_z, abs_z, with_sign, sample_z}
use Rattle.def.specs.declared.Component.{Component}
use Rattle.def.specs.declared.Component.TheVariants.{Luma, Chroma}
use Rattle.line.specs.declared.Quad.{Quad}
use Rattle.line.specs.declared.Mask.{Mask}

-- d = (A - 4B + 4C - D) / 8
unfoldable pub step_of : ℤ → ℤ → ℤ → ℤ → ℤ
step_of A B C D = quot_z (A -ℤ pos 4 *ℤ B +ℤ pos 4 *ℤ C -ℤ D) (pos 8)

-- c = max(0, |d| - max(0, 2(|d| - st)))
unfoldable pub limit_of : ℤ → ℤ → ℤ
limit_of d st = max_z (pos 0) (abs_z d -ℤ max_z (pos 0) (pos 2 *ℤ (abs_z d -ℤ st)))

-- d2 = (A - D) / 4, clipped to -(c/2)..c/2
unfoldable pub far_of : ℤ → ℤ → ℤ → ℤ
far_of A D c = clip_z (neg_ℤ (quot_z c (pos 2))) (quot_z c (pos 2)) (quot_z (A -ℤ D) (pos 4))

-- A - d2, B + d1, C - d1, D + d2, clipped
unfoldable pub moved_by : (A B C D d1 d2 : ℤ) → Quad
moved_by A B C D d1 d2 = record { a = sample_z (A -ℤ d2); b = sample_z (B +ℤ d1); c = sample_z (C -ℤ d1); d = sample_z (D +ℤ d2) }

-- d1 is c with d's sign
unfoldable pub line_z : (A B C D st : ℤ) → Quad
line_z A B C D st =
    let d = step_of A B C D in
    let c = limit_of d st in
    moved_by A B C D (with_sign d c) (far_of A D c)

unfoldable pub line_of : (a b c d st : ℕ) → Quad
line_of a b c d st = line_z (pos a) (pos b) (pos c) (pos d) (pos st)

-- luma writes all four, chroma B and C only; and nothing on a kept side. A and B are P's, C and D are Q's; p and q: whether P is kept, and Q
abbrev pub mask_of : Component → (p q : Bool) → Mask
mask_of Luma p q = record { a = not p; b = not p; c = not q; d = not q }
mask_of Chroma p q = record { a = false; b = not p; c = not q; d = false }
