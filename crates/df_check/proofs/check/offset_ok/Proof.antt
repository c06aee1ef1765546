-- `df_check::check::offset_ok` meets its contract: the two tests, at the format's ends and at the offset, each read from its byte. Assumes nothing.
use mathlib.Core.Bool.{◌&&◌}
use mathlib.Core.Path.{◌≡◌, refl, ap, ◌∙◌}
use borrow.Author.Rules.{rules}
use lib.IntN.{ℤ}
use lib.Signed.{le_z}
use mir.Syntax.{w8}
use mir.Val.{of_z, to_z}
use Rattle.laws.proofs.Widths.{back}
use Rattle.def.specs.declared.Format.{Format}
use Rattle.def.specs.declared.Format.TheVariants.{Grey, Colour}
use Rattle.df_check.specs.Checks.{least_offset, most_offset, offset_ok}
use Rattle.df_check.proofs.check.offset_ok.Statement.{statement}
use Rattle.df_check.proofs.check.offset_ok.Tie as tie

abbrev byte : ℤ → ℤ
byte z = to_z w8 (of_z w8 z)

least_back : (f : Format) → byte (least_offset f) ≡ least_offset f
least_back Grey = refl
least_back Colour = refl

most_back : (f : Format) → byte (most_offset f) ≡ most_offset f
most_back Grey = refl
most_back Colour = refl

returns : tie.Need-returns
unfolding offset_ok
returns c =
    let z = back w8 _ c.ranges.offset in
    let least = ap byte c.least_offset.ensures ∙ least_back c.args.format in
    let most = ap byte c.most_offset.ensures ∙ most_back c.args.format in
    λ i. le_z (least i) (z i) && le_z (z i) (most i)

pub offset_ok_spec : {M : Type 1} → statement M
offset_ok_spec = tie.close (tie.spec (λ c κs. search rules) (λ c κs. search rules) returns)
