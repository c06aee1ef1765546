-- `decoder_c::deblock::lomsakeun_deblock` meets its contract: that of the call it makes, whose answer it reads as numbers. Assumes nothing.
use mathlib.Core.Path.{◌≡◌, ap₂, ◌∙◌}
use lib.IntN.{ℤ}
use mir.Syntax.{w8}
use borrow.Author.Rules.{rules}
use Rattle.laws.proofs.Widths.{back}
use Rattle.decoder_c.specs.Flags.{settings_of}
use Rattle.decoder_c.proofs.Deblocks.{deblocked_gives}
use Rattle.decoder_c.proofs.deblock.lomsakeun_deblock.Statement.{statement}
use Rattle.decoder_c.proofs.deblock.lomsakeun_deblock.Tie as tie

-- the settings that are handed on are those of the numbers
settings : (c : tie.After-settings_of-settings) → let a = c.args in
    c.settings_of-settings.result ≡ settings_of a.limit a.u_offset a.v_offset a.colour
settings c =
    c.settings_of-settings.ensures ∙ ap₂ (λ (u v : ℤ). settings_of c.args.limit u v c.args.colour) (back w8 _ c.ranges.u_offset) (back w8 _ c.ranges.v_offset)

returns : tie.Need-returns
returns c =
    deblocked_gives _ _ c.deblock.result _ _ _ _ _ _ _ (settings c.before.before.before.before.before.before.before.before.before.before.before.before.before.before) c.deblock.ensures c.counts_of-seen.ensures

pub lomsakeun_deblock_spec : {M : Type 1} → statement M
lomsakeun_deblock_spec =
    tie.close
    (tie.spec
    (λ c κs. search rules)
    (λ c κs. search rules)
    (λ c κs. search rules)
    (λ c. search rules)
    (λ c. search rules)
    (λ c. search rules)
    (λ c. search rules)
    returns)
