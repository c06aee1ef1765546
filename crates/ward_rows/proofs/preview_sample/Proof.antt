-- `ward_rows::preview_sample` meets its contract: the four samples, converted. Assumes nothing.
use Rattle.std.proofs.Common.{◌∙◌, rules}
use Rattle.ward_rows.proofs.Stores.{small_first, small_second}
use Rattle.ward_rows.proofs.preview_sample.Statement.{statement}
use Rattle.ward_rows.proofs.preview_sample.Tie as tie

screen_requires : tie.Need-screen-a-requires
screen_requires c κs = small_first c.args.p.now c.args.upper c.requires.0

screen_requires_2 : tie.Need-screen-b-requires
screen_requires_2 c κs = small_second c.args.p.now c.args.upper c.requires.0

screen_requires_3 : tie.Need-screen-c-requires
screen_requires_3 c κs =
    small_first c.args.p.now c.args.lower
    c.requires.1

screen_requires_4 : tie.Need-screen-d-requires
screen_requires_4 c κs =
    small_second c.args.p.now c.args.lower
    c.requires.1

returns : tie.Need-returns
returns c =
    c.quarter_of.ensures
    ∙ cc (
      c.screen-a.ensures.0,
      c.screen-b.ensures.0,
      c.screen-c.ensures.0,
      c.screen-d.ensures.0,
    )

pub preview_sample_spec : {M : Type 1} → statement M
preview_sample_spec =
    tie.close
    (tie.spec (λ c. search rules) (λ c. search rules) screen_requires (λ c. search rules) (λ c. search rules) (λ c. search rules) screen_requires_2
    (λ c. search rules) (λ c. search rules) screen_requires_3 (λ c. search rules) (λ c. search rules) (λ c. search rules) screen_requires_4 (λ c κs. search rules) returns)
