-- `df_check::check::settings_ok` meets its contract: the code is the list of tests. Assumes nothing.
use mathlib.Core.Path.{◌≡◌, ap, ◌∙◌}
use borrow.Author.Rules.{rules}
use mir.Syntax.{w8}
use Rattle.laws.proofs.Widths.{back}
use Rattle.split.specs.ListCall.{limit_ok}
use Rattle.df_check.specs.Checks.{offset_ok, settings_ok}
use Rattle.df_check.proofs.check.settings_ok.Statement.{statement}
use Rattle.df_check.proofs.check.settings_ok.Tie as tie

returns : tie.Need-returns
unfolding settings_ok limit_ok
returns c =
    let s = c.args.s in
    let u : c.offset_ok.result ≡ offset_ok s.format s.u_offset =
    c.offset_ok.ensures ∙ ap (offset_ok s.format) (back w8 s.u_offset (record { sfits = c.struct_told-1.given.1.0.1 })) in
    let v : c.offset_ok-2.result ≡ offset_ok s.format s.v_offset =
    c.offset_ok-2.ensures ∙ ap (offset_ok s.format) (back w8 s.v_offset (record { sfits = c.struct_told-1.given.1.1.0.1 })) in
    rw (u, v)

pub settings_ok_spec : {M : Type 1} → statement M
settings_ok_spec = tie.close (tie.spec (λ c κs. search rules) (λ c κs. search rules) returns)
