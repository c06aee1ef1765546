-- 1, 2, then what the walk finds, then the room. Assumes nothing.
use Rattle.std.specs.Prelude.{Err}
use mathlib.Core.Bool.{true}
use mathlib.Core.Path.{◌≡◌, sym, ap, ◌∙◌}
use Prim.Native.Nat.{ℕ, ◌*◌, ◌/◌}
use native.Mathlib.Omega.{arith}
use borrow.Author.Rules.{rules}
use borrow.Author.Tests.{ne_eqb}
use Rattle.def.specs.Picture.{size_ok}
use Rattle.def.specs.declared.Refusal.TheVariants.{Size, Length}
use Rattle.laws.proofs.Calls.{stops, goes_on, at_refusal}
use Rattle.marks.proofs.Callers.{roots_told}
use Rattle.marks.proofs.Growing.{counted_done, counted_refused}
use Rattle.pack_rules.specs.PutCall as put-call
use Rattle.split.specs.Picture.{picture_walk}
use Rattle.pack.proofs.Calls.{put_refused, put_stopped}
use Rattle.pack.proofs.Writing.{few_of}
use Rattle.pack.proofs.put_checked.Goals as goal

pub returns-then-not-size_ok : goal.returns-then-not-size_ok
unfolding put-call.check
returns-then-not-size_ok c = put_refused _ Size (stops _ _ _ _ c.size_ok.ensures c.if-not-size_ok.true-raw)

pub overflow_mul-root_count : goal.overflow_mul-root_count
overflow_mul-root_count c =
    let z : size_ok c.args.w c.args.h ≡ true = sym c.size_ok.ensures ∙ c.if-not-size_ok.false in
    omega (arith, roots_told _ _ _ z c.root_count.ensures, few_of _ _ z)

pub returns-then-splits-root_count : goal.returns-then-splits-root_count
unfolding put-call.check
returns-then-splits-root_count c =
    let z = sym c.size_ok.ensures ∙ c.if-not-size_ok.false in
    put_refused _ Length
    (goes_on _ _ _ _ _ c.size_ok.ensures c.if-not-size_ok.false-raw
    (at_refusal _ _ _ (ne_eqb _ _ (λ e. c.if-splits-root_count.true (e ∙ ap (λ (n : ℕ). 1024 * n) (sym (roots_told _ _ _ z c.root_count.ensures)))))))

pub map_digits-requires : goal.map_digits-requires
map_digits-requires c =
    let z = sym c.size_ok.ensures ∙ c.if-not-size_ok.false in
    record { size = z; bytes = c.if-splits-root_count.false ∙ ap (λ (n : ℕ). 1024 * n) (roots_told _ _ _ z c.root_count.ensures) }

pub returns-in_err-n : goal.returns-in_err-n
returns-in_err-n c =
    let z = sym c.size_ok.ensures ∙ c.if-not-size_ok.false in
    let e : c.from_residual.result ≡ Err c.in_err-n.field-0.0 = search rules in
    rw e
    (put_stopped _ (record { size = z; bytes = c.if-splits-root_count.false ∙ ap (λ (n : ℕ). 1024 * n) (roots_told _ _ _ z c.root_count.ensures) }) _
    (counted_refused _ _ _ (sym c.in_err-n.was ∙ c.map_digits.ensures)))

pub put_counted-requires : goal.put_counted-requires
put_counted-requires c =
    let a = c.args in
    let z = sym c.size_ok.ensures ∙ c.if-not-size_ok.false in
    let k = counted_done _ _ (picture_walk a.splits.now (a.w / 4) (a.h / 4)).answer (sym c.in_ok-n.was ∙ c.map_digits.ensures) in
    record {
      mapped = record { size = z; bytes = c.if-splits-root_count.false ∙ ap (λ (n : ℕ). 1024 * n) (roots_told _ _ _ z c.root_count.ensures) };
      done = k.0;
      count = k.1;
    }
