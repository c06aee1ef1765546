-- `unpack::get_checked` meets its contract: 1, 2, a position past the buffer, and then what the bits are. Assumes nothing.
use mathlib.Core.Bool.{true}
use mathlib.Core.Path.{◌≡◌, refl, sym, ap, ◌∙◌}
use Prim.Native.Nat.{ℕ, ◌+◌, ◌*◌, ◌/◌, ◌≤◌, ◌<◌}
use native.Mathlib.Omega.{arith}
use borrow.Author.Rules.{rules}
use borrow.Author.Tests.{ne_eqb}
use lib.ListN.{length}
use Rattle.def.specs.Picture.{size_ok, root_count}
use Rattle.def.specs.declared.Refusal.TheVariants.{Size, Length}
use Rattle.laws.proofs.Calls.{stops, goes_on, at_refusal}
use Rattle.marks.proofs.Callers.{roots_told}
use Rattle.pack_rules.specs.Form.{bits_in}
use Rattle.pack_rules.specs.GetCall as get-call
use Rattle.pack_rules.specs.Taken.{Mapped}
use Rattle.unpack.proofs.Calls.{get_refused, get_past}
use Rattle.pack.proofs.Writing.{few_of}
use Rattle.unpack.proofs.get_checked.Statement.{statement}
use Rattle.unpack.proofs.get_checked.Tie as tie

size_told : (c : tie.Else-not-size_ok) → size_ok c.args.w c.args.h ≡ true
size_told c = sym c.size_ok.ensures ∙ c.if-not-size_ok.false

roots_are : (c : tie.After-root_count) → c.root_count.result ≡ root_count c.args.w c.args.h
roots_are c = roots_told _ _ _ (size_told c.before) c.root_count.ensures

mapped : (c : tie.Else-map-root_count) → Mapped c.args.w c.args.h
    (length c.args.map.now)
mapped c = record { size = size_told c.before.before; bytes = c.if-map-root_count.false ∙ ap (λ (n : ℕ). 1024 * n) (roots_are c.before) }

returns : tie.Need-returns-then-not-size_ok
unfolding get-call.check
returns c = get_refused _ Size (stops _ _ _ _ c.size_ok.ensures c.if-not-size_ok.true-raw)

mul_if2 : tie.Need-overflow_mul-root_count
mul_if2 c = omega (arith, roots_are c, few_of _ _ (size_told c.before))

returns-2 : tie.Need-returns-then-map-root_count
unfolding get-call.check
returns-2 c =
    get_refused _ Length
    (goes_on _ _ _ _ _ c.size_ok.ensures c.if-not-size_ok.false-raw
    (at_refusal _ _ _ (ne_eqb _ _ (λ e. c.if-map-root_count.true (e ∙ ap (λ (n : ℕ). 1024 * n) (sym (roots_are c.before)))))))

returns-3 : tie.Need-returns-then-end-at
returns-3 c = get_past _ (mapped c.before.before) (past _ _ _ c.bits_in-end.ensures.0 c.if-end-at.true) where
  past : (at end bits : ℕ) → end ≡ bits → end < at → bits < at
  past at end bits e l = omega arith

get_taken_requires : tie.Need-get_taken-requires
get_taken_requires c κs =
    let b = c.bits_in-end.ensures in (
      mapped c.before.before.before,
      record {
        first = refl;
        last = b.0;
        inside = within c.args.at _
            (length c.args.src.now) b.0 c.if-end-at.false;
        near = b.1;
      },
    ) where
      within : (at end bytes : ℕ) → end ≡ bits_in bytes → at ≤ end → (at + 7) / 8 * 8 ≤ end
      within at end bytes e l = omega arith

pub get_checked_spec : {M : Type 1} → statement M
get_checked_spec =
    tie.close
    (tie.spec
    (λ c κs. search rules)
    returns
    (λ c κs. search rules)
    mul_if2
    returns-2
    (λ c κs. search rules)
    returns-3
    (λ c. omega (arith, c.if-end-at.false, c.bits_in-end.ensures.1))
    (λ c. omega (arith, c.if-end-at.false, c.bits_in-end.ensures.1))
    get_taken_requires
    (λ c. search rules)
    (λ c. c.get_taken.ensures))
