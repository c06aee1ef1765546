-- `mend::mend` meets its contract: 1, 2, and then the map and the list. Assumes nothing.
use mathlib.Core.Bool.{true, ◌&&◌}
use mathlib.Core.Path.{◌≡◌, refl, sym, ap, ◌∙◌}
use Prim.Native.Nat.{ℕ, ◌*◌, ◌≤◌}
use native.Mathlib.Omega.{arith}
use borrow.Author.Rules.{rules}
use lib.Dec.{eqb}
use lib.ListN.{length}
use Rattle.def.specs.Picture.{size_ok, root_count}
use Rattle.def.specs.declared.Refusal.TheVariants.{Size, Length}
use Rattle.laws.proofs.Calls.{stops, goes_on}
use Rattle.marks.proofs.Callers.{roots_told}
use Rattle.mend.specs.MendCall as mend-call
use Rattle.mend.proofs.Calls.{few_of, lengths_told, mend_refused, mend_done}
use Rattle.mend.proofs.mend.Statement.{statement}
use Rattle.mend.proofs.mend.Tie as tie

size_told : (c : tie.Else-not-size_ok) → size_ok c.args.w c.args.h ≡ true
size_told c = sym c.size_ok.ensures ∙ c.if-not-size_ok.false

roots_are : (c : tie.After-root_count-n) → c.root_count-n.result ≡ root_count c.args.w c.args.h
roots_are c = roots_told _ _ _ (size_told c.before) c.root_count-n.ensures

few : (c : tie.After-root_count-n) → c.root_count-n.result ≤ 4096
few c = omega (arith, roots_are c, few_of _ _ (size_told c.before))

-- the test of the lengths, as the rule has it
lengths : (c : tie.After-root_count-n) → let a = c.args in
    let n = c.root_count-n.result in
    (eqb (length a.splits.now) (1024 * n) && eqb (length a.out.now) (1024 * n) && eqb (length a.list.now) (425 * n))
    ≡ mend-call.lengths_ok a.w a.h (length a.splits.now) (length a.out.now) (length a.list.now)
unfolding mend-call.lengths_ok
lengths c =
    let a = c.args in
    ap (λ (n : ℕ). eqb (length a.splits.now) (1024 * n) && eqb (length a.out.now) (1024 * n) && eqb (length a.list.now) (425 * n)) (roots_are c)

returns : tie.Need-returns-then-not-size_ok
unfolding mend-call.check
returns c = mend_refused _ Size (stops _ _ _ _ c.size_ok.ensures c.if-not-size_ok.true-raw)

returns-2 : tie.Need-returns-then-not-splits-n
unfolding mend-call.check
returns-2 c =
    mend_refused _ Length
    (goes_on _ _ _ _ _ c.size_ok.ensures c.if-not-size_ok.false-raw (stops _ _ _ _ (lengths c.before) c.if-not-splits-n.true-raw))

mend_roots_requires : tie.Need-mend_roots-requires
mend_roots_requires c κs =
    let l = lengths_told _ _ _ _ _ (sym (lengths c.before.before.before) ∙ c.if-not-splits-n.false) in
    record { size = size_told c.before.before.before.before; bytes = l.0; room = l.1; rows = l.2 }

returns-3 : tie.Need-returns
unfolding mend-call.check
returns-3 c =
    mend_done _ _ _ _
    (goes_on _ _ _ _ _ c.size_ok.ensures
    c.if-not-size_ok.false-raw
    (goes_on _ _ _ _ _ (lengths c.before.before.before.before.before.before.before.before) c.if-not-splits-n.false-raw refl))
    c.mend_roots.ensures.0 c.mend_roots.ensures.1

pub mend_spec : {M : Type 1} → statement M
mend_spec =
    tie.close
    (tie.spec
    (λ c κs. search rules)
    returns
    (λ c κs. search rules)
    (λ c. omega (arith, few c))
    (λ c. omega (arith, few c))
    (λ c. omega (arith, few c))
    returns-2
    mend_roots_requires
    (λ c. search rules)
    (λ c. search rules)
    returns-3)
