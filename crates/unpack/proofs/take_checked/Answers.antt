-- 1, 2, places that no slice has, and then what the digits are. Assumes nothing.
use Rattle.std.specs.Prelude.{Ok, Err}
use mathlib.Core.Bool.{true}
use mathlib.Core.Path.{◌≡◌, sym, ap, ap₂, ◌∙◌}
use mathlib.Core.List.{List}
use Prim.Native.Nat.{ℕ, ◌+◌, ◌*◌, ◌/◌, ◌≤◌}
use native.Mathlib.Omega.{arith}
use borrow.Author.Rules.{rules}
use borrow.Author.Tests.{ne_eqb, leb-true}
use lib.Dec.{leb}
use lib.ListN.{length}
use Rattle.def.proofs.Sizes.{sized}
use Rattle.def.specs.Picture.{size_ok}
use Rattle.def.specs.declared.Refusal.TheVariants.{Size, Length}
use Rattle.laws.proofs.Bools.{both_left, both_right}
use Rattle.laws.proofs.Calls.{stops, goes_on, at_refusal}
use Rattle.marks.proofs.Callers.{roots_told}
use Rattle.marks.proofs.Growing.{counted_done, counted_refused}
use Rattle.marks_rules.specs.Descent.{root_descent}
use Rattle.marks_rules.specs.Marks.{blocks_in}
use Rattle.marks_rules.proofs.Descents.{few_grown, few_descents}
use Rattle.pack_rules.specs.TakeCall as take-call
use Rattle.split.specs.Picture.{roots, root_x, root_y}
use Rattle.split.proofs.Roots.{roots_units}
use Rattle.pack_rules.specs.Taken.{Mapped}
use Rattle.unpack.proofs.Calls.{take_refused, take_off, take_stopped, take_done}
use Rattle.pack.proofs.Writing.{few_of}
use Rattle.unpack.proofs.take_checked.Goals as goal

-- the places passed
placed : (from to : ℕ) → take-call.places_ok from to ≡ true → (from ≤ to) × (to ≤ 4611686018427387904)
unfolding take-call.places_ok
placed from to e = (leb-true _ _ (both_left (leb from to) _ e), leb-true _ _ (both_right (leb from to) _ e))

few_taken : (i : take-call.Input) → size_ok i.w i.h ≡ true → length (take-call.descent i).marks ≤ 348160
unfolding blocks_in
few_taken i z = omega (
  arith,
  few_descents (root_descent (i.w / 4) (i.h / 4)) 85 (λ j l. few_grown (i.w / 4) (i.h / 4) 4 (root_x (i.w / 4) j) (root_y (i.w / 4) j) l) (roots (i.w / 4) (i.h / 4))
      (take-call.digits i),
  roots_units (sized _ _ z),
  few_of _ _ z,
)

pub returns-then-not-size_ok : goal.returns-then-not-size_ok
unfolding take-call.check
returns-then-not-size_ok c = take_refused _ Size (stops _ _ _ _ c.size_ok.ensures c.if-not-size_ok.true-raw)

pub overflow_mul-root_count : goal.overflow_mul-root_count
overflow_mul-root_count c =
    let a = c.args in
    let i : take-call.Input = record { w = a.w; h = a.h; src = a.src.now; from = a.from; to = a.to; map = a.map.now } in
    let z : size_ok a.w a.h ≡ true = sym c.size_ok.ensures ∙ c.if-not-size_ok.false in
    omega (arith, roots_told _ _ _ z c.root_count.ensures, few_of _ _ z)

pub returns-then-map-root_count : goal.returns-then-map-root_count
unfolding take-call.check
returns-then-map-root_count c =
    let a = c.args in
    let i : take-call.Input = record { w = a.w; h = a.h; src = a.src.now; from = a.from; to = a.to; map = a.map.now } in
    let z : size_ok a.w a.h ≡ true = sym c.size_ok.ensures ∙ c.if-not-size_ok.false in
    take_refused i Length
    (goes_on _ _ _ _ _ c.size_ok.ensures c.if-not-size_ok.false-raw
    (at_refusal _ _ _ (ne_eqb _ _ (λ e. c.if-map-root_count.true (e ∙ ap (λ (n : ℕ). 1024 * n) (sym (roots_told _ _ _ z c.root_count.ensures)))))))

pub returns-then-not-from-to : goal.returns-then-not-from-to
unfolding take-call.places_ok
returns-then-not-from-to c =
    let a = c.args in
    let i : take-call.Input = record { w = a.w; h = a.h; src = a.src.now; from = a.from; to = a.to; map = a.map.now } in
    let z : size_ok a.w a.h ≡ true = sym c.size_ok.ensures ∙ c.if-not-size_ok.false in
    let mapped : Mapped a.w a.h (length a.map.now) = record { size = z; bytes = c.if-map-root_count.false ∙ ap (λ (n : ℕ). 1024 * n) (roots_told _ _ _ z c.root_count.ensures) } in
    take_off i mapped c.if-not-from-to.true

pub map_taken-requires : goal.map_taken-requires
unfolding take-call.places_ok
map_taken-requires c =
    let a = c.args in
    let i : take-call.Input = record { w = a.w; h = a.h; src = a.src.now; from = a.from; to = a.to; map = a.map.now } in
    let z : size_ok a.w a.h ≡ true = sym c.size_ok.ensures ∙ c.if-not-size_ok.false in
    let p = placed c.args.from c.args.to c.if-not-from-to.false in
    (z, p.0, p.1)

pub returns-in_err-n : goal.returns-in_err-n
unfolding take-call.places_ok
returns-in_err-n c =
    let a = c.args in
    let i : take-call.Input = record { w = a.w; h = a.h; src = a.src.now; from = a.from; to = a.to; map = a.map.now } in
    let z : size_ok a.w a.h ≡ true = sym c.size_ok.ensures ∙ c.if-not-size_ok.false in
    let mapped : Mapped a.w a.h (length a.map.now) = record { size = z; bytes = c.if-map-root_count.false ∙ ap (λ (n : ℕ). 1024 * n) (roots_told _ _ _ z c.root_count.ensures) } in
    let e : c.from_residual.result ≡ Err c.in_err-n.field-0.0 = search rules in
    rw e (take_stopped i mapped c.if-not-from-to.false _ (counted_refused _ _ _ (sym c.in_err-n.was ∙ c.map_taken.ensures)))

pub fill_map-requires : goal.fill_map-requires
unfolding take-call.places_ok
fill_map-requires c =
    let a = c.args in
    let i : take-call.Input = record { w = a.w; h = a.h; src = a.src.now; from = a.from; to = a.to; map = a.map.now } in
    let z : size_ok a.w a.h ≡ true = sym c.size_ok.ensures ∙ c.if-not-size_ok.false in
    let mapped : Mapped a.w a.h (length a.map.now) = record { size = z; bytes = c.if-map-root_count.false ∙ ap (λ (n : ℕ). 1024 * n) (roots_told _ _ _ z c.root_count.ensures) } in
    let k : ((take-call.descent i).walk.answer ≡ Ok tt) × (c.in_ok-n.n ≡ length (take-call.descent i).marks) =
    counted_done _ _ (take-call.descent i).walk.answer (sym c.in_ok-n.was ∙ c.map_taken.ensures) in
    let p = placed c.args.from c.args.to c.if-not-from-to.false in
    (mapped, p.0, p.1, k.0)

pub overflow_add-result : goal.overflow_add-result
unfolding take-call.places_ok
overflow_add-result c =
    let a = c.args in
    let i : take-call.Input = record { w = a.w; h = a.h; src = a.src.now; from = a.from; to = a.to; map = a.map.now } in
    let z : size_ok a.w a.h ≡ true = sym c.size_ok.ensures ∙ c.if-not-size_ok.false in
    let k : ((take-call.descent i).walk.answer ≡ Ok tt) × (c.in_ok-n.n ≡ length (take-call.descent i).marks) =
    counted_done _ _ (take-call.descent i).walk.answer (sym c.in_ok-n.was ∙ c.map_taken.ensures) in
    let p = placed c.args.from c.args.to c.if-not-from-to.false in
    omega (arith, few_taken i z, k.1, p)

pub returns : goal.returns
unfolding take-call.places_ok
returns c =
    let a = c.args in
    let i : take-call.Input = record { w = a.w; h = a.h; src = a.src.now; from = a.from; to = a.to; map = a.map.now } in
    let z : size_ok a.w a.h ≡ true = sym c.size_ok.ensures ∙ c.if-not-size_ok.false in
    let mapped : Mapped a.w a.h (length a.map.now) = record { size = z; bytes = c.if-map-root_count.false ∙ ap (λ (n : ℕ). 1024 * n) (roots_told _ _ _ z c.root_count.ensures) } in
    let k : ((take-call.descent i).walk.answer ≡ Ok tt) × (c.in_ok-n.n ≡ length (take-call.descent i).marks) =
    counted_done _ _ (take-call.descent i).walk.answer (sym c.in_ok-n.was ∙ c.map_taken.ensures) in
    take_done i mapped c.if-not-from-to.false _ k.0
    (ap₂ (λ (n : ℕ) (m : List ℕ). record { number = 0; at = a.from + n; map = m }) k.1 c.fill_map.ensures)
