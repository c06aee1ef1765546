-- What the digits are refused for, the fill bits, and then the map. Assumes nothing.
use Rattle.std.specs.Prelude.{Ok, Err}
use mathlib.Core.Bool.{true}
use mathlib.Core.List.{List}
use mathlib.Core.Path.{◌≡◌, sym, ap, ap₂, ◌∙◌}
use Prim.Native.Nat.{ℕ, ◌+◌, ◌-◌, ◌*◌, ◌/◌, ◌≤◌}
use native.Mathlib.Omega.{arith}
use borrow.Author.Rules.{rules}
use lib.ListN.{length}
use Rattle.bits.specs.Bits.{bits_from}
use Rattle.def.proofs.Sizes.{sized}
use Rattle.def.specs.Picture.{size_ok}
use Rattle.marks.specs.Stored.{counted}
use Rattle.marks.proofs.Growing.{counted_done, counted_refused}
use Rattle.marks_rules.specs.Marks.{blocks_in}
use Rattle.marks_rules.specs.Pictures.{upto, map_of}
use Rattle.marks_rules.proofs.Descents.{few_grown, few_descents}
use Rattle.marks_rules.specs.Descent.{root_descent}
use Rattle.pack_rules.specs.Form.{digits_from, zeros_ok, fill_ok}
use Rattle.pack_rules.specs.GetCall as get-call
use Rattle.split.specs.Picture.{roots, root_x, root_y}
use Rattle.split.proofs.Roots.{roots_units}
use Rattle.unpack.proofs.Calls.{get_stopped, get_unfilled, get_done}
use Rattle.pack.proofs.Writing.{few_of}
use Rattle.unpack.proofs.get_taken.Goals as goal

few_taken : (i : get-call.Input) → size_ok i.w i.h ≡ true → get-call.count i ≤ 348160
unfolding blocks_in
few_taken i z = omega (
  arith,
  few_descents (root_descent (i.w / 4) (i.h / 4)) 85 (λ j l. few_grown (i.w / 4) (i.h / 4) 4 (root_x (i.w / 4) j) (root_y (i.w / 4) j) l)
      (roots (i.w / 4) (i.h / 4)) (digits_from i.src i.at),
  roots_units (sized _ _ z),
  few_of _ _ z,
)

pub map_taken-requires : goal.map_taken-requires
map_taken-requires c = (c.requires.0.size, c.requires.1.inside, c.requires.1.near)

pub returns-in_err-n : goal.returns-in_err-n
returns-in_err-n c =
    let a = c.args in
    let i : get-call.Input = record { w = a.w; h = a.h; src = a.src.now; at = a.at; map = a.map.now } in
    let s = c.requires.1 in
    let same = ap₂ (λ (p q : ℕ). bits_from a.src.now p (q - p)) s.first s.last in
    let told : c.map_taken.result ≡ counted (get-call.count i) (get-call.descent i).walk.answer =
    c.map_taken.ensures ∙ ap (λ (ds : List ℕ). let d = upto (a.w / 4) (a.h / 4) ds (roots (a.w / 4) (a.h / 4)) in counted (length d.marks) d.walk.answer) same in
    let e : c.from_residual.result ≡ Err c.in_err-n.field-0.0 = search rules in
    rw e (get_stopped i c.requires.0 _ (counted_refused _ _ _ (sym c.in_err-n.was ∙ told)))

pub overflow_add-next : goal.overflow_add-next
overflow_add-next c =
    let a = c.args in
    let i : get-call.Input = record { w = a.w; h = a.h; src = a.src.now; at = a.at; map = a.map.now } in
    let s = c.requires.1 in
    let same = ap₂ (λ (p q : ℕ). bits_from a.src.now p (q - p)) s.first s.last in
    let told : c.map_taken.result ≡ counted (get-call.count i) (get-call.descent i).walk.answer =
    c.map_taken.ensures ∙ ap (λ (ds : List ℕ). let d = upto (a.w / 4) (a.h / 4) ds (roots (a.w / 4) (a.h / 4)) in counted (length d.marks) d.walk.answer) same in
    let k : ((get-call.descent i).walk.answer ≡ Ok tt) × (c.in_ok-n.n ≡ get-call.count i) = counted_done _ _ (get-call.descent i).walk.answer (sym c.in_ok-n.was ∙ told) in
    let f = few_taken i c.requires.0.size in
    omega (arith, k.1, f)

pub overflow_mul-next : goal.overflow_mul-next
overflow_mul-next c =
    let a = c.args in
    let i : get-call.Input = record { w = a.w; h = a.h; src = a.src.now; at = a.at; map = a.map.now } in
    let s = c.requires.1 in
    let same = ap₂ (λ (p q : ℕ). bits_from a.src.now p (q - p)) s.first s.last in
    let told : c.map_taken.result ≡ counted (get-call.count i) (get-call.descent i).walk.answer =
    c.map_taken.ensures ∙ ap (λ (ds : List ℕ). let d = upto (a.w / 4) (a.h / 4) ds (roots (a.w / 4) (a.h / 4)) in counted (length d.marks) d.walk.answer) same in
    let k : ((get-call.descent i).walk.answer ≡ Ok tt) × (c.in_ok-n.n ≡ get-call.count i) = counted_done _ _ (get-call.descent i).walk.answer (sym c.in_ok-n.was ∙ told) in
    let f = few_taken i c.requires.0.size in
    omega (arith, k.1, f)

pub overflow_add-next-2 : goal.overflow_add-next-2
overflow_add-next-2 c =
    let a = c.args in
    let i : get-call.Input = record { w = a.w; h = a.h; src = a.src.now; at = a.at; map = a.map.now } in
    let s = c.requires.1 in
    let same = ap₂ (λ (p q : ℕ). bits_from a.src.now p (q - p)) s.first s.last in
    let told : c.map_taken.result ≡ counted (get-call.count i) (get-call.descent i).walk.answer =
    c.map_taken.ensures ∙ ap (λ (ds : List ℕ). let d = upto (a.w / 4) (a.h / 4) ds (roots (a.w / 4) (a.h / 4)) in counted (length d.marks) d.walk.answer) same in
    let k : ((get-call.descent i).walk.answer ≡ Ok tt) × (c.in_ok-n.n ≡ get-call.count i) = counted_done _ _ (get-call.descent i).walk.answer (sym c.in_ok-n.was ∙ told) in
    let f = few_taken i c.requires.0.size in
    omega (arith, k.1, f, s)

pub overflow_add-start : goal.overflow_add-start
overflow_add-start c =
    let a = c.args in
    let i : get-call.Input = record { w = a.w; h = a.h; src = a.src.now; at = a.at; map = a.map.now } in
    let s = c.requires.1 in
    let same = ap₂ (λ (p q : ℕ). bits_from a.src.now p (q - p)) s.first s.last in
    let told : c.map_taken.result ≡ counted (get-call.count i) (get-call.descent i).walk.answer =
    c.map_taken.ensures ∙ ap (λ (ds : List ℕ). let d = upto (a.w / 4) (a.h / 4) ds (roots (a.w / 4) (a.h / 4)) in counted (length d.marks) d.walk.answer) same in
    let k : ((get-call.descent i).walk.answer ≡ Ok tt) × (c.in_ok-n.n ≡ get-call.count i) = counted_done _ _ (get-call.descent i).walk.answer (sym c.in_ok-n.was ∙ told) in
    let f = few_taken i c.requires.0.size in
    omega (arith, k.1, f, s)

pub returns-then-not-zeros_ok : goal.returns-then-not-zeros_ok
returns-then-not-zeros_ok c =
    let a = c.args in
    let i : get-call.Input = record { w = a.w; h = a.h; src = a.src.now; at = a.at; map = a.map.now } in
    let s = c.requires.1 in
    let same = ap₂ (λ (p q : ℕ). bits_from a.src.now p (q - p)) s.first s.last in
    let told : c.map_taken.result ≡ counted (get-call.count i) (get-call.descent i).walk.answer =
    c.map_taken.ensures ∙ ap (λ (ds : List ℕ). let d = upto (a.w / 4) (a.h / 4) ds (roots (a.w / 4) (a.h / 4)) in counted (length d.marks) d.walk.answer) same in
    let k : ((get-call.descent i).walk.answer ≡ Ok tt) × (c.in_ok-n.n ≡ get-call.count i) = counted_done _ _ (get-call.descent i).walk.answer (sym c.in_ok-n.was ∙ told) in
    let tested : c.zeros_ok.result ≡ fill_ok a.src.now a.at (get-call.count i) =
    c.zeros_ok.ensures ∙ ap₂ (λ (p n : ℕ). zeros_ok a.src.now (p + n) (p + (n + 7) / 8 * 8)) s.first k.1 in
    get_unfilled i c.requires.0 k.0 (sym tested ∙ c.if-not-zeros_ok.true)

pub fill_map-requires : goal.fill_map-requires
fill_map-requires c =
    let a = c.args in
    let i : get-call.Input = record { w = a.w; h = a.h; src = a.src.now; at = a.at; map = a.map.now } in
    let s = c.requires.1 in
    let same = ap₂ (λ (p q : ℕ). bits_from a.src.now p (q - p)) s.first s.last in
    let told : c.map_taken.result ≡ counted (get-call.count i) (get-call.descent i).walk.answer =
    c.map_taken.ensures ∙ ap (λ (ds : List ℕ). let d = upto (a.w / 4) (a.h / 4) ds (roots (a.w / 4) (a.h / 4)) in counted (length d.marks) d.walk.answer) same in
    let k : ((get-call.descent i).walk.answer ≡ Ok tt) × (c.in_ok-n.n ≡ get-call.count i) = counted_done _ _ (get-call.descent i).walk.answer (sym c.in_ok-n.was ∙ told) in
    (c.requires.0, s.inside, s.near, ap (λ (ds : List ℕ). (upto (a.w / 4) (a.h / 4) ds (roots (a.w / 4) (a.h / 4))).walk.answer) same ∙ k.0)

pub returns : goal.returns
returns c =
    let a = c.args in
    let i : get-call.Input = record { w = a.w; h = a.h; src = a.src.now; at = a.at; map = a.map.now } in
    let s = c.requires.1 in
    let same = ap₂ (λ (p q : ℕ). bits_from a.src.now p (q - p)) s.first s.last in
    let told : c.map_taken.result ≡ counted (get-call.count i) (get-call.descent i).walk.answer =
    c.map_taken.ensures ∙ ap (λ (ds : List ℕ). let d = upto (a.w / 4) (a.h / 4) ds (roots (a.w / 4) (a.h / 4)) in counted (length d.marks) d.walk.answer) same in
    let k : ((get-call.descent i).walk.answer ≡ Ok tt) × (c.in_ok-n.n ≡ get-call.count i) = counted_done _ _ (get-call.descent i).walk.answer (sym c.in_ok-n.was ∙ told) in
    let tested : c.zeros_ok.result ≡ fill_ok a.src.now a.at (get-call.count i) =
    c.zeros_ok.ensures ∙ ap₂ (λ (p n : ℕ). zeros_ok a.src.now (p + n) (p + (n + 7) / 8 * 8)) s.first k.1 in
    get_done i c.requires.0 k.0 _ (sym tested ∙ c.if-not-zeros_ok.false)
    (ap₂ (λ (n : ℕ) (m : List ℕ). record { number = 0; at = n; map = m })
    (ap₂ (λ (p n : ℕ). p + (n + 7) / 8 * 8) s.first k.1)
    (c.fill_map.ensures ∙ ap (map_of (a.w / 4) (a.h / 4)) same))
