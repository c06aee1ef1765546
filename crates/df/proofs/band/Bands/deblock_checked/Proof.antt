-- `df::band::Bands::deblock_checked` meets its contract: the checks found nothing, and both passes over the band follow.
-- Assumes nothing.
use Rattle.std.specs.Prelude.{Ok}
use Prim.Native.Nat.{ℕ, zero, suc, ◌+◌, ◌-◌, ◌*◌, ◌/◌, ◌≤◌}
use mathlib.Core.Path.{◌≡◌, refl, ap, ◌∙◌}
use native.Mathlib.Omega.{arith}
use mir.Syntax.{w64}
use mir.Val.{Fits}
use lib.ListN.{length}
use Rattle.def.proofs.Sizes.{sized}
use Rattle.band_rows.specs.Rows.{band_rows, rows_above}
use Rattle.band_rows.proofs.Bands.{few_rows}
use Rattle.split.proofs.Roots.{some_wide}
use Rattle.df.specs.Band.{Input, check, wide}
use Rattle.df.proofs.BandCalls.{near, asked, done_by}
use Rattle.df.proofs.BandPassed.{band_passed, next_few}
use Rattle.df.proofs.Entries.{entries_long}
use Rattle.df.proofs.band.Bands.deblock_checked.Statement.{statement}
use Rattle.df.proofs.band.Bands.deblock_checked.Tie as tie

input_of : tie.Start → Input
input_of s =
    let a = s.args in
    record {
      next = a.self.next;
      band = a.band;
      w = a.w;
      h = a.h;
      y = a.y.now;
      u = a.u.now;
      v = a.v.now;
      words = a.words.now;
      splits = a.splits.now;
      motion = a.motion.now;
      refs = a.refs.now;
      keep = a.keep.now;
      table0 = a.table0.now;
      table1 = a.table1.now;
      strengths = a.strengths.now;
      settings = a.settings;
    }

-- the checks found nothing
fine : (s : tie.Start) → check (input_of s) ≡ Ok tt
unfolding input_of
fine s = s.requires

some : (s : tie.Start) → 1 ≤ wide (input_of s)
some s = let i = input_of s in some_wide (sized i.w i.h (band_passed i (fine s)).size)

abbrev start : tie.After-rows_above-above → tie.Start
start c = c.before.before.before.before.before.before.before.before.before.before

-- of the rows above, the one that is handed on
one_above : (k : ℕ) → rows_above k / 16 ≡ near k
one_above zero = refl
one_above (suc k) = refl

rest_above : (k : ℕ) → rows_above k - rows_above k / 16 ≡ rows_above k - 1
rest_above zero = refl
rest_above (suc k) = refl

top_is : (c : tie.After-rows_above-above) → c.rows_above-above.result / 16 ≡ near (start c).args.band
top_is c = ap (λ (n : ℕ). n / 16) c.rows_above-above.ensures ∙ one_above (start c).args.band

skip_is : (c : tie.After-rows_above-above) → c.rows_above-above.result - c.rows_above-above.result / 16 ≡ rows_above (start c).args.band - 1
skip_is c = ap (λ (n : ℕ). n - n / 16) c.rows_above-above.ensures ∙ rest_above (start c).args.band

own_is : (c : tie.After-rows_above-above) → 4 * c.band_rows-rows.result ≡ 4 * band_rows ((start c).args.h / 4) (start c).args.band
own_is c = ap (λ (n : ℕ). 4 * n) c.band_rows-rows.ensures

own_fits : (h k : ℕ) {r : ℕ} → r ≡ band_rows h k → Fits w64 (4 * r)
own_fits h k e = omega (arith, few_rows h k)

next_fits : {n : ℕ} → n ≤ 64 → Fits w64 (n + 1)
next_fits l = omega arith

sixteenth : (n : ℕ) → n / 16 ≤ n
sixteenth n = omega arith

-- the entries are as many as the passes ask for
long : (c : tie.After-entries_by-table) → length c.entries_by-table.result ≡ 624
long c = ap length c.entries_by-table.ensures ∙ entries_long _ _ _ _ _ _

band_passes_requires : tie.Need-band_passes-counts-requires
unfolding input_of
band_passes_requires c κs =
    let s = start c.before.before.before.before.before.before in
    asked (input_of s) (fine s) (some s) (skip_is c.before.before.before.before.before.before) (top_is c.before.before.before.before.before.before) (own_is c.before.before.before.before.before.before) c.entries_by-table.result (long c.before.before.before.before.before.before.before.before)

add_after : tie.Need-overflow_add-after
unfolding input_of
add_after c =
    next_fits (next_few (band_passed (input_of c.before.before.before.before.before.before.before.before.before.before.before.before.before.before.before.before.before.before.before.before.before.before.before.before.before.before) (fine c.before.before.before.before.before.before.before.before.before.before.before.before.before.before.before.before.before.before.before.before.before.before.before.before.before.before)))

returns : tie.Need-returns
unfolding input_of
returns c =
    let s = start c.before.before.before.before.before.before.before.before.before.before.before.before.before.before.before.before in
    let b = c.band_passes-counts in
    done_by (input_of s) (fine s) (some s) (skip_is c.before.before.before.before.before.before.before.before.before.before.before.before.before.before.before.before) (top_is c.before.before.before.before.before.before.before.before.before.before.before.before.before.before.before.before) (own_is c.before.before.before.before.before.before.before.before.before.before.before.before.before.before.before.before) c.entries_by-table.ensures
    b.new.y b.new.u b.new.v b.new.words
    b.result.vertical b.result.horizontal b.ensures

pub deblock_checked_spec : {M : Type 1} → statement M
deblock_checked_spec =
    tie.close
    (tie.spec
    (λ c κs. tt)
    (λ c κs. tt)
    (λ c κs. tt)
    (λ c. sixteenth c.rows_above-above.result)
    (λ c. own_fits _ _ c.band_rows-rows.ensures)
    band_passes_requires
    add_after
    (λ c. c.band_passes-counts.auto.y)
    (λ c. c.band_passes-counts.auto.u)
    (λ c. c.band_passes-counts.auto.v)
    (λ c. c.band_passes-counts.auto.words)
    returns)
