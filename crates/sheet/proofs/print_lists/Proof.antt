-- `sheet::print_lists` meets its contract: the call does not refuse, and its lists are printed. Assumes nothing.
use native.Mathlib.Omega.{arith}
use borrow.Author.Rules.{rules}
use Rattle.sheet.proofs.Lists.{limit_small, not_refused, listed_both, Printable, printable}
use Rattle.sheet.proofs.Puts.{starts_as}
use Rattle.sheet.proofs.print_lists.Statement.{statement}
use Rattle.sheet.proofs.print_lists.Tie as tie

-- what the call lists
told : (c : tie.In-Ok) →
    Printable c.args.w c.args.h c.args.limit c.args.map.now c.args.vertical.now c.args.horizontal.now c.requires.0 c.requires.1 c.requires.2
    c.in-Ok.counts.vertical c.in-Ok.counts.horizontal c.list_edges.new.vertical c.list_edges.new.horizontal
told c =
    let p = c.requires in
    printable _ _ _ _ _ _ p.0 p.1 p.2 _ _ _ _
    (listed_both _ _ _ _ _ _ p.0 p.1 p.2 _ _ _ _ c.list_edges.ensures c.in-Ok.is)

cast_list_edges : tie.Need-overflow_cast-limit
cast_list_edges c = omega (arith, limit_small c.args.limit c.requires.0.limited)

put_listing_requires : tie.Need-put_listing-requires
put_listing_requires c κs =
    let t = told c.before in (
      t.first,
      t.second,
      omega (
        arith,
        t.room,
        c.requires.3,
      ),
      t.few_first,
      t.few_second,
    )

returns : tie.Need-returns-in-Err
returns c =
    let p = c.requires in
    absurd (not_refused _ _ _ _ _ _ p.0 p.1 p.2 _ _ _ _
    c.list_edges.ensures c.in-Err.is)

returns-2 : tie.Need-returns-in-Ok
returns-2 c = starts_as (told c.before.before.before.before).text c.put_listing.ensures

pub print_lists_spec : {M : Type 1} → statement M
print_lists_spec =
    tie.close
    (tie.spec
    cast_list_edges
    (λ c κs. search rules)
    (λ c. search rules)
    (λ c κs. search rules)
    (λ c. search rules)
    put_listing_requires
    (λ c. search rules)
    (λ c. search rules)
    (λ c. search rules)
    returns
    (λ c. search rules)
    (λ c. search rules)
    (λ c. search rules)
    returns-2)
