-- `sheet::print::put_listing` meets its contract: two lists of places, and two counts. Assumes nothing.
use native.Mathlib.Omega.{arith}
use borrow.Author.Rules.{rules}
use Rattle.sheet.proofs.Puts.{listing_put}
use Rattle.sheet.proofs.print.put_listing.Statement.{statement}
use Rattle.sheet.proofs.print.put_listing.Tie as tie

returns : tie.Need-returns
returns c =
    let a = c.args in
    record {
      put = listing_put a.vertical.now a.m a.horizontal.now a.n c.put_places-second.ensures.0 c.put_places-counts.ensures.0
          c.put_count-last.ensures.0 c.put_count.ensures.0;
      fits = omega (
        arith,
        c.put_places-second.ensures.1,
        c.put_places-counts.ensures.1,
        c.put_count-last.ensures.1,
        c.put_count.ensures.1,
        c.requires.2,
      );
    }

pub put_listing_spec : {M : Type 1} → statement M
put_listing_spec =
    tie.close
    (tie.spec
    (λ c κs. search rules)
    (λ c κs. search rules)
    (λ c κs. search rules)
    (λ c κs. search rules)
    (λ c. search rules)
    returns)
