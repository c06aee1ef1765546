-- `sheet::print_tree` meets its contract: a refusal of the walk, digits left over, or the edges. Assumes nothing.
use mathlib.Core.Path.{subst, ◌∙◌}
use Prim.Native.Nat.{◌/◌}
use native.Mathlib.Omega.{arith}
use borrow.Author.Rules.{rules}
use Rattle.sheet.specs.Taken.{Pictured, Met}
use Rattle.sheet.proofs.Founds.{sided, walk_no, left_over, walked, all_listed}
use Rattle.sheet.proofs.Puts.{starts_as}
use Rattle.sheet.proofs.print_tree.Statement.{statement}
use Rattle.sheet.proofs.print_tree.Tie as tie

-- where the digits were taken: the map is walked as they say
met : (c : tie.In-Ok) → let a = c.args in
    Met (a.w / 4) (a.h / 4) a.digits.now c.take_picture.new.map c.in-Ok.next
met c =
    let a = c.args in
    subst (Pictured (a.w / 4) (a.h / 4) a.digits.now c.take_picture.new.map)
    c.in-Ok.is c.take_picture.ensures

take_picture_requires : tie.Need-take_picture-requires
take_picture_requires c κs = let p = c.requires in (sided _ _ p.0, p.2, p.3, p.4)

print_edges_requires : tie.Need-print_edges-requires
print_edges_requires c κs =
    let p = c.requires in (
      record {
        sides = sided _ _ p.0;
        limited = p.1;
        long = c.take_picture.auto.map ∙ p.4;
        accepted = walked _ _ _ _ p.0 p.1 _ _ (met c.before.before);
      },
      p.5,
    )

returns-2 : tie.Need-returns-in-Err
returns-2 c =
    let t = c.take_picture in
    starts_as
    (walk_no _ _ _ _ c.requires.0 c.requires.1 _
    (subst (Pictured (c.args.w / 4) (c.args.h / 4) c.args.digits.now t.new.map) c.in-Err.is t.ensures))
    c.put_refusal.ensures

pub print_tree_spec : {M : Type 1} → statement M
print_tree_spec =
    tie.close
    (tie.spec
    take_picture_requires
    (λ c. search rules)
    (λ c κs. search rules)
    (λ c. search rules)
    (λ c κs. search rules)
    (λ c. search rules)
    (λ c. search rules)
    (λ c. starts_as (left_over _ _ _ _ c.requires.0 c.requires.1 _ _ (met c.before.before.before.before.before) (omega arith)) (search rules))
    print_edges_requires
    (λ c. search rules)
    (λ c. search rules)
    returns-2
    (λ c. search rules)
    (λ c. search rules)
    (λ c. starts_as (all_listed _ _ _ _ c.requires.0 c.requires.1 _ _ (met c.before.before.before.before.before) (omega arith)) c.print_edges.ensures))
