-- What the functions over one component ask. The rules themselves are `driver_rules`.
-- Assumes nothing: these are definitions.
use Rattle.std.specs.Prelude.{ℕ, ◌+◌, ◌*◌, ◌≤◌, ◌≡◌, true, List, [], length, get_or}
use Rattle.laws.specs.Plane.{with_block}
use Rattle.def.specs.Blocks.{block_ok}
use Rattle.def.specs.Picture.{size_ok}
use Rattle.nbr.specs.Gather.{Around, across, column, row, side_of}
use Rattle.driver_rules.specs.Asked.{LentAsked}
use Rattle.driver.specs.declared.component.Block.{Block}

abbrev pub around_block : Block → (plane words : List ℕ) → Around
around_block b plane words =
    record {
      component = b.component;
      w = b.w;
      h = b.h;
      plane = plane;
      words = words;
      x = b.x.0;
      y = b.y.0;
      side = b.side;
      constrained = b.constrained;
    }

-- the block of a picture
pub record Stands (b : Block) : Type 0 where
  pub size : size_ok b.w b.h ≡ true
  pub block : block_ok b.w b.h b.x.0 b.y.0 b.side ≡ true

-- the lent prediction's plane, of the block's picture
abbrev pub LentTo : Block → List ℕ → Type 0
LentTo b lent = LentAsked b.component b.w b.h lent

-- the block of n by n samples at column x, row y of a plane of rows of w, and a list of its samples
pub record Copied (w x y n : ℕ) (lent pred : List ℕ) : Type 0 where
  pub across : x + n ≤ w
  pub down : (y + n) * w ≤ length lent
  pub rows : y + n ≤ 4096
  pub some : 2 ≤ n
  pub most : n ≤ 64
  pub room : length pred ≡ n * n

-- the plane with the block's prediction in it
abbrev pub laid_of : Block → (pred plane : List ℕ) → List ℕ
laid_of b pred plane =
    let a = around_block b plane [] in
    let n = side_of b.component b.side in
    with_block 0 (across a) (column a) (row a) n n (λ (r c : ℕ). get_or pred (r * n + c) 0) plane
