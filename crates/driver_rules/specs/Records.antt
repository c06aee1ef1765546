-- The leaf records, four bytes a leaf in walk order: kind (0 to 4 a mode, 5 the lent prediction), QP, mask (1 Y, 2 U, 4 V; in a grey picture 1 alone), keep (1 or 0).
-- And where a leaf's residuals lie in their list: Y, U, V one after another, only the masked ones.
-- Assumes nothing: these are definitions.
use Rattle.std.specs.Prelude.{ℕ, ◌+◌, ◌*◌, Bool, List, leb, get_or}
use Rattle.laws.specs.Index.{pick}
use Rattle.laws.specs.Orders.{run}
use Rattle.laws.specs.Scan.{all_below}
use Rattle.def.specs.Word.{flag_at, leaf_word}
use Rattle.def.specs.declared.Component.{Component}
use Rattle.def.specs.declared.Component.TheVariants.{Luma, Chroma}
use Rattle.def.specs.declared.Format.{Format}
use Rattle.def.specs.declared.Format.TheVariants.{Grey, Colour}
use Rattle.nbr.specs.Gather.{side_of}
use Rattle.split.specs.Walk.{Leaf}

-- ---- the record of leaf k

abbrev pub byte_at : List ℕ → (k b : ℕ) → ℕ
byte_at r k b = get_or r (4 * k + b) 0

abbrev pub kind_at : List ℕ → ℕ → ℕ
kind_at r k = byte_at r k 0

abbrev pub record_qp : List ℕ → ℕ → ℕ
record_qp r k = byte_at r k 1

abbrev pub record_mask : List ℕ → ℕ → ℕ
record_mask r k = byte_at r k 2

-- 1 where deblocking is to leave the block as it is
abbrev pub keep_at : List ℕ → ℕ → ℕ
keep_at r k = byte_at r k 3

-- byte b of each of the first n records is at most m
unfoldable pub bytes_ok : List ℕ → (n b m : ℕ) → Bool
bytes_ok r n b m = all_below (λ (k : ℕ). leb (byte_at r k b) m) n

-- the kind is a mode
abbrev pub is_mode : ℕ → Bool
is_mode kind = leb kind 4

abbrev pub coded_y : ℕ → Bool
coded_y mask = flag_at 0 mask

abbrev pub coded_u : ℕ → Bool
coded_u mask = flag_at 1 mask

abbrev pub coded_v : ℕ → Bool
coded_v mask = flag_at 2 mask

-- the largest mask: of Y alone, or of all three
abbrev pub most_mask : Format → ℕ
most_mask Grey = 1
most_mask Colour = 7

-- what the leaf's units are told: intra for a mode, the QP, luma-coded and done; and the mode, 255 for the lent prediction
abbrev pub word_at : List ℕ → ℕ → ℕ
word_at r k = leaf_word (is_mode (kind_at r k)) (record_qp r k) (coded_y (record_mask r k))

abbrev pub mode_at : List ℕ → ℕ → ℕ
mode_at r k = pick (is_mode (kind_at r k)) (kind_at r k) 255

-- ---- residuals. side is a leaf's in luma

-- samples of a leaf in a component
abbrev pub sample_count : Component → ℕ → ℕ
sample_count c side = side_of c side * side_of c side

-- residuals of a leaf in a component: none where it is not coded
abbrev pub residual_count : Component → Bool → ℕ → ℕ
residual_count c coded side = pick coded (sample_count c side) 0

-- where those of U and of V start, and where V's end, the leaf's own starting at `at`
abbrev pub start_u : (at mask side : ℕ) → ℕ
start_u at mask side = at + residual_count Luma (coded_y mask) side

abbrev pub start_v : (at mask side : ℕ) → ℕ
start_v at mask side = start_u at mask side + residual_count Chroma (coded_u mask) side

abbrev pub end_v : (at mask side : ℕ) → ℕ
end_v at mask side = start_v at mask side + residual_count Chroma (coded_v mask) side

-- how far the walk has come: the leaf's number, and its place in the residual list
pub record Place : Type 0 where
  pub at : ℕ
  pub k : ℕ

abbrev pub walked_to : (at k : ℕ) → Place
walked_to at k = record { at = at; k = k }

abbrev pub first : Place
first = walked_to 0 0

-- past a leaf of side `side`
abbrev pub past : List ℕ → (side : ℕ) → Place → Place
past r side t = record { at = end_v t.at (record_mask r t.k) side; k = t.k + 1 }

abbrev pub advance : List ℕ → Leaf → Place → Place
advance r p t = past r (4 * p.side) t

-- past a list of leaves
abbrev pub passed : List ℕ → List Leaf → Place → Place
passed r l t = run (advance r) l t
