-- A picture done by bands, and what is proved of it: `Joined`, whose proof is `joined`, in proofs/. And the other way round: `Parted`.
-- Assumes nothing: these are definitions.
use Rattle.std.specs.Prelude.{ℕ, zero, suc, ◌+◌, ◌-◌, ◌*◌, ◌/◌, ◌≤◌, ◌<◌, List, ◌++◌, map, ◌≡◌, eqb, get_or, take, drop}
use Rattle.def.specs.declared.Component.{Component}
use Rattle.def.specs.declared.Component.TheVariants.{Luma, Chroma}
use Rattle.split.specs.Edges.{Pass}
use Rattle.split.specs.Picture.{across}
use Rattle.df_rules.specs.Demand3.{Demand3}
use Rattle.df_rules.specs.Places.{unit_side}
use Rattle.bands_rules.specs.Bands.{band_bytes, map_part, places_of, band_list, joined, edge_down}
use Rattle.band_rows.specs.Rows.{band_rows, rows_above, rows_before}
use Rattle.df.specs.Band as band
use Rattle.df.specs.Deblock.{Input, Outcome, pass_edges, qp_y, qp_u, qp_v, outcome}

-- what the calls leave, and what they answered: the picture's planes and words, the position, and the edges counted
pub record State : Type 0 where
  pub y : List ℕ
  pub u : List ℕ
  pub v : List ℕ
  pub words : List ℕ
  pub next : ℕ
  pub vertical : ℕ
  pub horizontal : ℕ

abbrev pub start : Input → State
start i = record { y = i.y; u = i.u; v = i.v; words = i.words; next = 0; vertical = 0; horizontal = 0 }

-- rows of units of what band k is lent: before it, and in it
abbrev pub lent : Input → ℕ → ℕ
lent i k = rows_above k + band_rows (i.h / 4) k

-- the part of a plane that band k is lent, and that part put back
abbrev pub plane_part : Input → ℕ → Component → List ℕ → List ℕ
plane_part i k c p = take (places_of c (i.w / 4) (lent i k)) (drop (places_of c (i.w / 4) (rows_before k)) p)

abbrev pub plane_back : Input → ℕ → Component → (part p : List ℕ) → List ℕ
plane_back i k c part p =
    take (places_of c (i.w / 4) (rows_before k)) p ++ (part ++ drop (places_of c (i.w / 4) (lent i k)) (drop (places_of c (i.w / 4) (rows_before k)) p))

abbrev pub words_back : Input → ℕ → (part words : List ℕ) → List ℕ
words_back i k part l =
    take (1 * (rows_before k * (i.w / 4))) l ++ (part ++ drop (1 * (lent i k * (i.w / 4))) (drop (1 * (rows_before k * (i.w / 4))) l))

-- band k's call, by the position that the calls before handed back
abbrev pub input_of : Input → ℕ → State → band.Input
input_of i k s =
    record {
      next = s.next;
      band = k;
      w = i.w;
      h = i.h;
      y = plane_part i k Luma s.y;
      u = plane_part i k Chroma s.u;
      v = plane_part i k Chroma s.v;
      words = map_part 1 (i.w / 4) (rows_before k) (lent i k) s.words;
      splits = band_bytes i.splits (i.w / 4) k;
      motion = map_part 4 (i.w / 4) (rows_before k) (lent i k) i.motion;
      refs = map_part 2 (i.w / 4) (rows_before k) (lent i k) i.refs;
      keep = map_part 1 (i.w / 4) (rows_before k) (lent i k) i.keep;
      table0 = i.table0;
      table1 = i.table1;
      strengths = i.strengths;
      settings = i.settings;
    }

abbrev pub after : Input → ℕ → State → band.Outcome → State
after i k s o =
    record {
      y = plane_back i k Luma o.y s.y;
      u = plane_back i k Chroma o.u s.u;
      v = plane_back i k Chroma o.v s.v;
      words = words_back i k o.words s.words;
      next = o.reading.next;
      vertical = s.vertical + o.reading.vertical;
      horizontal = s.horizontal + o.reading.horizontal;
    }

-- after the first n bands
unfoldable pub state_after : Input → ℕ → State
state_after i zero = start i
state_after i (suc n) = after i n (state_after i n) (band.outcome (input_of i n (state_after i n)))

abbrev pub bands : Input → ℕ
bands i = across (i.h / 4)

-- the calls of the first n bands were accepted, and those of all
abbrev pub AcceptedTo : Input → ℕ → Type 0
AcceptedTo i n = (k : ℕ) → k < n → (band.outcome (input_of i k (state_after i k))).reading.number ≡ 0

abbrev pub Accepted : Input → Type 0
Accepted i = AcceptedTo i (bands i)

-- a picture that the call for the whole accepts has all its bands accepted. Its proof is `bands_accepted`, in proofs/
abbrev pub Parted : Input → Type 0
Parted i = (outcome i).reading.number ≡ 0 → Accepted i

-- ---- a plane, by its name: its component, what Q's QP is mapped to for it, and its samples wherever planes are held

pub data Plane : Type 0 where
  luma_plane u_plane v_plane : Plane

abbrev pub component_of : Plane → Component
component_of luma_plane = Luma
component_of u_plane = Chroma
component_of v_plane = Chroma

abbrev pub mapped_as : Plane → Input → ℕ → ℕ
mapped_as luma_plane i = qp_y i
mapped_as u_plane i = qp_u i
mapped_as v_plane i = qp_v i

abbrev pub plane_in : Plane → Input → List ℕ
plane_in luma_plane i = i.y
plane_in u_plane i = i.u
plane_in v_plane i = i.v

abbrev pub plane_of : Plane → State → List ℕ
plane_of luma_plane s = s.y
plane_of u_plane s = s.u
plane_of v_plane s = s.v

abbrev pub plane_after : Plane → Outcome → List ℕ
plane_after luma_plane o = o.y
plane_after u_plane o = o.u
plane_after v_plane o = o.v

-- the samples above the last two rows of the first k bands
abbrev pub final : Input → ℕ → Component → ℕ
final i k c = (unit_side c * (16 * k) - 2) * (unit_side c * (i.w / 4))

-- of a picture all of whose bands were accepted
pub record Joined (i : Input) : Type 0 where
  -- the call for the whole picture accepts it, and leaves the same planes, words and counts
  pub accepted : (outcome i).reading.number ≡ 0
  pub planes : (x : Plane) → plane_of x (state_after i (bands i)) ≡ plane_after x (outcome i)
  pub words : (state_after i (bands i)).words ≡ (outcome i).words
  pub vertical : (state_after i (bands i)).vertical ≡ (outcome i).reading.vertical
  pub horizontal : (state_after i (bands i)).horizontal ≡ (outcome i).reading.horizontal
  -- the position is moved on by one
  pub next : (k : ℕ) → k ≤ bands i → (state_after i k).next ≡ k
  -- after band k - 1 the rows above its last two are final
  pub finals : (x : Plane) (k : ℕ) → k ≤ bands i → (j : ℕ) → j < final i k (component_of x) → get_or (plane_of x (state_after i k)) j 0 ≡ get_or (plane_after x (outcome i)) j 0
  -- demand 3 over the bands joined: the bands' lists, one after the other, are the picture's, and a call filters its band's where it lies in what is lent
  pub edges : Demand3 (eqb i.settings.limit 5) i.splits (i.w / 4) (i.h / 4)
  pub lists : (d : Pass) → pass_edges d i ≡ joined (band_list d (eqb i.settings.limit 5) i.splits (i.w / 4) (i.h / 4)) (bands i)
  pub lent_lists : (d : Pass) (k : ℕ) → k < bands i → map (edge_down (rows_before k)) (band.pass_edges d (input_of i k (state_after i k))) ≡ band_list d
      (eqb i.settings.limit 5) i.splits (i.w / 4) (i.h / 4) k
