-- What two calls have in common that are lent the same luma data, whatever their formats: they leave the same luma plane, words and counts, by both engines.
-- So a grey picture's are those of the run in colour. And a picture that is accepted stays accepted without its colour. The proofs are `same_luma`,
-- `same_bands` and `stays_accepted`, in proofs/.
-- Assumes nothing: these are definitions.
use Rattle.std.specs.Prelude.{ℕ, [], ◌≡◌, pos}
use Rattle.def.specs.declared.Format.TheVariants.{Grey}
use Rattle.split.specs.Edges.{Pass}
use Rattle.df_laws.specs.Bands.{state_after}
use Rattle.df.specs.Deblock.{Input, pass_edges, outcome}

-- all that is lent but U, V, their tables, their offsets and the format
pub record SameLuma (i j : Input) : Type 0 where
  pub w : i.w ≡ j.w
  pub h : i.h ≡ j.h
  pub y : i.y ≡ j.y
  pub words : i.words ≡ j.words
  pub splits : i.splits ≡ j.splits
  pub motion : i.motion ≡ j.motion
  pub refs : i.refs ≡ j.refs
  pub keep : i.keep ≡ j.keep
  pub strengths : i.strengths ≡ j.strengths
  pub limit : i.settings.limit ≡ j.settings.limit

-- of two accepted pictures of the same luma data
pub record LumaAgrees (i j : Input) : Type 0 where
  -- the lists of both passes
  pub lists : (d : Pass) → pass_edges d i ≡ pass_edges d j
  -- the answer with both counts, the luma plane and the words
  pub reading : (outcome i).reading ≡ (outcome j).reading
  pub y : (outcome i).y ≡ (outcome j).y
  pub words : (outcome i).words ≡ (outcome j).words

-- of two that are done by bands, after their first n: the luma plane, the words, the position and both counts
pub record BandsAgree (i j : Input) (n : ℕ) : Type 0 where
  pub y : (state_after i n).y ≡ (state_after j n).y
  pub words : (state_after i n).words ≡ (state_after j n).words
  pub next : (state_after i n).next ≡ (state_after j n).next
  pub vertical : (state_after i n).vertical ≡ (state_after j n).vertical
  pub horizontal : (state_after i n).horizontal ≡ (state_after j n).horizontal

-- the same picture in grey: its colour is not lent
abbrev pub without_colour : Input → Input
without_colour i =
    record {
      w = i.w;
      h = i.h;
      y = i.y;
      u = [];
      v = [];
      words = i.words;
      splits = i.splits;
      motion = i.motion;
      refs = i.refs;
      keep = i.keep;
      table0 = [];
      table1 = [];
      strengths = i.strengths;
      settings = record { limit = i.settings.limit; u_offset = pos 0; v_offset = pos 0; format = Grey };
    }
