-- What deblocking refuses, of a picture or of a part of it: 1, 2, 3, then 4 or 5 as the walk meets them, 15, 6, 7.
-- Assumes nothing: these are definitions.
use Rattle.std.specs.Prelude.{ℕ, ◌*◌, ◌/◌, Bool, ◌&&◌, List, [], ◌∷◌, leb, eqb, ℤ, pos, negsuc, length, drop, Ok, Err}
use Rattle.std.specs.Int.Signed.{le_z}
use Rattle.laws.specs.Call.{unless, all_of}
use Rattle.laws.specs.Scan.{all_in}
use Rattle.def.specs.Answers.{after_checks}
use Rattle.def.specs.Formats.{in_format}
pub use Rattle.def.specs.Formats.{colour_length}
use Rattle.def.specs.Picture.{size_ok, luma_length, unit_count, root_count}
use Rattle.def.specs.Word.{qp_of}
use Rattle.def.specs.Answers.{Answer}
use Rattle.def.specs.declared.Format.{Format}
use Rattle.def.specs.declared.Format.TheVariants.{Grey, Colour}
use Rattle.def.specs.declared.Refusal.TheVariants.{Size, Length, Setting, Keep, Qp, Sample}
use Rattle.samples.specs.Samples.{samples_ok}
use Rattle.split.specs.ListCall.{limit_ok}
use Rattle.split.specs.Picture.{picture_walk}
use Rattle.df_check.specs.declared.Settings.{Settings}
use Rattle.df_check.specs.declared.check.Lengths.{Lengths}

-- entries of a chroma table, in a picture of the format
abbrev pub table_length : Format → ℕ
table_length f = in_format f 70

-- 2, of what is lent, `lent` rows of luma samples, and of the split bytes of the `own` among them: four numbers of motion, two references and a keep mark a unit,
-- 1,024 split bytes a root, four rows of 52 entries. A grey picture has no U, no V and no tables
abbrev pub length_tests : Format → (w lent own : ℕ) → Lengths → List Bool
length_tests f w lent own n =
    eqb n.y (luma_length w lent)
    ∷ eqb n.u (colour_length f w lent)
    ∷ eqb n.v (colour_length f w lent)
    ∷ eqb n.words (unit_count w lent)
    ∷ eqb n.splits (1024 * root_count w own)
    ∷ eqb n.motion (4 * unit_count w lent)
    ∷ eqb n.refs (2 * unit_count w lent)
    ∷ eqb n.keep (unit_count w lent)
    ∷ eqb n.table0 (table_length f)
    ∷ eqb n.table1 (table_length f)
    ∷ eqb n.strengths 208
    ∷ []

unfoldable pub lengths_ok : Format → (w lent own : ℕ) → Lengths → Bool
lengths_ok f w lent own n = all_of (length_tests f w lent own n)

-- 3: the transform limit, 5 or 6, and an offset, -12..12, of a grey picture 0
abbrev pub least_offset : Format → ℤ
least_offset Grey = pos 0
least_offset Colour = negsuc 11

abbrev pub most_offset : Format → ℤ
most_offset Grey = pos 0
most_offset Colour = pos 12

unfoldable pub offset_ok : Format → ℤ → Bool
offset_ok f z = le_z (least_offset f) z && le_z z (most_offset f)

unfoldable pub settings_ok : Settings → Bool
settings_ok s = all_of (limit_ok s.limit ∷ offset_ok s.format s.u_offset ∷ offset_ok s.format s.v_offset ∷ [])

-- 15: a keep mark that is neither 0 nor 1, of every unit, on an edge or not
unfoldable pub keep_ok : (keep : List ℕ) → Bool
keep_ok keep = all_in 0 (λ (mark : ℕ). leb mark 1) keep

-- 6: a QP over 51, of every unit, on an edge or not
unfoldable pub qps_ok : (words : List ℕ) → Bool
qps_ok words = all_in 0 (λ (word : ℕ). leb (qp_of word) 51) words

-- 7: a sample over 1023 in a plane
unfoldable pub planes_ok : (y u v : List ℕ) → Bool
planes_ok y u v = all_of (samples_ok y ∷ samples_ok u ∷ samples_ok v ∷ [])

-- what is lent to a call. Of motion, references, tables and strengths the length alone
pub record Input : Type 0 where
  pub w : ℕ
  pub h : ℕ
  pub y : List ℕ
  pub u : List ℕ
  pub v : List ℕ
  pub words : List ℕ
  pub splits : List ℕ
  pub motion : ℕ
  pub refs : ℕ
  pub keep : List ℕ
  pub table0 : ℕ
  pub table1 : ℕ
  pub strengths : ℕ
  pub settings : Settings

abbrev pub lengths_of : Input → Lengths
lengths_of i =
    record {
      y = length i.y;
      u = length i.u;
      v = length i.v;
      words = length i.words;
      splits = length i.splits;
      motion = i.motion;
      refs = i.refs;
      keep = length i.keep;
      table0 = i.table0;
      table1 = i.table1;
      strengths = i.strengths;
    }

-- from the lengths on, of a picture or of a part of it: of `lent` rows of luma samples that are lent the last `own` are the call's own, and the first
-- `before` are not judged. 4 and 5 are what the walk of its own rows answers
unfoldable pub from_lengths : (lent own before : ℕ) → Input → Answer
from_lengths lent own before i =
    let f = i.settings.format in
    unless (lengths_ok f i.w lent own (lengths_of i)) (Err Length)
    (unless (settings_ok i.settings) (Err Setting)
    (after_checks Err
    (unless (keep_ok (drop (unit_count i.w before) i.keep)) (Err Keep)
    (unless (qps_ok (drop (unit_count i.w before) i.words)) (Err Qp)
    (unless (planes_ok (drop (luma_length i.w before) i.y) (drop (colour_length f i.w before) i.u) (drop (colour_length f i.w before) i.v)) (Err Sample)
    (Ok tt))))
    (picture_walk i.splits (i.w / 4) (own / 4)).answer))

-- of a whole picture
unfoldable pub check_of : Input → Answer
check_of i = unless (size_ok i.w i.h) (Err Size) (from_lengths i.h i.h 0 i)
