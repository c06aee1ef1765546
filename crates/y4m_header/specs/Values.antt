-- What the parts of a header come to in the code's answers.
-- Assumes nothing: these are definitions.
use Rattle.std.specs.Prelude.{ℕ, Bool, List, Option, Some, None, Result, Ok, Err, unwrap_or, ltb}
use Rattle.laws.specs.Index.{pick}
use Rattle.def.specs.declared.Refusal.TheVariants.{Stream}
use Rattle.y4m_rules.specs.Misreads.{misread}
use Rattle.y4m_rules.specs.Numbers.{is_ratio, value_of, upper, lower}
use Rattle.y4m_rules.specs.Header.{Header as Line, malformed, said}
use Rattle.y4m_rules.specs.declared.Misread.{Misread}
use Rattle.y4m_rules.specs.declared.Said.{Said}
use Rattle.y4m_header.specs.declared.Header.{Header}

-- a text's number, if it has the form
abbrev pub value_by : (List ℕ → Bool) → List ℕ → Option ℕ
value_by form l = pick (form l) (Some (value_of l)) None

unfoldable pub ratio_by : List ℕ → Option (ℕ × ℕ)
ratio_by l = pick (is_ratio l) (Some (upper l, lower l)) None

-- what has been said with a word, if it may stand
abbrev pub told_by : Bool → Said → Option Said
told_by ok p = pick ok (Some p) None

-- what was said, and the place after the header: 0 for what has not come
abbrev pub header_of : Said → (next : ℕ) → Header
header_of p next =
    let f = unwrap_or p.f (0, 0) in
    let a = unwrap_or p.a (0, 0) in
    record { w = unwrap_or p.w 0; h = unwrap_or p.h 0; f = f.0; g = f.1; a = a.0; b = a.1; next = next }

abbrev pub words_of : Line → Result Header Misread
words_of (malformed at) = Err (misread Stream at)
words_of (said p n) = Ok (header_of p n)

-- how many of n bytes a header may have
abbrev pub head_length : ℕ → ℕ
head_length n = pick (ltb n 256) n 256
