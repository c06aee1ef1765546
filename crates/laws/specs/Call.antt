-- The form of every public contract: the outcome, the answer's reading with each lent slice at exit, is a function of the input.
-- Assumes nothing: these are definitions.
use Rattle.std.specs.Prelude.{◌≡◌, Bool, true, false, ◌&&◌, ◌||◌, List, [], ◌∷◌}

-- the outcome o is the one that the rule f gives at the input i
abbrev pub Gives : {I O : Type 0} → (I → O) → I → O → Type 0
Gives f i o = o ≡ f i

-- the refusal r where the test fails, and else k: a row of these, a ladder, is a call's refusals in their order
abbrev pub unless : {A : Type 0} → Bool → A → A → A
unless true r k = k
unless false r k = r

-- every test of a list holds: it computes to the code's `a & b & c`
abbrev pub all_from : Bool → List Bool → Bool
all_from a [] = a
all_from a (b ∷ bs) = all_from (a && b) bs

abbrev pub all_of : List Bool → Bool
all_of [] = true
all_of (b ∷ bs) = all_from b bs

-- some test of a list holds: it computes to the code's `a | b | c`
abbrev pub any_from : Bool → List Bool → Bool
any_from a [] = a
any_from a (b ∷ bs) = any_from (a || b) bs

abbrev pub any_of : List Bool → Bool
any_of [] = false
any_of (b ∷ bs) = any_from b bs
