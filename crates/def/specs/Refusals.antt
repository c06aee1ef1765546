-- The number of each refusal.
-- Assumes nothing: these are definitions.
use Rattle.std.specs.Prelude.{ℕ}
use Rattle.def.specs.declared.Refusal.{Refusal}
use Rattle.def.specs.declared.Refusal.TheVariants.{Size, Length, Setting, Split, Leaf, Qp, Sample, Block, Mode, Points, Pivot, Sheet, Record, Band, Keep, Bits}
use Rattle.def.specs.declared.Refusal.TheVariants.{Stream, Short, Rows, Old, Window, Turn}

abbrev pub number_of : Refusal → ℕ
number_of Size = 1
number_of Length = 2
number_of Setting = 3
number_of Split = 4
number_of Leaf = 5
number_of Qp = 6
number_of Sample = 7
number_of Block = 8
number_of Mode = 9
number_of Points = 10
number_of Pivot = 11
number_of Sheet = 12
number_of Record = 13
number_of Band = 14
number_of Keep = 15
number_of Bits = 16
number_of Stream = 17
number_of Short = 18
number_of Rows = 19
number_of Old = 20
number_of Window = 21
number_of Turn = 22
