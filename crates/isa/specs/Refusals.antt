-- The numbers under which refusals are answered.
use Rattle.std.specs.Prelude.{ℕ}
use Rattle.isa.specs.declared.refusal.Refusal.{Refusal}
use Rattle.isa.specs.declared.refusal.Refusal.TheVariants.{Size, Character, Letter, Long, Operands, Range, Stale, Area, Label, Target, Overlap, Busy, Absent, Spoilt, Code, Full, Limit}

abbrev pub number_of : Refusal → ℕ
number_of Size = 1
number_of Character = 2
number_of Letter = 3
number_of Long = 4
number_of Operands = 5
number_of Range = 6
number_of Stale = 7
number_of Area = 8
number_of Label = 9
number_of Target = 10
number_of Overlap = 11
number_of Busy = 12
number_of Absent = 13
number_of Spoilt = 14
number_of Code = 15
number_of Full = 16
number_of Limit = 17
