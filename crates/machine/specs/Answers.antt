-- The bytes of an answer.
use Rattle.std.specs.Prelude.{ℕ, ◌+◌, ◌-◌, ◌/◌, ◌%◌, List, [], ◌∷◌, ◌++◌, length, replicate}
use Rattle.isa.specs.Refusals.{number_of}
use Rattle.sequence.specs.Numbers.{signed}
use Rattle.machine.specs.declared.answer.Answer.{Answer}
use Rattle.machine.specs.declared.answer.Answer.TheVariants.{Silence, Echo, Done, Position, Refused}

-- CR LF
abbrev pub line_end : List ℕ
line_end = 13 ∷ 10 ∷ []

-- spaces before, up to so many columns
abbrev pub justified : ℕ → List ℕ → List ℕ
justified columns bs = replicate (columns - length bs) 32 ++ bs

abbrev pub position_columns : ℕ
position_columns = 9

abbrev pub bytes_of : Answer → List ℕ
bytes_of Silence = []
bytes_of (Echo b) = b ∷ []
bytes_of Done = line_end
bytes_of (Position z) = justified position_columns (signed z) ++ line_end
bytes_of (Refused r) = 63 ∷ (48 + number_of r / 10) ∷ (48 + number_of r % 10) ∷ line_end
