-- The operands that a letter takes, and the bytes that they take.
use Rattle.std.specs.Prelude.{ℕ, ◌+◌, ◌*◌, Bool, true, false, List, ℤ, pos, slice_index}
use Rattle.isa.specs.TwosComplement.{half24, value_of}
use Rattle.isa.specs.declared.shape.Operands.{Operands}
use Rattle.isa.specs.declared.shape.Shape.{Shape}
use Rattle.isa.specs.declared.shape.Shape.TheVariants.{Plain, Byte, Pair, Word, Target, TargetByte, Signed, Long}

-- bytes of an instruction, its letter included
abbrev pub width_of : Shape → ℕ
width_of Plain = 1
width_of Byte = 2
width_of Pair = 3
width_of Word = 3
width_of Target = 3
width_of TargetByte = 4
width_of Signed = 4
width_of Long = 4

-- operands in a text
abbrev pub count_of : Shape → ℕ
count_of Plain = 0
count_of Byte = 1
count_of Pair = 2
count_of Word = 1
count_of Target = 1
count_of TargetByte = 2
count_of Signed = 1
count_of Long = 1

-- the first operand is a target
abbrev pub aims : Shape → Bool
aims Plain = false
aims Byte = false
aims Pair = false
aims Word = false
aims Target = true
aims TargetByte = true
aims Signed = false
aims Long = false

-- low byte first
abbrev pub two : ℕ → ℕ → ℕ
two a b = a + 256 * b

abbrev pub three : ℕ → ℕ → ℕ → ℕ
three a b c = a + 256 * b + 65536 * c

abbrev pub operands : ℤ → ℤ → Operands
operands x y = record { first = x; second = y }

abbrev pub operands_from : Shape → ℕ → ℕ → ℕ → Operands
operands_from Plain a b c = operands (pos 0) (pos 0)
operands_from Byte a b c = operands (pos a) (pos 0)
operands_from Pair a b c = operands (pos a) (pos b)
operands_from Word a b c = operands (pos (two a b)) (pos 0)
operands_from Target a b c = operands (pos (two a b)) (pos 0)
operands_from TargetByte a b c = operands (pos (two a b)) (pos c)
operands_from Signed a b c = operands (value_of half24 (three a b c)) (pos 0)
operands_from Long a b c = operands (pos (three a b c)) (pos 0)

-- the operands in the three bytes after the letter
abbrev pub operands_in : Shape → List ℕ → Operands
operands_in s bs = operands_from s (slice_index bs 0) (slice_index bs 1) (slice_index bs 2)
