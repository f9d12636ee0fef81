-- The bytes of an instruction.
use Rattle.std.specs.Prelude.{ℕ, ◌/◌, ◌%◌, Bool, cond, List, [], ◌∷◌, length, Some, None, Ok, Err, is_ok, Option, Result, slice_index}
use Rattle.isa.specs.declared.refusal.Refusal.{Refusal}
use Rattle.isa.specs.declared.refusal.Refusal.TheVariants.{Range, Code as NoLetter}
use Rattle.isa.specs.declared.shape.Shape.{Shape}
use Rattle.isa.specs.declared.instruction.Action.TheVariants.{Outputs, Divisor, InitialSpeed, SlewSpeed, Rates, Origin, IndexTo, Wait, Report, Index}
use Rattle.isa.specs.declared.instruction.Instruction.{Instruction}
use Rattle.isa.specs.declared.instruction.Instruction.TheVariants.{Go, Jump, JumpLow, Act}
use Rattle.isa.specs.declared.table.Entry.{Entry}
use Rattle.isa.specs.declared.table.Mismatch.{Mismatch}
use Rattle.isa.specs.declared.table.Mismatch.TheVariants.{UnknownLetter, OutOfRange}
use Rattle.isa.specs.declared.codec.Code.{Code}
use Rattle.isa.specs.TwosComplement.{half24, bits_of}
use Rattle.isa.specs.Shapes.{operands_from}
use Rattle.isa.specs.Instructions.{letter_of, operands_of}
use Rattle.isa.specs.Table.{entry, shape_of}

-- a number in two and in three bytes, low byte first
abbrev pub bytes2 : ℕ → List ℕ
bytes2 n = n % 256 ∷ n / 256 ∷ []

abbrev pub bytes3 : ℕ → List ℕ
bytes3 n = n % 256 ∷ n / 256 % 256 ∷ n / 65536 ∷ []

abbrev pub operand_bytes : Instruction ℕ → List ℕ
operand_bytes (Go p) = bytes2 p
operand_bytes (Jump p n) = p % 256 ∷ p / 256 ∷ n ∷ []
operand_bytes (JumpLow p c) = p % 256 ∷ p / 256 ∷ c ∷ []
operand_bytes (Act (Outputs n)) = n ∷ []
operand_bytes (Act (Divisor n)) = n ∷ []
operand_bytes (Act (InitialSpeed n)) = bytes2 n
operand_bytes (Act (SlewSpeed n)) = bytes2 n
operand_bytes (Act (Rates a d)) = a ∷ d ∷ []
operand_bytes (Act (Origin z)) = bytes3 (bits_of half24 z)
operand_bytes (Act (IndexTo z)) = bytes3 (bits_of half24 z)
operand_bytes (Act (Wait n)) = bytes2 n
operand_bytes (Act Report) = []
operand_bytes (Act (Index d n)) = bytes3 n

-- the letter, then the operands
abbrev pub encoded : Instruction ℕ → List ℕ
encoded i = letter_of i ∷ operand_bytes i

abbrev pub width : Instruction ℕ → ℕ
width i = length (encoded i)

-- the operands are in the ranges of the table
abbrev pub in_range : Instruction ℕ → Bool
in_range i = is_ok (entry (letter_of i) (operands_of i))

-- four bytes, with 0 after the instruction
abbrev pub padded : List ℕ → List ℕ
padded bs = slice_index bs 0 ∷ slice_index bs 1 ∷ slice_index bs 2 ∷ slice_index bs 3 ∷ []

abbrev pub code_of : Instruction ℕ → Code
code_of i = record { bytes = padded (encoded i); len = width i }

abbrev pub encoding : Instruction ℕ → Result Code Refusal
encoding i = cond (in_range i) (Ok (code_of i)) (Err Range)

abbrev pub instruction_in : Result Entry Mismatch → Result (Instruction ℕ) Refusal
instruction_in (Ok e) = Ok e.instruction
instruction_in (Err (OutOfRange s k)) = Err Range
instruction_in (Err UnknownLetter) = Err NoLetter

abbrev pub decoded_as : Option Shape → ℕ → ℕ → ℕ → ℕ → Result (Instruction ℕ) Refusal
decoded_as None l a b c = Err NoLetter
decoded_as (Some s) l a b c = instruction_in (entry l (operands_from s a b c))

-- the instruction in front of some bytes
abbrev pub decoded : List ℕ → Result (Instruction ℕ) Refusal
decoded bs = decoded_as (shape_of (slice_index bs 0)) (slice_index bs 0) (slice_index bs 1) (slice_index bs 2) (slice_index bs 3)
