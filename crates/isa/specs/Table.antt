-- The table of commands.
use Rattle.std.specs.Prelude.{ℕ, Bool, true, cond, ◌&&◌, ℤ, pos, negsuc, Some, None, Ok, Err, Option, Result, ◌==◌, int_le}
use Rattle.isa.specs.Shapes.{operands}
use Rattle.isa.specs.declared.shape.Operands.{Operands}
use Rattle.isa.specs.declared.shape.Order.TheVariants.{First, Second}
use Rattle.isa.specs.declared.shape.Shape.{Shape}
use Rattle.isa.specs.declared.shape.Shape.TheVariants.{Plain, Byte, Pair, Word, Target, TargetByte, Signed, Long}
use Rattle.isa.specs.declared.instruction.Direction.TheVariants.{Plus, Minus}
use Rattle.isa.specs.declared.instruction.Action.TheVariants.{Outputs, Divisor, InitialSpeed, SlewSpeed, Rates, Origin, IndexTo, Wait, Report, Index}
use Rattle.isa.specs.declared.instruction.Instruction.{Instruction}
use Rattle.isa.specs.declared.instruction.Instruction.TheVariants.{Go, Jump, JumpLow, Act}
use Rattle.isa.specs.declared.table.Entry.{Entry}
use Rattle.isa.specs.declared.table.Mismatch.{Mismatch}
use Rattle.isa.specs.declared.table.Mismatch.TheVariants.{UnknownLetter, OutOfRange}

abbrev pub within : ℤ → ℤ → ℤ → Bool
within low z high = int_le low z && int_le z high

-- a number that is not negative
abbrev pub nat : ℤ → ℕ
nat (pos n) = n
nat (negsuc n) = 0

abbrev pub fit : Shape → Instruction ℕ → Entry
fit s i = record { shape = s; instruction = i }

-- the row of one letter: whether it is this letter, its shape, whether each operand is in range, and its instruction
abbrev pub row : Bool → Shape → Bool → Bool → Instruction ℕ → Result Entry Mismatch → Result Entry Mismatch
row here s one two i others = cond here (cond one (cond two (Ok (fit s i)) (Err (OutOfRange s Second))) (Err (OutOfRange s First))) others

abbrev pub entry_at : ℕ → ℤ → ℤ → Result Entry Mismatch
entry_at l x y =
    row (l == 65) Byte (within (pos 0) x (pos 63)) true (Act (Outputs (nat x)))  -- A
    (row (l == 68) Byte (within (pos 1) x (pos 255)) true (Act (Divisor (nat x)))  -- D
    (row (l == 71) Target (within (pos 0) x (pos 2047)) true (Go (nat x))  -- G
    (row (l == 73) Word (within (pos 19) x (pos 25000)) true (Act (InitialSpeed (nat x)))  -- I
    (row (l == 86) Word (within (pos 19) x (pos 25000)) true (Act (SlewSpeed (nat x)))  -- V
    (row (l == 74) TargetByte (within (pos 0) x (pos 2047)) (within (pos 0) y (pos 255)) (Jump (nat x) (nat y))  -- J
    (row (l == 75) Pair (within (pos 1) x (pos 255)) (within (pos 1) y (pos 255)) (Act (Rates (nat x) (nat y)))  -- K
    (row (l == 76) TargetByte (within (pos 0) x (pos 2047)) (within (pos 1) y (pos 6)) (JumpLow (nat x) (nat y))  -- L
    (row (l == 79) Signed (within (negsuc 8388606) x (pos 8388607)) true (Act (Origin x))  -- O
    (row (l == 82) Signed (within (negsuc 8388606) x (pos 8388607)) true (Act (IndexTo x))  -- R
    (row (l == 87) Word (within (pos 0) x (pos 65535)) true (Act (Wait (nat x)))  -- W
    (row (l == 90) Plain true true (Act Report)  -- Z
    (row (l == 43) Long (within (pos 0) x (pos 16777215)) true (Act (Index Plus (nat x)))  -- +
    (row (l == 45) Long (within (pos 0) x (pos 16777215)) true (Act (Index Minus (nat x)))  -- -
    (Err UnknownLetter))))))))))))))

abbrev pub entry : ℕ → Operands → Result Entry Mismatch
entry l o = entry_at l o.first o.second

abbrev pub shape_in : Result Entry Mismatch → Option Shape
shape_in (Ok e) = Some e.shape
shape_in (Err (OutOfRange s k)) = Some s
shape_in (Err UnknownLetter) = None

abbrev pub shape_of : ℕ → Option Shape
shape_of l = shape_in (entry l (operands (pos 0) (pos 0)))
