-- Letter, operands and target of an instruction.
use Rattle.std.specs.Prelude.{ℕ, pos, Some, None, Option}
use Rattle.isa.specs.Shapes.{operands}
use Rattle.isa.specs.declared.shape.Operands.{Operands}
use Rattle.isa.specs.declared.instruction.Direction.TheVariants.{Plus, Minus}
use Rattle.isa.specs.declared.instruction.Action.TheVariants.{Outputs, Divisor, InitialSpeed, SlewSpeed, Rates, Origin, IndexTo, Wait, Report, Index}
use Rattle.isa.specs.declared.instruction.Instruction.{Instruction}
use Rattle.isa.specs.declared.instruction.Instruction.TheVariants.{Go, Jump, JumpLow, Act}

abbrev pub letter_of : {X : Type 0} → Instruction X → ℕ
letter_of (Act (Outputs n)) = 65  -- A
letter_of (Act (Divisor n)) = 68  -- D
letter_of (Go x) = 71  -- G
letter_of (Act (InitialSpeed n)) = 73  -- I
letter_of (Jump x n) = 74  -- J
letter_of (Act (Rates a d)) = 75  -- K
letter_of (JumpLow x c) = 76  -- L
letter_of (Act (Origin z)) = 79  -- O
letter_of (Act (IndexTo z)) = 82  -- R
letter_of (Act (SlewSpeed n)) = 86  -- V
letter_of (Act (Wait n)) = 87  -- W
letter_of (Act Report) = 90  -- Z
letter_of (Act (Index Plus n)) = 43  -- +
letter_of (Act (Index Minus n)) = 45  -- -

-- the operands as numbers, 0 for one that is not there
abbrev pub operands_of : Instruction ℕ → Operands
operands_of (Act (Outputs n)) = operands (pos n) (pos 0)
operands_of (Act (Divisor n)) = operands (pos n) (pos 0)
operands_of (Go p) = operands (pos p) (pos 0)
operands_of (Act (InitialSpeed n)) = operands (pos n) (pos 0)
operands_of (Jump p n) = operands (pos p) (pos n)
operands_of (Act (Rates a d)) = operands (pos a) (pos d)
operands_of (JumpLow p c) = operands (pos p) (pos c)
operands_of (Act (Origin z)) = operands z (pos 0)
operands_of (Act (IndexTo z)) = operands z (pos 0)
operands_of (Act (SlewSpeed n)) = operands (pos n) (pos 0)
operands_of (Act (Wait n)) = operands (pos n) (pos 0)
operands_of (Act Report) = operands (pos 0) (pos 0)
operands_of (Act (Index d n)) = operands (pos n) (pos 0)

-- where it may go on to, besides the instruction after it
abbrev pub target_of : {X : Type 0} → Instruction X → Option X
target_of (Go x) = Some x
target_of (Jump x n) = Some x
target_of (JumpLow x c) = Some x
target_of (Act a) = None

-- the same instruction, its target replaced
abbrev pub retarget : {X Y : Type 0} → (X → Y) → Instruction X → Instruction Y
retarget f (Go x) = Go (f x)
retarget f (Jump x n) = Jump (f x) n
retarget f (JumpLow x c) = JumpLow (f x) c
retarget f (Act a) = Act a
