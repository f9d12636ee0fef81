-- A message that was read: its operands are those of the table, and it is no wait.
use Rattle.std.specs.Prelude.{◌≡◌, ◌≤◌, true, IsNone}
use Rattle.isa.specs.declared.instruction.Instruction.TheVariants.{Act as act}
use Rattle.isa.specs.Codes.{in_range}
use Rattle.machine.specs.declared.message.Message.{Message}
use Rattle.machine.specs.declared.message.Message.TheVariants.{SoftStop, Go, Act}
use Rattle.machine.specs.Effects.{wait_of}

abbrev pub Fits : Message → Type 0
Fits SoftStop = Unit {0}
Fits (Go p) = p ≤ 2047
Fits (Act a) = (in_range (act a) ≡ true) × IsNone (wait_of a)
