use Rattle.std.proofs.Common.{take}
use Rattle.lister.specs.Writes.{Appends, spaced}
use Rattle.lister.proofs.print.Listing.push_operands.Given as goal

abbrev pub invariant-loop-operand : goal.invariant-loop-operand
invariant-loop-operand l = Appends (spaced (take l.operand-index l.operands)) l.initial.self l.self
