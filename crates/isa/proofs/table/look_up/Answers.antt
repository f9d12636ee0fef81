-- The rows of O and R, whose operand is signed.
use Rattle.std.proofs.Common.{arith}
use Rattle.isa.proofs.Rows.{rows}
use Rattle.isa.proofs.table.look_up.Goals as goal

pub returns-in-O-2 : goal.returns-in-O-2
returns-in-O-2 c = grind (arith, rows)

pub returns-in-R-2 : goal.returns-in-R-2
returns-in-R-2 c = grind (arith, rows)
