use Rattle.std.proofs.Common.{refl}
use Rattle.sequence.specs.Numbers.{decimal}
use Rattle.cases.proofs.worked_cases.Goals as goal

pub returns : goal.returns
unfolding decimal
returns c = record { passed = refl; counted = refl }
