use Rattle.std.proofs.Output.{has_written_of_eq}
use Rattle.sequence.proofs.TwoDigits.{numbered-print}
use Rattle.sequence.proofs.words.ImageFaultDisplay.fmt.Goals as goal

pub returns-clause-writes : goal.returns-clause-writes
returns-clause-writes g c =
    let same = numbered-print c.args.self.now.refusal _ in
    λ plain ok. has_written_of_eq _ _ _ _ _ (rw (c.laid_out.ensures, c.number.ensures) same) (c.write.ensures.writes plain ok)
