use Rattle.token.proofs.Steps.{gives_first, gives_progress}
use Rattle.token.proofs.scanner.ScannerIterator.TheImpl.Goals as goal

pub next-tells : goal.next-tells
next-tells g x c = record { steps = gives_first _ _ _ c.ensures; goes = gives_progress _ _ _ c.ensures }
