use Rattle.std.proofs.Common.{sym, subst, ◌∷◌}
use Rattle.token.specs.Spots.{left, token_of}
use Rattle.protocol.proofs.Asking.{FitsRead, worded_fits}
use Rattle.protocol.proofs.reading.read_message.Goals as goal

pub returns-clause-fits : goal.returns-clause-fits
returns-clause-fits c = subst FitsRead (sym c.read_words.ensures) (worded_fits (token_of c.in_ok-spot.spot ∷ left c.next.new.self))
