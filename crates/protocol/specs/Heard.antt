-- What the code of a receiver has heard.
use Rattle.std.specs.Prelude.{◌≡◌, refl}
use Rattle.machine.specs.Receivers.{Receiver, deaf, awaiting, gathering, overlong}
use Rattle.protocol.specs.declared.receiver.Heard.{Heard}
use Rattle.protocol.specs.declared.receiver.Heard.TheVariants.{Deaf, Awaiting, Gathering, Overlong}

abbrev pub heard_of : Heard → Receiver
heard_of Deaf = deaf
heard_of Awaiting = awaiting
heard_of (Gathering line) = gathering line
heard_of Overlong = overlong

-- the way back, on which nothing is lost
abbrev pub heard_from : Receiver → Heard
heard_from deaf = Deaf
heard_from awaiting = Awaiting
heard_from (gathering line) = Gathering line
heard_from overlong = Overlong

pub heard_again : (h : Heard) → heard_from (heard_of h) ≡ h
heard_again Deaf = refl
heard_again Awaiting = refl
heard_again (Gathering line) = refl
heard_again Overlong = refl
