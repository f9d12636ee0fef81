-- Checks one after the other: the first that refuses decides.
use Rattle.std.specs.Prelude.{Bool, true, false, Ok, Err, Result}

abbrev pub and_then : {A B E : Type 0} → Result A E → (A → Result B E) → Result B E
and_then (Ok a) k = k a
and_then (Err e) k = Err e

-- refuses unless the test holds
abbrev pub require : {E : Type 0} → Bool → E → Result (Unit {0}) E
require true e = Ok tt
require false e = Err e
