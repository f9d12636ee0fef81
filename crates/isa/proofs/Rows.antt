-- What a row of the table comes to: its tests, and a number that is cut to its operand's size.
use Rattle.std.proofs.lemmas.Int.{to_z-of_z}
use Rattle.std.proofs.lemmas.Bool.Decides.{nat_tests}

pub ruleset rows = (nat_tests, to_z-of_z)
