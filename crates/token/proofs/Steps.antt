-- A step of a scanner as an iterator takes it.
use Rattle.std.proofs.Common.{Some, None, Option, length, ap, arith}
use Rattle.std.specs.Prelude.{⊤}
use Rattle.std.specs.Iterator.{YieldsFirstBy, item_count, MakesProgress}
use Rattle.token.specs.declared.scanner.Scanner.{Scanner}
use Rattle.token.specs.declared.scanner.Spot.{Spot}
use Rattle.token.specs.Spots.{left, token_of, Gives}

pub gives_first : (r : Option Spot) (s t : Scanner) → Gives r s t → YieldsFirstBy token_of left s r t
gives_first None s t g = (g.0, g.1)
gives_first (Some p) s t g = g.0

pub gives_progress : (r : Option Spot) (s t : Scanner) → Gives r s t → MakesProgress (λ _. ⊤) (item_count left) s r t
gives_progress None s t g = record { on = λ _. tt; keeps = tt; rests = λ _. tt }
gives_progress (Some p) s t g = let e = ap length g.0 in record { on = λ _. (tt, tt, omega (arith, e)); keeps = tt; rests = λ _. tt }
