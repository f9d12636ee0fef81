-- The tokens that a scanner gives.
use Rattle.std.specs.Prelude.{◌≡◌, true, List, [], ◌∷◌, Some, None, Option}
use Rattle.sequence.specs.Texts.{Token, tokens}
use Rattle.token.specs.declared.scanner.Scanner.{Scanner}
use Rattle.token.specs.declared.scanner.Spot.{Spot}

abbrev pub left : Scanner → List Token
left s = tokens s.column true s.rest.now

abbrev pub token_of : Spot → Token
token_of p = record { column = p.column; bytes = p.text.now }

-- one step: the first token that is left, and the others stay
abbrev pub Gives : Option Spot → Scanner → Scanner → Type 0
Gives None before after = (left before ≡ []) × (left after ≡ []) × (after.line ≡ before.line)
Gives (Some p) before after = (left before ≡ token_of p ∷ left after) × (p.line ≡ before.line) × (after.line ≡ before.line)
