-- The parts of a line as the code holds them.
use Rattle.std.specs.Prelude.{ℕ, List, [], ◌∷◌, Some, None, Option}
use Rattle.sequence.specs.Texts.{Token}
use Rattle.sequence.specs.Lines as Lines
use Rattle.sequence.specs.Lines.{Head, Pair, absent}
use Rattle.token.specs.declared.scanner.Spot.{Spot}
use Rattle.token.specs.Spots.{token_of}
use Rattle.parser.specs.declared.instructions.Front.{Front}
use Rattle.parser.specs.declared.instructions.Argument.{Argument}
use Rattle.parser.specs.declared.instructions.Arguments.{Arguments}
use Rattle.parser.specs.declared.instructions.Operand.{Operand}
use Rattle.parser.specs.declared.instructions.Operand.TheVariants.{Number, Named}

abbrev pub head_of : Front → Head
head_of f = record { line = f.line; written = f.written; label = f.label }

abbrev pub shown_operand : Operand → Lines.Operand
shown_operand (Number z) = Lines.number z
shown_operand (Named n) = Lines.named n

-- an operand and its column; one that is not there is the number 0 in column 0
abbrev pub operand_in : Option Argument → Lines.Operand
operand_in None = absent
operand_in (Some x) = shown_operand x.operand

abbrev pub column_in : Option Argument → ℕ
column_in None = 0
column_in (Some x) = x.column

abbrev pub shown_pair : Arguments → Pair
shown_pair x = record { first = operand_in x.first; second = operand_in x.second; first_column = column_in x.first; second_column = column_in x.second }

-- one operand alone
abbrev pub shown_argument : Argument → Pair
shown_argument x = shown_pair (record { first = Some x; second = None })

-- the first of some tokens, and the others; with no first there are none
abbrev pub listed : Option Spot → List Token → List Token
listed None ts = []
listed (Some p) ts = token_of p ∷ ts
