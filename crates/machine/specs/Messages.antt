-- What a message asks: it is read as the instruction of a line of a text is. No message is a J, L or W, and its targets are
-- numbers; @ is one.
use Rattle.std.specs.Prelude.{ℕ, Bool, true, cond, ◌||◌, List, [], ◌∷◌, Some, None, Ok, Err, is_none, Option, Result, ◌==◌}
use Rattle.isa.specs.declared.refusal.Refusal.{Refusal}
use Rattle.isa.specs.declared.refusal.Refusal.TheVariants.{Character, Letter, Long, Operands}
use Rattle.isa.specs.declared.instruction.Instruction.{Instruction}
use Rattle.isa.specs.declared.instruction.Instruction.TheVariants.{Go as go, Jump, JumpLow, Act as act}
use Rattle.isa.specs.Checks.{and_then, require}
use Rattle.sequence.specs.declared.text.TextFault.{TextFault}
use Rattle.sequence.specs.declared.text.Target.{Target}
use Rattle.sequence.specs.declared.text.Target.TheVariants.{Place, Label}
use Rattle.sequence.specs.declared.text.Line.{Line}
use Rattle.sequence.specs.declared.text.Line.TheVariants.{Blank, Opens, Holds}
use Rattle.sequence.specs.Texts.{Token, tokens}
use Rattle.sequence.specs.Lines.{Head, head, first_bad, coded}
use Rattle.machine.specs.declared.message.Message.{Message}
use Rattle.machine.specs.declared.message.Message.TheVariants.{SoftStop, Go, Act}
use Rattle.machine.specs.Receivers.{Receiver, deaf, awaiting, gathering, overlong}

-- @, J, L and W
abbrev pub soft_stop_letter : ℕ
soft_stop_letter = 64

abbrev pub barred : ℕ → Bool
barred l = l == 74 || (l == 76 || l == 87)

-- the instruction, its target a number
abbrev pub asked : Instruction Target → Result Message Refusal
asked (go (Place p)) = Ok (Go p)
asked (go (Label n)) = Err Operands
asked (Jump t n) = Err Letter
asked (JumpLow t n) = Err Letter
asked (act a) = Ok (Act a)

abbrev pub asked_by : Result Line TextFault → Result Message Refusal
asked_by (Ok (Holds x)) = asked x.instruction
asked_by (Ok Blank) = Err Operands
asked_by (Ok (Opens l p)) = Err Operands
asked_by (Err f) = Err f.refusal

-- @ stands alone
abbrev pub soft_stop : List ℕ → List Token → Result Message Refusal
soft_stop [] [] = Ok SoftStop
soft_stop [] (t ∷ ts) = Err Operands
soft_stop (b ∷ bs) ts = Err Operands

-- nothing stands in front of a message's instruction
abbrev pub bare : Head
bare = head 0 None None

abbrev pub lettered : ℕ → List ℕ → List Token → Result Message Refusal
lettered c [] ts = Err Operands
lettered c (b ∷ bs) ts =
    cond (b == soft_stop_letter) (soft_stop bs ts)
    (cond (barred b) (Err Letter) (asked_by (coded bare c (b ∷ bs) ts)))

abbrev pub worded : List Token → Result Message Refusal
worded [] = Err Operands
worded (t ∷ ts) = lettered t.column t.bytes ts

-- 2, 3, 5 (blank too), 6
unfoldable pub message_of : List ℕ → Result Message Refusal
message_of bs = and_then (require (is_none (first_bad bs)) Character) (λ _. worded (tokens 1 true bs))

-- the message that a line feed ends, if there is one: 4 first
abbrev pub message_in : Receiver → Option (Result Message Refusal)
message_in deaf = None
message_in awaiting = None
message_in (gathering bs) = Some (message_of bs)
message_in overlong = Some (Err Long)
