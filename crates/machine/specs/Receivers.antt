-- What an axis hears: bytes, and from one line feed to the next perhaps a message to it.
use Rattle.std.specs.Prelude.{ℕ, cond, List, [], ◌∷◌, ◌++◌, length, Some, None, fold, Option, ◌==◌, nat_lt}
use Rattle.machine.specs.declared.answer.Answer.{Answer}
use Rattle.machine.specs.declared.answer.Answer.TheVariants.{Silence, Echo}

abbrev pub LF : ℕ
LF = 10

abbrev pub ESC : ℕ
ESC = 27

-- bytes of a message, its name not counted
abbrev pub longest_message : ℕ
longest_message = 12

pub data Receiver : Type 0 where
  -- no line feed has come yet, or the message is to another, or was cut off by ESC
  deaf : Receiver
  -- a line feed has just come: the next byte is the name
  awaiting : Receiver
  -- the bytes of a message to this axis
  gathering : List ℕ → Receiver
  -- more of them than a message has
  overlong : Receiver

-- a byte that is neither LF nor ESC
abbrev pub hears_plain : ℕ → ℕ → Receiver → Receiver
hears_plain name b deaf = deaf
hears_plain name b awaiting = cond (b == name) (gathering []) deaf
hears_plain name b (gathering bs) = cond (nat_lt (length bs) longest_message) (gathering (bs ++ (b ∷ []))) overlong
hears_plain name b overlong = overlong

-- the name and the bytes of a message are echoed
abbrev pub echoed : ℕ → ℕ → Receiver → Answer
echoed name b deaf = Silence
echoed name b awaiting = cond (b == name) (Echo b) Silence
echoed name b (gathering bs) = cond (nat_lt (length bs) longest_message) (Echo b) Silence
echoed name b overlong = Silence

abbrev pub hears : ℕ → Receiver → ℕ → Receiver
hears name r b = cond (b == LF) awaiting (cond (b == ESC) deaf (hears_plain name b r))

-- what has been heard, by the bytes since the last LF, or that none has come
abbrev pub heard : ℕ → Option (List ℕ) → Receiver
heard name None = deaf
heard name (Some bs) = fold (hears name) awaiting bs
