-- Refusals in words.
use Rattle.std.specs.Prelude.{ℕ, List, codes}
use Rattle.isa.specs.declared.refusal.Refusal.{Refusal}
use Rattle.isa.specs.declared.refusal.Refusal.TheVariants.{Size, Character, Letter, Long, Operands, Range, Stale, Area, Label, Target, Overlap, Busy, Absent, Spoilt, Code, Full, Limit}

abbrev pub sentence_of : Refusal → List ℕ
sentence_of Size = codes "the size is wrong: an image has 2,048 bytes, a text at most 16,384 bytes, 2,048 lines and 64 labels"
sentence_of Character = codes "a byte that is not allowed: only printable ASCII and line feeds are"
sentence_of Letter = codes "no such command: the letters are A D G I J K L O R V W Z + and -, in upper case"
sentence_of Long = codes "too long: a line has at most 80 bytes, a message 12"
sentence_of Operands = codes "the parts of the line are wrong in number or form"
sentence_of Range = codes "an operand is outside its range"
sentence_of Stale = codes "the written place is not where the line falls: correct it, the places after it and every target that has moved"
sentence_of Area = codes "outside the user places 0 to 192 and 256 to 2047, the mark that follows included, or no stretch was opened"
sentence_of Label = codes "a label that is defined twice, or nowhere"
sentence_of Target = codes "the target is not the first byte of an instruction"
sentence_of Overlap = codes "another stretch has a byte or its mark here"
sentence_of Busy = codes "busy: a run is going or the motor moves"
sentence_of Absent = codes "the memory is absent: its size is wrong"
sentence_of Spoilt = codes "the page cannot be read: load the image again"
sentence_of Code = codes "the byte here is no command letter"
sentence_of Full = codes "the step port takes no more steps"
sentence_of Limit = codes "the limit switch of this direction is on"
