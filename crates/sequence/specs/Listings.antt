-- The listing of an image.
use Rattle.std.specs.Prelude.{◌≡◌, ℕ, ◌≤◌, cond, ◌&&◌, List, [], ◌∷◌, ◌++◌, length, ℤ, Some, None, Ok, Err, codes, Option, Result, ◌==◌, nat_le, nat_lt}
use Rattle.std.proofs.lemmas.List.Edits.{sets}
use Rattle.isa.specs.declared.refusal.Refusal.TheVariants.{Size}
use Rattle.isa.specs.declared.shape.Shape.{Shape}
use Rattle.isa.specs.declared.instruction.Instruction.{Instruction}
use Rattle.isa.specs.Checks.{and_then, require}
use Rattle.isa.specs.Places.{image_size}
use Rattle.isa.specs.Shapes.{count_of}
use Rattle.isa.specs.Instructions.{letter_of, operands_of}
use Rattle.isa.specs.Table.{shape_of}
use Rattle.sequence.specs.declared.image.ImageFault.{ImageFault}
use Rattle.sequence.specs.declared.image.Found.{Found}
use Rattle.sequence.specs.Numbers.{decimal, signed}
use Rattle.sequence.specs.Images.{image_fault, contents}

abbrev pub space : ℕ
space = 32

abbrev pub line_feed : ℕ
line_feed = 10

-- the first n of two operands, each after a space
abbrev pub operand_text : ℕ → ℤ → ℤ → List ℕ
operand_text n x y = cond (nat_lt n 1) [] ((space ∷ signed x) ++ cond (nat_lt n 2) [] (space ∷ signed y))

abbrev pub count : Option Shape → ℕ
count None = 0
count (Some s) = count_of s

-- letter and operands
abbrev pub instruction_text : Instruction ℕ → List ℕ
instruction_text i = letter_of i ∷ operand_text (count (shape_of (letter_of i))) (operands_of i).first (operands_of i).second

-- at n
abbrev pub at_line : ℕ → List ℕ
at_line p = codes "at " ++ (decimal p ++ (line_feed ∷ []))

-- place, letter and operands, single spaces between them
abbrev pub instruction_line : ℕ → Instruction ℕ → List ℕ
instruction_line p i = decimal p ++ (space ∷ (instruction_text i ++ (line_feed ∷ [])))

-- the first instruction of a stretch is listed after the line that opens it
abbrev pub opening : Found → List ℕ
opening f = cond f.opens (at_line f.place) []

abbrev pub found_text : Found → List ℕ
found_text f = opening f ++ instruction_line f.place f.instruction

abbrev pub printed : List Found → List ℕ
printed [] = []
printed (f ∷ fs) = found_text f ++ printed fs

abbrev pub listing : List ℕ → Result (List ℕ) ImageFault
listing im = and_then (contents im) (λ fs. Ok (printed fs))

-- the output that every listing fits into
abbrev pub listing_room : ℕ
listing_room = 16384

-- sizes first, then the listing
abbrev pub listed : List ℕ → ℕ → Result (List ℕ) ImageFault
listed im room = and_then (require (length im == image_size && nat_le listing_room room) (image_fault Size 0)) (λ _. listing im)

-- what the lister answers: how many bytes it wrote, or why it refuses
abbrev pub answered : Result (List ℕ) ImageFault → Result ℕ ImageFault
answered (Ok text) = Ok (length text)
answered (Err f) = Err f

-- the output afterwards: the listing in front and the rest as it was, or all as it was
abbrev pub written : List ℕ → Result (List ℕ) ImageFault → List ℕ
written out (Ok text) = sets out 0 text
written out (Err f) = out

-- a listing never needs more than that output
abbrev pub Short : List ℕ → Type 0
Short im = length im ≡ image_size → (text : List ℕ) → listing im ≡ Ok text → length text ≤ listing_room
