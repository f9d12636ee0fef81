-- What encoding and decoding have to do with each other.
use Rattle.std.specs.Prelude.{◌≡◌, ℕ, true, List, take, Some, Ok, Err, Result}
use Rattle.std.specs.Option.{option_map}
use Rattle.isa.specs.declared.refusal.Refusal.{Refusal}
use Rattle.isa.specs.declared.refusal.Refusal.TheVariants.{Range}
use Rattle.isa.specs.declared.instruction.Instruction.{Instruction}
use Rattle.isa.specs.Shapes.{width_of}
use Rattle.isa.specs.Instructions.{letter_of}
use Rattle.isa.specs.Table.{shape_of}
use Rattle.isa.specs.Codes.{encoded, width, in_range, decoded}

-- Any bytes that begin with those of an encoded instruction are decoded to that instruction, and their number is the
-- width that its letter has.
pub record ReadsBack (i : Instruction ℕ) : Type 0 where
  pub back : (bs : List ℕ) → take (width i) bs ≡ encoded i → decoded bs ≡ Ok i
  pub length : option_map width_of (shape_of (letter_of i)) ≡ Some (width i)

abbrev pub Encodes : {C : Type 0} → Instruction ℕ → Result C Refusal → Type 0
Encodes i (Ok c) = ReadsBack i
Encodes i (Err e) = e ≡ Range

-- Bytes that are decoded begin with those of the instruction, whose operands are in range.
pub record Stood (bs : List ℕ) (i : Instruction ℕ) : Type 0 where
  pub bytes : take (width i) bs ≡ encoded i
  pub range : in_range i ≡ true

abbrev pub Decodes : List ℕ → Result (Instruction ℕ) Refusal → Type 0
Decodes bs (Ok i) = Stood bs i
Decodes bs (Err e) = decoded bs ≡ Err e
