-- What the walk of the code has to do with that of the definition.
use Rattle.std.specs.Prelude.{◌≡◌, ℕ, ◌+◌, ◌-◌, ◌*◌, ◌<◌, ◌≤◌, Bool, true, cond, List, [], length, drop, Some, None, Ok, Err, Option, Result, ◌≢◌, slice_index}
use Rattle.isa.specs.declared.refusal.Refusal.{Refusal}
use Rattle.isa.specs.declared.instruction.Instruction.{Instruction}
use Rattle.isa.specs.Places.{image_size}
use Rattle.isa.specs.Instructions.{target_of}
use Rattle.isa.specs.Codes.{width, in_range}
use Rattle.sequence.specs.declared.image.ImageFault.{ImageFault}
use Rattle.sequence.specs.declared.image.Found.{Found}
use Rattle.sequence.specs.Images.{code, wrong, mark_byte, image_fault, read_at, with_found, walk}
use Rattle.lister.specs.declared.walk.Walk.{Walk}

-- the place of the first of the bytes at the end of an image
abbrev pub place_of : List ℕ → ℕ
place_of s = image_size - length s

-- what is yet to come where these bytes are left
abbrev pub left_in : Bool → List ℕ → Result (List Found) ImageFault
left_in inside s = walk (place_of s) inside 0 s

abbrev pub reached : Walk → ℕ
reached w = place_of w.rest.now

abbrev pub left : Walk → Result (List Found) ImageFault
left w = left_in w.inside w.rest.now

-- no more items than this are yet to come
abbrev pub turns : Walk → ℕ
turns w = 2 * length w.rest.now + cond w.inside 1 0

-- the operands are in range; hence a target is a place
pub record Sound (i : Instruction ℕ) : Type 0 where
  pub range : in_range i ≡ true
  pub low : (t : ℕ) → target_of i ≡ Some t → t ≤ 2047

-- the marks in front are passed
abbrev pub Passed : Result (Unit {0}) Refusal → Walk → Walk → Type 0
Passed (Ok u) before after = (left before ≡ left after) × (turns after ≤ turns before) × (0 < length after.rest.now → slice_index after.rest.now 0 ≢ mark_byte)
Passed (Err r) before after = left before ≡ Err (image_fault r (reached after))

-- the instruction in front is read and passed
abbrev pub Reads : Result (Instruction ℕ) Refusal → Walk → Walk → Type 0
Reads (Ok i) before after = (read_at (reached before) before.rest.now ≡ code i) × (width i ≤ length before.rest.now) × (after.rest.now ≡ drop (width i) before.rest.now) × Sound i
Reads (Err r) before after = (read_at (reached before) before.rest.now ≡ wrong r) × (after.rest.now ≡ before.rest.now)

-- one step of the walk
abbrev pub Steps : Result (Option Found) Refusal → Walk → Walk → Type 0
Steps (Ok None) before after = left before ≡ Ok []
Steps (Ok (Some f)) before after = (left before ≡ with_found f (left after)) × (turns after < turns before) × (f.place < 2048) × Sound f.instruction
Steps (Err r) before after = left before ≡ Err (image_fault r (reached after))

-- one item of the walk
abbrev pub Gives : Walk → Option (Result Found ImageFault) → Walk → Type 0
Gives before None after = left before ≡ Ok []
Gives before (Some (Ok f)) after = (left before ≡ with_found f (left after)) × (f.place < 2048) × Sound f.instruction
Gives before (Some (Err e)) after = left before ≡ Err e

-- the instructions of a walk without a fault
abbrev pub found_in : Result (List Found) ImageFault → List Found
found_in (Ok fs) = fs
found_in (Err f) = []
