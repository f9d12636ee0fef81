-- What stands in an image: a walk upward over its places.
use Rattle.std.specs.Prelude.{ℕ, zero, suc, ◌-◌, Bool, true, false, cond, not, ◌&&◌, ◌||◌, List, [], ◌∷◌, take, Some, None, Ok, Err, Option, Result, ◌==◌, slice_index_or}
use Rattle.isa.specs.declared.refusal.Refusal.{Refusal}
use Rattle.isa.specs.declared.refusal.Refusal.TheVariants.{Area, Target, Code}
use Rattle.isa.specs.declared.shape.Shape.{Shape}
use Rattle.isa.specs.declared.instruction.Instruction.{Instruction}
use Rattle.isa.specs.Checks.{and_then}
use Rattle.isa.specs.Places.{user, all_user}
use Rattle.isa.specs.Shapes.{width_of}
use Rattle.isa.specs.Instructions.{target_of}
use Rattle.isa.specs.Table.{shape_of}
use Rattle.isa.specs.Codes.{width, decoded}
use Rattle.sequence.specs.declared.image.ImageFault.{ImageFault}
use Rattle.sequence.specs.declared.image.Found.{Found}

-- the byte that ends a stretch and fills what no stretch takes
abbrev pub mark_byte : ℕ
mark_byte = 255

abbrev pub image_fault : Refusal → ℕ → ImageFault
image_fault r p = record { refusal = r; place = p }

-- what stands at a place
pub data Content : Type 0 where
  mark : Content
  code : Instruction ℕ → Content
  wrong : Refusal → Content

abbrev pub ranged : Result (Instruction ℕ) Refusal → Content
ranged (Ok i) = code i
ranged (Err r) = wrong r

abbrev pub lettered : ℕ → List ℕ → Option Shape → Content
lettered p s None = wrong Code
lettered p s (Some h) = cond (all_user (suc p) (width_of h - 1)) (ranged (decoded (take (width_of h) s))) (wrong Area)

-- an instruction is read so: its first place is a user place, its byte a letter, the other places are user places, its
-- operands are in range; s is the bytes from place p on
abbrev pub read_at : ℕ → List ℕ → Content
read_at p s = cond (user p) (lettered p s (shape_of (slice_index_or s 0 mark_byte))) (wrong Area)

abbrev pub content_at : ℕ → List ℕ → Content
content_at p s = cond (slice_index_or s 0 mark_byte == mark_byte) mark (read_at p s)

abbrev pub with_found : Found → Result (List Found) ImageFault → Result (List Found) ImageFault
with_found f (Ok fs) = Ok (f ∷ fs)
with_found f (Err e) = Err e

-- the first instruction of a stretch opens it
abbrev pub found_at : ℕ → Bool → Instruction ℕ → Found
found_at p inside i = record { place = p; instruction = i; opens = not inside }

-- a stretch ends with a mark in a user place
abbrev pub onward : ℕ → Bool → Content → Result (List Found) ImageFault → Result (List Found) ImageFault
onward p inside mark rest = cond (inside && not (user p)) (Err (image_fault Area p)) rest
onward p inside (code i) rest = with_found (found_at p inside i) rest
onward p inside (wrong r) rest = Err (image_fault r p)

abbrev pub is_code : Content → Bool
is_code mark = false
is_code (code i) = true
is_code (wrong r) = false

-- bytes after the first
abbrev pub further : Content → ℕ
further mark = 0
further (code i) = width i - 1
further (wrong r) = 0

-- The instructions from place p on. k: so many bytes belong to the instruction before; inside: a stretch is open.
abbrev pub walk : ℕ → Bool → ℕ → List ℕ → Result (List Found) ImageFault
walk p inside k [] = cond inside (Err (image_fault Area p)) (Ok [])
walk p inside (suc k) (b ∷ bs) = walk (suc p) inside k bs
walk p inside zero (b ∷ bs) = onward p inside (content_at p (b ∷ bs)) (walk (suc p) (is_code (content_at p (b ∷ bs))) (further (content_at p (b ∷ bs))) bs)

abbrev pub begins : List Found → ℕ → Bool
begins [] p = false
begins (f ∷ fs) p = f.place == p || begins fs p

abbrev pub begun : List Found → Option ℕ → Bool
begun fs None = true
begun fs (Some t) = begins fs t

-- every target is the first byte of an instruction
abbrev pub aimed : List Found → List Found → Result (List Found) ImageFault
aimed all [] = Ok all
aimed all (f ∷ fs) = cond (begun all (target_of f.instruction)) (aimed all fs) (Err (image_fault Target f.place))

-- the instructions of an image: the whole walk, then the targets
abbrev pub contents : List ℕ → Result (List Found) ImageFault
contents im = and_then (walk 0 false 0 im) (λ fs. aimed fs fs)
