-- The test of targets against a map of first bytes.
use Rattle.std.specs.Prelude.{ℕ, Bool, true, false, cond, List, [], ◌∷◌, Some, None, Ok, Err, Option, Result, slice_index_or, slice_set}
use Rattle.isa.specs.declared.refusal.Refusal.TheVariants.{Target}
use Rattle.isa.specs.Checks.{and_then}
use Rattle.isa.specs.Instructions.{target_of}
use Rattle.sequence.specs.declared.image.ImageFault.{ImageFault}
use Rattle.sequence.specs.declared.image.Found.{Found}
use Rattle.sequence.specs.Images.{image_fault}

-- the map with the first bytes of these instructions
abbrev pub marked : List Found → List Bool → List Bool
marked [] m = m
marked (f ∷ fs) m = marked fs (slice_set m f.place true)

abbrev pub firsts : Result (List Found) ImageFault → List Bool → Result (List Bool) ImageFault
firsts r m = and_then r (λ fs. Ok (marked fs m))

abbrev pub first : List Bool → Option ℕ → Bool
first m None = true
first m (Some t) = slice_index_or m t false

abbrev pub checked_one : List Bool → Found → Result (Unit {0}) ImageFault
checked_one m f = cond (first m (target_of f.instruction)) (Ok tt) (Err (image_fault Target f.place))

abbrev pub checked_all : List Bool → List Found → Result (Unit {0}) ImageFault
checked_all m [] = Ok tt
checked_all m (f ∷ fs) = and_then (checked_one m f) (λ _. checked_all m fs)

abbrev pub checked : List Bool → Result (List Found) ImageFault → Result (Unit {0}) ImageFault
checked m r = and_then r (checked_all m)
