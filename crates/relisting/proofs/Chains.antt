-- Instructions that come one after the other, upward.
use Rattle.std.proofs.Common.{◌≡◌, ℕ, ◌+◌, ◌<◌, ◌≤◌, Bool, true, false, List, [], ◌∷◌, arith}
use Rattle.std.specs.List.{AllByRecursion}
use Rattle.isa.specs.declared.instruction.Instruction.{Instruction}
use Rattle.isa.specs.Places.{user}
use Rattle.isa.specs.Codes.{width, in_range}
use Rattle.sequence.specs.declared.image.Found.{Found}
use Rattle.layout.proofs.Placing.{user_low}

pub some_width : (i : Instruction ℕ) → 1 ≤ width i
some_width i = omega arith

-- it opens a stretch past all before it, or follows without gap; n is the place after those before, used: a mark must
-- still stand there
pub record Begins (used : Bool) (n : ℕ) (f : Found) : Type 0 where
  pub opens : f.opens ≡ true → (n ≤ f.place) × (used ≡ true → n < f.place)
  pub follows : f.opens ≡ false → (used ≡ true) × (f.place ≡ n)

-- its places and the place after it are user places
abbrev pub Users : Found → Type 0
Users f = (k : ℕ) → k ≤ width f.instruction → user (f.place + k) ≡ true

abbrev pub Chain : Bool → ℕ → List Found → Type 0
Chain used n [] = Unit {0}
Chain used n (f ∷ fs) = Begins used n f × Users f × Chain true (f.place + width f.instruction) fs

abbrev pub Ranged : Found → Type 0
Ranged f = in_range f.instruction ≡ true

-- what a line can be printed of and read again
abbrev pub Fine : Found → Type 0
Fine f = (f.place < 2048) × Ranged f

pub all_fine : (fs : List Found) (used : Bool) (n : ℕ) → Chain used n fs → AllByRecursion Ranged fs → AllByRecursion Fine fs
all_fine [] used n c a = tt
all_fine (f ∷ fs) used n c a = ((let u = user_low (f.place + 0) (c.1 0 (omega arith)) in omega arith, a.0), all_fine fs true (f.place + width f.instruction) c.2 a.1)
