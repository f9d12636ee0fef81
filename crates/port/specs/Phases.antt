-- The phase port.
use Rattle.std.specs.Prelude.{◌≡◌, ℕ, ◌+◌, ◌-◌, ◌*◌, ◌%◌, Bool, ◌&&◌, List, [], ◌∷◌, ◌==◌, slice_index}
use Rattle.isa.specs.Places.{every}
use Rattle.isa.specs.declared.instruction.Direction.{Direction}
use Rattle.isa.specs.declared.instruction.Direction.TheVariants.{Plus, Minus}
use Rattle.port.specs.declared.step.Counts.{Counts}
use Rattle.port.specs.declared.phase.Row.{Row}
use Rattle.port.specs.declared.phase.Row.TheVariants.{Full, Half, Wave}
use Rattle.port.specs.Steps.{counted}

-- the sequence table: 1010 is 10, the first phase in the highest bit
abbrev pub columns_of : Row → List ℕ
columns_of Full = 10 ∷ 9 ∷ 5 ∷ 6 ∷ 10 ∷ 9 ∷ 5 ∷ 6 ∷ []
columns_of Half = 10 ∷ 8 ∷ 9 ∷ 1 ∷ 5 ∷ 4 ∷ 6 ∷ 2 ∷ []
columns_of Wave = 8 ∷ 1 ∷ 4 ∷ 2 ∷ 8 ∷ 1 ∷ 4 ∷ 2 ∷ []

-- the full row is the half row's first column and every other after it, the wave row the others
abbrev pub interleaved : Bool
interleaved =
    every (λ k. (slice_index (columns_of Full) k == slice_index (columns_of Half) (2 * k % 8)) && slice_index (columns_of Wave) k == slice_index (columns_of Half) ((2 * k + 1) % 8)) 0 8

abbrev pub column_of : Counts → ℕ
column_of c = (c.plus % 8 + 8 - c.minus % 8) % 8

-- one column on for plus, one back for minus, modulo 8
abbrev pub moved : Direction → ℕ → ℕ
moved Plus k = (k + 1) % 8
moved Minus k = (k + 7) % 8

abbrev pub Moves : Counts → Type 0
Moves c = (d : Direction) → column_of (counted d c) ≡ moved d (column_of c)
