-- The pulse port.
use Rattle.std.specs.Prelude.{◌≡◌, ℕ, ◌+◌, ◌-◌, ◌%◌, Option, None, Some}
use Rattle.isa.specs.declared.instruction.Direction.{Direction}
use Rattle.isa.specs.declared.instruction.Direction.TheVariants.{Plus, Minus}
use Rattle.port.specs.declared.step.Counts.{Counts}
use Rattle.port.specs.declared.pulse.PulsePort.{PulsePort}
use Rattle.port.specs.Steps.{counted}

-- the direction level is 1 for plus
abbrev pub level_for : Direction → ℕ
level_for Plus = 1
level_for Minus = 0

abbrev pub level_after : Option Direction → ℕ
level_after None = 0
level_after (Some d) = level_for d

abbrev pub direction_level : PulsePort → ℕ
direction_level p = level_after p.last

abbrev pub step_level : Counts → ℕ
step_level c = (c.plus + c.minus) % 2

-- it toggles with each step, either way
abbrev pub Toggles : Counts → Type 0
Toggles c = (d : Direction) → step_level (counted d c) ≡ 1 - step_level c
