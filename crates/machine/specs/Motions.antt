-- A motion: an index on its way. It keeps the settings that it began with.
use Rattle.std.specs.Prelude.{ℕ, ◌+◌, ◌-◌, ◌*◌, min, Bool, true, false, cond, Some, None, Option, ◌==◌, nat_le, nat_lt}
use Rattle.std.specs.Option.{option_map}
use Rattle.isa.specs.declared.instruction.Direction.{Direction}
use Rattle.machine.specs.Setups.{Setup, start_speed}

pub record Motion : Type 0 where
  pub direction : Direction
  pub left : ℕ  -- steps to go
  pub speed : ℕ
  pub setup : Setup  -- the settings that it began with
  pub sum : ℕ  -- of the speeds since the last step
  pub slowed : Bool  -- by the soft stop

-- an index of n steps as it begins; one of no steps does nothing
abbrev pub begun : Direction → ℕ → Setup → Option Motion
begun d n u = cond (n == 0) None (Some record { direction = d; left = n; speed = start_speed u; setup = u; sum = 0; slowed = false })

-- at speed 25,000 and divisor 1 a step is due in every tick
abbrev pub full_speed : ℕ
full_speed = 25000

-- a step is due when the sum reaches this
abbrev pub due : Motion → ℕ
due m = full_speed * m.setup.divisor

-- the sum in a tick
abbrev pub gathered : Motion → ℕ
gathered m = m.sum + m.speed

abbrev pub slowing : Motion → Motion
slowing m = record m { slowed = true }

-- the soft stop slows what moves
abbrev pub slowed_down : Option Motion → Option Motion
slowed_down m = option_map slowing m

-- The speed after a step that leaves r > 0: it falls where the rest of the way is just enough to come down to the start, and
-- else rises, not above the slew speed.
abbrev pub next_speed : ℕ → Motion → ℕ
next_speed r m =
    cond (nat_le (m.setup.loss * r) (m.speed - start_speed m.setup)) (m.speed - m.setup.loss) (min m.setup.slew (m.speed + m.setup.gain))

-- one step fewer to go, at this sum and speed
abbrev pub onward : ℕ → ℕ → Motion → Motion
onward sum speed m = record m { left = m.left - 1; speed = speed; sum = sum }

-- After a step, with what is left of the sum: the last step ends it; slowed, the speed falls, and it ends below the start.
abbrev pub after_step : ℕ → Motion → Option Motion
after_step sum m =
    cond (m.left == 1) None
    (cond m.slowed
    (cond (nat_lt m.speed (start_speed m.setup + m.setup.loss)) None (Some (onward sum (m.speed - m.setup.loss) m)))
    (Some (onward sum (next_speed (m.left - 1) m) m)))
