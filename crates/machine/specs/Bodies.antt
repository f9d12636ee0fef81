-- What an axis is apart from its runs, its messages and its port; and the motion part of a tick.
use Rattle.std.specs.Prelude.{ℕ, ◌-◌, Bool, false, cond, not, ℤ, pos, negsuc, ◌+ℤ◌, ◌-ℤ◌, Some, None, Option, ◌==◌, bit_and, int_le, nat_le}
use Rattle.isa.specs.declared.refusal.Refusal.{Refusal}
use Rattle.isa.specs.declared.refusal.Refusal.TheVariants.{Full, Limit}
use Rattle.isa.specs.declared.instruction.Direction.{Direction}
use Rattle.isa.specs.declared.instruction.Direction.TheVariants.{Plus, Minus}
use Rattle.isa.specs.TwosComplement.{half24}
use Rattle.port.specs.Steps.{Room, unlimited, upto, Meaning, stepped}
use Rattle.machine.specs.Setups.{Setup, fresh_setup}
use Rattle.machine.specs.Motions.{Motion, due, gathered, after_step}

pub record Body : Type 0 where
  pub name : ℕ
  pub setup : Setup
  pub position : ℤ
  pub outputs : ℕ
  pub moving : Option Motion  -- what moves, unless it stands still

abbrev pub fresh_body : ℕ → Body
fresh_body name = record { name = name; setup = fresh_setup; position = pos 0; outputs = 0; moving = None }

-- a position moved by one, from one end of -half to half - 1 to the other
abbrev pub shifted : ℕ → Direction → ℤ → ℤ
shifted half Plus z = cond (int_le (pos (half - 1)) z) (negsuc (half - 1)) (z +ℤ pos 1)
shifted half Minus z = cond (int_le z (negsuc (half - 1))) (pos (half - 1)) (z -ℤ pos 1)

-- the bit of a tick's input by which the limit of a direction is on
abbrev pub limit_bit : Direction → ℕ
limit_bit Plus = 128
limit_bit Minus = 64

abbrev pub limit_on : ℕ → Direction → Bool
limit_on input d = not (bit_and input (limit_bit d) == 0)

-- what the motion part of a tick leaves, and why it ends a run, if it does
pub record Moved : Type 0 where
  pub body : Body
  pub port : Meaning
  pub ends : Option Refusal

abbrev pub halted : Refusal → Body → Meaning → Moved
halted r b q = record { body = record b { moving = None }; port = q; ends = Some r }

abbrev pub went : Body → Meaning → Moved
went b q = record { body = b; port = q; ends = None }

-- a step that the port took
abbrev pub step_taken : ℕ → Motion → Body → Body
step_taken sum m b = record b { position = shifted half24 m.direction b.position; moving = after_step sum m }

-- no step more
abbrev pub is_full : Room → Bool
is_full unlimited = false
is_full (upto n) = n == 0

-- the port gets a step; if it refuses, the motion ends
abbrev pub stepping : ℕ → Motion → Body → Meaning → Moved
stepping sum m b q = cond (is_full q.room) (halted Full b q) (went (step_taken sum m b) (stepped m.direction q))

-- The motion part of a tick: the limit of its direction ends it; else its speed is added to its sum, and at the sum that is due
-- the port gets one step.
abbrev pub advanced : ℕ → Option Motion → Body → Meaning → Moved
advanced input None b q = went b q
advanced input (Some m) b q =
    cond (limit_on input m.direction) (halted Limit b q)
    (cond (nat_le (due m) (gathered m)) (stepping (gathered m - due m) m b q) (went (record b { moving = Some (record m { sum = gathered m }) }) q))

abbrev pub motion_part : ℕ → Body → Meaning → Moved
motion_part input b q = advanced input b.moving b q
