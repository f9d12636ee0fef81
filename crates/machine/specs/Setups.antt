-- The settings of an axis: I, V, K and D.
use Rattle.std.specs.Prelude.{ℕ, min}

pub record Setup : Type 0 where
  pub initial : ℕ  -- I
  pub slew : ℕ  -- V
  pub gain : ℕ  -- K: speed gained per step
  pub loss : ℕ  -- K: speed lost per step
  pub divisor : ℕ  -- D

-- those of a fresh axis
abbrev pub fresh_setup : Setup
fresh_setup = record { initial = 400; slew = 5016; gain = 20; loss = 20; divisor = 1 }

-- the speed at which an index starts
abbrev pub start_speed : Setup → ℕ
start_speed u = min u.initial u.slew
