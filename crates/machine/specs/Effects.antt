-- What each instruction does, whatever its target is. `course` says where a run goes then; an event is what was carried out, as
-- an onlooker would tell it.
use Rattle.std.specs.Prelude.{ℕ, ◌-◌, ◌*◌, ◌^◌, Bool, true, false, cond, not, ◌||◌, ℤ, ◌-ℤ◌, Some, None, Option, is_some, ◌==◌, bit_and, int_le, unsigned_abs}
use Rattle.isa.specs.declared.instruction.Direction.{Direction}
use Rattle.isa.specs.declared.instruction.Direction.TheVariants.{Plus, Minus}
use Rattle.isa.specs.declared.instruction.Action.{Action}
use Rattle.isa.specs.declared.instruction.Action.TheVariants.{Outputs, Divisor, InitialSpeed, SlewSpeed, Rates, Origin, IndexTo, Wait, Report, Index}
use Rattle.isa.specs.declared.instruction.Instruction.{Instruction}
use Rattle.isa.specs.declared.instruction.Instruction.TheVariants.{Go, Jump, JumpLow, Act}
use Rattle.machine.specs.declared.answer.Answer.{Answer}
use Rattle.machine.specs.declared.answer.Answer.TheVariants.{Silence, Position}
use Rattle.machine.specs.declared.run.Course.{Course}
use Rattle.machine.specs.declared.run.Course.TheVariants.{Onward, Stays, Jumps}
use Rattle.machine.specs.Setups.{start_speed}
use Rattle.machine.specs.Motions.{begun}
use Rattle.machine.specs.Bodies.{Body}

-- an index as it begins
pub record Begun : Type 0 where
  pub direction : Direction
  pub steps : ℕ
  pub start : ℕ
  pub divisor : ℕ

pub data Event : Type 0 where
  nothing : Event
  origin_set : ℤ → Event
  index_began : Begun → Event
  soft_stopped : Event
  escaped : Event
  started_at : ℕ → Event

-- What an action does; busy: it cannot be carried out while anything moves, and has changed nothing.
pub record Acted : Type 0 where
  pub body : Body
  pub busy : Bool
  pub answer : Answer
  pub event : Event

abbrev pub quietly : Body → Acted
quietly b = record { body = b; busy = false; answer = Silence; event = nothing }

-- an index of n steps
abbrev pub indexed : Direction → ℕ → Body → Acted
indexed d n b =
    cond (is_some b.moving) record { body = b; busy = true; answer = Silence; event = nothing }
    record { body = record b { moving = begun d n b.setup }; busy = false; answer = Silence; event = index_began record { direction = d; steps = n; start = start_speed b.setup; divisor = b.setup.divisor } }

-- to a position: by the size of the difference, in its sign's direction
abbrev pub distance : ℤ → ℤ → ℕ
distance from z = unsigned_abs (z -ℤ from)

abbrev pub toward : ℤ → ℤ → Direction
toward from z = cond (int_le from z) Plus Minus

abbrev pub carried_out : Action → Body → Acted
carried_out (Outputs n) b = quietly (record b { outputs = n })
carried_out (Divisor n) b = quietly (record b { setup = record b.setup { divisor = n } })
carried_out (InitialSpeed n) b = quietly (record b { setup = record b.setup { initial = n } })
carried_out (SlewSpeed n) b = quietly (record b { setup = record b.setup { slew = n } })
carried_out (Rates a d) b = quietly (record b { setup = record b.setup { gain = a; loss = d } })
carried_out (Origin z) b = record { body = record b { position = z }; busy = false; answer = Silence; event = origin_set z }
carried_out (IndexTo z) b = indexed (toward b.position z) (distance b.position z) b
carried_out (Wait n) b = quietly b  -- a run's wait is below; no message is one
carried_out Report b = record { body = b; busy = false; answer = Position b.position; event = nothing }
carried_out (Index d n) b = indexed d n b

-- what an instruction of a run does
pub record Effect : Type 0 where
  pub body : Body
  pub counter : Option ℕ  -- the one jump counter, unless it is empty
  pub wait : Option ℕ  -- the ticks that a wait still takes
  pub course : Course
  pub answer : Answer
  pub event : Event

abbrev pub goes : Course → Body → Option ℕ → Effect
goes to b c = record { body = b; counter = c; wait = None; course = to; answer = Silence; event = nothing }

abbrev pub acts : Acted → Option ℕ → Effect
acts a c = record { body = a.body; counter = c; wait = None; course = cond a.busy Stays Onward; answer = a.answer; event = a.event }

-- the one jump counter: empty, it is set; above 0, it falls by one; at 0, it is emptied and the run goes on
abbrev pub jumped : ℕ → Body → Option ℕ → Effect
jumped n b None = goes Jumps b (Some n)
jumped n b (Some k) = cond (k == 0) (goes Onward b None) (goes Jumps b (Some (k - 1)))

-- a port reads low by its bit of the input or of the outputs
abbrev pub is_low : ℕ → ℕ → ℕ → Bool
is_low port input outputs = not (bit_and input (2 ^ (port - 1)) == 0) || not (bit_and outputs (2 ^ (port - 1)) == 0)

abbrev pub ticks_per_hundredth : ℕ
ticks_per_hundredth = 250

-- k ticks are left to wait: in the tick where none is, the run goes on
abbrev pub waited_for : ℕ → Body → Option ℕ → Effect
waited_for k b c = cond (k == 0) (goes Onward b c) record { body = b; counter = c; wait = Some k; course = Stays; answer = Silence; event = nothing }

-- a wait begins once nothing moves
abbrev pub waited : ℕ → Body → Option ℕ → Option ℕ → Effect
waited n b c None = cond (is_some b.moving) (goes Stays b c) (waited_for (ticks_per_hundredth * n) b c)
waited n b c (Some k) = waited_for (k - 1) b c

abbrev pub wait_of : Action → Option ℕ
wait_of (Wait n) = Some n
wait_of _ = None

abbrev pub act_effect : Option ℕ → Action → Body → Option ℕ → Option ℕ → Effect
act_effect (Some n) a b c w = waited n b c w
act_effect None a b c w = acts (carried_out a b) c

abbrev pub effect : {X : Type 0} → ℕ → Body → Option ℕ → Option ℕ → Instruction X → Effect
effect input b c w (Go x) = goes Jumps b c
effect input b c w (Jump x n) = jumped n b c
effect input b c w (JumpLow x port) = goes (cond (is_low port input b.outputs) Jumps Onward) b c
effect input b c w (Act a) = act_effect (wait_of a) a b c w
