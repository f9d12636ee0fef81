-- What the machine holds. X is the type of the points at which a run stands: places for the axis, lines and marks for the text
-- read line by line. Only the next point and the point of an ending are of type X; all else is the same for both.
use Rattle.std.specs.Prelude.{ℕ, Bool, true, false, cond, Some, None, Ok, Err, Option, Result}
use Rattle.std.specs.Option.{unwrap_or}
use Rattle.isa.specs.declared.instruction.Instruction.{Instruction}
use Rattle.isa.specs.Instructions.{target_of, retarget}
use Rattle.port.specs.Steps.{Meaning}
use Rattle.machine.specs.declared.run.Fault.{Fault}
use Rattle.machine.specs.declared.run.Ending.{Ending}
use Rattle.machine.specs.declared.run.Ending.TheVariants.{Never, Running, AtMark, Escaped, Stopped, Failed}
use Rattle.machine.specs.declared.run.Run.{Run}
use Rattle.machine.specs.Bodies.{Body, fresh_body}
use Rattle.machine.specs.Receivers.{Receiver, deaf}

pub record State (X : Type 0) : Type 0 where
  pub body : Body
  pub port : Meaning
  pub receiver : Receiver
  pub run : Run X

-- a fresh axis: still, at position 0, no run yet, no line feed heard
abbrev pub fresh : ℕ → Meaning → State ℕ
fresh name q = record { body = fresh_body name; port = q; receiver = deaf; run = record { next = 0; counter = None; wait = None; ending = Never } }

-- an instruction, and the point after it
pub record Reading (X : Type 0) : Type 0 where
  pub instruction : Instruction X
  pub after : X

-- what is read at a point; at an end mark, nothing
abbrev pub Fetched : Type 0 → Type 0
Fetched X = Result (Option (Reading X)) Fault

-- Where a machine's instructions come from, and how its points are named outside: the place of a point, and the point at which
-- a start at a place begins.
pub record Reader (X : Type 0) : Type 0 where
  pub read : X → Fetched X
  pub place : X → ℕ
  pub at : ℕ → X

-- the target of an instruction, or else the point given
abbrev pub target_or : {X : Type 0} → X → Instruction X → X
target_or x i = unwrap_or (target_of i) x

-- the same with other points
module _ {X Y : Type 0} (f : X → Y) where
  abbrev pub map_ending : Ending X → Ending Y
  map_ending Never = Never
  map_ending Running = Running
  map_ending AtMark = AtMark
  map_ending Escaped = Escaped
  map_ending Stopped = Stopped
  map_ending (Failed e x) = Failed e (f x)

  abbrev pub map_run : Run X → Run Y
  map_run r = record { next = f r.next; counter = r.counter; wait = r.wait; ending = map_ending r.ending }

  abbrev pub map_state : State X → State Y
  map_state s = record { body = s.body; port = s.port; receiver = s.receiver; run = map_run s.run }

  abbrev pub map_fetched : Fetched X → Fetched Y
  map_fetched (Ok (Some g)) = Ok (Some record { instruction = retarget f g.instruction; after = f g.after })
  map_fetched (Ok None) = Ok None
  map_fetched (Err e) = Err e

abbrev pub is_going : {X : Type 0} → Ending X → Bool
is_going Running = true
is_going _ = false

-- a run that has just been started at a point
abbrev pub started_run : {X : Type 0} → X → Run X
started_run x = record { next = x; counter = None; wait = None; ending = Running }

-- a run that is going ends so; no other ending changes
abbrev pub ended_run : {X : Type 0} → Ending X → Run X → Run X
ended_run e r = record r { ending = cond (is_going r.ending) e r.ending }

abbrev pub with_ending : {X : Type 0} → Ending X → State X → State X
with_ending e s = record s { run = record s.run { ending = e } }

abbrev pub end_run : {X : Type 0} → Ending X → State X → State X
end_run e s = record s { run = ended_run e s.run }
