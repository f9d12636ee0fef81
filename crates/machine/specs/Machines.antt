-- The machine: a start, a received byte, a tick, and any list of them, for any points and any source of instructions. With places
-- and the source that reads a store it is the axis; with lines and the source that reads a text it is the text read line by line.
use Rattle.std.specs.Prelude.{ℕ, cond, List, [], ◌∷◌, ℤ, Some, None, Ok, Err, Option, Result, is_some, ◌==◌, nat_lt}
use Rattle.isa.specs.declared.refusal.Refusal.{Refusal}
use Rattle.isa.specs.declared.refusal.Refusal.TheVariants.{Size, Area, Busy}
use Rattle.isa.specs.declared.instruction.Instruction.{Instruction}
use Rattle.isa.specs.Places.{user}
use Rattle.port.specs.declared.step.Counts.{Counts}
use Rattle.machine.specs.declared.answer.Answer.{Answer}
use Rattle.machine.specs.declared.answer.Answer.TheVariants.{Silence, Done, Position, Refused, Echo}
use Rattle.machine.specs.declared.call.Call.{Call}
use Rattle.machine.specs.declared.call.Call.TheVariants.{Start, Receive, Tick}
use Rattle.machine.specs.declared.message.Message.{Message}
use Rattle.machine.specs.declared.message.Message.TheVariants.{SoftStop, Go, Act}
use Rattle.machine.specs.declared.run.Fault.TheVariants.{Own}
use Rattle.machine.specs.declared.run.Course.{Course}
use Rattle.machine.specs.declared.run.Course.TheVariants.{Onward, Stays, Jumps}
use Rattle.machine.specs.declared.run.Ending.{Ending}
use Rattle.machine.specs.declared.run.Ending.TheVariants.{AtMark, Escaped, Stopped, Failed}
use Rattle.machine.specs.Motions.{slowed_down}
use Rattle.machine.specs.Bodies.{Moved, motion_part}
use Rattle.machine.specs.Answers.{bytes_of}
use Rattle.machine.specs.Effects.{Event, nothing, soft_stopped, escaped, started_at, Acted, carried_out, Effect, effect}
use Rattle.machine.specs.Receivers.{LF, ESC, deaf, awaiting, hears_plain, echoed}
use Rattle.machine.specs.Messages.{message_in}
use Rattle.machine.specs.States.{State, Fetched, Reader, target_or, map_ending, is_going, started_run, with_ending, end_run}

-- what a call answers: its refusal, if it is refused, else an answer and what was carried out
pub record Reply : Type 0 where
  pub refusal : Option Refusal
  pub answer : Answer
  pub event : Event

pub record Step (X : Type 0) : Type 0 where
  pub state : State X
  pub reply : Reply

-- a call that was made, the state after it, and its reply
pub record Made (X : Type 0) : Type 0 where
  pub call : Call
  pub state : State X
  pub reply : Reply

-- bytes that a received byte and a tick are lent at least for an answer
abbrev pub least_room : ℕ
least_room = 16

-- where a run goes on
abbrev pub goes_on : {X : Type 0} → Course → X → X → Instruction X → X
goes_on Onward here after i = after
goes_on Stays here after i = here
goes_on Jumps here after i = target_or after i

abbrev pub or_done : Answer → Answer
or_done Silence = Done
or_done (Echo b) = Echo b
or_done Done = Done
or_done (Position z) = Position z
or_done (Refused r) = Refused r

module _ {X : Type 0} where
  abbrev pub replies : Answer → Event → State X → Step X
  replies a e s = record { state = s; reply = record { refusal = None; answer = a; event = e } }

  abbrev pub quiet : State X → Step X
  quiet s = replies Silence nothing s

  -- a refused call changes nothing
  abbrev pub refused : Refusal → State X → Step X
  refused r s = record { state = s; reply = record { refusal = Some r; answer = Silence; event = nothing } }

  -- a refused message is answered, and changes nothing else
  abbrev pub answers_refusal : Refusal → State X → Step X
  answers_refusal r s = replies (Refused r) nothing s

  -- a run has just been started here
  abbrev pub started : X → State X → State X
  started x s = record s { run = started_run x }

  -- one instruction of a run: its effect, and where it leads
  abbrev pub performed : Effect → Instruction X → X → State X → Step X
  performed e i after s =
      replies e.answer e.event
      (record s { body = e.body; run = record s.run { next = goes_on e.course s.run.next after i; counter = e.counter; wait = e.wait } })

  -- the end mark or a fault in reading ends a run, not a motion
  abbrev pub instruction_m : ℕ → State X → Fetched X → Step X
  instruction_m input s (Ok (Some g)) = performed (effect input s.body s.run.counter s.run.wait g.instruction) g.instruction g.after s
  instruction_m input s (Ok None) = quiet (with_ending AtMark s)
  instruction_m input s (Err e) = quiet (with_ending (Failed e s.run.next) s)

  abbrev pub end_for : Option Refusal → State X → State X
  end_for None s = s
  end_for (Some r) s = end_run (Failed (Own r) s.run.next) s

  abbrev pub after_motion : Moved → State X → State X
  after_motion m s = end_for m.ends (record s { body = m.body; port = m.port })

  -- ESC ends motion and run
  abbrev pub escape_m : State X → Step X
  escape_m s = replies Silence escaped (end_run Escaped (record s { body = record s.body { moving = None }; receiver = deaf }))

  abbrev pub hear_m : ℕ → State X → Step X
  hear_m b s = replies (echoed s.body.name b s.receiver) nothing (record s { receiver = hears_plain s.body.name b s.receiver })

  -- an action by message, with no run going
  abbrev pub direct_m : Acted → State X → Step X
  direct_m a s = cond a.busy (answers_refusal Busy s) (replies (or_done a.answer) a.event (record s { body = a.body }))

  -- @ ends a run and slows a motion
  abbrev pub soft_stop_m : State X → Step X
  soft_stop_m s = replies Done soft_stopped (end_run Stopped (record s { body = record s.body { moving = slowed_down s.body.moving } }))

module _ {X : Type 0} (reader : Reader X) where
  -- the instruction part of a tick
  abbrev pub run_m : ℕ → State X → Step X
  run_m input s = cond (is_going s.run.ending) (instruction_m input s (reader.read s.run.next)) (quiet s)

  -- first the motion, then, if a run is going, one instruction
  abbrev pub tick_m : ℕ → State X → Step X
  tick_m input s = run_m input (after_motion (motion_part input s.body s.port) s)

  -- 12, 8
  abbrev pub start_m : ℕ → State X → Step X
  start_m p s =
      cond (is_going s.run.ending) (refused Busy s)
      (cond (is_some s.body.moving) (refused Busy s)
      (cond (user p) (replies Silence (started_at p) (started (reader.at p) s)) (refused Area s)))

  -- a message that was read, or why it was not; a run refuses all but @
  abbrev pub message_m : State X → Result Message Refusal → Step X
  message_m s (Err e) = answers_refusal e s
  message_m s (Ok SoftStop) = soft_stop_m s
  message_m s (Ok (Go p)) =
      cond (is_going s.run.ending) (answers_refusal Busy s)
      (cond (is_some s.body.moving) (answers_refusal Busy s)
      (cond (user p) (replies Done (started_at p) (started (reader.at p) s)) (answers_refusal Area s)))
  message_m s (Ok (Act a)) = cond (is_going s.run.ending) (answers_refusal Busy s) (direct_m (carried_out a s.body) s)

  -- a line feed ends a message, if there is one
  abbrev pub line_feed_m : State X → Option (Result Message Refusal) → Step X
  line_feed_m s None = quiet s
  line_feed_m s (Some m) = message_m s m

  abbrev pub receive_m : ℕ → State X → Step X
  receive_m b s =
      cond (b == LF) (line_feed_m (record s { receiver = awaiting }) (message_in s.receiver))
      (cond (b == ESC) (escape_m s) (hear_m b s))

  abbrev pub call_m : State X → Call → Step X
  call_m s (Start p) = start_m p s
  call_m s (Receive b room) = cond (nat_lt room least_room) (refused Size s) (receive_m b s)
  call_m s (Tick input room) = cond (nat_lt room least_room) (refused Size s) (tick_m input s)

  -- the state after some calls
  abbrev pub after : State X → List Call → State X
  after s [] = s
  after s (c ∷ cs) = after (call_m s c).state cs

  -- the calls that were made, in their order
  abbrev pub trace : State X → List Call → List (Made X)
  trace s [] = []
  trace s (c ∷ cs) = record { call = c; state = (call_m s c).state; reply = (call_m s c).reply } ∷ trace (call_m s c).state cs

-- what an onlooker sees after a call; the ending's point by its place
pub record Seen : Type 0 where
  pub refusal : Option Refusal
  pub written : List ℕ
  pub counts : Counts
  pub position : ℤ
  pub outputs : ℕ
  pub ending : Ending ℕ

module _ {X : Type 0} (reader : Reader X) where
  abbrev pub seen : Step X → Seen
  seen t = record { refusal = t.reply.refusal; written = bytes_of t.reply.answer; counts = t.state.port.counts; position = t.state.body.position; outputs = t.state.body.outputs; ending = map_ending reader.place t.state.run.ending }

  -- what is seen of some calls
  abbrev pub log : State X → List Call → List Seen
  log s [] = []
  log s (c ∷ cs) = seen (call_m reader s c) ∷ log (call_m reader s c).state cs

-- through the first after which no run is going, that one included
abbrev pub until_end : List Seen → List Seen
until_end [] = []
until_end (o ∷ os) = o ∷ cond (is_going o.ending) (until_end os) []
