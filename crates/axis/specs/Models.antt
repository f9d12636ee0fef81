-- What the parts of an axis mean in the machine.
use Rattle.std.specs.Prelude.{ℕ, cond, Ok, Err, Result}
use Rattle.isa.specs.declared.refusal.Refusal.{Refusal}
use Rattle.isa.specs.declared.refusal.Refusal.TheVariants.{Busy}
use Rattle.machine.specs.declared.answer.Answer.{Answer}
use Rattle.isa.specs.declared.instruction.Instruction.{Instruction}
use Rattle.machine.specs.Effects.{Acted, Effect, effect}
use Rattle.machine.specs.States.{State}

-- what an action answers, or that it cannot be carried out while anything moves
abbrev pub answered : Acted → Result Answer Refusal
answered a = cond a.busy (Err Busy) (Ok a.answer)

-- what an instruction of a run does here
abbrev pub effect_on : ℕ → State ℕ → Instruction ℕ → Effect
effect_on input s i = effect input s.body s.run.counter s.run.wait i

-- what an effect leaves while the run has not yet gone on
abbrev pub with_effect : Effect → State ℕ → State ℕ
with_effect e s = record s { body = e.body; run = record s.run { counter = e.counter; wait = e.wait } }
