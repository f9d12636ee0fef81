-- The axis's source: an instruction read out of a store.
use Rattle.std.specs.Prelude.{ℕ, suc, ◌+◌, ◌-◌, cond, [], ◌∷◌, Some, None, Ok, Err, Option, Result, ◌==◌, nat_lt}
use Rattle.isa.specs.declared.refusal.Refusal.{Refusal}
use Rattle.isa.specs.declared.refusal.Refusal.TheVariants.{Area, Code}
use Rattle.isa.specs.declared.shape.Shape.{Shape}
use Rattle.isa.specs.declared.instruction.Instruction.{Instruction}
use Rattle.isa.specs.Checks.{and_then}
use Rattle.isa.specs.Places.{user, all_user}
use Rattle.isa.specs.Shapes.{width_of}
use Rattle.isa.specs.Table.{shape_of}
use Rattle.isa.specs.Codes.{decoded}
use Rattle.sequence.specs.Images.{mark_byte}
use Rattle.store.specs.declared.store.StoreFault.{StoreFault}
use Rattle.store.specs.Memories.{Memory, reading}
use Rattle.machine.specs.declared.run.Fault.{Fault}
use Rattle.machine.specs.declared.run.Fault.TheVariants.{Own, Store}
use Rattle.machine.specs.States.{Fetched, Reader}

-- a store's fault keeps its page
abbrev pub of_store : {A : Type 0} → Result A StoreFault → Result A Fault
of_store (Ok a) = Ok a
of_store (Err f) = Err (Store f)

abbrev pub byte_at : Memory → ℕ → Result ℕ Fault
byte_at m p = of_store (reading p m)

-- byte j of an instruction of w bytes at p; none is read past its last
abbrev pub operand_byte : Memory → ℕ → ℕ → ℕ → Result ℕ Fault
operand_byte m p w j = cond (nat_lt j w) (byte_at m (p + j)) (Ok 0)

abbrev pub ranged : ℕ → Result (Instruction ℕ) Refusal → Fetched ℕ
ranged after (Ok i) = Ok (Some record { instruction = i; after = after })
ranged after (Err r) = Err (Own r)

abbrev pub operands_at : Memory → ℕ → ℕ → ℕ → Fetched ℕ
operands_at m p l w =
    and_then (operand_byte m p w 1) (λ a.
    and_then (operand_byte m p w 2) (λ b.
    and_then (operand_byte m p w 3) (λ c.
    ranged (p + w) (decoded (l ∷ a ∷ b ∷ c ∷ [])))))

abbrev pub shaped : Memory → ℕ → ℕ → Option Shape → Fetched ℕ
shaped m p l None = Err (Own Code)
shaped m p l (Some h) = cond (all_user (suc p) (width_of h - 1)) (operands_at m p l (width_of h)) (Err (Own Area))

abbrev pub lettered : Memory → ℕ → ℕ → Fetched ℕ
lettered m p l = cond (l == mark_byte) (Ok None) (shaped m p l (shape_of l))

-- An instruction is read as the lister reads it: its first place is a user place, its byte is the mark or a letter, its other
-- places are user places, its operands are in range. Each byte is asked of the store.
unfoldable pub fetched : Memory → ℕ → Fetched ℕ
fetched m p = cond (user p) (and_then (byte_at m p) (lettered m p)) (Err (Own Area))

-- the points of an axis are places
abbrev pub store_reader : Memory → Reader ℕ
store_reader m = record { read = fetched m; place = λ p. p; at = λ p. p }
