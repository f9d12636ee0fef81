-- What a step port means, and what one step does to it.
use Rattle.std.specs.Prelude.{ℕ, zero, suc, ◌+◌, ◌%◌, Ok, Err, Result}
use Rattle.isa.specs.declared.refusal.Refusal.{Refusal}
use Rattle.isa.specs.declared.refusal.Refusal.TheVariants.{Full}
use Rattle.isa.specs.declared.instruction.Direction.{Direction}
use Rattle.isa.specs.declared.instruction.Direction.TheVariants.{Plus, Minus}
use Rattle.port.specs.declared.step.Counts.{Counts}

-- how many steps a port still takes
pub data Room : Type 0 where
  unlimited : Room
  upto : ℕ → Room

pub record Meaning : Type 0 where
  pub counts : Counts
  pub room : Room

-- a port that has no limit
abbrev pub without_limit : Counts → Meaning
without_limit c = record { counts = c; room = unlimited }

abbrev pub modulus : ℕ
modulus = 4294967296

-- one step more in a direction
abbrev pub counted : Direction → Counts → Counts
counted Plus c = record { plus = (c.plus + 1) % modulus; minus = c.minus }
counted Minus c = record { plus = c.plus; minus = (c.minus + 1) % modulus }

-- 16 where there is no room
abbrev pub answered : Room → Result (Unit {0}) Refusal
answered unlimited = Ok tt
answered (upto zero) = Err Full
answered (upto (suc n)) = Ok tt

abbrev pub stepped_in : Direction → Counts → Room → Meaning
stepped_in d c unlimited = record { counts = counted d c; room = unlimited }
stepped_in d c (upto zero) = record { counts = c; room = upto zero }
stepped_in d c (upto (suc n)) = record { counts = counted d c; room = upto n }

abbrev pub stepped : Direction → Meaning → Meaning
stepped d m = stepped_in d m.counts m.room

abbrev pub none : Counts
none = record { plus = 0; minus = 0 }
