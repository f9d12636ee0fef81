-- An edit: 8 for no user place, before the store's own checks.
use Rattle.std.specs.Prelude.{ℕ, cond, Ok, Err, Result}
use Rattle.isa.specs.declared.refusal.Refusal.TheVariants.{Area}
use Rattle.isa.specs.Places.{user, page}
use Rattle.store.specs.declared.store.StoreFault.{StoreFault}
use Rattle.store.specs.declared.edit.Edit.{Edit}
use Rattle.store.specs.Memories.{Memory, writing, written}

abbrev pub no_user_place : ℕ → StoreFault
no_user_place p = record { refusal = Area; page = page p }

abbrev pub opened : ℕ → Result Edit StoreFault
opened p = cond (user p) (Ok (record { next = p })) (Err (no_user_place p))

-- whether a byte can be put at a place, and the memory afterwards
abbrev pub putting : ℕ → Memory → Result (Unit {0}) StoreFault
putting p m = cond (user p) (writing p m) (Err (no_user_place p))

abbrev pub put : ℕ → ℕ → Memory → Memory
put p b m = cond (user p) (written p b m) m

-- if the mark is refused, the edit is handed back as it was
abbrev pub ended : Edit → Result (Unit {0}) StoreFault → Result (Unit {0}) (Edit × StoreFault)
ended e (Ok u) = Ok u
ended e (Err f) = Err (e, f)
