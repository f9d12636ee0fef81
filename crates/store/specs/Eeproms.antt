-- The EEPROM.
use Rattle.std.specs.Prelude.{ℕ, zero, suc, cond, List, [], ◌∷◌, length, take, drop, ◌==◌}
use Rattle.isa.specs.Places.{image_size, page_size}
use Rattle.store.specs.declared.eeprom.Eeprom.{Eeprom}
use Rattle.store.specs.Memories.{Page, sound, Memory, absent, present, pages}

-- the first n pages of some bytes, all sound
unfoldable pub cut : ℕ → List ℕ → List Page
cut zero bs = []
cut (suc n) bs = sound (take page_size bs) ∷ cut n (drop page_size bs)

abbrev pub memory_of : List ℕ → Memory
memory_of bs = cond (length bs == image_size) (present (cut pages bs)) absent

abbrev pub eeprom : Eeprom → Memory
eeprom e = memory_of e.bytes.now
