-- What a store means: absent, or eight pages, each spoilt or its bytes.
use Rattle.std.specs.Prelude.{ℕ, ◌%◌, cond, List, replicate, Ok, Err, Result, nat_lt, slice_index, slice_index_or, slice_set}
use Rattle.isa.specs.declared.refusal.Refusal.{Refusal}
use Rattle.isa.specs.declared.refusal.Refusal.TheVariants.{Absent, Area, Spoilt}
use Rattle.isa.specs.Places.{image_size, page_size, page}
use Rattle.store.specs.declared.store.StoreFault.{StoreFault}

pub data Page : Type 0 where
  spoilt : Page
  sound : List ℕ → Page

pub data Memory : Type 0 where
  absent : Memory
  present : List Page → Memory

abbrev pub pages : ℕ
pages = 8

-- the refusal, and the page asked for, however high
abbrev pub refused : {A : Type 0} → Refusal → ℕ → Result A StoreFault
refused r q = Err (record { refusal = r; page = q })

-- Reading: 13, 8, 14.
abbrev pub read_page : ℕ → Page → Result ℕ StoreFault
read_page p spoilt = refused Spoilt (page p)
read_page p (sound bs) = Ok (slice_index bs (p % page_size))

abbrev pub reading : ℕ → Memory → Result ℕ StoreFault
reading p absent = refused Absent (page p)
reading p (present ps) = cond (nat_lt p image_size) (read_page p (slice_index_or ps (page p) spoilt)) (refused Area (page p))

-- Writing: 13, 8, 14; it changes that byte alone.
abbrev pub written_page : ℕ → ℕ → Page → Page
written_page p b spoilt = spoilt
written_page p b (sound bs) = sound (slice_set bs (p % page_size) b)

abbrev pub written : ℕ → ℕ → Memory → Memory
written p b absent = absent
written p b (present ps) = cond (nat_lt p image_size) (present (slice_set ps (page p) (written_page p b (slice_index_or ps (page p) spoilt)))) (present ps)

abbrev pub sound_page : ℕ → Page → Result (Unit {0}) StoreFault
sound_page q spoilt = refused Spoilt q
sound_page q (sound bs) = Ok tt

abbrev pub writing : ℕ → Memory → Result (Unit {0}) StoreFault
writing p absent = refused Absent (page p)
writing p (present ps) = cond (nat_lt p image_size) (sound_page (page p) (slice_index_or ps (page p) spoilt)) (refused Area (page p))

-- Clearing: 13, 8; the page is sound and all 255 then, the others stay.
abbrev pub cleared : ℕ → Memory → Memory
cleared q absent = absent
cleared q (present ps) = present (cond (nat_lt q pages) (slice_set ps q (sound (replicate page_size 255))) ps)

abbrev pub clearing : ℕ → Memory → Result (Unit {0}) StoreFault
clearing q absent = refused Absent q
clearing q (present ps) = cond (nat_lt q pages) (Ok tt) (refused Area q)
