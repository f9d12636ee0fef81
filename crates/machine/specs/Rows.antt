-- The text read line by line: its source knows the lines and where each falls, and no image.
use Rattle.std.specs.Prelude.{ℕ, suc, ◌+◌, Bool, true, false, cond, List, [], ◌∷◌, Some, None, Ok, Err, Option, Result, ◌==◌, slice_index_or}
use Rattle.std.specs.Str.{bytes_eq}
use Rattle.isa.specs.declared.instruction.Instruction.TheVariants.{Act}
use Rattle.isa.specs.declared.instruction.Action.TheVariants.{Report}
use Rattle.isa.specs.Instructions.{retarget}
use Rattle.sequence.specs.declared.text.TextFault.{TextFault}
use Rattle.sequence.specs.declared.text.Target.{Target}
use Rattle.sequence.specs.declared.text.Target.TheVariants.{Place, Label}
use Rattle.sequence.specs.declared.text.Definition.{Definition}
use Rattle.sequence.specs.declared.text.Source.{Source}
use Rattle.sequence.specs.declared.text.Line.{Line}
use Rattle.sequence.specs.declared.text.Line.TheVariants.{Blank, Opens, Holds}
use Rattle.sequence.specs.Texts.{lines}
use Rattle.sequence.specs.Placings.{width_of}
use Rattle.sequence.specs.Layouts.{parsed_all, ends}
use Rattle.machine.specs.States.{Fetched, Reader}

-- an instruction line, the place where it falls, and whether it is the last of its stretch
pub record Row : Type 0 where
  pub source : Source
  pub place : ℕ
  pub last : Bool

-- the instruction lines in their order: the first of a stretch falls where the stretch opens, each other right after the one before
abbrev pub rows_from : ℕ → List Line → List Row
rows_from n [] = []
rows_from n (Blank ∷ ls) = rows_from n ls
rows_from n (Opens l p ∷ ls) = rows_from p ls
rows_from n (Holds x ∷ ls) = record { source = x; place = n; last = ends ls } ∷ rows_from (n + width_of x) ls

abbrev pub rows_in : Result (List Line) TextFault → List Row
rows_in (Ok ls) = rows_from 0 ls
rows_in (Err f) = []

abbrev pub rows_of : List ℕ → List Row
rows_of text = rows_in (parsed_all 1 (lines text))

-- where the text read line by line stands: at an instruction line, by its number from 0, or at the mark after a stretch's last
pub data Point : Type 0 where
  line : ℕ → Point
  mark_after : ℕ → Point

abbrev pub no_row : Row
no_row = record { source = record { line = 0; written = None; label = None; instruction = Act Report; column = 0 }; place = 0; last = true }

abbrev pub row : List Row → ℕ → Row
row rs k = slice_index_or rs k no_row

-- the line placed so, and the line labelled so
abbrev pub placed_at : ℕ → ℕ → List Row → Point
placed_at p k [] = line k
placed_at p k (r ∷ rs) = cond (r.place == p) (line k) (placed_at p (suc k) rs)

abbrev pub is_named : List ℕ → Option Definition → Bool
is_named n None = false
is_named n (Some d) = bytes_eq d.name n

abbrev pub labelled_by : List ℕ → ℕ → List Row → Point
labelled_by n k [] = line k
labelled_by n k (r ∷ rs) = cond (is_named n r.source.label) (line k) (labelled_by n (suc k) rs)

abbrev pub meant : List Row → Target → Point
meant rs (Place p) = placed_at p 0 rs
meant rs (Label n) = labelled_by n 0 rs

-- the stretch's following instruction line, or its mark
abbrev pub following : List Row → ℕ → Point
following rs k = cond (row rs k).last (mark_after k) (line (suc k))

abbrev pub place_of : List Row → Point → ℕ
place_of rs (line k) = (row rs k).place
place_of rs (mark_after k) = (row rs k).place + width_of (row rs k).source

abbrev pub read_line : List Row → Point → Fetched Point
read_line rs (line k) = Ok (Some record { instruction = retarget (meant rs) (row rs k).source.instruction; after = following rs k })
read_line rs (mark_after k) = Ok None

abbrev pub line_reader : List Row → Reader Point
line_reader rs = record { read = read_line rs; place = place_of rs; at = λ p. placed_at p 0 rs }
