-- Lines find their places, labels theirs, targets become places.
use Rattle.std.specs.Prelude.{ℕ, ◌+◌, ◌-◌, Bool, true, false, cond, ◌&&◌, List, [], ◌∷◌, ◌++◌, replicate, Some, None, Ok, Option, Result, ◌==◌, slice_index_or, slice_set}
use Rattle.std.proofs.lemmas.List.Edits.{sets}
use Rattle.std.specs.Str.{bytes_eq}
use Rattle.isa.specs.declared.refusal.Refusal.TheVariants.{Stale, Area, Label as Unnamed, Target as Astray, Overlap}
use Rattle.isa.specs.declared.instruction.Instruction.{Instruction}
use Rattle.isa.specs.declared.instruction.Instruction.TheVariants.{Go, Jump, JumpLow, Act}
use Rattle.isa.specs.Checks.{and_then, require}
use Rattle.isa.specs.Places.{image_size, user, every, all_user}
use Rattle.isa.specs.Codes.{width}
use Rattle.sequence.specs.declared.text.TextFault.{TextFault}
use Rattle.sequence.specs.declared.text.Label.{Label}
use Rattle.sequence.specs.declared.text.Target.{Target}
use Rattle.sequence.specs.declared.text.Target.TheVariants.{Place, Label as Named}
use Rattle.sequence.specs.declared.text.WrittenPlace.{WrittenPlace}
use Rattle.sequence.specs.declared.text.Definition.{Definition}
use Rattle.sequence.specs.declared.text.Source.{Source}
use Rattle.sequence.specs.declared.text.Line.{Line}
use Rattle.sequence.specs.declared.text.Line.TheVariants.{Blank, Opens, Holds}
use Rattle.sequence.specs.declared.text.Kind.{Kind}
use Rattle.sequence.specs.declared.text.Kind.TheVariants.{Free, First, Further, Mark}
use Rattle.sequence.specs.Lines.{text_fault, refused}

-- an instruction with all targets at place 0: its width does not depend on them
abbrev pub unaimed : Instruction Target → Instruction ℕ
unaimed (Go x) = Go 0
unaimed (Jump x n) = Jump 0 n
unaimed (JumpLow x c) = JumpLow 0 c
unaimed (Act a) = Act a

abbrev pub width_of : Source → ℕ
width_of x = width (unaimed x.instruction)

-- What has been placed so far. The open stretch's own mark is not yet among the kinds; used: that stretch has lines.
pub record Plan : Type 0 where
  pub opened : Bool
  pub used : Bool
  pub next : ℕ
  pub kinds : List Kind
  pub labels : List Label
  pub count : ℕ

abbrev pub fresh : Plan
fresh = record { opened = false; used = false; next = 0; kinds = replicate image_size Free; labels = []; count = 0 }

abbrev pub is_free : Kind → Bool
is_free Free = true
is_free First = false
is_free Further = false
is_free Mark = false

abbrev pub is_first : Kind → Bool
is_first Free = false
is_first First = true
is_first Further = false
is_first Mark = false

abbrev pub place_in : List Label → List ℕ → Option ℕ
place_in [] n = None
place_in (x ∷ xs) n = cond (bytes_eq x.name n) (Some x.place) (place_in xs n)

-- n places from p on are free
abbrev pub free : List Kind → ℕ → ℕ → Bool
free m p n = every (λ q. is_free (slice_index_or m q Free)) p n

-- an instruction of w bytes takes its places
abbrev pub lay : List Kind → ℕ → ℕ → List Kind
lay m p w = sets m p (First ∷ replicate (w - 1) Further)

-- the kinds with the mark of the open stretch
abbrev pub closed : Plan → List Kind
closed s = cond s.used (slice_set s.kinds s.next Mark) s.kinds

abbrev pub is_none : Option ℕ → Bool
is_none None = true
is_none (Some p) = false

-- 9: the label is defined twice
abbrev pub defining : Source → Option Definition → Plan → Result (List Label) TextFault
defining x None s = Ok s.labels
defining x (Some d) s =
    cond (is_none (place_in s.labels d.name)) (Ok (s.labels ++ (record { name = d.name; line = x.line; place = s.next } ∷ []))) (refused Unnamed x.line d.column)

abbrev pub written_user : Option WrittenPlace → Bool
written_user None = true
written_user (Some w) = user w.place

abbrev pub written_here : Option WrittenPlace → ℕ → Bool
written_here None p = true
written_here (Some w) p = w.place == p

abbrev pub written_column : Option WrittenPlace → ℕ
written_column None = 0
written_column (Some w) = w.column

-- 8: a stretch is open; a written place, the bytes and the place after them are user places
abbrev pub in_area : Source → Plan → Result (Unit {0}) TextFault
in_area x s = require (s.opened && (written_user x.written && all_user s.next (width_of x + 1))) (text_fault Area x.line 0)

-- 7: a written place is where the line falls
abbrev pub as_written : Source → Plan → Result (Unit {0}) TextFault
as_written x s = require (written_here x.written s.next) (text_fault Stale x.line (written_column x.written))

-- 11: no other stretch has a byte or a mark there
abbrev pub unshared : Source → Plan → Result (Unit {0}) TextFault
unshared x s = require (free s.kinds s.next (width_of x + 1)) (text_fault Overlap x.line 0)

abbrev pub laid : Source → Plan → List Label → Plan
laid x s ls = record {
  opened = true;
  used = true;
  next = s.next + width_of x;
  kinds = lay s.kinds s.next (width_of x);
  labels = ls;
  count = s.count + 1;
}

-- a stretch opens, and the one before it gets its mark
abbrev pub opening : ℕ → Plan → Plan
opening p s = record { opened = true; used = false; next = p; kinds = closed s; labels = s.labels; count = s.count }

-- a line finds its place: 9 (twice), 8, 7, 11
abbrev pub step : Line → Plan → Result Plan TextFault
step Blank s = Ok s
step (Opens l p) s = and_then (require (user p) (text_fault Area l 0)) (λ _. Ok (opening p s))
step (Holds x) s =
    and_then (defining x x.label s) (λ ls.
    and_then (in_area x s) (λ _.
    and_then (as_written x s) (λ _.
    and_then (unshared x s) (λ _.
    Ok (laid x s ls)))))

-- 9: no such label
abbrev pub found : ℕ → ℕ → Option ℕ → Result ℕ TextFault
found l c None = refused Unnamed l c
found l c (Some p) = Ok p

abbrev pub aimed : Plan → ℕ → ℕ → Target → Result ℕ TextFault
aimed s l c (Place p) = Ok p
aimed s l c (Named n) = found l c (place_in s.labels n)

-- 10: a target that is not the first byte of an instruction
abbrev pub resolved_target : Plan → ℕ → ℕ → Target → Result ℕ TextFault
resolved_target s l c t = and_then (aimed s l c t) (λ p. cond (is_first (slice_index_or s.kinds p Free)) (Ok p) (refused Astray l c))

-- a line's instruction with its target as a place
abbrev pub resolve : Plan → ℕ → ℕ → Instruction Target → Result (Instruction ℕ) TextFault
resolve s l c (Go t) = and_then (resolved_target s l c t) (λ p. Ok (Go p))
resolve s l c (Jump t n) = and_then (resolved_target s l c t) (λ p. Ok (Jump p n))
resolve s l c (JumpLow t n) = and_then (resolved_target s l c t) (λ p. Ok (JumpLow p n))
resolve s l c (Act a) = Ok (Act a)

abbrev pub resolve_line : Plan → Source → Result (Instruction ℕ) TextFault
resolve_line s x = resolve s x.line x.column x.instruction
