-- What has been placed, as the code holds it, with the caller's table.
use Rattle.std.specs.Prelude.{◌≡◌, ℕ, ◌+◌, ◌<◌, ◌≤◌, Bool, true, false, cond, List, [], ◌∷◌, ◌++◌, length, take, drop, ◌^◌, Some, None, Ok, Err, is_some, Option, Result, OnOk}
use Rattle.isa.specs.declared.refusal.Refusal.TheVariants.{Label as Unnamed}
use Rattle.isa.specs.Codes.{in_range}
use Rattle.isa.specs.Places.{image_size, user}
use Rattle.sequence.specs.declared.text.TextFault.{TextFault}
use Rattle.sequence.specs.declared.text.Label.{Label}
use Rattle.sequence.specs.declared.text.Definition.{Definition}
use Rattle.sequence.specs.declared.text.Source.{Source}
use Rattle.sequence.specs.declared.text.Line.{Line}
use Rattle.sequence.specs.declared.text.Line.TheVariants.{Blank, Opens, Holds}
use Rattle.sequence.specs.Lines.{text_fault}
use Rattle.sequence.specs.Placings as Placings
use Rattle.sequence.specs.Placings.{is_none, place_in, unaimed, width_of, in_area}
use Rattle.translator.specs.declared.plan.Stretch.{Stretch}
use Rattle.translator.specs.declared.plan.Plan.{Plan}

-- the labels are the filled records of the table
abbrev pub entries : Plan → List Label
entries p = take p.filled p.table.now

-- with no stretch open, none is used, and the next place is 0
abbrev pub is_used : Option Stretch → Bool
is_used None = false
is_used (Some s) = s.used

abbrev pub next_of : Option Stretch → ℕ
next_of None = 0
next_of (Some s) = s.next

abbrev pub plan_of : Plan → Placings.Plan
plan_of p = record { opened = is_some p.stretch; used = is_used p.stretch; next = next_of p.stretch; kinds = p.kinds; labels = entries p; count = p.lines }

-- what a step of the code says: the plan after it, or the fault
abbrev pub Steps : {A : Type 0} → Result A TextFault → Result Placings.Plan TextFault → Placings.Plan → Type 0
Steps (Ok a) want after = want ≡ Ok after
Steps (Err e) want after = want ≡ Err e

-- 9: the label is not defined yet
abbrev pub unnamed : Source → Option Definition → List Label → Result (Unit {0}) TextFault
unnamed x None ls = Ok tt
unnamed x (Some d) ls = cond (is_none (place_in ls d.name)) (Ok tt) (Err (text_fault Unnamed x.line d.column))

-- where a line falls if an open stretch has room for it, or 8
abbrev pub Falls : Result ℕ TextFault → Source → Placings.Plan → Type 0
Falls (Ok p) x s = (in_area x s ≡ Ok tt) × (s.opened ≡ true) × (p ≡ s.next) × (user (p + width_of x) ≡ true)
Falls (Err e) x s = in_area x s ≡ Err e

-- room for n labels more, and for a line in the count
abbrev pub HasRoom : ℕ → Plan → Type 0
HasRoom n p = (p.filled + n ≤ length p.table.now) × (p.lines + 1 < 2 ^ 64)

-- the same table: no fewer records are filled, and those past the filled ones are as they were
pub record Rests (before after : Plan) : Type 0 where
  pub same : after.table.ghost_name ≡ before.table.ghost_name
  pub filled : before.filled ≤ after.filled
  pub rest : drop after.filled after.table.now ≡ drop after.filled before.table.now
  pub size : length after.table.now ≡ length before.table.now

-- n labels more, and at most a line more
abbrev pub Kept : {A : Type 0} → Result A TextFault → ℕ → Plan → Plan → Type 0
Kept r n p q = Rests p q × OnOk r ((q.filled ≡ p.filled + n) × (q.lines ≤ p.lines + 1))

-- the labels with that of a line
abbrev pub with_label : Option Definition → Source → ℕ → List Label → List Label
with_label None x p ls = ls
with_label (Some d) x p ls = ls ++ (record { name = d.name; line = x.line; place = p } ∷ [])

-- the operands of a line are in range, whatever its target, and its bytes are in the image
abbrev pub Fits : Line → ℕ → Type 0
Fits Blank n = Unit {0}
Fits (Opens l p) n = Unit {0}
Fits (Holds x) n = (in_range (unaimed x.instruction) ≡ true) × (n + width_of x ≤ image_size)

-- one line of the second pass: the image and the place after it, or the fault
abbrev pub Paints : Result ℕ TextFault → Result (List ℕ) TextFault → List ℕ → ℕ → Type 0
Paints (Ok p) want image next = (want ≡ Ok image) × (p ≡ next)
Paints (Err e) want image next = want ≡ Err e
