-- What it means that the lines of a text stand in an image.
use Rattle.std.specs.Prelude.{◌≡◌, ℕ, suc, ◌+◌, ◌<◌, ◌≤◌, Bool, true, false, cond, ◌≢◌, ◌⊎◌, List, [], ◌∷◌, length, Some, None, Ok, Option, Result, slice_index_or}
use Rattle.std.specs.List.{AllByRecursion}
use Rattle.isa.specs.declared.instruction.Instruction.{Instruction}
use Rattle.isa.specs.Checks.{and_then}
use Rattle.isa.specs.Places.{image_size, user}
use Rattle.isa.specs.Instructions.{target_of, retarget}
use Rattle.isa.specs.Codes.{encoded, width, in_range}
use Rattle.sequence.specs.declared.text.TextFault.{TextFault}
use Rattle.sequence.specs.declared.text.Label.{Label}
use Rattle.sequence.specs.declared.text.Target.{Target}
use Rattle.sequence.specs.declared.text.Target.TheVariants.{Place, Label as Named}
use Rattle.sequence.specs.declared.text.WrittenPlace.{WrittenPlace}
use Rattle.sequence.specs.declared.text.Definition.{Definition}
use Rattle.sequence.specs.declared.text.Source.{Source}
use Rattle.sequence.specs.declared.text.Line.{Line}
use Rattle.sequence.specs.declared.text.Line.TheVariants.{Blank, Opens, Holds}
use Rattle.sequence.specs.Texts.{lines}
use Rattle.sequence.specs.Lines.{parsed}
use Rattle.sequence.specs.Translations.{Translation, translation}

-- the lines of a text, each taken apart; l is the number of the first
abbrev pub parsed_all : ℕ → List (List ℕ) → Result (List Line) TextFault
parsed_all l [] = Ok []
parsed_all l (b ∷ bs) = and_then (parsed l b) (λ x. and_then (parsed_all (l + 1) bs) (λ xs. Ok (x ∷ xs)))

-- an instruction line, the place where it falls, and its instruction with the target as a place; last: a mark follows
pub record Item : Type 0 where
  pub source : Source
  pub place : ℕ
  pub instruction : Instruction ℕ
  pub last : Bool

abbrev pub In : Item → List Item → Type 0
In i [] = ⊥
In i (j ∷ js) = (i ≡ j) ⊎ In i js

-- no instruction line of the stretch follows
abbrev pub ends : List Line → Bool
ends [] = true
ends (Blank ∷ ls) = ends ls
ends (Opens l p ∷ ls) = true
ends (Holds x ∷ ls) = false

-- a place written in front of a line is where it falls
abbrev pub WrittenHere : Option WrittenPlace → ℕ → Type 0
WrittenHere None n = Unit {0}
WrittenHere (Some w) n = w.place ≡ n

-- The instruction lines are these items, in their order: the first of a stretch falls where the stretch opens, the next
-- right after it, and so on; n is the place of the first.
abbrev pub Stand : List Line → ℕ → List Item → Type 0
Stand [] n is = is ≡ []
Stand (Blank ∷ ls) n is = Stand ls n is
Stand (Opens l p ∷ ls) n is = Stand ls p is
Stand (Holds x ∷ ls) n [] = ⊥
Stand (Holds x ∷ ls) n (i ∷ is) = (i.source ≡ x) × (i.place ≡ n) × (i.last ≡ ends ls) × WrittenHere x.written n × Stand ls (n + width i.instruction) is

-- the place after an instruction; after its mark too, if one follows
abbrev pub end : Item → ℕ
end i = i.place + width i.instruction

abbrev pub stop : Item → ℕ
stop i = cond i.last (suc (end i)) (end i)

abbrev pub covers : Item → ℕ → Type 0
covers i q = (i.place ≤ q) × (q < end i)

-- two instructions, with their marks, share no place
abbrev pub Apart : Item → Item → Type 0
Apart i j = (stop i ≤ j.place) ⊎ (stop j ≤ i.place)

abbrev pub ApartFrom : Item → List Item → Type 0
ApartFrom i [] = Unit {0}
ApartFrom i (j ∷ js) = Apart i j × ApartFrom i js

abbrev pub AllApart : List Item → Type 0
AllApart [] = Unit {0}
AllApart (i ∷ is) = ApartFrom i is × AllApart is

-- the line defines this label
abbrev pub Defines : Item → List ℕ → Type 0
Defines i n = (d : Definition) × (i.source.label ≡ Some d) × (d.name ≡ n)

-- the place that a target means: that of the line placed or labelled so
abbrev pub Means : List Item → Target → ℕ → Type 0
Means is (Place p) q = (p ≡ q) × ((j : Item) × In j is × (j.place ≡ q))
Means is (Named n) q = (j : Item) × In j is × Defines j n × (j.place ≡ q)

-- How items stand in an image.
pub record Laid (is : List Item) (im : List ℕ) : Type 0 where
  pub size : length im ≡ image_size
  -- each instruction's bytes stand at its place
  pub stands : (i : Item) → In i is → (k : ℕ) → k < width i.instruction → slice_index_or im (i.place + k) 255 ≡ slice_index_or (encoded i.instruction) k 255
  -- a mark stands after the last of a stretch
  pub mark : (i : Item) → In i is → i.last ≡ true → slice_index_or im (end i) 255 ≡ 255
  -- no two share a place, the marks included
  pub apart : AllApart is
  -- they, and the place after each, are user places
  pub users : (i : Item) → In i is → (k : ℕ) → k ≤ width i.instruction → user (i.place + k) ≡ true
  -- every other place holds 255
  pub rest : (q : ℕ) → ((i : Item) → In i is → covers i q → ⊥) → slice_index_or im q 255 ≡ 255
  -- every target is the place of one of them
  pub targets : (i : Item) → In i is → (t : ℕ) → target_of i.instruction ≡ Some t → (j : Item) × In j is × (j.place ≡ t)
  -- operands are in range
  pub range : (i : Item) → In i is → in_range i.instruction ≡ true

-- An instruction of an image is that of its line, with the target replaced by the place of the line meant.
pub record Meant (is : List Item) : Type 0 where
  pub goal : Target → ℕ
  pub aims : (i : Item) → In i is → i.instruction ≡ retarget goal i.source.instruction
  pub means : (i : Item) → In i is → (t : Target) → target_of i.source.instruction ≡ Some t → Means is t (goal t)

-- the labels that the lines define, with their lines and places
abbrev pub label_of : Item → Option Definition → List Label → List Label
label_of i None rest = rest
label_of i (Some d) rest = record { name = d.name; line = i.source.line; place = i.place } ∷ rest

abbrev pub labels_of : List Item → List Label
labels_of [] = []
labels_of (i ∷ is) = label_of i i.source.label (labels_of is)

-- no two of the labels have one name
abbrev pub NamesApart : List Label → Type 0
NamesApart [] = Unit {0}
NamesApart (x ∷ xs) = AllByRecursion (λ y. y.name ≢ x.name) xs × NamesApart xs

-- What a translation is: the lines of the text stand in the image, and the labels are theirs.
pub record LaidOut (text : List ℕ) (t : Translation) : Type 0 where
  pub rows : List Line
  pub parses : parsed_all 1 (lines text) ≡ Ok rows
  pub items : List Item
  pub stand : Stand rows 0 items
  pub laid : Laid items t.image
  pub meant : Meant items
  pub labels : t.labels ≡ labels_of items
  -- no two lines define one label
  pub once : NamesApart (labels_of items)
  pub count : t.count ≡ length items

-- every accepted text is laid out so
abbrev pub LaysOut : List ℕ → Type 0
LaysOut text = (t : Translation) → translation text ≡ Ok t → LaidOut text t
