-- Faults and labels as programs write them.
use Rattle.std.specs.Prelude.{ℕ, ◌/◌, ◌%◌, cond, List, [], ◌++◌, codes, decimal, ◌==◌}
use Rattle.std.specs.Char.{encode_utf8}
use Rattle.std.specs.List.{flat_map}
use Rattle.isa.specs.declared.refusal.Refusal.{Refusal}
use Rattle.isa.specs.Refusals.{number_of}
use Rattle.sequence.specs.declared.image.ImageFault.{ImageFault}
use Rattle.sequence.specs.declared.text.TextFault.{TextFault}
use Rattle.sequence.specs.declared.text.Label.{Label}

-- a refusal's number in two digits, and where
abbrev pub numbered : Refusal → List ℕ → List ℕ
numbered r spot = codes "?" ++ (decimal (number_of r / 10) ++ (decimal (number_of r % 10) ++ (codes " " ++ spot)))

abbrev pub image_line : ImageFault → List ℕ
image_line f = numbered f.refusal (decimal f.place)

abbrev pub text_line : TextFault → List ℕ
text_line f = numbered f.refusal (decimal f.line ++ (codes " " ++ decimal f.column))

-- a byte of a name: a letter, or nothing for the 0 after the letters
abbrev pub letter : ℕ → List ℕ
letter b = cond (b == 0) [] (encode_utf8 b)

abbrev pub letters : List ℕ → List ℕ
letters name = flat_map letter name

-- NAME: line L, place P
abbrev pub label_text : Label → List ℕ
label_text l = letters l.name ++ (codes ": line " ++ (decimal l.line ++ (codes ", place " ++ decimal l.place)))
