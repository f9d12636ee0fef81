-- What `translate` answers and leaves.
use Rattle.std.specs.Prelude.{◌≡◌, ℕ, ◌&&◌, List, length, Ok, Err, Result, ◌==◌, nat_le}
use Rattle.std.proofs.lemmas.List.Edits.{sets}
use Rattle.isa.specs.declared.refusal.Refusal.TheVariants.{Size}
use Rattle.isa.specs.Checks.{and_then, require}
use Rattle.isa.specs.Places.{image_size}
use Rattle.sequence.specs.declared.text.TextFault.{TextFault}
use Rattle.sequence.specs.declared.text.Label.{Label}
use Rattle.sequence.specs.Lines.{text_fault}
use Rattle.sequence.specs.Translations.{Translation, translation, most_labels}
use Rattle.translator.specs.declared.Translated.{Translated}

-- the sizes of the lent image and table, then the text
abbrev pub translated : List ℕ → ℕ → ℕ → Result Translation TextFault
translated text image table = and_then (require (image == image_size && nat_le most_labels table) (text_fault Size 0 0)) (λ _. translation text)

-- how many instruction lines and labels, or the fault
abbrev pub answered : Result Translation TextFault → Result Translated TextFault
answered (Ok t) = Ok (record { lines = t.count; labels = length t.labels })
answered (Err f) = Err f

-- the image afterwards: a refusal leaves it as it was
abbrev pub image_after : List ℕ → Result Translation TextFault → List ℕ
image_after im (Ok t) = t.image
image_after im (Err f) = im

-- the table afterwards: the labels in front, and the rest as it was; a refusal may have written labels
abbrev pub TableAfter : List Label → List Label → Result Translation TextFault → Type 0
TableAfter before after (Ok t) = after ≡ sets before 0 t.labels
TableAfter before after (Err f) = length after ≡ length before
