-- The translation of a text.
use Rattle.std.specs.Prelude.{ℕ, ◌+◌, Bool, true, cond, ◌&&◌, List, [], ◌∷◌, length, replicate, Ok, Result, nat_le}
use Rattle.std.proofs.lemmas.List.Edits.{sets}
use Rattle.isa.specs.declared.refusal.Refusal.TheVariants.{Size}
use Rattle.isa.specs.Checks.{and_then, require}
use Rattle.isa.specs.Places.{image_size}
use Rattle.isa.specs.Codes.{encoded}
use Rattle.sequence.specs.declared.text.TextFault.{TextFault}
use Rattle.sequence.specs.declared.text.Label.{Label}
use Rattle.sequence.specs.declared.text.Line.{Line}
use Rattle.sequence.specs.declared.text.Line.TheVariants.{Blank, Opens, Holds}
use Rattle.sequence.specs.Texts.{Token, tokens, lines, is_label}
use Rattle.sequence.specs.Lines.{text_fault, parsed}
use Rattle.sequence.specs.Placings.{Plan, fresh, width_of, step, resolve_line}

-- the first pass: each line is taken apart and finds its place; l is the number of the first
abbrev pub planned : ℕ → List (List ℕ) → Plan → Result Plan TextFault
planned l [] s = Ok s
planned l (b ∷ bs) s = and_then (parsed l b) (λ x. and_then (step x s) (planned (l + 1) bs))

-- an instruction line writes its bytes at its place, the others nothing; n is that place
abbrev pub painted : Plan → Line → ℕ → List ℕ → Result (List ℕ) TextFault
painted s Blank n im = Ok im
painted s (Opens l p) n im = Ok im
painted s (Holds x) n im = and_then (resolve_line s x) (λ i. Ok (sets im n (encoded i)))

-- the place of the line after
abbrev pub after : Line → ℕ → ℕ
after Blank n = n
after (Opens l p) n = p
after (Holds x) n = n + width_of x

-- the second pass: targets become places, and the bytes are written
abbrev pub assembled : Plan → ℕ → List (List ℕ) → ℕ → List ℕ → Result (List ℕ) TextFault
assembled s l [] n im = Ok im
assembled s l (b ∷ bs) n im = and_then (parsed l b) (λ x. and_then (painted s x n im) (assembled s (l + 1) bs (after x n)))

abbrev pub blank : List ℕ
blank = replicate image_size 255

-- label-shaped tokens, wherever they stand
abbrev pub label_tokens : List Token → ℕ
label_tokens [] = 0
label_tokens (t ∷ ts) = cond (is_label t.bytes) 1 0 + label_tokens ts

abbrev pub labels_in : List (List ℕ) → ℕ
labels_in [] = 0
labels_in (b ∷ bs) = label_tokens (tokens 1 true b) + labels_in bs

abbrev pub most_bytes : ℕ
most_bytes = 16384

abbrev pub most_lines : ℕ
most_lines = 2048

abbrev pub most_labels : ℕ
most_labels = 64

abbrev pub sized_text : List ℕ → Bool
sized_text text = nat_le (length text) most_bytes && (nat_le (length (lines text)) most_lines && nat_le (labels_in (lines text)) most_labels)

-- an accepted text: its image, its labels in text order, and its count of instruction lines
pub record Translation : Type 0 where
  pub image : List ℕ
  pub labels : List Label
  pub count : ℕ

-- 1, then the lines in their order, then their targets in their order
abbrev pub translation : List ℕ → Result Translation TextFault
translation text =
    and_then (require (sized_text text) (text_fault Size 0 0)) (λ _.
    and_then (planned 1 (lines text) fresh) (λ s.
    and_then (assembled s 1 (lines text) 0 blank) (λ im.
    Ok (record { image = im; labels = s.labels; count = s.count }))))
