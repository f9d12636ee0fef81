-- The lines of a listing, and how many there are.
use Rattle.std.proofs.Common.{◌≡◌, ℕ, suc, ◌+◌, ◌<◌, ◌≤◌, Bool, true, false, cond, List, [], ◌∷◌, ◌++◌, length, ℤ, refl, ap, ◌∙◌, arith}
use Rattle.std.proofs.lemmas.List.{append_assoc}
use Rattle.std.specs.List.{AllByRecursion}
use Rattle.isa.specs.Instructions.{letter_of}
use Rattle.isa.specs.Codes.{width}
use Rattle.sequence.specs.declared.image.Found.{Found}
use Rattle.sequence.specs.Numbers.{decimal, signed}
use Rattle.sequence.specs.Texts.{tokens, lines, every, is_label}
use Rattle.sequence.specs.Lines.{allowed}
use Rattle.sequence.specs.Translations.{label_tokens, labels_in}
use Rattle.sequence.specs.Listings.{at_line, instruction_line, printed}
use Rattle.relisting.proofs.Digits.{Short, decimal_word, signed_word}
use Rattle.relisting.proofs.Tokens.{line}
use Rattle.relisting.proofs.PrintedLines.{shown, pieces, spelt, line_bytes, at_bytes, start, at_ends, at_allowed, at_tokens, line_ends, line_allowed, line_tokens}
use Rattle.layout.proofs.Placing.{user_low}
use Rattle.relisting.proofs.Chains.{some_width, Chain, Fine}

-- the lines of a listing
abbrev pub text_lines : List Found → List (List ℕ)
text_lines [] = []
text_lines (f ∷ fs) = cond f.opens (at_bytes f.place ∷ line_bytes f.place f.instruction ∷ text_lines fs) (line_bytes f.place f.instruction ∷ text_lines fs)

feed : (l rest : List ℕ) → every allowed l ≡ true → lines ((l ++ (10 ∷ [])) ++ rest) ≡ l ∷ lines rest
feed l rest h = ap lines (append_assoc l (10 ∷ []) rest) ∙ line l rest h

pub printed_lines : (fs : List Found) → AllByRecursion Fine fs → lines (printed fs) ≡ text_lines fs
printed_lines [] a = refl
printed_lines (f ∷ fs) a = go f.opens (printed_lines fs a.1)
  where
    p : ℕ
    p = f.place

    bytes : List ℕ
    bytes = line_bytes f.place f.instruction

    text : List ℕ
    text = instruction_line f.place f.instruction

    held : lines (printed fs) ≡ text_lines fs → lines (text ++ printed fs) ≡ bytes ∷ text_lines fs
    held e =
        ap (λ t. lines (t ++ printed fs)) (line_ends p a.0.0 f.instruction a.0.1)
        ∙ feed bytes (printed fs) (line_allowed p a.0.0 f.instruction a.0.1) ∙ ap (λ ls. bytes ∷ ls) e

    go : (t : Bool) → lines (printed fs) ≡ text_lines fs → lines ((cond t (at_line p) [] ++ text) ++ printed fs) ≡ cond t (at_bytes p ∷ bytes ∷ text_lines fs) (bytes ∷ text_lines fs)
    go false e = held e
    go true e =
        ap lines (append_assoc (at_line p) text (printed fs)) ∙ ap (λ t. lines (t ++ (text ++ printed fs))) (at_ends p a.0.0)
        ∙ feed (at_bytes p) (text ++ printed fs) (at_allowed p a.0.0) ∙ ap (λ ls. at_bytes p ∷ ls) (held e)

-- no token of a listing is shaped as a label
pieces_unlabelled : (k : ℕ) (zs : List ℤ) → AllByRecursion Short zs → label_tokens (pieces k zs) ≡ 0
pieces_unlabelled k [] a = refl
pieces_unlabelled k (z ∷ zs) a =
    let w = signed_word z a.0 in
    let i = pieces_unlabelled (k + length (signed z) + 1) zs a.1 in
    ap (λ t. cond t 1 0 + label_tokens (pieces (k + length (signed z) + 1) zs)) w.no_label ∙ omega arith

line_unlabelled : (f : Found) → Fine f → (label_tokens (tokens 1 true (line_bytes f.place f.instruction)) ≡ 0) × (label_tokens (tokens 1 true (at_bytes f.place)) ≡ 0)
line_unlabelled f h =
    let w = decimal_word f.place (omega arith) in
    let s = spelt f.instruction h.1 in
    let p = pieces_unlabelled (start f.place) (shown f.instruction) s.short in
    let a : ◌≡◌ {A = ℕ} (cond (is_label (decimal f.place)) 1 0) 0 = ap (λ t. cond t 1 0) w.no_label in
    let b : ◌≡◌ {A = ℕ} (cond (is_label (letter_of f.instruction ∷ [])) 1 0) 0 = ap (λ t. cond t 1 0) s.letter.1 in
    (ap label_tokens (line_tokens f.place h.0 f.instruction h.1) ∙ omega arith, ap label_tokens (at_tokens f.place h.0) ∙ omega arith)

pub no_labels : (fs : List Found) → AllByRecursion Fine fs → labels_in (text_lines fs) ≡ 0
no_labels [] a = refl
no_labels (f ∷ fs) a = go f.opens (line_unlabelled f a.0) (no_labels fs a.1)
  where
    one : List ℕ
    one = at_bytes f.place

    two : List ℕ
    two = line_bytes f.place f.instruction

    go : (t : Bool) → (label_tokens (tokens 1 true two) ≡ 0) × (label_tokens (tokens 1 true one) ≡ 0) → labels_in (text_lines fs) ≡ 0 → labels_in (cond t (one ∷ two ∷ text_lines fs) (two ∷ text_lines fs)) ≡ 0
    go true h i = omega arith
    go false h i = omega arith

-- at most one line a place, marks included
abbrev marked : Bool → ℕ → ℕ
marked used n = cond used (suc n) n

pub few_lines : (fs : List Found) (used : Bool) (n : ℕ) → marked used n ≤ 2048 → Chain used n fs → length (text_lines fs) + marked used n ≤ 2048
few_lines [] used n h c = omega arith
few_lines (f ∷ fs) used n h c = go f.opens refl (few_lines fs true (f.place + width f.instruction) (user_low _ (c.1 (width f.instruction) (omega arith))) c.2)
  where
    below : (u : Bool) → (n ≤ f.place) × (u ≡ true → n < f.place) → marked u n ≤ f.place
    below true b = let g = b.1 refl in omega arith
    below false b = b.0

    go : (t : Bool) → f.opens ≡ t → length (text_lines fs) + suc (f.place + width f.instruction) ≤ 2048
        → length (cond t (at_bytes f.place ∷ line_bytes f.place f.instruction ∷ text_lines fs) (line_bytes f.place f.instruction ∷ text_lines fs)) + marked used n ≤ 2048
    go true e ih = let b = below used (c.0.opens e) in let w = some_width f.instruction in omega arith
    go false e ih = let b = c.0.follows e in let m : marked used n ≡ suc n = ap (λ t. marked t n) b.0 in let w = some_width f.instruction in omega arith
