-- A line defines at most one label, and none without a label-shaped token.
use Rattle.std.proofs.Common.{◌≡◌, ℕ, ◌+◌, ◌≤◌, Bool, true, false, cond, leb, List, [], ◌∷◌, length, Some, None, Ok, Err, codes, Option, Result, subst, arith}
use Rattle.std.specs.Str.{bytes_eq}
use Rattle.isa.specs.declared.refusal.Refusal.TheVariants.{Long}
use Rattle.isa.specs.declared.shape.Shape.{Shape}
use Rattle.isa.specs.declared.table.Entry.{Entry}
use Rattle.isa.specs.declared.table.Mismatch.{Mismatch}
use Rattle.isa.specs.declared.table.Mismatch.TheVariants.{UnknownLetter, OutOfRange}
use Rattle.isa.specs.Checks.{require}
use Rattle.isa.specs.Shapes.{operands}
use Rattle.isa.specs.Table.{entry, shape_of}
use Rattle.sequence.specs.declared.text.TextFault.{TextFault}
use Rattle.sequence.specs.declared.text.WrittenPlace.{WrittenPlace}
use Rattle.sequence.specs.declared.text.Definition.{Definition}
use Rattle.sequence.specs.declared.text.Line.{Line}
use Rattle.sequence.specs.declared.text.Line.TheVariants.{Blank, Opens, Holds}
use Rattle.sequence.specs.Texts.{Token, tokens, is_label, label_name, place_of}
use Rattle.sequence.specs.Lines.{text_fault, Pair, pair_of, value_of, Head, source_of, ranged, formed, lettered, touching, coded, instructed, head, labelled, placed, opened_at, opened, taken, longest, first_bad, clean, parsed}
use Rattle.sequence.specs.Translations.{label_tokens}
use Rattle.layout.proofs.Basics.{ok_then, ok_ok}

-- how many labels a line defines
abbrev pub defined_in : Option Definition → ℕ
defined_in None = 0
defined_in (Some d) = 1

abbrev pub defined_by : Line → ℕ
defined_by Blank = 0
defined_by (Opens l p) = 0
defined_by (Holds x) = defined_in x.label

-- a line of at most n labels, one step of taking apart after the other
abbrev Yields : ℕ → Result Line TextFault → Type 0
Yields n r = (x : Line) → r ≡ Ok x → defined_by x ≤ n

no : (n : ℕ) (f : TextFault) → Yields n (Err f)
no n f x e = let z : ◌≡◌ {A = ℕ} 0 1 = cc in absurd (omega arith)

plain : (n : ℕ) (y : Line) → defined_by y ≤ n → Yields n (Ok y)
plain n y h x e = subst (λ (l : Line). defined_by l ≤ n) (ok_ok _ _ e) h

ranged_counted : (h : Head) (p : Pair) (c : ℕ) (k : Result Entry Mismatch) → Yields (defined_in h.label) (ranged h p c k)
ranged_counted h p c (Ok e) = plain _ (Holds (source_of h p e.instruction)) (omega arith)
ranged_counted h p c (Err (OutOfRange s o)) = no _ _
ranged_counted h p c (Err UnknownLetter) = no _ _

formed_counted : (h : Head) (b c : ℕ) (o : Option Pair) → Yields (defined_in h.label) (formed h b c o)
formed_counted h b c None = no _ _
formed_counted h b c (Some p) = ranged_counted h p c (entry b (operands (value_of p.first) (value_of p.second)))

lettered_counted : (h : Head) (b c : ℕ) (ts : List Token) (o : Option Shape) → Yields (defined_in h.label) (lettered h b c ts o)
lettered_counted h b c ts None = no _ _
lettered_counted h b c ts (Some s) = formed_counted h b c (pair_of s ts)

coded_counted : (h : Head) (c : ℕ) (bs : List ℕ) (ts : List Token) → Yields (defined_in h.label) (coded h c bs ts)
coded_counted h c [] ts = no _ _
coded_counted h c (b ∷ bs) ts = lettered_counted h b c (touching c bs ts) (shape_of b)

instructed_counted : (h : Head) (ts : List Token) → Yields (defined_in h.label) (instructed h ts)
instructed_counted h [] = no _ _
instructed_counted h (t ∷ ts) = coded_counted h t.column t.bytes ts

-- one label behind a test that is counted, else none
tested : (t : Bool) (n : ℕ) (r r' : Result Line TextFault) → Yields 1 r → Yields 0 r' → Yields (cond t 1 0 + n) (cond t r r')
tested true n r r' h k x e = let a = h x e in omega arith
tested false n r r' h k x e = let a = k x e in omega arith

either : (t : Bool) (n : ℕ) (r r' : Result Line TextFault) → Yields n r → Yields n r' → Yields n (cond t r r')
either true n r r' h k = h
either false n r r' h k = k

labelled_counted : (l : ℕ) (w : Option WrittenPlace) (ts : List Token) → Yields (label_tokens ts) (labelled l w ts)
labelled_counted l w [] = no _ _
labelled_counted l w (t ∷ ts) = tested (is_label t.bytes) (label_tokens ts) _ _ (instructed_counted (head l w (Some (record { name = label_name t.bytes; column = t.column }))) ts) (instructed_counted (head l w None) (t ∷ ts))

placed_counted : (l : ℕ) (t : Token) (ts : List Token) (o : Option ℕ) → Yields (label_tokens (t ∷ ts)) (placed l t ts o)
placed_counted l t ts None x e = labelled_counted l None (t ∷ ts) x e
placed_counted l t ts (Some p) x e = let a = labelled_counted l (Some (record { place = p; column = t.column })) ts x e in omega arith

opened_at_counted : (l n : ℕ) (o : Option ℕ) → Yields n (opened_at l o)
opened_at_counted l n None = no _ _
opened_at_counted l n (Some p) = plain n (Opens l p) (omega arith)

opened_counted : (l n : ℕ) (ts : List Token) → Yields n (opened l ts)
opened_counted l n [] = no _ _
opened_counted l n (t ∷ []) = opened_at_counted l n (place_of t.bytes)
opened_counted l n (t ∷ u ∷ us) = no _ _

taken_counted : (l : ℕ) (ts : List Token) → Yields (label_tokens ts) (taken l ts)
taken_counted l [] = plain _ Blank (omega arith)
taken_counted l (t ∷ ts) = either (bytes_eq t.bytes (codes "at")) _ _ _ (opened_counted l _ ts) (placed_counted l t ts (place_of t.bytes))

-- a line that defines a label has a label-shaped token
pub label_counted : (l : ℕ) (b : List ℕ) (x : Line) → parsed l b ≡ Ok x → defined_by x ≤ label_tokens (tokens 1 true b)
label_counted l b x e =
    let u = ok_then (require (leb (length b) longest) (text_fault Long l 0)) _ x e in
    let v = ok_then (clean l (first_bad b)) _ x u.2 in
    taken_counted l (tokens 1 true b) x v.2
