-- The operands of a line that is taken apart are in range, its target aside; and so are those of the instruction that the
-- line becomes.
use Rattle.std.proofs.Common.{◌≡◌, ℕ, ◌+◌, ◌≤◌, Bool, true, false, cond, leb, List, [], ◌∷◌, length, ℤ, Some, None, Ok, Err, codes, Option, Result, refl, ap, subst, arith}
use Rattle.std.proofs.lemmas.Bool.Decides.{nat_tests}
use Rattle.std.specs.List.{AllByRecursion}
use Rattle.std.specs.Str.{bytes_eq}
use Rattle.isa.specs.declared.refusal.Refusal.TheVariants.{Long}
use Rattle.isa.specs.declared.shape.Shape.{Shape}
use Rattle.isa.specs.declared.instruction.Instruction.{Instruction}
use Rattle.isa.specs.declared.instruction.Instruction.TheVariants.{Go, Jump, JumpLow, Act}
use Rattle.isa.specs.declared.table.Entry.{Entry}
use Rattle.isa.specs.declared.table.Mismatch.{Mismatch}
use Rattle.isa.specs.declared.table.Mismatch.TheVariants.{UnknownLetter, OutOfRange}
use Rattle.isa.specs.Checks.{require}
use Rattle.isa.specs.Shapes.{operands}
use Rattle.isa.specs.Table.{entry, shape_of}
use Rattle.isa.specs.Codes.{in_range, instruction_in}
use Rattle.isa.proofs.RoundTrip.{entry_in_range}
use Rattle.sequence.specs.declared.text.TextFault.{TextFault}
use Rattle.sequence.specs.declared.text.WrittenPlace.{WrittenPlace}
use Rattle.sequence.specs.declared.text.Line.{Line}
use Rattle.sequence.specs.declared.text.Line.TheVariants.{Blank, Opens, Holds}
use Rattle.sequence.specs.Texts.{Token, tokens, is_label, label_name, place_of}
use Rattle.sequence.specs.Lines.{text_fault, Operand, Pair, pair_of, value_of, aimed_at, Head, source_of, ranged, formed, lettered, touching, coded, instructed, head, labelled, placed, opened_at, opened, taken, longest, first_bad, clean, parsed}
use Rattle.sequence.specs.Placings.{unaimed}
use Rattle.sequence.specs.Layouts.{parsed_all}
use Rattle.layout.proofs.Basics.{ok_then, ok_ok}

-- with its target at place 0, the instruction of a line is in range
abbrev pub Sound : Line → Type 0
Sound Blank = Unit {0}
Sound (Opens l p) = Unit {0}
Sound (Holds x) = in_range (unaimed x.instruction) ≡ true

-- with any place as its target
pub jump_range : (p q n : ℕ) → in_range (Jump p n) ≡ true → q ≤ 2047 → in_range (Jump q n) ≡ true
jump_range p q n r l = grind (arith, nat_tests)

pub jump_low_range : (p q n : ℕ) → in_range (JumpLow p n) ≡ true → q ≤ 2047 → in_range (JumpLow q n) ≡ true
jump_low_range p q n r l = grind (arith, nat_tests)

pub go_range : (q : ℕ) → q ≤ 2047 → in_range (Go q) ≡ true
go_range q l = grind (arith, nat_tests)

unaimed_range : (o : Operand) (i : Instruction ℕ) → in_range i ≡ true → in_range (unaimed (aimed_at o i)) ≡ true
unaimed_range o (Go p) r = refl
unaimed_range o (Jump p n) r = jump_range p 0 n r (omega arith)
unaimed_range o (JumpLow p n) r = jump_low_range p 0 n r (omega arith)
unaimed_range o (Act a) r = r

-- a line, one step of taking apart after the other
abbrev Yields : Result Line TextFault → Type 0
Yields r = (x : Line) → r ≡ Ok x → Sound x

no : (f : TextFault) → Yields (Err f)
no f x e = let z : ◌≡◌ {A = ℕ} 0 1 = cc in absurd (omega arith)

plain : (y : Line) → Sound y → Yields (Ok y)
plain y h x e = subst Sound (ok_ok _ _ e) h

ranged_sound : (h : Head) (p : Pair) (c b : ℕ) (y z : ℤ) (k : Result Entry Mismatch) → entry b (operands y z) ≡ k → Yields (ranged h p c k)
ranged_sound h p c b y z (Ok e) q = plain (Holds (source_of h p e.instruction)) (unaimed_range p.first e.instruction (entry_in_range y z b e.instruction (ap instruction_in q)))
ranged_sound h p c b y z (Err (OutOfRange s o)) q = no _
ranged_sound h p c b y z (Err UnknownLetter) q = no _

formed_sound : (h : Head) (b c : ℕ) (o : Option Pair) → Yields (formed h b c o)
formed_sound h b c None = no _
formed_sound h b c (Some p) = ranged_sound h p c b (value_of p.first) (value_of p.second) _ refl

lettered_sound : (h : Head) (b c : ℕ) (ts : List Token) (o : Option Shape) → Yields (lettered h b c ts o)
lettered_sound h b c ts None = no _
lettered_sound h b c ts (Some s) = formed_sound h b c (pair_of s ts)

coded_sound : (h : Head) (c : ℕ) (bs : List ℕ) (ts : List Token) → Yields (coded h c bs ts)
coded_sound h c [] ts = no _
coded_sound h c (b ∷ bs) ts = lettered_sound h b c (touching c bs ts) (shape_of b)

instructed_sound : (h : Head) (ts : List Token) → Yields (instructed h ts)
instructed_sound h [] = no _
instructed_sound h (t ∷ ts) = coded_sound h t.column t.bytes ts

either : (t : Bool) (r r' : Result Line TextFault) → Yields r → Yields r' → Yields (cond t r r')
either true r r' h k = h
either false r r' h k = k

labelled_sound : (l : ℕ) (w : Option WrittenPlace) (ts : List Token) → Yields (labelled l w ts)
labelled_sound l w [] = no _
labelled_sound l w (t ∷ ts) = either (is_label t.bytes) _ _ (instructed_sound (head l w (Some (record { name = label_name t.bytes; column = t.column }))) ts) (instructed_sound (head l w None) (t ∷ ts))

placed_sound : (l : ℕ) (t : Token) (ts : List Token) (o : Option ℕ) → Yields (placed l t ts o)
placed_sound l t ts None = labelled_sound l None (t ∷ ts)
placed_sound l t ts (Some p) = labelled_sound l (Some (record { place = p; column = t.column })) ts

opened_at_sound : (l : ℕ) (o : Option ℕ) → Yields (opened_at l o)
opened_at_sound l None = no _
opened_at_sound l (Some p) = plain (Opens l p) tt

opened_sound : (l : ℕ) (ts : List Token) → Yields (opened l ts)
opened_sound l [] = no _
opened_sound l (t ∷ []) = opened_at_sound l (place_of t.bytes)
opened_sound l (t ∷ u ∷ us) = no _

taken_sound : (l : ℕ) (ts : List Token) → Yields (taken l ts)
taken_sound l [] = plain Blank tt
taken_sound l (t ∷ ts) = either (bytes_eq t.bytes (codes "at")) _ _ (opened_sound l ts) (placed_sound l t ts (place_of t.bytes))

pub line_sound : (l : ℕ) (bs : List ℕ) (x : Line) → parsed l bs ≡ Ok x → Sound x
line_sound l bs x e =
    let a = ok_then (require (leb (length bs) longest) (text_fault Long l 0)) _ x e in
    let b = ok_then (clean l (first_bad bs)) _ x a.2 in
    taken_sound l (tokens 1 true bs) x b.2

pub parsed_sound : (l : ℕ) (bs : List (List ℕ)) (ls : List Line) → parsed_all l bs ≡ Ok ls → AllByRecursion Sound ls
parsed_sound l [] ls e = subst (AllByRecursion Sound) (ok_ok _ _ e) tt
parsed_sound l (b ∷ bs) ls e =
    let a = ok_then (parsed l b) _ ls e in
    let d = ok_then (parsed_all (l + 1) bs) _ ls a.2 in
    subst (AllByRecursion Sound) (ok_ok _ _ d.2) (line_sound l b a.0 a.1, parsed_sound (l + 1) bs d.0 d.1)
