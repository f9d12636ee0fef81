-- A line of a text, taken apart.
use Rattle.std.specs.Prelude.{ℕ, suc, Bool, true, false, cond, not, ◌&&◌, List, [], ◌∷◌, length, ℤ, pos, Some, None, Ok, Err, codes, Option, Result, ◌==◌, nat_le, position}
use Rattle.std.specs.Option.{option_map}
use Rattle.std.specs.Str.{bytes_eq}
use Rattle.isa.specs.declared.refusal.Refusal.{Refusal}
use Rattle.isa.specs.declared.refusal.Refusal.TheVariants.{Character, Letter, Long, Operands, Range}
use Rattle.isa.specs.declared.shape.Order.{Order}
use Rattle.isa.specs.declared.shape.Order.TheVariants.{First, Second}
use Rattle.isa.specs.declared.shape.Shape.{Shape}
use Rattle.isa.specs.declared.instruction.Instruction.{Instruction}
use Rattle.isa.specs.declared.instruction.Instruction.TheVariants.{Go, Jump, JumpLow, Act}
use Rattle.isa.specs.declared.table.Entry.{Entry}
use Rattle.isa.specs.declared.table.Mismatch.{Mismatch}
use Rattle.isa.specs.declared.table.Mismatch.TheVariants.{UnknownLetter, OutOfRange}
use Rattle.isa.specs.Checks.{and_then, require}
use Rattle.isa.specs.Shapes.{count_of, aims, operands}
use Rattle.isa.specs.Table.{entry, shape_of}
use Rattle.sequence.specs.declared.text.TextFault.{TextFault}
use Rattle.sequence.specs.declared.text.Target.{Target}
use Rattle.sequence.specs.declared.text.Target.TheVariants.{Place, Label}
use Rattle.sequence.specs.declared.text.WrittenPlace.{WrittenPlace}
use Rattle.sequence.specs.declared.text.Definition.{Definition}
use Rattle.sequence.specs.declared.text.Source.{Source}
use Rattle.sequence.specs.declared.text.Line.{Line}
use Rattle.sequence.specs.declared.text.Line.TheVariants.{Blank, Opens, Holds}
use Rattle.sequence.specs.Texts.{Token, tokens, is_name, name_of, is_label, label_name, unsigned_of, number_of, place_of}

abbrev pub text_fault : Refusal → ℕ → ℕ → TextFault
text_fault r l c = record { refusal = r; line = l; column = c }

abbrev pub refused : {A : Type 0} → Refusal → ℕ → ℕ → Result A TextFault
refused r l c = Err (text_fault r l c)

-- an operand: a number, or the name of a label
pub data Operand : Type 0 where
  number : ℤ → Operand
  named : List ℕ → Operand

-- what a token is as an operand; a target has no minus, and may be a name
abbrev pub operand_of : Bool → List ℕ → Option Operand
operand_of true bs = cond (is_name bs) (Some (named (name_of bs))) (option_map (λ n. number (pos n)) (unsigned_of bs))
operand_of false bs = option_map number (number_of bs)

-- two operands; one that is not there is the number 0 in column 0
pub record Pair : Type 0 where
  pub first : Operand
  pub second : Operand
  pub first_column : ℕ
  pub second_column : ℕ

abbrev pub absent : Operand
absent = number (pos 0)

abbrev pub one_of : ℕ → Option Operand → Option Pair
one_of c None = None
one_of c (Some x) = Some (record { first = x; second = absent; first_column = c; second_column = 0 })

abbrev pub two_of : ℕ → ℕ → Option Operand → Option Operand → Option Pair
two_of c d None y = None
two_of c d (Some x) None = None
two_of c d (Some x) (Some y) = Some (record { first = x; second = y; first_column = c; second_column = d })

-- the tokens after a letter, if their count and form are those of its shape
abbrev pub pair_of : Shape → List Token → Option Pair
pair_of s [] = cond (count_of s == 0) (Some (record { first = absent; second = absent; first_column = 0; second_column = 0 })) None
pair_of s (t ∷ []) = cond (count_of s == 1) (one_of t.column (operand_of (aims s) t.bytes)) None
pair_of s (t ∷ u ∷ []) = cond (count_of s == 2) (two_of t.column u.column (operand_of (aims s) t.bytes) (operand_of false u.bytes)) None
pair_of s (t ∷ u ∷ v ∷ ws) = None

-- a name counts as place 0 until it is looked up
abbrev pub value_of : Operand → ℤ
value_of (number z) = z
value_of (named n) = pos 0

abbrev pub target_from : Operand → ℕ → Target
target_from (number z) p = Place p
target_from (named n) p = Label n

-- the same instruction, its target as written
abbrev pub aimed_at : Operand → Instruction ℕ → Instruction Target
aimed_at x (Go p) = Go (target_from x p)
aimed_at x (Jump p n) = Jump (target_from x p) n
aimed_at x (JumpLow p c) = JumpLow (target_from x p) c
aimed_at x (Act a) = Act a

abbrev pub column_of : Order → Pair → ℕ
column_of First p = p.first_column
column_of Second p = p.second_column

-- what stands in front of an instruction
pub record Head : Type 0 where
  pub line : ℕ
  pub written : Option WrittenPlace
  pub label : Option Definition

abbrev pub source_of : Head → Pair → Instruction ℕ → Source
source_of h p i = record { line = h.line; written = h.written; label = h.label; instruction = aimed_at p.first i; column = p.first_column }

-- 6: an operand outside its range
abbrev pub ranged : Head → Pair → ℕ → Result Entry Mismatch → Result Line TextFault
ranged h p c (Ok e) = Ok (Holds (source_of h p e.instruction))
ranged h p c (Err (OutOfRange s k)) = refused Range h.line (column_of k p)
ranged h p c (Err UnknownLetter) = refused Letter h.line c

-- 5: wrong count or form of operands
abbrev pub formed : Head → ℕ → ℕ → Option Pair → Result Line TextFault
formed h b c None = refused Operands h.line 0
formed h b c (Some p) = ranged h p c (entry b (operands (value_of p.first) (value_of p.second)))

-- 3: no such command
abbrev pub lettered : Head → ℕ → ℕ → List Token → Option Shape → Result Line TextFault
lettered h b c ts None = refused Letter h.line c
lettered h b c ts (Some s) = formed h b c (pair_of s ts)

-- what follows a letter in its token is its first operand
abbrev pub touching : ℕ → List ℕ → List Token → List Token
touching c [] ts = ts
touching c (b ∷ bs) ts = record { column = c; bytes = b ∷ bs } ∷ ts

abbrev pub coded : Head → ℕ → List ℕ → List Token → Result Line TextFault
coded h c [] ts = refused Operands h.line 0
coded h c (b ∷ bs) ts = lettered h b c (touching c bs ts) (shape_of b)

-- the next token is the instruction's
abbrev pub instructed : Head → List Token → Result Line TextFault
instructed h [] = refused Operands h.line 0
instructed h (t ∷ ts) = coded h t.column t.bytes ts

abbrev pub head : ℕ → Option WrittenPlace → Option Definition → Head
head l w d = record { line = l; written = w; label = d }

-- perhaps a label
abbrev pub labelled : ℕ → Option WrittenPlace → List Token → Result Line TextFault
labelled l w [] = refused Operands l 0
labelled l w (t ∷ ts) =
    cond (is_label t.bytes) (instructed (head l w (Some (record { name = label_name t.bytes; column = t.column }))) ts)
    (instructed (head l w None) (t ∷ ts))

-- perhaps a place
abbrev pub placed : ℕ → Token → List Token → Option ℕ → Result Line TextFault
placed l t ts None = labelled l None (t ∷ ts)
placed l t ts (Some p) = labelled l (Some (record { place = p; column = t.column })) ts

abbrev pub opened_at : ℕ → Option ℕ → Result Line TextFault
opened_at l None = refused Operands l 0
opened_at l (Some p) = Ok (Opens l p)

abbrev pub opened : ℕ → List Token → Result Line TextFault
opened l [] = refused Operands l 0
opened l (t ∷ []) = opened_at l (place_of t.bytes)
opened l (t ∷ u ∷ us) = refused Operands l 0

abbrev pub taken : ℕ → List Token → Result Line TextFault
taken l [] = Ok Blank
taken l (t ∷ ts) = cond (bytes_eq t.bytes (codes "at")) (opened l ts) (placed l t ts (place_of t.bytes))

abbrev pub longest : ℕ
longest = 80

abbrev pub allowed : ℕ → Bool
allowed b = nat_le 32 b && nat_le b 126

-- the column of the first byte that is not allowed
abbrev pub first_bad : List ℕ → Option ℕ
first_bad bs = option_map suc (position (λ b. not (allowed b)) bs)

-- 2: a byte that is not allowed
abbrev pub clean : ℕ → Option ℕ → Result (Unit {0}) TextFault
clean l None = Ok tt
clean l (Some c) = refused Character l c

-- line l of a text: 4, 2, 3, 5, 6
abbrev pub parsed : ℕ → List ℕ → Result Line TextFault
parsed l bs =
    and_then (require (nat_le (length bs) longest) (text_fault Long l 0)) (λ _.
    and_then (clean l (first_bad bs)) (λ _.
    taken l (tokens 1 true bs)))
