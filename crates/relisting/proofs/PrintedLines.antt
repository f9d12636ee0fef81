-- A line of a listing is taken apart as it was written.
use Rattle.std.proofs.Common.{◌≡◌, ℕ, ◌+◌, ◌*◌, ◌<◌, ◌≤◌, Bool, true, false, cond, not, List, [], ◌∷◌, ◌++◌, length, ℤ, pos, negsuc, Some, None, Ok, codes, sym, refl, ap, ◌∙◌, arith}
use Rattle.std.proofs.lemmas.Bool.{and_parts, and_from, le-leb, cond-false}
use Rattle.std.proofs.lemmas.List.{append-nil, append_assoc, length-append}
use Rattle.std.proofs.lemmas.Bool.Decides.{nat_tests}
use Rattle.std.specs.List.{AllByRecursion, prefix_len}
use Rattle.isa.specs.declared.refusal.Refusal.TheVariants.{Long as TooLong}
use Rattle.isa.specs.declared.shape.Shape.{Shape}
use Rattle.isa.specs.declared.shape.Shape.TheVariants.{Byte, Pair as Both, Word as Double, Target, TargetByte, Signed, Long}
use Rattle.isa.specs.declared.instruction.Direction.TheVariants.{Plus, Minus}
use Rattle.isa.specs.declared.instruction.Action.TheVariants.{Outputs, Divisor, InitialSpeed, SlewSpeed, Rates, Origin, IndexTo, Wait, Report, Index}
use Rattle.isa.specs.declared.instruction.Instruction.{Instruction}
use Rattle.isa.specs.declared.instruction.Instruction.TheVariants.{Go, Jump, JumpLow, Act}
use Rattle.isa.specs.Checks.{and_then, require}
use Rattle.isa.specs.Shapes.{operands}
use Rattle.isa.specs.Instructions.{letter_of, retarget}
use Rattle.isa.specs.Table.{fit, entry, shape_of}
use Rattle.isa.specs.Codes.{in_range}
use Rattle.sequence.specs.declared.text.Target.TheVariants.{Place}
use Rattle.sequence.specs.declared.text.Source.{Source}
use Rattle.sequence.specs.declared.text.Line.TheVariants.{Opens, Holds}
use Rattle.sequence.specs.Numbers.{decimal, signed}
use Rattle.sequence.specs.Texts.{Token, tokens, every, is_label, place_of}
use Rattle.sequence.specs.Lines.{text_fault, number, operand_of, absent, one_of, two_of, Head, head, source_of, ranged, formed, lettered, placed, opened_at, opened, taken, allowed, first_bad, clean, parsed}
use Rattle.sequence.specs.Listings.{space, instruction_text, at_line, instruction_line}
use Rattle.relisting.proofs.Digits.{plain, Short, decimal_word, signed_word, place_decimal, decimal_not_at, operand_signed, operand_target}
use Rattle.relisting.proofs.Tokens.{token, last}

-- numbers, each after a space
abbrev pub spaced : List ℤ → List ℕ
spaced [] = []
spaced (z ∷ zs) = 32 ∷ signed z ++ spaced zs

-- the numbers that are printed after the letter
abbrev pub shown : Instruction ℕ → List ℤ
shown (Go p) = pos p ∷ []
shown (Jump p n) = pos p ∷ pos n ∷ []
shown (JumpLow p n) = pos p ∷ pos n ∷ []
shown (Act (Outputs n)) = pos n ∷ []
shown (Act (Divisor n)) = pos n ∷ []
shown (Act (InitialSpeed n)) = pos n ∷ []
shown (Act (SlewSpeed n)) = pos n ∷ []
shown (Act (Rates a d)) = pos a ∷ pos d ∷ []
shown (Act (Origin z)) = z ∷ []
shown (Act (IndexTo z)) = z ∷ []
shown (Act (Wait n)) = pos n ∷ []
shown (Act Report) = []
shown (Act (Index d n)) = pos n ∷ []

-- their tokens, the first in column k
abbrev pub pieces : ℕ → List ℤ → List Token
pieces k [] = []
pieces k (z ∷ zs) = record { column = k; bytes = signed z } ∷ pieces (k + length (signed z) + 1) zs

abbrev pub column_from : ℕ → List ℤ → ℕ
column_from k [] = 0
column_from k (z ∷ zs) = k

-- what stands in a line, without its place
abbrev pub Reads : Instruction ℕ → List Token → ℕ → Type 0
Reads i ts k = (h : Head) (c : ℕ) → lettered h (letter_of i) c ts (shape_of (letter_of i)) ≡ Ok (Holds (record { line = h.line; written = h.written; label = h.label; instruction = retarget Place i; column = k }))

-- what is needed of an instruction to print it and to read it again
pub record Spelt (i : Instruction ℕ) : Type 0 where
  pub text : instruction_text i ≡ letter_of i ∷ spaced (shown i)
  pub short : AllByRecursion Short (shown i)
  pub few : length (shown i) ≤ 2
  pub letter : (plain (letter_of i) ≡ true) × (is_label (letter_of i ∷ []) ≡ false) × (allowed (letter_of i) ≡ true)
  pub reads : (k : ℕ) → Reads i (pieces k (shown i)) (column_from k (shown i))

-- one operand, and two
module _ (h : Head) (c k : ℕ) (b : ℕ) (i : Instruction ℕ) (s : Shape) where
  one_read : (t : Bool) (z : ℤ) → operand_of t (signed z) ≡ Some (number z) → entry b (operands z (pos 0)) ≡ Ok (fit s i)
      → formed h b c (one_of k (operand_of t (signed z))) ≡ Ok (Holds (source_of h (record { first = number z; second = absent; first_column = k; second_column = 0 }) i))
  one_read t z o e = ap (λ o. formed h b c (one_of k o)) o ∙ ap (ranged h (record { first = number z; second = absent; first_column = k; second_column = 0 }) c) e

  two_read : (t : Bool) (y z : ℤ) (j : ℕ) → operand_of t (signed y) ≡ Some (number y) → operand_of false (signed z) ≡ Some (number z) → entry b (operands y z) ≡ Ok (fit s i)
      → formed h b c (two_of k j (operand_of t (signed y)) (operand_of false (signed z))) ≡ Ok (Holds (source_of h (record { first = number y; second = number z; first_column = k; second_column = j }) i))
  two_read t y z j o q e =
      ap (λ o. formed h b c (two_of k j o (operand_of false (signed z)))) o ∙ ap (λ o. formed h b c (two_of k j (Some (number y)) o)) q
      ∙ ap (ranged h (record { first = number y; second = number z; first_column = k; second_column = j }) c) e

two_text : (l : ℕ) (y z : ℤ) → l ∷ ((space ∷ signed y) ++ (space ∷ signed z)) ≡ l ∷ spaced (y ∷ z ∷ [])
two_text l y z = ap (λ t. l ∷ ((32 ∷ signed y) ++ (32 ∷ t))) (sym (append-nil (signed z)))

pub spelt : (i : Instruction ℕ) → in_range i ≡ true → Spelt i
spelt (Go p) r =
    let h : p < 99999999 = grind (arith, nat_tests) in
    let e : entry 71 (operands (pos p) (pos 0)) ≡ Ok (fit Target (Go p)) = grind (arith, nat_tests) in
    record { text = refl; short = (h, tt); few = omega arith; letter = (refl, refl, refl); reads = λ k f c. one_read f c k 71 (Go p) Target true (pos p) (operand_target p (omega arith)) e }
spelt (Jump p n) r =
    let h : (p < 99999999) × (n < 99999999) = grind (arith, nat_tests) in
    let e : entry 74 (operands (pos p) (pos n)) ≡ Ok (fit TargetByte (Jump p n)) = grind (arith, nat_tests) in
    record { text = two_text 74 (pos p) (pos n); short = (h.0, (h.1, tt)); few = omega arith; letter = (refl, refl, refl); reads = λ k f c. two_read f c k 74 (Jump p n) TargetByte true (pos p) (pos n) _ (operand_target p (omega arith)) (operand_signed (pos n) h.1) e }
spelt (JumpLow p n) r =
    let h : (p < 99999999) × (n < 99999999) = grind (arith, nat_tests) in
    let e : entry 76 (operands (pos p) (pos n)) ≡ Ok (fit TargetByte (JumpLow p n)) = grind (arith, nat_tests) in
    record { text = two_text 76 (pos p) (pos n); short = (h.0, (h.1, tt)); few = omega arith; letter = (refl, refl, refl); reads = λ k f c. two_read f c k 76 (JumpLow p n) TargetByte true (pos p) (pos n) _ (operand_target p (omega arith)) (operand_signed (pos n) h.1) e }
spelt (Act (Outputs n)) r =
    let h : n < 99999999 = grind (arith, nat_tests) in
    let e : entry 65 (operands (pos n) (pos 0)) ≡ Ok (fit Byte (Act (Outputs n))) = grind (arith, nat_tests) in
    record { text = refl; short = (h, tt); few = omega arith; letter = (refl, refl, refl); reads = λ k f c. one_read f c k 65 (Act (Outputs n)) Byte false (pos n) (operand_signed (pos n) h) e }
spelt (Act (Divisor n)) r =
    let h : n < 99999999 = grind (arith, nat_tests) in
    let e : entry 68 (operands (pos n) (pos 0)) ≡ Ok (fit Byte (Act (Divisor n))) = grind (arith, nat_tests) in
    record { text = refl; short = (h, tt); few = omega arith; letter = (refl, refl, refl); reads = λ k f c. one_read f c k 68 (Act (Divisor n)) Byte false (pos n) (operand_signed (pos n) h) e }
spelt (Act (InitialSpeed n)) r =
    let h : n < 99999999 = grind (arith, nat_tests) in
    let e : entry 73 (operands (pos n) (pos 0)) ≡ Ok (fit Double (Act (InitialSpeed n))) = grind (arith, nat_tests) in
    record { text = refl; short = (h, tt); few = omega arith; letter = (refl, refl, refl); reads = λ k f c. one_read f c k 73 (Act (InitialSpeed n)) Double false (pos n) (operand_signed (pos n) h) e }
spelt (Act (SlewSpeed n)) r =
    let h : n < 99999999 = grind (arith, nat_tests) in
    let e : entry 86 (operands (pos n) (pos 0)) ≡ Ok (fit Double (Act (SlewSpeed n))) = grind (arith, nat_tests) in
    record { text = refl; short = (h, tt); few = omega arith; letter = (refl, refl, refl); reads = λ k f c. one_read f c k 86 (Act (SlewSpeed n)) Double false (pos n) (operand_signed (pos n) h) e }
spelt (Act (Rates a d)) r =
    let h : (a < 99999999) × (d < 99999999) = grind (arith, nat_tests) in
    let e : entry 75 (operands (pos a) (pos d)) ≡ Ok (fit Both (Act (Rates a d))) = grind (arith, nat_tests) in
    record { text = two_text 75 (pos a) (pos d); short = (h.0, (h.1, tt)); few = omega arith; letter = (refl, refl, refl); reads = λ k f c. two_read f c k 75 (Act (Rates a d)) Both false (pos a) (pos d) _ (operand_signed (pos a) h.0) (operand_signed (pos d) h.1) e }
spelt (Act (Origin (pos n))) r =
    let h : n < 99999999 = grind (arith, nat_tests) in
    let e : entry 79 (operands (pos n) (pos 0)) ≡ Ok (fit Signed (Act (Origin (pos n)))) = grind (arith, nat_tests) in
    record { text = refl; short = (h, tt); few = omega arith; letter = (refl, refl, refl); reads = λ k f c. one_read f c k 79 (Act (Origin (pos n))) Signed false (pos n) (operand_signed (pos n) h) e }
spelt (Act (Origin (negsuc n))) r =
    let h : n < 99999999 = grind (arith, nat_tests) in
    let e : entry 79 (operands (negsuc n) (pos 0)) ≡ Ok (fit Signed (Act (Origin (negsuc n)))) = grind (arith, nat_tests) in
    record { text = refl; short = (h, tt); few = omega arith; letter = (refl, refl, refl); reads = λ k f c. one_read f c k 79 (Act (Origin (negsuc n))) Signed false (negsuc n) (operand_signed (negsuc n) h) e }
spelt (Act (IndexTo (pos n))) r =
    let h : n < 99999999 = grind (arith, nat_tests) in
    let e : entry 82 (operands (pos n) (pos 0)) ≡ Ok (fit Signed (Act (IndexTo (pos n)))) = grind (arith, nat_tests) in
    record { text = refl; short = (h, tt); few = omega arith; letter = (refl, refl, refl); reads = λ k f c. one_read f c k 82 (Act (IndexTo (pos n))) Signed false (pos n) (operand_signed (pos n) h) e }
spelt (Act (IndexTo (negsuc n))) r =
    let h : n < 99999999 = grind (arith, nat_tests) in
    let e : entry 82 (operands (negsuc n) (pos 0)) ≡ Ok (fit Signed (Act (IndexTo (negsuc n)))) = grind (arith, nat_tests) in
    record { text = refl; short = (h, tt); few = omega arith; letter = (refl, refl, refl); reads = λ k f c. one_read f c k 82 (Act (IndexTo (negsuc n))) Signed false (negsuc n) (operand_signed (negsuc n) h) e }
spelt (Act (Wait n)) r =
    let h : n < 99999999 = grind (arith, nat_tests) in
    let e : entry 87 (operands (pos n) (pos 0)) ≡ Ok (fit Double (Act (Wait n))) = grind (arith, nat_tests) in
    record { text = refl; short = (h, tt); few = omega arith; letter = (refl, refl, refl); reads = λ k f c. one_read f c k 87 (Act (Wait n)) Double false (pos n) (operand_signed (pos n) h) e }
spelt (Act Report) r = record { text = refl; short = tt; few = omega arith; letter = (refl, refl, refl); reads = λ k h c. refl }
spelt (Act (Index Plus n)) r =
    let h : n < 99999999 = grind (arith, nat_tests) in
    let e : entry 43 (operands (pos n) (pos 0)) ≡ Ok (fit Long (Act (Index Plus n))) = grind (arith, nat_tests) in
    record { text = refl; short = (h, tt); few = omega arith; letter = (refl, refl, refl); reads = λ k f c. one_read f c k 43 (Act (Index Plus n)) Long false (pos n) (operand_signed (pos n) h) e }
spelt (Act (Index Minus n)) r =
    let h : n < 99999999 = grind (arith, nat_tests) in
    let e : entry 45 (operands (pos n) (pos 0)) ≡ Ok (fit Long (Act (Index Minus n))) = grind (arith, nat_tests) in
    record { text = refl; short = (h, tt); few = omega arith; letter = (refl, refl, refl); reads = λ k f c. one_read f c k 45 (Act (Index Minus n)) Long false (pos n) (operand_signed (pos n) h) e }

-- the tokens of a word and the numbers after it
tokens_of : (k : ℕ) (w : List ℕ) (zs : List ℤ) → 1 ≤ length w → every plain w ≡ true → AllByRecursion Short zs → tokens k true (w ++ spaced zs) ≡ record { column = k; bytes = w } ∷ pieces (k + length w + 1) zs
tokens_of k w [] s p a = ap (tokens k true) (append-nil w) ∙ last k w s p
tokens_of k w (z ∷ zs) s p a =
    let sw = signed_word z a.0 in
    token k w (signed z ++ spaced zs) s p ∙ ap (λ ts. record { column = k; bytes = w } ∷ ts) (tokens_of (k + length w + 1) (signed z) zs sw.some sw.plains a.1)

allowed_prefix : (bs : List ℕ) → every allowed bs ≡ true → prefix_len (λ b. not (not (allowed b))) bs ≡ length bs
allowed_prefix [] h = refl
allowed_prefix (b ∷ bs) h =
    let p = and_parts (allowed b) (every allowed bs) h in
    ap (λ t. cond (not (not t)) (1 + prefix_len (λ b. not (not (allowed b))) bs) 0) p.0 ∙ omega (arith, allowed_prefix bs p.1)

bad_none : (bs : List ℕ) → every allowed bs ≡ true → first_bad bs ≡ None
bad_none bs h = let e = allowed_prefix bs h in grind (arith, nat_tests)

every-++ : (t : ℕ → Bool) (xs ys : List ℕ) → every t xs ≡ true → every t ys ≡ true → every t (xs ++ ys) ≡ true
every-++ t [] ys a b = b
every-++ t (x ∷ xs) ys a b = let p = and_parts (t x) (every t xs) a in and_from _ _ p.0 (every-++ t xs ys p.1 b)

spaced_allowed : (zs : List ℤ) → AllByRecursion Short zs → every allowed (spaced zs) ≡ true
spaced_allowed [] a = refl
spaced_allowed (z ∷ zs) a = every-++ allowed (signed z) (spaced zs) (signed_word z a.0).allows (spaced_allowed zs a.1)

spaced_length : (zs : List ℤ) → AllByRecursion Short zs → length (spaced zs) ≤ 10 * length zs
spaced_length [] a = omega arith
spaced_length (z ∷ zs) a = let w = (signed_word z a.0).nine in omega (arith, spaced_length zs a.1, length-append (signed z) (spaced zs))

-- a line passes the tests on bytes and is read by its tokens
pass : (l : ℕ) (bs : List ℕ) → length bs ≤ 80 → every allowed bs ≡ true → parsed l bs ≡ taken l (tokens 1 true bs)
pass l bs h a =
    ap (λ t. and_then (require t (text_fault TooLong l 0)) (λ _. and_then (clean l (first_bad bs)) (λ _. taken l (tokens 1 true bs)))) (le-leb (length bs) 80 h)
    ∙ ap (λ o. and_then (clean l o) (λ _. taken l (tokens 1 true bs))) (bad_none bs a)

-- the lines without their line feeds
abbrev pub line_bytes : ℕ → Instruction ℕ → List ℕ
line_bytes p i = decimal p ++ (32 ∷ (letter_of i ∷ spaced (shown i)))

abbrev pub at_bytes : ℕ → List ℕ
at_bytes p = codes "at " ++ decimal p

-- where the numbers begin
abbrev pub start : ℕ → ℕ
start p = 1 + length (decimal p) + 1 + 1 + 1

-- a line of a listing, taken apart
abbrev pub listed_source : ℕ → ℕ → Instruction ℕ → Source
listed_source l p i = record { line = l; written = Some (record { place = p; column = 1 }); label = None; instruction = retarget Place i; column = column_from (start p) (shown i) }

module _ (p : ℕ) (low : p < 2048) where
  abbrev first : Token
  first = record { column = 1; bytes = decimal p }

  pub at_ends : at_line p ≡ at_bytes p ++ (10 ∷ [])
  at_ends = sym (append_assoc (codes "at ") (decimal p) (10 ∷ []))

  pub at_allowed : every allowed (at_bytes p) ≡ true
  at_allowed = (decimal_word p (omega arith)).allows

  pub at_tokens : tokens 1 true (at_bytes p) ≡ record { column = 1; bytes = codes "at" } ∷ record { column = 4; bytes = decimal p } ∷ []
  at_tokens = let w = decimal_word p (omega arith) in token 1 (codes "at") (decimal p) (omega arith) refl ∙ ap (λ ts. record { column = 1; bytes = codes "at" } ∷ ts) (last 4 (decimal p) w.some w.plains)

  pub at_parsed : (l : ℕ) → parsed l (at_bytes p) ≡ Ok (Opens l p)
  at_parsed l = let w = (decimal_word p (omega arith)).nine in pass l (at_bytes p) (omega arith) at_allowed ∙ ap (taken l) at_tokens ∙ ap (opened_at l) (place_decimal p (omega arith))

  module _ (i : Instruction ℕ) (r : in_range i ≡ true) where
    abbrev second : Token
    second = record { column = 1 + length (decimal p) + 1; bytes = letter_of i ∷ [] }

    abbrev others : List Token
    others = pieces (start p) (shown i)

    pub line_ends : instruction_line p i ≡ line_bytes p i ++ (10 ∷ [])
    line_ends = ap (λ t. decimal p ++ (32 ∷ (t ++ (10 ∷ [])))) (spelt i r).text ∙ sym (append_assoc (decimal p) (32 ∷ (letter_of i ∷ spaced (shown i))) (10 ∷ []))

    pub line_allowed : every allowed (line_bytes p i) ≡ true
    line_allowed =
        let s = spelt i r in
        every-++ allowed (decimal p) _ (decimal_word p (omega arith)).allows (and_from (allowed (letter_of i)) _ s.letter.2 (spaced_allowed (shown i) s.short))

    line_length : length (line_bytes p i) ≤ 80
    line_length =
        let s = spelt i r in
        let w = (decimal_word p (omega arith)).nine in
        let f = s.few in
        omega (arith, length-append (decimal p) (32 ∷ (letter_of i ∷ spaced (shown i))), spaced_length (shown i) s.short)

    pub line_tokens : tokens 1 true (line_bytes p i) ≡ first ∷ second ∷ others
    line_tokens =
        let w = decimal_word p (omega arith) in
        let s = spelt i r in
        token 1 (decimal p) (letter_of i ∷ spaced (shown i)) w.some w.plains
        ∙ ap (λ ts. first ∷ ts) (tokens_of (1 + length (decimal p) + 1) (letter_of i ∷ []) (shown i) (omega arith) (and_from _ _ s.letter.0 refl) s.short)

    line_taken : (l : ℕ) → taken l (first ∷ second ∷ others) ≡ Ok (Holds (listed_source l p i))
    line_taken l =
        let s = spelt i r in
        ap (λ b. cond b (opened l (second ∷ others)) (placed l first (second ∷ others) (place_of (decimal p)))) (decimal_not_at p (omega arith))
        ∙ ap (placed l first (second ∷ others)) (place_decimal p (omega arith))
        ∙ cond-false (is_label (letter_of i ∷ [])) _ _ s.letter.1
        ∙ s.reads (start p) (head l (Some (record { place = p; column = 1 })) None) second.column

    pub line_parsed : (l : ℕ) → parsed l (line_bytes p i) ≡ Ok (Holds (listed_source l p i))
    line_parsed l = pass l (line_bytes p i) line_length line_allowed ∙ ap (taken l) line_tokens ∙ line_taken l
