-- Encoding and decoding are inverse.
use Rattle.std.proofs.Common.{◌≡◌, ℕ, zero, suc, ◌<◌, ◌≤◌, Bool, true, false, cond, eqb, List, [], ◌∷◌, length, get_or, take, ℤ, pos, negsuc, Some, None, Ok, Err, is_ok, Option, Result, sym, refl, ap, ◌∙◌, subst, ⊎_elim, arith}
use Rattle.std.proofs.lemmas.Bool.{cases_eq, ne_eqb, both_ways}
use Rattle.std.proofs.lemmas.Bool.Decides.{nat_tests}
use Rattle.std.specs.Option.{option_map}
use Rattle.isa.specs.declared.refusal.Refusal.TheVariants.{Code as NoLetter}
use Rattle.isa.specs.declared.shape.Order.TheVariants.{First, Second}
use Rattle.isa.specs.declared.shape.Shape.{Shape}
use Rattle.isa.specs.declared.shape.Shape.TheVariants.{Plain, Byte, Pair, Word, Target, TargetByte, Signed, Long}
use Rattle.isa.specs.declared.instruction.Direction.TheVariants.{Plus, Minus}
use Rattle.isa.specs.declared.instruction.Action.TheVariants.{Outputs, Divisor, InitialSpeed, SlewSpeed, Rates, Origin, IndexTo, Wait, Report, Index}
use Rattle.isa.specs.declared.instruction.Instruction.{Instruction}
use Rattle.isa.specs.declared.instruction.Instruction.TheVariants.{Go, Jump, JumpLow, Act}
use Rattle.isa.specs.declared.table.Entry.{Entry}
use Rattle.isa.specs.declared.table.Mismatch.{Mismatch}
use Rattle.isa.specs.declared.table.Mismatch.TheVariants.{UnknownLetter, OutOfRange}
use Rattle.isa.specs.Shapes.{width_of, two, three, operands, operands_from}
use Rattle.isa.specs.TwosComplement.{half24, value_of}
use Rattle.isa.specs.Instructions.{letter_of, operands_of, target_of}
use Rattle.isa.specs.Table.{within, nat, fit, entry_at, entry, shape_in, shape_of}
use Rattle.isa.specs.Codes.{operand_bytes, encoded, width, in_range, padded, instruction_in, decoded_as, decoded}
use Rattle.isa.specs.Laws.{ReadsBack, Stood}

-- three bytes of which the first are those of a list
abbrev Begins : List ℕ → ℕ → ℕ → ℕ → Type 0
Begins bs a b c = (get_or bs 0 a ≡ a) × (get_or bs 1 b ≡ b) × (get_or bs 2 c ≡ c)

module _ (a b c : ℕ) where
  abbrev Back : Instruction ℕ → Type 0
  Back i = in_range i ≡ true → Begins (operand_bytes i) a b c → decoded_as (shape_of (letter_of i)) (letter_of i) a b c ≡ Ok i

  read_back : (i : Instruction ℕ) → Back i
  read_back (Go p) r h = rw (← h.0, ← h.1) (grind (arith, nat_tests))
  read_back (Jump p n) r h = rw (← h.0, ← h.1, ← h.2) (grind (arith, nat_tests))
  read_back (JumpLow p n) r h = rw (← h.0, ← h.1, ← h.2) (grind (arith, nat_tests))
  read_back (Act (Outputs n)) r h = rw (← h.0) (grind (arith, nat_tests))
  read_back (Act (Divisor n)) r h = rw (← h.0) (grind (arith, nat_tests))
  read_back (Act (InitialSpeed n)) r h = rw (← h.0, ← h.1) (grind (arith, nat_tests))
  read_back (Act (SlewSpeed n)) r h = rw (← h.0, ← h.1) (grind (arith, nat_tests))
  read_back (Act (Rates x d)) r h = rw (← h.0, ← h.1) (grind (arith, nat_tests))
  read_back (Act (Origin (pos n))) r h = rw (← h.0, ← h.1, ← h.2) (grind (arith, nat_tests))
  read_back (Act (Origin (negsuc n))) r h = rw (← h.0, ← h.1, ← h.2) (grind (arith, nat_tests))
  read_back (Act (IndexTo (pos n))) r h = rw (← h.0, ← h.1, ← h.2) (grind (arith, nat_tests))
  read_back (Act (IndexTo (negsuc n))) r h = rw (← h.0, ← h.1, ← h.2) (grind (arith, nat_tests))
  read_back (Act (Wait n)) r h = rw (← h.0, ← h.1) (grind (arith, nat_tests))
  read_back (Act Report) r h = refl
  read_back (Act (Index Plus n)) r h = rw (← h.0, ← h.1, ← h.2) (grind (arith, nat_tests))
  read_back (Act (Index Minus n)) r h = rw (← h.0, ← h.1, ← h.2) (grind (arith, nat_tests))

-- a letter's width is that of its instructions
pub letter_width : (i : Instruction ℕ) → option_map width_of (shape_of (letter_of i)) ≡ Some (width i)
letter_width (Go p) = refl
letter_width (Jump p n) = refl
letter_width (JumpLow p n) = refl
letter_width (Act (Outputs n)) = refl
letter_width (Act (Divisor n)) = refl
letter_width (Act (InitialSpeed n)) = refl
letter_width (Act (SlewSpeed n)) = refl
letter_width (Act (Rates x d)) = refl
letter_width (Act (Origin z)) = refl
letter_width (Act (IndexTo z)) = refl
letter_width (Act (Wait n)) = refl
letter_width (Act Report) = refl
letter_width (Act (Index Plus n)) = refl
letter_width (Act (Index Minus n)) = refl

-- the shape of an entry has the width of its instruction
pub entry_width : (i : Instruction ℕ) (e : Entry) → entry (letter_of i) (operands_of i) ≡ Ok e → width_of e.shape ≡ width i
entry_width (Go p) e h = grind (arith, nat_tests)
entry_width (Jump p n) e h = grind (arith, nat_tests)
entry_width (JumpLow p n) e h = grind (arith, nat_tests)
entry_width (Act (Outputs n)) e h = grind (arith, nat_tests)
entry_width (Act (Divisor n)) e h = grind (arith, nat_tests)
entry_width (Act (InitialSpeed n)) e h = grind (arith, nat_tests)
entry_width (Act (SlewSpeed n)) e h = grind (arith, nat_tests)
entry_width (Act (Rates x d)) e h = grind (arith, nat_tests)
entry_width (Act (Origin z)) e h = grind (arith, nat_tests)
entry_width (Act (IndexTo z)) e h = grind (arith, nat_tests)
entry_width (Act (Wait n)) e h = grind (arith, nat_tests)
entry_width (Act Report) e h = grind (arith, nat_tests)
entry_width (Act (Index Plus n)) e h = grind (arith, nat_tests)
entry_width (Act (Index Minus n)) e h = grind (arith, nat_tests)

-- the bytes of a code are those of its instruction
pub code_bytes : (i : Instruction ℕ) → take (width i) (padded (encoded i)) ≡ encoded i
code_bytes (Go p) = refl
code_bytes (Jump p n) = refl
code_bytes (JumpLow p c) = refl
code_bytes (Act (Outputs n)) = refl
code_bytes (Act (Divisor n)) = refl
code_bytes (Act (InitialSpeed n)) = refl
code_bytes (Act (SlewSpeed n)) = refl
code_bytes (Act (Rates a d)) = refl
code_bytes (Act (Origin z)) = refl
code_bytes (Act (IndexTo z)) = refl
code_bytes (Act (Wait n)) = refl
code_bytes (Act Report) = refl
code_bytes (Act (Index d n)) = refl

-- what a list begins with
front_at : (w : ℕ) (bs xs : List ℕ) (k : ℕ) → take w bs ≡ xs → w ≡ length xs → get_or xs k (get_or bs k 0) ≡ get_or bs k 0
front_at zero bs [] k e l = refl
front_at zero bs (x ∷ xs) k e l = absurd (omega arith)
front_at (suc w) [] [] k e l = refl
front_at (suc w) [] (x ∷ xs) k e l = let z : ◌≡◌ {A = ℕ} 0 1 = cc in absurd (omega arith)
front_at (suc w) (b ∷ bs) [] k e l = refl
front_at (suc w) (b ∷ bs) (x ∷ xs) zero e l = let h : b ≡ x = cc in sym h
front_at (suc w) (b ∷ bs) (x ∷ xs) (suc k) e l = let h : take w bs ≡ xs = cc in front_at w bs xs k h (omega arith)

pub reads_back : (i : Instruction ℕ) → in_range i ≡ true → ReadsBack i
reads_back i r = record {
  back = λ bs e.
      let at = λ (k : ℕ). front_at (width i) bs (encoded i) k e refl in
      rw (← at 0) (read_back (get_or bs 1 0) (get_or bs 2 0) (get_or bs 3 0) i r (at 1, at 2, at 3));
  length = letter_width i;
}

-- a fact about every number, letter by letter
pub by_letter : (P : ℕ → Type 0) → P 65 → P 68 → P 71 → P 73 → P 86 → P 74 → P 75 → P 76 → P 79 → P 82 → P 87 → P 90 → P 43 → P 45 → ((l : ℕ) → ((x y : ℤ) → entry_at l x y ≡ Err UnknownLetter) → P l) → (l : ℕ) → P l
by_letter P a d g i v j k l o r w z plus minus other n =
    is 65 a (λ n1. is 68 d (λ n2. is 71 g (λ n3. is 73 i (λ n4. is 86 v (λ n5. is 74 j (λ n6. is 75 k (λ n7. is 76 l (λ n8.
    is 79 o (λ n9. is 82 r (λ n10. is 87 w (λ n11. is 90 z (λ n12. is 43 plus (λ n13. is 45 minus (λ n14.
    other n (λ x y. rw (n1, n2, n3, n4, n5, n6, n7, n8, n9, n10, n11, n12, n13, n14))))))))))))))))
  where
    is : (m : ℕ) → P m → (eqb n m ≡ false → P n) → P n
    is m p q = ⊎_elim (λ (e : n ≡ m). subst P (sym e) p) (λ (e : n ≡ m → ⊥). q (ne_eqb n m e)) (cases_eq n m)

-- what a row says of the operands t and u of one letter
abbrev ranged : Bool → Bool → Shape → Instruction ℕ → Result Entry Mismatch
ranged t u s j = cond t (cond u (Ok (fit s j)) (Err (OutOfRange s Second))) (Err (OutOfRange s First))

row_stood : (bs : List ℕ) (t u : Bool) (s : Shape) (j i : Instruction ℕ) → take (width j) bs ≡ encoded j → (t ≡ true → u ≡ true → in_range j ≡ true) → instruction_in (ranged t u s j) ≡ Ok i → Stood bs i
row_stood bs true true s j i b r e = let h : j ≡ i = cc in subst (Stood bs) h (record { bytes = b; range = r refl refl })
row_stood bs true false s j i b r e = let z : ◌≡◌ {A = ℕ} 0 1 = cc in absurd (omega arith)
row_stood bs false u s j i b r e = let z : ◌≡◌ {A = ℕ} 0 1 = cc in absurd (omega arith)

in_row : (t u : Bool) (s : Shape) (j : Instruction ℕ) → t ≡ true → u ≡ true → is_ok (ranged t u s j) ≡ true
in_row true true s j e f = refl
in_row true false s j e f = absurd (both_ways false refl f)
in_row false u s j e f = absurd (both_ways false refl e)

module _ (a b c : ℕ) (ha : a < 256) (hb : b < 256) (hc : c < 256) where
  abbrev Stands : ℕ → Type 0
  Stands l = (i : Instruction ℕ) → decoded_as (shape_of l) l a b c ≡ Ok i → Stood (l ∷ a ∷ b ∷ c ∷ []) i

  stands : (l : ℕ) → Stands l
  stands =
      by_letter Stands
      (λ i. row_stood _ _ true Byte (Act (Outputs a)) i (refl) (in_row _ _ _ _))
      (λ i. row_stood _ _ true Byte (Act (Divisor a)) i (refl) (in_row _ _ _ _))
      (λ i. row_stood _ _ true Target (Go (two a b)) i (grind arith) (in_row _ _ _ _))
      (λ i. row_stood _ _ true Word (Act (InitialSpeed (two a b))) i (grind arith) (in_row _ _ _ _))
      (λ i. row_stood _ _ true Word (Act (SlewSpeed (two a b))) i (grind arith) (in_row _ _ _ _))
      (λ i. row_stood _ (within (pos 0) (pos (two a b)) (pos 2047)) (within (pos 0) (pos c) (pos 255)) TargetByte (Jump (two a b) c) i (grind arith) (in_row (within (pos 0) (pos (two a b)) (pos 2047)) (within (pos 0) (pos c) (pos 255)) TargetByte (Jump (two a b) c)))
      (λ i. row_stood _ (within (pos 1) (pos a) (pos 255)) (within (pos 1) (pos b) (pos 255)) Pair (Act (Rates a b)) i (refl) (in_row (within (pos 1) (pos a) (pos 255)) (within (pos 1) (pos b) (pos 255)) Pair (Act (Rates a b))))
      (λ i. row_stood _ (within (pos 0) (pos (two a b)) (pos 2047)) (within (pos 1) (pos c) (pos 6)) TargetByte (JumpLow (two a b) c) i (grind arith) (in_row (within (pos 0) (pos (two a b)) (pos 2047)) (within (pos 1) (pos c) (pos 6)) TargetByte (JumpLow (two a b) c)))
      (λ i. row_stood _ _ true Signed (Act (Origin (value_of half24 (three a b c)))) i (grind (arith, nat_tests)) (in_row _ _ _ _))
      (λ i. row_stood _ _ true Signed (Act (IndexTo (value_of half24 (three a b c)))) i (grind (arith, nat_tests)) (in_row _ _ _ _))
      (λ i. row_stood _ _ true Word (Act (Wait (two a b))) i (grind arith) (in_row _ _ _ _))
      (λ i. row_stood _ true true Plain (Act Report) i (refl) (λ _ _. refl))
      (λ i. row_stood _ _ true Long (Act (Index Plus (three a b c))) i (grind arith) (in_row _ _ _ _))
      (λ i. row_stood _ _ true Long (Act (Index Minus (three a b c))) i (grind arith) (in_row _ _ _ _))
      (λ l n i e. let z : Err NoLetter ≡ Ok i = subst (λ k. decoded_as (shape_in k) l a b c ≡ Ok i) (n (pos 0) (pos 0)) e in let y : ◌≡◌ {A = ℕ} 0 1 = cc in absurd (omega arith))

pub stood : (l a b c : ℕ) → a < 256 → b < 256 → c < 256 → (i : Instruction ℕ) → decoded (l ∷ a ∷ b ∷ c ∷ []) ≡ Ok i → Stood (l ∷ a ∷ b ∷ c ∷ []) i
stood l a b c ha hb hc i e = stands a b c ha hb hc l i e

-- four bytes are their elements
pub four : (bs : List ℕ) → length bs ≡ 4 → padded bs ≡ bs
four [] n = absurd (omega arith)
four (l ∷ []) n = absurd (omega arith)
four (l ∷ a ∷ []) n = absurd (omega arith)
four (l ∷ a ∷ b ∷ []) n = absurd (omega arith)
four (l ∷ a ∷ b ∷ c ∷ []) n = refl
four (l ∷ a ∷ b ∷ c ∷ d ∷ bs) n = absurd (omega arith)

-- a target is a place
pub target_low : (i : Instruction ℕ) → in_range i ≡ true → (t : ℕ) → target_of i ≡ Some t → t ≤ 2047
target_low (Go p) r t e = let h : p ≡ t = cc in grind (arith, nat_tests)
target_low (Jump p n) r t e = let h : p ≡ t = cc in grind (arith, nat_tests)
target_low (JumpLow p n) r t e = let h : p ≡ t = cc in grind (arith, nat_tests)
target_low (Act a) r t e = let z : ◌≡◌ {A = ℕ} 0 1 = cc in absurd (omega arith)

-- a number in a range from 0 up is not negative
not_negative : (low high : ℕ) (z : ℤ) → within (pos low) z (pos high) ≡ true → pos (nat z) ≡ z
not_negative low high (pos n) e = refl
not_negative low high (negsuc n) e = absurd (both_ways false refl e)

row_range : (t u : Bool) (s : Shape) (j i : Instruction ℕ) → (t ≡ true → u ≡ true → in_range j ≡ true) → instruction_in (ranged t u s j) ≡ Ok i → in_range i ≡ true
row_range true true s j i r e = let h : j ≡ i = cc in subst (λ x. in_range x ≡ true) h (r refl refl)
row_range true false s j i r e = let z : ◌≡◌ {A = ℕ} 0 1 = cc in absurd (omega arith)
row_range false u s j i r e = let z : ◌≡◌ {A = ℕ} 0 1 = cc in absurd (omega arith)

-- the row of one operand that is not negative, and of two
row_one : (low high : ℕ) (s : Shape) (make : ℕ → Instruction ℕ) (x : ℤ) (i : Instruction ℕ)
    → ((n : ℕ) → within (pos low) (pos n) (pos high) ≡ true → in_range (make n) ≡ true)
    → instruction_in (ranged (within (pos low) x (pos high)) true s (make (nat x))) ≡ Ok i → in_range i ≡ true
row_one low high s make x i r = row_range _ true s _ i (λ t _. r (nat x) (ap (λ z. within (pos low) z (pos high)) (not_negative low high x t) ∙ t))

row_two : (low high low2 high2 : ℕ) (s : Shape) (make : ℕ → ℕ → Instruction ℕ) (x y : ℤ) (i : Instruction ℕ)
    → ((m n : ℕ) → within (pos low) (pos m) (pos high) ≡ true → within (pos low2) (pos n) (pos high2) ≡ true → in_range (make m n) ≡ true)
    → instruction_in (ranged (within (pos low) x (pos high)) (within (pos low2) y (pos high2)) s (make (nat x) (nat y))) ≡ Ok i → in_range i ≡ true
row_two low high low2 high2 s make x y i r = row_range _ _ s _ i (λ t u.
    r (nat x) (nat y) (ap (λ z. within (pos low) z (pos high)) (not_negative low high x t) ∙ t) (ap (λ z. within (pos low2) z (pos high2)) (not_negative low2 high2 y u) ∙ u))

-- what the table gives is in range
pub entry_in_range : (x y : ℤ) (l : ℕ) (i : Instruction ℕ) → instruction_in (entry l (operands x y)) ≡ Ok i → in_range i ≡ true
entry_in_range x y =
    by_letter (λ l. (i : Instruction ℕ) → instruction_in (entry l (operands x y)) ≡ Ok i → in_range i ≡ true)
    (λ i. row_one 0 63 Byte (λ n. Act (Outputs n)) x i (λ n t. in_row _ true _ _ t refl))
    (λ i. row_one 1 255 Byte (λ n. Act (Divisor n)) x i (λ n t. in_row _ true _ _ t refl))
    (λ i. row_one 0 2047 Target Go x i (λ n t. in_row _ true _ _ t refl))
    (λ i. row_one 19 25000 Word (λ n. Act (InitialSpeed n)) x i (λ n t. in_row _ true _ _ t refl))
    (λ i. row_one 19 25000 Word (λ n. Act (SlewSpeed n)) x i (λ n t. in_row _ true _ _ t refl))
    (λ i. row_two 0 2047 0 255 TargetByte Jump x y i (λ m n. in_row _ _ _ _))
    (λ i. row_two 1 255 1 255 Pair (λ m n. Act (Rates m n)) x y i (λ m n. in_row _ _ _ _))
    (λ i. row_two 0 2047 1 6 TargetByte JumpLow x y i (λ m n. in_row _ _ _ _))
    (λ i. row_range _ true Signed (Act (Origin x)) i (in_row _ true _ _))
    (λ i. row_range _ true Signed (Act (IndexTo x)) i (in_row _ true _ _))
    (λ i. row_one 0 65535 Word (λ n. Act (Wait n)) x i (λ n t. in_row _ true _ _ t refl))
    (λ i. row_range true true Plain (Act Report) i (λ _ _. refl))
    (λ i. row_one 0 16777215 Long (λ n. Act (Index Plus n)) x i (λ n t. in_row _ true _ _ t refl))
    (λ i. row_one 0 16777215 Long (λ n. Act (Index Minus n)) x i (λ n t. in_row _ true _ _ t refl))
    (λ l n i e. let z : Err NoLetter ≡ Ok i = subst (λ k. instruction_in k ≡ Ok i) (n x y) e in let w : ◌≡◌ {A = ℕ} 0 1 = cc in absurd (omega arith))

-- and what is decoded
pub decoded_in_range : (bs : List ℕ) (i : Instruction ℕ) → decoded bs ≡ Ok i → in_range i ≡ true
decoded_in_range bs i = go (shape_of (get_or bs 0 0))
  where
    go : (o : Option Shape) → decoded_as o (get_or bs 0 0) (get_or bs 1 0) (get_or bs 2 0) (get_or bs 3 0) ≡ Ok i → in_range i ≡ true
    go None e = let z : ◌≡◌ {A = ℕ} 0 1 = cc in absurd (omega arith)
    go (Some s) e = entry_in_range (operands_from s (get_or bs 1 0) (get_or bs 2 0) (get_or bs 3 0)).first (operands_from s (get_or bs 1 0) (get_or bs 2 0) (get_or bs 3 0)).second (get_or bs 0 0) i e
