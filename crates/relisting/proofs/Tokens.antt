-- How bytes are cut into lines and tokens.
use Rattle.std.proofs.Common.{◌≡◌, ℕ, suc, ◌+◌, ◌≤◌, true, false, eqb, List, [], ◌∷◌, ◌++◌, length, refl, ap, arith}
use Rattle.std.proofs.lemmas.Bool.{and_parts}
use Rattle.std.proofs.lemmas.Bool.Decides.{nat_tests}
use Rattle.sequence.specs.Texts.{front, lines_from, lines, gap, word, tokens, every}
use Rattle.sequence.specs.Lines.{allowed}
use Rattle.relisting.proofs.Digits.{plain}

-- the rest of a token under way, and a space
going : (k : ℕ) (w rest : List ℕ) → every plain w ≡ true → (word (w ++ (32 ∷ rest)) ≡ w) × (tokens k false (w ++ (32 ∷ rest)) ≡ tokens (k + length w + 1) true rest)
going k [] rest h = (refl, ap (λ m. tokens m true rest) (let e : k + 1 ≡ k + 0 + 1 = omega arith in e))
going k (b ∷ bs) rest h =
    let p : plain b ≡ true = grind arith in
    let q : every plain bs ≡ true = grind arith in
    let g : gap b ≡ false = grind arith in
    let i = going (k + 1) bs rest q in
    let e : k + 1 + length bs + 1 ≡ k + suc (length bs) + 1 = omega arith in
    (grind arith, grind arith)

-- a token and a space
pub token : (k : ℕ) (w rest : List ℕ) → 1 ≤ length w → every plain w ≡ true → tokens k true (w ++ (32 ∷ rest)) ≡ record { column = k; bytes = w } ∷ tokens (k + length w + 1) true rest
token k [] rest n h = absurd (omega arith)
token k (b ∷ bs) rest n h =
    let p : plain b ≡ true = grind arith in
    let q : every plain bs ≡ true = grind arith in
    let g : gap b ≡ false = grind arith in
    let i = going (k + 1) bs rest q in
    let e : k + 1 + length bs + 1 ≡ k + suc (length bs) + 1 = omega arith in
    grind arith

going_last : (k : ℕ) (w : List ℕ) → every plain w ≡ true → (word w ≡ w) × (tokens k false w ≡ [])
going_last k [] h = (refl, refl)
going_last k (b ∷ bs) h =
    let q : every plain bs ≡ true = grind arith in
    let g : gap b ≡ false = grind arith in
    let i = going_last (k + 1) bs q in
    (grind arith, grind arith)

-- the last token
pub last : (k : ℕ) (w : List ℕ) → 1 ≤ length w → every plain w ≡ true → tokens k true w ≡ record { column = k; bytes = w } ∷ []
last k [] n h = absurd (omega arith)
last k (b ∷ bs) n h =
    let q : every plain bs ≡ true = grind arith in
    let g : gap b ≡ false = grind arith in
    let i = going_last (k + 1) bs q in
    grind arith

in_line : (l rest : List ℕ) → every allowed l ≡ true → (front (l ++ (10 ∷ rest)) ≡ l) × (lines_from false (l ++ (10 ∷ rest)) ≡ lines rest)
in_line [] rest h = (refl, refl)
in_line (b ∷ bs) rest h =
    let q = and_parts (allowed b) (every allowed bs) h in
    let g : eqb b 10 ≡ false = grind (arith, nat_tests) in
    let i = in_line bs rest q.1 in
    (grind arith, grind arith)

-- a line and its line feed
pub line : (l rest : List ℕ) → every allowed l ≡ true → lines (l ++ (10 ∷ rest)) ≡ l ∷ lines rest
line [] rest h = refl
line (b ∷ bs) rest h =
    let q = and_parts (allowed b) (every allowed bs) h in
    let g : eqb b 10 ≡ false = grind (arith, nat_tests) in
    let i = in_line bs rest q.1 in
    grind arith
