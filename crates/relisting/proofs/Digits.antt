-- A written number is read as that number.
use Rattle.std.proofs.Common.{◌≡◌, ℕ, zero, suc, ◌-◌, ◌<◌, ◌≤◌, Bool, true, false, not, ◌&&◌, eqb, leb, List, [], ◌∷◌, length, get_or, take, ℤ, pos, negsuc, neg_ℤ, Some, codes, decimal as std-decimal, sym, refl, ap, ◌∙◌, arith, rules}
use lib.Signed.{mag}
use Rattle.std.specs.Option.{option_map}
use Rattle.std.specs.Str.{all_ascii_digits, bytes_eq}
use Rattle.std.proofs.lemmas.Bool.{and_parts, and_from, and_right, cond-true, cond-false, le-leb, not-true}
use Rattle.std.proofs.lemmas.Bool.Decides.{nat_tests}
use Rattle.std.proofs.lemmas.Str.Parse.{IsNumeralModel, numerals_by_fold}
use Rattle.std.proofs.lemmas.Fmt.{AppendsLastDigit, decimal_from_appends, digits_decimal as std-digits, digits_value-decimal as std-value, length-decimal-le as std-length, decimal_nonempty as std-some}
use Rattle.sequence.specs.Numbers.{spell, decimal, signed}
use Rattle.sequence.specs.Texts.{gap, every, small, digit, is_name, is_label, read_on, is_digits, unsigned_of, number_of, place_of}
use Rattle.sequence.specs.Lines.{allowed, number, operand_of}

-- a byte of a token
abbrev pub plain : ℕ → Bool
plain b = not (gap b)

own : IsNumeralModel (λ ds. all_ascii_digits ds ≡ true) (read_on 0)
own = numerals_by_fold _ (search rules) read_on (search rules)

all_every : (ds : List ℕ) → all_ascii_digits ds ≡ every digit ds
all_every [] = refl
all_every (d ∷ ds) = ap (λ t. digit d && t) (all_every ds)

spells : AppendsLastDigit spell
spells = search rules

is_std : (n : ℕ) → n < 100000000 → decimal n ≡ std-decimal n
unfolding decimal
is_std n h = decimal_from_appends spell spells 8 n (omega arith) (std-length 8 n (omega arith) (omega arith) (omega arith))

-- what is known of the digits of a number
pub record Written (n : ℕ) (ds : List ℕ) : Type 0 where
  pub digits : every digit ds ≡ true
  pub value : read_on 0 ds ≡ n
  pub some : 1 ≤ length ds
  pub eight : length ds ≤ 8

pub written : (n : ℕ) → n < 100000000 → Written n (decimal n)
written n h =
    let e = is_std n h in
    let l = ap length e in
    record {
      digits = sym (all_every (decimal n)) ∙ ap all_ascii_digits e ∙ std-digits own n (omega arith);
      value = ap (read_on 0) e ∙ std-value own n (omega arith);
      some = let s = std-some n (omega arith) in omega arith;
      eight = let s = std-length 8 n (omega arith) (omega arith) (omega arith) in omega arith;
    }

module _ (n : ℕ) (ds : List ℕ) (w : Written n ds) where
  are_digits : is_digits ds ≡ true
  are_digits = and_from _ _ (le-leb 1 (length ds) w.some) w.digits

  unsigned_digits : unsigned_of ds ≡ Some n
  unsigned_digits = cond-true (is_digits ds) _ _ are_digits ∙ ap Some (cond-true (leb (length ds) 8) _ _ (le-leb (length ds) 8 w.eight) ∙ w.value)

  place_digits : place_of ds ≡ Some n
  place_digits = cond-true _ _ _ (and_from (is_digits ds) _ are_digits (le-leb (length ds) 8 w.eight)) ∙ ap Some w.value

-- a number in a text
pub unsigned_decimal : (n : ℕ) → n < 100000000 → unsigned_of (decimal n) ≡ Some n
unsigned_decimal n h = unsigned_digits n (decimal n) (written n h)

pub place_decimal : (n : ℕ) → n < 100000000 → place_of (decimal n) ≡ Some n
place_decimal n h = place_digits n (decimal n) (written n h)

no_sign : (bs : List ℕ) → every digit bs ≡ true → 1 ≤ length bs → number_of bs ≡ option_map pos (unsigned_of bs)
no_sign [] d s = absurd (omega arith)
no_sign (b ∷ bs) d s =
    let p = and_parts (digit b) (every digit bs) d in
    let e : eqb b 45 ≡ false = grind (arith, nat_tests) in
    cond-false (eqb b 45) _ _ e

-- a number of at most eight digits
abbrev pub Short : ℤ → Type 0
Short z = mag z < 99999999

pub number_signed : (z : ℤ) → Short z → number_of (signed z) ≡ Some z
number_signed (pos n) h = let w = written n (omega arith) in no_sign (decimal n) w.digits w.some ∙ ap (option_map pos) (unsigned_decimal n (omega arith))
number_signed (negsuc n) h = ap (option_map (λ n. neg_ℤ (pos n))) (unsigned_decimal (suc n) (omega arith))

-- what a token must be to stand in a line of a listing
pub record Word (w : List ℕ) : Type 0 where
  pub some : 1 ≤ length w
  pub nine : length w ≤ 9
  pub plains : every plain w ≡ true
  pub allows : every allowed w ≡ true
  pub no_label : is_label w ≡ false

digits_plain : (ds : List ℕ) → every digit ds ≡ true → (every plain ds ≡ true) × (every allowed ds ≡ true) × (every (λ b. not (eqb b 58)) ds ≡ true)
digits_plain [] h = (refl, refl, refl)
digits_plain (d ∷ ds) h =
    let p = and_parts (digit d) (every digit ds) h in
    let i = digits_plain ds p.1 in
    let a : plain d ≡ true = grind (arith, nat_tests) in
    let b : allowed d ≡ true = grind (arith, nat_tests) in
    let c : not (eqb d 58) ≡ true = grind (arith, nat_tests) in
    (and_from _ _ a i.0, and_from _ _ b i.1, and_from _ _ c i.2)

no_colon : (bs : List ℕ) (k : ℕ) → every (λ b. not (eqb b 58)) bs ≡ true → eqb (get_or bs k 0) 58 ≡ false
no_colon [] k h = refl
no_colon (b ∷ bs) zero h = not-true (eqb b 58) (and_parts (not (eqb b 58)) _ h).0
no_colon (b ∷ bs) (suc k) h = no_colon bs k (and_parts (not (eqb b 58)) _ h).1

-- without a colon there is no label
pub unlabelled : (bs : List ℕ) → every (λ b. not (eqb b 58)) bs ≡ true → is_label bs ≡ false
unlabelled bs h = and_right (leb 1 (length bs)) _ (ap (λ t. t && is_name (take (length bs - 1) bs)) (no_colon bs (length bs - 1) h))

pub decimal_word : (n : ℕ) → n < 100000000 → Word (decimal n)
decimal_word n h =
    let w = written n h in
    let p = digits_plain (decimal n) w.digits in
    record { some = w.some; nine = let e = w.eight in omega arith; plains = p.0; allows = p.1; no_label = unlabelled (decimal n) p.2 }

pub signed_word : (z : ℤ) → Short z → Word (signed z)
signed_word (pos n) h = decimal_word n (omega arith)
signed_word (negsuc n) h =
    let w = written (suc n) (omega arith) in
    let p = digits_plain (decimal (suc n)) w.digits in
    record { some = omega arith; nine = let e = w.eight in omega arith; plains = p.0; allows = p.1; no_label = unlabelled (45 ∷ decimal (suc n)) p.2 }

digits_no_name : (ds : List ℕ) → every digit ds ≡ true → 1 ≤ length ds → is_name ds ≡ false
digits_no_name [] h s = absurd (omega arith)
digits_no_name (d ∷ ds) h s =
    let p = and_parts (digit d) (every digit ds) h in
    let a : small d ≡ false = grind (arith, nat_tests) in
    and_right (leb 1 (length (d ∷ ds)) && leb (length (d ∷ ds)) 8) _ (ap (λ t. t && every small ds) a)

digits_not_at : (ds : List ℕ) → every digit ds ≡ true → 1 ≤ length ds → bytes_eq ds (codes "at") ≡ false
digits_not_at [] h s = absurd (omega arith)
digits_not_at (d ∷ ds) h s =
    let p = and_parts (digit d) (every digit ds) h in
    let a : eqb d 97 ≡ false = grind (arith, nat_tests) in
    ap (λ t. t && bytes_eq ds (codes "t")) a

pub decimal_not_at : (n : ℕ) → n < 100000000 → bytes_eq (decimal n) (codes "at") ≡ false
decimal_not_at n h = let w = written n h in digits_not_at (decimal n) w.digits w.some

-- as an operand
pub operand_signed : (z : ℤ) → Short z → operand_of false (signed z) ≡ Some (number z)
operand_signed z h = ap (option_map number) (number_signed z h)

pub operand_target : (n : ℕ) → n < 100000000 → operand_of true (decimal n) ≡ Some (number (pos n))
operand_target n h =
    let w = written n h in
    cond-false (is_name (decimal n)) _ _ (digits_no_name (decimal n) w.digits w.some) ∙ ap (option_map (λ n. number (pos n))) (unsigned_decimal n h)
