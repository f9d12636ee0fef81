-- A refusal's number, printed in two digits.
use Rattle.std.proofs.Common.{◌≡◌, ℕ, ◌-◌, ◌/◌, ◌%◌, ◌^◌, List, ◌∷◌, ◌++◌, append_assoc, refl}
use Rattle.std.specs.Fmt.{char_count, decimal, digits, format_spec, padded_integral, styled_decimal}
use Rattle.isa.specs.declared.refusal.Refusal.{Refusal}
use Rattle.isa.specs.declared.refusal.Refusal.TheVariants.{Size, Character, Letter, Long, Operands, Range, Stale, Area, Label, Target, Overlap, Busy, Absent, Spoilt, Code, Full, Limit}
use Rattle.isa.specs.Refusals.{number_of}
use Rattle.sequence.specs.Words.{numbered}

-- `{:02}`
two_digits : (r : Refusal) → styled_decimal (format_spec 32 0 4 2 (2 ^ 64 - 1)) (number_of r) ≡ decimal (number_of r / 10) ++ decimal (number_of r % 10)
unfolding char_count digits padded_integral
two_digits Size = refl
two_digits Character = refl
two_digits Letter = refl
two_digits Long = refl
two_digits Operands = refl
two_digits Range = refl
two_digits Stale = refl
two_digits Area = refl
two_digits Label = refl
two_digits Target = refl
two_digits Overlap = refl
two_digits Busy = refl
two_digits Absent = refl
two_digits Spoilt = refl
two_digits Code = refl
two_digits Full = refl
two_digits Limit = refl

pub numbered-print : (r : Refusal) (spot : List ℕ)
    → 63 ∷ (styled_decimal (format_spec 32 0 4 2 (2 ^ 64 - 1)) (number_of r) ++ (32 ∷ spot)) ≡ numbered r spot
numbered-print r spot = rw (two_digits r) (simp append_assoc)
