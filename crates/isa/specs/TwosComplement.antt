-- Two's complement over any width, given by half its range.
use Rattle.std.specs.Prelude.{ℕ, suc, ◌-◌, ◌*◌, cond, ℤ, pos, negsuc, nat_lt}

-- half the range of 24 bits
abbrev pub half24 : ℕ
half24 = 8388608

-- the number below 2 × half that stands for z
abbrev pub bits_of : ℕ → ℤ → ℕ
bits_of half (pos n) = n
bits_of half (negsuc n) = 2 * half - suc n

-- the number that n, below 2 × half, stands for
abbrev pub value_of : ℕ → ℕ → ℤ
value_of half n = cond (nat_lt n half) (pos n) (negsuc (2 * half - suc n))
