-- Numbers as texts write them.
use Rattle.std.specs.Prelude.{ℕ, zero, suc, ◌+◌, ◌/◌, ◌%◌, cond, List, [], ◌∷◌, ◌++◌, ℤ, pos, negsuc, nat_lt}

-- the digits of a number, at most k of them
abbrev pub spell : ℕ → ℕ → List ℕ
spell zero n = []
spell (suc k) n = cond (nat_lt n 10) ((48 + n) ∷ []) (spell k (n / 10) ++ ((48 + n % 10) ∷ []))

-- a number has at most eight digits
unfoldable pub decimal : ℕ → List ℕ
decimal n = spell 8 n

abbrev pub signed : ℤ → List ℕ
signed (pos n) = decimal n
signed (negsuc n) = 45 ∷ decimal (suc n)
