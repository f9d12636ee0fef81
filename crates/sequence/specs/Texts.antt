-- A text: its lines, their tokens, and what a token can be.
use Rattle.std.specs.Prelude.{ℕ, ◌+◌, ◌-◌, ◌*◌, Bool, true, false, cond, ◌&&◌, ◌||◌, List, [], ◌∷◌, ◌++◌, length, take, replicate, ℤ, pos, neg_ℤ, Some, None, Option, ◌==◌, nat_le, slice_index}
use Rattle.std.specs.Option.{option_map}

-- the bytes before the next line feed, or before the end
abbrev pub front : List ℕ → List ℕ
front [] = []
front (b ∷ bs) = cond (b == 10) [] (b ∷ front bs)

-- the lines; fresh: a line begins here
abbrev pub lines_from : Bool → List ℕ → List (List ℕ)
lines_from fresh [] = []
lines_from fresh (b ∷ bs) =
    let rest = lines_from (b == 10) bs in
    cond fresh (front (b ∷ bs) ∷ rest) rest

-- a line stands before a line feed, or before the text's end if anything is left there
abbrev pub lines : List ℕ → List (List ℕ)
lines bs = lines_from true bs

-- what stands between tokens: a space or a comma
abbrev pub gap : ℕ → Bool
gap b = b == 32 || b == 44

-- the bytes up to the next gap
abbrev pub word : List ℕ → List ℕ
word [] = []
word (b ∷ bs) = cond (gap b) [] (b ∷ word bs)

-- a token and the column where it begins
pub record Token : Type 0 where
  pub column : ℕ
  pub bytes : List ℕ

-- the tokens from column k on; fresh: no token is under way
abbrev pub tokens : ℕ → Bool → List ℕ → List Token
tokens k fresh [] = []
tokens k fresh (b ∷ bs) =
    cond (gap b) (tokens (k + 1) true bs)
    (cond fresh (record { column = k; bytes = word (b ∷ bs) } ∷ tokens (k + 1) false bs) (tokens (k + 1) false bs))

abbrev pub every : (ℕ → Bool) → List ℕ → Bool
every p [] = true
every p (b ∷ bs) = p b && every p bs

abbrev pub small : ℕ → Bool
small b = nat_le 97 b && nat_le b 122

abbrev pub digit : ℕ → Bool
digit b = nat_le 48 b && nat_le b 57

-- a name: one to eight letters a to z
abbrev pub is_name : List ℕ → Bool
is_name bs = (nat_le 1 (length bs) && nat_le (length bs) 8) && every small bs

-- a name as records hold it: eight bytes, 0 after the letters
abbrev pub name_of : List ℕ → List ℕ
name_of bs = take 8 (bs ++ replicate 8 0)

-- a label: a name and a colon
abbrev pub is_label : List ℕ → Bool
is_label bs = nat_le 1 (length bs) && (slice_index bs (length bs - 1) == 58 && is_name (take (length bs - 1) bs))

abbrev pub label_name : List ℕ → List ℕ
label_name bs = name_of (take (length bs - 1) bs)

-- the value of digits, read after those of value n
abbrev pub read_on : ℕ → List ℕ → ℕ
read_on n [] = n
read_on n (c ∷ cs) = read_on (10 * n + (c - 48)) cs

-- a number of over eight digits stands for this, which is outside every range
abbrev pub too_long : ℕ
too_long = 100000000

-- one digit or more
abbrev pub is_digits : List ℕ → Bool
is_digits bs = nat_le 1 (length bs) && every digit bs

abbrev pub magnitude : List ℕ → ℕ
magnitude bs = cond (nat_le (length bs) 8) (read_on 0 bs) too_long

abbrev pub unsigned_of : List ℕ → Option ℕ
unsigned_of bs = cond (is_digits bs) (Some (magnitude bs)) None

-- a number: digits, after a minus if wanted
abbrev pub number_of : List ℕ → Option ℤ
number_of [] = None
number_of (b ∷ bs) = cond (b == 45) (option_map (λ n. neg_ℤ (pos n)) (unsigned_of bs)) (option_map pos (unsigned_of (b ∷ bs)))

-- a place: one to eight digits
abbrev pub place_of : List ℕ → Option ℕ
place_of bs = cond (is_digits bs && nat_le (length bs) 8) (Some (read_on 0 bs)) None
