-- The digits of a number, one by one.
use Rattle.std.proofs.Common.{◌≡◌, ℕ, zero, suc, ◌+◌, ◌*◌, ◌/◌, ◌%◌, ◌<◌, ◌≤◌, Bool, true, false, cond, ltb, [], ◌∷◌, ◌++◌, length, sym, ap, ◌∙◌, arith}
use Rattle.std.proofs.lemmas.List.{length-append}
use Rattle.std.proofs.lemmas.Bool.{lt-ltb, le-ltb}
use Rattle.sequence.specs.Numbers.{spell, decimal}

-- ten to the k
abbrev tens : ℕ → ℕ
tens zero = 1
tens (suc k) = 10 * tens k

-- room for one digit more changes nothing
spell_more : (k n : ℕ) → n < tens (suc k) → spell (suc (suc k)) n ≡ spell (suc k) n
spell_more zero n h = ap (λ t. cond t ((48 + n) ∷ []) (spell 1 (n / 10) ++ ((48 + n % 10) ∷ []))) (lt-ltb n 10 (omega arith)) ∙ sym (ap (λ t. cond t ((48 + n) ∷ []) ([] ++ ((48 + n % 10) ∷ []))) (lt-ltb n 10 (omega arith)))
spell_more (suc k) n h = ap (λ s. cond (ltb n 10) ((48 + n) ∷ []) (s ++ ((48 + n % 10) ∷ []))) (spell_more k (n / 10) (omega arith))

pub decimal_one : (n : ℕ) → n < 10 → decimal n ≡ (48 + n) ∷ []
unfolding decimal
decimal_one n h = ap (λ t. cond t ((48 + n) ∷ []) (spell 7 (n / 10) ++ ((48 + n % 10) ∷ []))) (lt-ltb n 10 h)

pub decimal_more : (n : ℕ) → 10 ≤ n → n < 100000000 → decimal n ≡ decimal (n / 10) ++ ((48 + n % 10) ∷ [])
unfolding decimal
decimal_more n l h = ap (λ t. cond t ((48 + n) ∷ []) (spell 7 (n / 10) ++ ((48 + n % 10) ∷ []))) (le-ltb n 10 l) ∙ ap (λ s. s ++ ((48 + n % 10) ∷ [])) (sym (spell_more 6 (n / 10) (omega arith)))

-- a number below ten to the k has at most k digits
spell_short : (k m n : ℕ) → n < tens (suc k) → length (spell m n) ≤ suc k
spell_short k zero n h = omega arith
spell_short zero (suc m) n h = let e : ltb n 10 ≡ true = lt-ltb n 10 (omega arith) in rw e (omega arith)
spell_short (suc k) (suc m) n h = go (ltb n 10) (spell_short k m (n / 10) (omega arith))
  where
    go : (t : Bool) → length (spell m (n / 10)) ≤ suc k → length (cond t ((48 + n) ∷ []) (spell m (n / 10) ++ ((48 + n % 10) ∷ []))) ≤ suc (suc k)
    go true l = omega arith
    go false l = omega (arith, length-append (spell m (n / 10)) ((48 + n % 10) ∷ []))

pub decimal_short : (k n : ℕ) → n < tens (suc k) → length (decimal n) ≤ suc k
unfolding decimal
decimal_short k n h = spell_short k 8 n h
