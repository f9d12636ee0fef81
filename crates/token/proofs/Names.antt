-- A name, letter by letter.
use Rattle.std.proofs.Common.{◌≡◌, ℕ, zero, suc, ◌-◌, ◌≤◌, Bool, true, false, eqb, leb, List, [], ◌∷◌, ◌++◌, length, get_or, take, drop, replicate, min, sym, refl, ap, ◌∙◌, arith}
use Rattle.std.proofs.lemmas.List.{take_min, take-replicate, length-take}
use Rattle.std.proofs.lemmas.Bool.{and_parts, and_left, and_right, leb-true}
use Rattle.std.proofs.lemmas.Bool.Decides.{nat_tests}
use Rattle.std.proofs.lemmas.List.Recursion.{and_at}
use Rattle.std.specs.Prelude.{◌&&◌}
use Rattle.std.specs.List.{list_all}
use Rattle.sequence.specs.Texts as Texts
use Rattle.sequence.specs.Texts.{name_of, digit, is_digits, is_name, is_label}

pad : (k m : ℕ) (name : List ℕ) → k ≤ m → take k name ++ drop (length (take k name)) (replicate k 0) ≡ take k (name ++ replicate m 0)
pad zero m name h = refl
pad (suc k) m [] h = sym (take-replicate (suc k) m 0 h)
pad (suc k) m (b ∷ bs) h = ap (λ l. b ∷ l) (pad k m bs (omega arith))

-- the letters, as many as there is room for, over eight zeros
pub padded : (name : List ℕ) (n : ℕ) → n ≡ min (length name) 8 → take n name ++ drop n (replicate 8 0) ≡ name_of name
padded name n e =
    let m : n ≡ min 8 (length name) = omega (arith, e) in
    let t : take n name ≡ take 8 name = ap (λ k. take k name) m ∙ take_min 8 name in
    let l : n ≡ length (take 8 name) = m ∙ sym (length-take 8 name) in
    (λ i. t i ++ drop (l i) (replicate 8 0)) ∙ pad 8 8 name (omega arith)

pub every_is : (p : ℕ → Bool) (bs : List ℕ) → Texts.every p bs ≡ list_all p bs
every_is p [] = refl
every_is p (b ∷ bs) = ap (λ t. p b && t) (every_is p bs)

-- digits are no label: they do not end in a colon
pub digits_no_label : (bs : List ℕ) → is_digits bs ≡ true → is_label bs ≡ false
digits_no_label bs h =
    let a = and_parts (leb 1 (length bs)) (Texts.every digit bs) h in
    let l : 1 ≤ length bs = leb-true 1 (length bs) a.0 in
    let d : digit (get_or bs (length bs - 1) 0) ≡ true = and_at (Texts.every digit) digit refl (λ _ _. refl) bs (length bs - 1) 0 (omega arith) a.1 in
    let c : eqb (get_or bs (length bs - 1) 0) 58 ≡ false = grind (arith, nat_tests) in
    and_right (leb 1 (length bs)) _ (and_left _ (is_name (take (length bs - 1) bs)) c)
