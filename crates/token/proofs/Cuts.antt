-- The line in front of a text.
use Rattle.std.proofs.Common.{◌≡◌, ℕ, suc, ◌+◌, ◌<◌, ◌≤◌, Option, Some, None, Bor, Bool, true, false, eqb, List, [], ◌∷◌, length, take, drop, sym, refl, ap, ◌∙◌, arith, rules}
use Rattle.std.specs.Prelude.{not, take_while, ◌==◌}
use Rattle.std.specs.List.{position_or_len}
use Rattle.std.specs.Option.{unwrap_or}
use Rattle.std.specs.Slice.{IsGetRangeResult}
use Rattle.std.proofs.lemmas.List.{drop_all, take_rest}
use Rattle.std.proofs.lemmas.List.Folds.{length-prefix_len}
use Rattle.std.proofs.lemmas.List.Sums.{take_while-cons}
use Rattle.sequence.specs.Texts.{front, lines_from, lines}

under_way : (s : List ℕ) → lines_from false s ≡ lines (drop (suc (length (front s))) s)
under_way [] = refl
under_way (b ∷ bs) = go (eqb b 10) refl (under_way bs)
  where
    go : (t : Bool) → eqb b 10 ≡ t → lines_from false bs ≡ lines (drop (suc (length (front bs))) bs) → lines_from false (b ∷ bs) ≡ lines (drop (suc (length (front (b ∷ bs)))) (b ∷ bs))
    go true e h = grind arith
    go false e h = grind arith

first_line : (s : List ℕ) → 0 < length s → lines s ≡ front s ∷ lines (drop (suc (length (front s))) s)
first_line [] h = absurd (omega arith)
first_line (b ∷ bs) h = go (eqb b 10) refl (under_way bs)
  where
    go : (t : Bool) → eqb b 10 ≡ t → lines_from false bs ≡ lines (drop (suc (length (front bs))) bs) → lines (b ∷ bs) ≡ front (b ∷ bs) ∷ lines (drop (suc (length (front (b ∷ bs)))) (b ∷ bs))
    go true e u = grind arith
    go false e u = grind arith

front_is : (s : List ℕ) → front s ≡ take_while (λ b. not (b == 10)) s
front_is [] = refl
front_is (b ∷ bs) = grind (arith, front_is bs, take_while-cons (λ x. not (x == 10)) b bs)

pub front_size : (s : List ℕ) → position_or_len (λ b. b == 10) s ≡ length (front s)
front_size s = sym (ap length (front_is s) ∙ length-prefix_len (λ b. not (b == 10)) s)

-- the line in front goes up to its line feed, and the others follow
pub cut_line : (s : List ℕ) (n : ℕ) → 0 < length s → n ≡ position_or_len (λ b. b == 10) s → lines s ≡ take n s ∷ lines (drop (n + 1) s)
cut_line s n some e =
    let f : front s ≡ take n s = front_is s ∙ ap (λ k. take k s) (sym e) in
    let d : suc (length (front s)) ≡ n + 1 = omega (arith, front_size s, e) in
    first_line s some ∙ (λ i. f i ∷ lines (drop (d i) s))

pub after_feed : (s : List ℕ) (n : ℕ) (r : Option (Bor (List ℕ))) (none : Bor (List ℕ)) → none.now ≡ [] → IsGetRangeResult s n (length s) r → (unwrap_or r none).now ≡ drop n s
after_feed s n None none e h = e ∙ sym (drop_all n s (search (rules, h)))
after_feed s n (Some t) none e h = search (rules, take_rest, h)

-- each line has a byte of its own, at least its line feed
lines_few : (fresh : Bool) (s : List ℕ) → length (lines_from fresh s) ≤ length s
lines_few fresh [] = omega arith
lines_few true (b ∷ bs) = let few = lines_few (eqb b 10) bs in omega (arith, few)
lines_few false (b ∷ bs) = let few = lines_few (eqb b 10) bs in omega (arith, few)

pub few_lines : (s : List ℕ) → length (lines s) ≤ length s
few_lines s = lines_few true s
