-- How many label-shaped tokens a line and a text have.
use Rattle.std.proofs.Common.{◌≡◌, ℕ, suc, ◌+◌, ◌≤◌, Bool, true, false, cond, eqb, List, [], ◌∷◌, length, refl, sym, ◌∙◌, arith}
use Rattle.std.specs.List.{filter, count_by, sum_by}
use Rattle.std.proofs.lemmas.List.Recursion.{is_sum_by}
use Rattle.std.proofs.lemmas.List.Sums.{length-filter, count_by-le-length}
use Rattle.sequence.specs.Texts.{Token, front, lines_from, lines, tokens, is_label}
use Rattle.sequence.specs.Translations.{label_tokens, labels_in}
use Rattle.token.proofs.Fronts.{few_tokens}

abbrev labels : Token → Bool
labels t = is_label t.bytes

labels_counted : (ts : List Token) → label_tokens ts ≡ count_by labels ts
labels_counted ts = is_sum_by label_tokens (λ t. cond (labels t) 1 0) refl (λ _ _. refl) ts

pub labels_filtered : (ts : List Token) → length (filter (λ (t : Token). is_label t.bytes) ts) ≡ label_tokens ts
labels_filtered ts = length-filter labels ts ∙ sym (labels_counted ts)

abbrev pub labels_of_line : List ℕ → ℕ
labels_of_line b = label_tokens (tokens 1 true b)

few_labels : (b : List ℕ) → labels_of_line b ≤ length b
few_labels b = let ts = tokens 1 true b in omega (arith, labels_counted ts, count_by-le-length labels ts, few_tokens 1 b)

pub labels_are : (bs : List (List ℕ)) → labels_in bs ≡ sum_by labels_of_line bs
labels_are bs = is_sum_by labels_in labels_of_line refl (λ _ _. refl) bs

-- the labels of the lines that begin, and the line that is under way
labels_left : (fresh : Bool) (s : List ℕ) → labels_in (lines_from fresh s) + cond fresh 0 (length (front s)) ≤ length s
labels_left true [] = omega arith
labels_left false [] = omega arith
labels_left fresh (b ∷ bs) = go (eqb b 10) fresh (λ t. labels_left t bs)
  where
    go : (n f : Bool) → ((t : Bool) → labels_in (lines_from t bs) + cond t 0 (length (front bs)) ≤ length bs) → labels_in (cond f (cond n [] (b ∷ front bs) ∷ lines_from n bs) (lines_from n bs)) + cond f 0 (length (cond n [] (b ∷ front bs))) ≤ suc (length bs)
    go true true h = let a = h true in omega arith
    go true false h = let a = h true in omega arith
    go false true h = let a = h false in let f = few_labels (b ∷ front bs) in omega arith
    go false false h = let a = h false in omega arith

pub labels_fit : (s : List ℕ) → labels_in (lines s) ≤ length s
labels_fit s = let a = labels_left true s in omega arith
