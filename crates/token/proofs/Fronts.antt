-- A token at the front of a line.
use Rattle.std.proofs.Common.{◌≡◌, ℕ, suc, ◌+◌, ◌<◌, ◌≤◌, Bool, true, false, cond, List, [], ◌∷◌, length, get_or, take, drop, sym, refl, ap, ◌∙◌, add-zero, arith, length-drop, get_or-drop}
use Rattle.std.specs.Prelude.{not, take_while}
use Rattle.std.specs.List.{position_or_len, prefix_len}
use Rattle.std.proofs.lemmas.List.Sums.{take_while-cons, prefix_len_stops}
use Rattle.std.proofs.lemmas.List.Folds.{length-prefix_len}
use Rattle.sequence.specs.Texts.{gap, word, tokens}

word_is : (s : List ℕ) → word s ≡ take_while (λ b. not (gap b)) s
word_is [] = refl
word_is (b ∷ bs) = grind (arith, word_is bs, take_while-cons (λ x. not (gap x)) b bs)

past_gaps : (k : ℕ) (s : List ℕ) → tokens k true s ≡ tokens (k + prefix_len gap s) true (drop (prefix_len gap s) s)
past_gaps k [] = refl
past_gaps k (b ∷ bs) = go (gap b) refl (past_gaps (k + 1) bs)
  where
    go : (t : Bool) → gap b ≡ t → tokens (k + 1) true bs ≡ tokens (k + 1 + prefix_len gap bs) true (drop (prefix_len gap bs) bs) → tokens k true (b ∷ bs) ≡ tokens (k + prefix_len gap (b ∷ bs)) true (drop (prefix_len gap (b ∷ bs)) (b ∷ bs))
    go true e h =
        let n : suc (prefix_len gap bs) ≡ prefix_len gap (b ∷ bs) = grind arith in
        let c : k + 1 + prefix_len gap bs ≡ k + prefix_len gap (b ∷ bs) = omega (arith, n) in
        let t : tokens k true (b ∷ bs) ≡ tokens (k + 1) true bs = grind arith in
        t ∙ h ∙ (λ i. tokens (c i) true (drop (n i) (b ∷ bs)))
    go false e h =
        let n : 0 ≡ prefix_len gap (b ∷ bs) = grind arith in
        let c : k ≡ k + prefix_len gap (b ∷ bs) = omega (arith, n) in
        λ i. tokens (c i) true (drop (n i) (b ∷ bs))

-- a token under way is passed over
under_way : (k : ℕ) (s : List ℕ) → tokens k false s ≡ tokens (k + length (word s)) true (drop (length (word s)) s)
under_way k [] = refl
under_way k (b ∷ bs) = go (gap b) refl (under_way (k + 1) bs)
  where
    go : (t : Bool) → gap b ≡ t → tokens (k + 1) false bs ≡ tokens (k + 1 + length (word bs)) true (drop (length (word bs)) bs) → tokens k false (b ∷ bs) ≡ tokens (k + length (word (b ∷ bs))) true (drop (length (word (b ∷ bs))) (b ∷ bs))
    go true e h = grind arith
    go false e h = grind arith

front : (k : ℕ) (s : List ℕ) → 0 < length (word s) → tokens k true s ≡ record { column = k; bytes = word s } ∷ tokens (k + length (word s)) true (drop (length (word s)) s)
front k [] h = absurd (omega arith)
front k (b ∷ bs) h = go (gap b) refl (under_way (k + 1) bs)
  where
    go : (t : Bool) → gap b ≡ t → tokens (k + 1) false bs ≡ tokens (k + 1 + length (word bs)) true (drop (length (word bs)) bs) → tokens k true (b ∷ bs) ≡ record { column = k; bytes = word (b ∷ bs) } ∷ tokens (k + length (word (b ∷ bs))) true (drop (length (word (b ∷ bs))) (b ∷ bs))
    go true e u = grind arith
    go false e u = grind arith

-- nothing in front: no byte is left
no_front : (s : List ℕ) → length (word s) ≡ 0 → (0 < length s → gap (get_or s 0 0) ≡ false) → s ≡ []
no_front [] h g = refl
no_front (b ∷ bs) h g = let f : gap b ≡ false = g (omega arith) in absurd (grind arith)

-- one step of a scanner at column k: `line` begins with n gaps, `skipped`, and then w bytes, `text`, before `after`
module _ (k n w : ℕ) (line skipped from text after : List ℕ) (gaps : n ≡ prefix_len gap line) (skip : length skipped ≡ n) (left : from ≡ drop n line) (bytes : w ≡ position_or_len gap from) (cut : text ≡ take w from) (rest : after ≡ drop w from) where
  same : tokens k true line ≡ tokens (k + length skipped) true from
  same = past_gaps k line ∙ (λ i. tokens (k + sym (skip ∙ gaps) i) true (sym (left ∙ ap (λ m. drop m line) gaps) i))

  word_text : word from ≡ text
  word_text = word_is from ∙ ap (λ m. take m from) (sym bytes) ∙ sym cut

  size : length text ≡ w
  size = ap length (sym word_text ∙ word_is from) ∙ length-prefix_len (λ b. not (gap b)) from ∙ sym bytes

  pub next_some : 0 < length text → tokens k true line ≡ record { column = k + length skipped; bytes = text } ∷ tokens (k + length skipped + length text) true after
  next_some some =
      let m = ap length word_text in
      let c = k + length skipped in
      let d : drop (length text) from ≡ after = ap (λ m. drop m from) size ∙ sym rest in
      same ∙ front c from (omega (arith, m))
      ∙ (λ i. record { column = c; bytes = word_text i } ∷ tokens (c + m i) true (drop (m i) from))
      ∙ ap (λ l. record { column = c; bytes = text } ∷ tokens (c + length text) true l) d

  pub next_none : length text ≡ 0 → (tokens k true line ≡ []) × (tokens (k + length skipped + length text) true after ≡ [])
  next_none none =
      let stops : 0 < length from → gap (get_or from 0 0) ≡ false = λ h.
      ap gap (ap (λ l. get_or l 0 0) left ∙ get_or-drop n line 0 0 ∙ ap (λ i. get_or line i 0) (add-zero n ∙ gaps)) ∙ prefix_len_stops gap line 0 (omega (arith, gaps, ap length left, length-drop n line)) in
      let e : from ≡ [] = no_front from (ap length word_text ∙ none) stops in
      (same ∙ ap (tokens (k + length skipped) true) e, ap (tokens (k + length skipped + length text) true) (rest ∙ (λ i. drop ((sym size ∙ none) i) (e i))))

pub length-tokens-le : (k : ℕ) (fresh : Bool) (s : List ℕ) → length (tokens k fresh s) ≤ length s
length-tokens-le k fresh [] = omega arith
length-tokens-le k fresh (b ∷ bs) = go fresh (gap b) (length-tokens-le (k + 1) true bs) (length-tokens-le (k + 1) false bs)
  where
    go : (fresh t : Bool) → length (tokens (k + 1) true bs) ≤ length bs → length (tokens (k + 1) false bs) ≤ length bs → length (cond t (tokens (k + 1) true bs) (cond fresh (record { column = k; bytes = word (b ∷ bs) } ∷ tokens (k + 1) false bs) (tokens (k + 1) false bs))) ≤ length (b ∷ bs)
    go fresh true h i = omega (arith, h)
    go true false h i = omega (arith, i)
    go false false h i = omega (arith, i)

pub few_tokens : (k : ℕ) (s : List ℕ) → length (tokens k true s) ≤ length s
few_tokens k s = length-tokens-le k true s
