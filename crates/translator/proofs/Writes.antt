-- Writes of some elements in a row.
use Rattle.std.proofs.Common.{◌≡◌, ℕ, ◌+◌, ◌≤◌, List, ◌++◌, length, take, drop, replicate, refl, sym, ap, ◌∙◌, append_assoc, arith, length-drop, length-take}
use borrow.Rule.Slice.PartMut.{put_mid, mid_of}
use Rattle.std.proofs.lemmas.List.{length-replicate}
use Rattle.std.proofs.lemmas.Slice.{put_mid-paste}
use Rattle.std.proofs.lemmas.List.Edits.{sets, sets-eq, paste_all}

pub put_sets : {A : Type 0} (p k : ℕ) (xs ys zs : List A) → ys ≡ zs → k ≡ length zs → p + k ≤ length xs → put_mid p k xs ys ≡ sets xs p zs
put_sets p k xs ys zs e h l =
    put_mid-paste p k xs ys zs k e refl h ∙ paste_all xs p zs k h ∙ sym (append_assoc (take p xs) zs (drop (p + k) xs)) ∙ ap (λ n. (take p xs ++ zs) ++ drop (p + n) xs) h ∙ sym (sets-eq zs xs p (omega arith))

pub fill_sets : {A : Type 0} (p k n : ℕ) (xs ys : List A) (y : A) → ys ≡ replicate (length (mid_of p k xs)) y → k ≡ n → p + k ≤ length xs → put_mid p k xs ys ≡ sets xs p (replicate n y)
fill_sets p k n xs ys y e h l =
    let m : length (mid_of p k xs) ≡ n = omega (arith, length-take k (drop p xs), length-drop p xs) in
    put_sets p k xs ys (replicate n y) (e ∙ ap (λ i. replicate i y) m) (h ∙ sym (length-replicate n y)) l
