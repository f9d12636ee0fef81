-- Items painted into an image: what each place holds afterwards.
use Rattle.std.proofs.Common.{◌≡◌, ℕ, suc, ◌+◌, ◌<◌, ◌≤◌, Bool, true, false, cond, ◌⊎◌, List, [], ◌∷◌, length, get_or, sym, refl, ap, ◌∙◌, subst, inl, inr, ⊎_elim, arith}
use lib.Seq.{sets, length-sets}
use Rattle.std.proofs.lemmas.Bool.{cases_lt}
use Rattle.isa.specs.Codes.{encoded, width}
use Rattle.sequence.specs.Layouts.{Item, In, end, stop, covers, Apart, ApartFrom, AllApart}
use Rattle.layout.proofs.Basics.{sets_in, sets_out}

-- the image with the bytes of all items, each at its place
abbrev pub drawn : List Item → List ℕ → List ℕ
drawn [] im = im
drawn (i ∷ is) im = drawn is (sets im i.place (encoded i.instruction))

pub end_stop : (i : Item) → (end i ≤ stop i) × (stop i ≤ suc (end i))
end_stop i = go i.last
  where
    go : (t : Bool) → (end i ≤ cond t (suc (end i)) (end i)) × (cond t (suc (end i)) (end i) ≤ suc (end i))
    go true = (omega arith, omega arith)
    go false = (omega arith, omega arith)

apart_in : (i : Item) (is : List Item) → ApartFrom i is → (j : Item) → In j is → Apart i j
apart_in i [] a j m = absurd m
apart_in i (x ∷ is) a j (inl e) = subst (Apart i) (sym e) a.0
apart_in i (x ∷ is) a j (inr m) = apart_in i is a.1 j m

-- two of them share no byte
not_both : (i j : Item) (q : ℕ) → Apart i j → covers i q → covers j q → ⊥
not_both i j q a c d = let e = end_stop i in let f = end_stop j in ⊎_elim (λ (h : stop i ≤ j.place). omega arith) (λ (h : stop j ≤ i.place). omega arith) a

apart_swap : (i j : Item) → Apart i j → Apart j i
apart_swap i j a = ⊎_elim (λ h. inr h) (λ h. inl h) a

-- two of them are the same or apart
pub same_or_apart : (is : List Item) → AllApart is → (i j : Item) → In i is → In j is → (i ≡ j) ⊎ Apart i j
same_or_apart [] a i j m n = absurd m
same_or_apart (x ∷ is) a i j (inl e) (inl f) = inl (e ∙ sym f)
same_or_apart (x ∷ is) a i j (inl e) (inr n) = inr (subst (λ y. Apart y j) (sym e) (apart_in x is a.0 j n))
same_or_apart (x ∷ is) a i j (inr m) (inl f) = inr (apart_swap j i (subst (λ y. Apart y i) (sym f) (apart_in x is a.0 i m)))
same_or_apart (x ∷ is) a i j (inr m) (inr n) = same_or_apart is a.1 i j m n

-- no instruction covers a mark
pub marks : (is : List Item) → AllApart is → (i j : Item) → In i is → In j is → i.last ≡ true → covers j (end i) → ⊥
marks is a i j m n l c =
    let s : stop i ≡ suc (end i) = ap (λ b. cond b (suc (end i)) (end i)) l in
    let t = end_stop j in
    ⊎_elim (λ (h : i ≡ j). let g : end i ≡ end j = ap end h in omega arith)
    (λ (h : Apart i j). ⊎_elim (λ (g : stop i ≤ j.place). omega arith) (λ (g : stop j ≤ i.place). omega arith) h)
    (same_or_apart is a i j m n)

-- off the instructions, on one of them, and the size
pub drawn_out : (is : List Item) (im : List ℕ) (q : ℕ) → ((i : Item) → In i is → covers i q → ⊥) → get_or (drawn is im) q 255 ≡ get_or im q 255
drawn_out [] im q n = refl
drawn_out (i ∷ is) im q n =
    let no = n i (inl refl) in
    drawn_out is (sets im i.place (encoded i.instruction)) q (λ j m c. n j (inr m) c)
    ∙ sets_out (encoded i.instruction) im i.place q 255 (⊎_elim (λ (a : q < i.place). inl a) (λ (a : i.place ≤ q). ⊎_elim (λ (b : q < end i). absurd (no (a, b))) (λ (b : end i ≤ q). inr b) (cases_lt q (end i))) (cases_lt q i.place))

pub drawn_in : (is : List Item) (im : List ℕ) → AllApart is → ((i : Item) → In i is → end i ≤ length im) → (i : Item) → In i is → (k : ℕ) → k < width i.instruction → get_or (drawn is im) (i.place + k) 255 ≡ get_or (encoded i.instruction) k 255
drawn_in [] im a fits i m = absurd m
drawn_in (x ∷ is) im a fits i (inl e) = subst (λ y. (k : ℕ) → k < width y.instruction → get_or (drawn (x ∷ is) im) (y.place + k) 255 ≡ get_or (encoded y.instruction) k 255) (sym e) (λ k h.
    drawn_out is (sets im x.place (encoded x.instruction)) (x.place + k) (λ j m c. not_both x j (x.place + k) (apart_in x is a.0 j m) (omega arith, omega arith) c)
    ∙ sets_in (encoded x.instruction) im x.place k 255 (fits x (inl refl)) h)
drawn_in (x ∷ is) im a fits i (inr m) = drawn_in is (sets im x.place (encoded x.instruction)) a.1 (λ j n. let f = fits j (inr n) in omega (arith, length-sets im x.place (encoded x.instruction))) i m

pub drawn_size : (is : List Item) (im : List ℕ) → length (drawn is im) ≡ length im
drawn_size [] im = refl
drawn_size (i ∷ is) im = drawn_size is (sets im i.place (encoded i.instruction)) ∙ length-sets im i.place (encoded i.instruction)
