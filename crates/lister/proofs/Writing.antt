-- Texts written one after the other.
use Rattle.std.proofs.Common.{◌≡◌, ℕ, zero, suc, ◌+◌, ◌%◌, ◌<◌, ◌≤◌, true, cond, ltb, List, [], ◌∷◌, ◌++◌, length, get_or, take, drop, set, ℤ, pos, negsuc, nat_abs, is_ok, Ok, Err, Result, sym, refl, ap, ◌∙◌, arith, append_assoc, to_z, of_z, w64, rules}
use lib.Seq.{sets, length-sets}
use borrow.Rule.Slice.PartMut.{put_mid}
use Rattle.std.proofs.lemmas.Bool.{le-ltb}
use Rattle.std.proofs.lemmas.Fmt.{decimal_by_steps}
use Rattle.std.proofs.lemmas.List.{length-append, drop-drop, take_more, take_all, append-nil}
use Rattle.std.proofs.lemmas.List.Folds.{length-flat_map-take}
use Rattle.std.proofs.lemmas.Grind.{flat_map-append}
use Rattle.std.proofs.lemmas.List.Edits.{sets-eq}
use Rattle.std.specs.Fmt.{decimal as std_decimal, signed_decimal}
use Rattle.std.proofs.lemmas.Int.{to_z-of_z}
use mir.Val.{SFits}
use Rattle.isa.specs.declared.instruction.Instruction.{Instruction}
use Rattle.isa.specs.Instructions.{operands_of}
use Rattle.isa.specs.Codes.{in_range}
use Rattle.sequence.specs.declared.image.ImageFault.{ImageFault}
use Rattle.sequence.specs.declared.image.Found.{Found}
use Rattle.sequence.specs.Images.{with_found}
use Rattle.sequence.specs.Listings.{space, operand_text, found_text, printed}
use Rattle.sequence.specs.Numbers.{decimal, signed}
use Rattle.sequence.proofs.Decimals.{decimal_one, decimal_more}
use Rattle.lister.specs.declared.print.Listing.{Listing}
use Rattle.lister.specs.Walks.{found_in}
use Rattle.lister.specs.Writes.{HasRoom, Appends, spaced}

sets_append : (xs ys l : List ℕ) (i : ℕ) → sets l i (xs ++ ys) ≡ sets (sets l i xs) (i + length xs) ys
sets_append [] ys l i = ap (λ k. sets l k ys) (let x : i ≡ i + 0 = omega arith in x)
sets_append (x ∷ xs) ys l i = sets_append xs ys (set l i x) (suc i) ∙ ap (λ k. sets (sets (set l i x) (suc i) xs) k ys) (let y : suc i + length xs ≡ i + suc (length xs) = omega arith in y)

-- a text copied into its place
pub put_is : (xs l : List ℕ) (i k : ℕ) → k ≡ length xs → i + length xs ≤ length l → put_mid i k l xs ≡ sets l i xs
put_is xs l i k e h =
    ap (λ d. take i l ++ (xs ++ d)) (drop-drop k i l ∙ ap (λ n. drop n l) (let x : i + k ≡ i + length xs = omega arith in x))
    ∙ sym (append_assoc (take i l) xs (drop (i + length xs) l)) ∙ sym (sets-eq xs l i h)

-- a text in two parts
pub room_first : (xs ys : List ℕ) (a : Listing) → HasRoom (xs ++ ys) a → HasRoom xs a
room_first xs ys a h = omega (arith, length-append xs ys)

pub room_rest : {xs : List ℕ} {a b : Listing} (ys : List ℕ) → Appends xs a b → HasRoom (xs ++ ys) a → HasRoom ys b
room_rest {xs} {a} {b} ys v h = let o = ap length v.output in let e = v.len in omega (arith, length-append xs ys, length-sets a.out.now a.len xs)

pub appends_more : {xs ys : List ℕ} {a b c : Listing} → Appends xs a b → Appends ys b c → Appends (xs ++ ys) a c
appends_more {xs} {ys} {a} {b} {c} v w = record {
  same = w.same ∙ v.same;
  output = w.output ∙ ap (λ l. sets l b.len ys) v.output ∙ ap (λ k. sets (sets a.out.now a.len xs) k ys) v.len ∙ sym (sets_append xs ys a.out.now a.len);
  len = let e = v.len in let f = w.len in omega (arith, length-append xs ys);
}

-- one operand more
pub spaced_more : (zs : List ℤ) (k : ℕ) → k < length zs → spaced (take (k + 1) zs) ≡ spaced (take k zs) ++ (space ∷ signed (get_or zs k (pos 0)))
spaced_more zs k h =
    ap spaced (take_more zs k (pos 0) h) ∙ flat_map-append (λ z. space ∷ signed z) (take k zs) (get_or zs k (pos 0) ∷ [])
    ∙ ap (λ s. spaced (take k zs) ++ s) (append-nil (space ∷ signed (get_or zs k (pos 0))))

-- the first n of two operands
pub operands_are : (n : ℕ) (x y : ℤ) → operand_text n x y ≡ spaced (take n (x ∷ y ∷ []))
operands_are zero x y = refl
operands_are (suc zero) x y = refl
operands_are (suc (suc n)) x y =
    ap (λ t. cond t [] ((space ∷ signed x) ++ cond (ltb (suc (suc n)) 2) [] (space ∷ signed y))) (le-ltb (suc (suc n)) 1 (omega arith))
    ∙ ap (λ t. (space ∷ signed x) ++ cond t [] (space ∷ signed y)) (le-ltb (suc (suc n)) 2 (omega arith))
    ∙ ap (λ s. (space ∷ signed x) ++ s) (sym (append-nil (space ∷ signed y)))
    ∙ ap (λ zs. (space ∷ signed x) ++ ((space ∷ signed y) ++ spaced zs)) (sym (take_all n [] (omega arith)))

pub room_next : {a b : Listing} (zs : List ℤ) (k : ℕ) → k < length zs → HasRoom (spaced zs) a → Appends (spaced (take k zs)) a b → HasRoom (space ∷ signed (get_or zs k (pos 0))) b
room_next {a} {b} zs k h r v =
    let o = ap length v.output in let e = v.len in
    omega (arith, length-flat_map-take (λ z. space ∷ signed z) zs k (pos 0) h, length-sets a.out.now a.len (spaced (take k zs)))

-- a number of at most eight digits, as the library writes it
pub decimal_is : (n : ℕ) → n < 100000000 → std_decimal n ≡ decimal n
decimal_is n h =
    decimal_by_steps (λ n ds. n < 100000000 → ds ≡ decimal n)
    (λ n h l. sym (decimal_one n h))
    (λ n ds l e h. ap (λ s. s ++ ((48 + n % 10) ∷ [])) (e (omega arith)) ∙ sym (decimal_more n l h))
    n (omega arith) h

pub signed_is : (z : ℤ) → nat_abs z < 100000000 → signed_decimal z ≡ signed z
signed_is (pos n) h = decimal_is n h
signed_is (negsuc n) h = ap (λ s. 45 ∷ s) (decimal_is (suc n) h)

-- the same of one that the code has in 64 bits
pub number_is : (z : ℤ) → nat_abs z < 100000000 → signed_decimal (to_z w64 (of_z w64 z)) ≡ signed z
number_is z h = ap signed_decimal (to_z-of_z w64 z (fits z h)) ∙ signed_is z h
  where
    fits : (z : ℤ) → nat_abs z < 100000000 → SFits w64 z
    fits (pos n) h = search rules
    fits (negsuc n) h = search rules

-- operands in range have at most eight digits
pub short_operands : (i : Instruction ℕ) → in_range i ≡ true → (nat_abs (operands_of i).first < 100000000) × (nat_abs (operands_of i).second < 100000000)
short_operands i r = search rules

-- one instruction more is printed
pub printed_more : (f : Found) (before after : Result (List Found) ImageFault) → before ≡ with_found f after → is_ok before ≡ true → (is_ok after ≡ true) × (found_in before ≡ f ∷ found_in after)
printed_more f before (Ok fs) e k = (refl, ap found_in e)
printed_more f before (Err x) e k = let z : ◌≡◌ {A = ℕ} 0 1 = cc in absurd (omega arith)

pub sets_found : {a b : Listing} (f : Found) (fs : List Found) → Appends (found_text f) a b → sets a.out.now a.len (printed (f ∷ fs)) ≡ sets b.out.now b.len (printed fs)
sets_found {a} {b} f fs v =
    sets_append (found_text f) (printed fs) a.out.now a.len
    ∙ ap (λ k. sets (sets a.out.now a.len (found_text f)) k (printed fs)) (sym v.len) ∙ ap (λ l. sets l b.len (printed fs)) (sym v.output)

pub length_found : (f : Found) (fs : List Found) → length (printed (f ∷ fs)) ≡ length (found_text f) + length (printed fs)
length_found f fs = length-append (found_text f) (printed fs)
