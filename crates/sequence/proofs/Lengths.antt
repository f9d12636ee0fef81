-- How long a listing gets: at most eight bytes a place.
use Rattle.std.proofs.Common.{◌≡◌, ℕ, zero, suc, ◌+◌, ◌-◌, ◌*◌, ◌<◌, ◌≤◌, Bool, true, false, cond, not, ◌&&◌, List, [], ◌∷◌, ◌++◌, length, ℤ, pos, negsuc, Ok, Err, Result, refl, ap, ◌∙◌, subst, arith}
use Rattle.std.proofs.lemmas.List.{length-append}
use Rattle.std.proofs.lemmas.Bool.Decides.{nat_tests}
use Rattle.isa.specs.declared.instruction.Direction.TheVariants.{Plus, Minus}
use Rattle.isa.specs.declared.instruction.Action.TheVariants.{Outputs, Divisor, InitialSpeed, SlewSpeed, Rates, Origin, IndexTo, Wait, Report, Index}
use Rattle.isa.specs.declared.instruction.Instruction.{Instruction}
use Rattle.isa.specs.declared.instruction.Instruction.TheVariants.{Go, Jump, JumpLow, Act}
use Rattle.std.proofs.lemmas.Bool.{both_ways}
use Rattle.isa.specs.declared.refusal.Refusal.TheVariants.{Area, Target}
use Rattle.isa.specs.Places.{user}
use Rattle.isa.specs.Instructions.{target_of}
use Rattle.isa.specs.Checks.{and_then}
use Rattle.isa.specs.Codes.{width, in_range}
use Rattle.sequence.specs.declared.image.ImageFault.{ImageFault}
use Rattle.sequence.specs.declared.image.Found.{Found}
use Rattle.sequence.specs.Images.{Content, mark, code, wrong, image_fault, content_at, found_at, onward, is_code, further, with_found, walk, begun, aimed}
use Rattle.sequence.specs.Numbers.{decimal, signed}
use Rattle.sequence.specs.Listings.{space, line_feed, instruction_text, instruction_line, at_line, found_text, printed, listing_room, Short}
use Rattle.sequence.proofs.Contents.{code_in_range}
use Rattle.sequence.proofs.Decimals.{decimal_short}

-- one operand, and two
one : (z : ℤ) → length ((space ∷ signed z) ++ []) ≡ length (signed z) + 1
one z = omega (arith, length-append (space ∷ signed z) [])

two : (y z : ℤ) → length ((space ∷ signed y) ++ (space ∷ signed z)) ≡ length (signed y) + length (signed z) + 2
two y z = omega (arith, length-append (space ∷ signed y) (space ∷ signed z))

-- letter and operands: at most seven bytes a byte, less those of a place, its space and the end of the line
text_short : (i : Instruction ℕ) → in_range i ≡ true → length (instruction_text i) + 6 ≤ 7 * width i
text_short (Go p) r = let h : p < 10000 = grind (arith, nat_tests) in omega (arith, decimal_short 3 p h, one (pos p))
text_short (Jump p n) r = let h : (p < 10000) × (n < 1000) = grind (arith, nat_tests) in omega (arith, decimal_short 3 p h.0, decimal_short 2 n h.1, two (pos p) (pos n))
text_short (JumpLow p n) r = let h : (p < 10000) × (n < 1000) = grind (arith, nat_tests) in omega (arith, decimal_short 3 p h.0, decimal_short 2 n h.1, two (pos p) (pos n))
text_short (Act (Outputs n)) r = let h : n < 1000 = grind (arith, nat_tests) in omega (arith, decimal_short 2 n h, one (pos n))
text_short (Act (Divisor n)) r = let h : n < 1000 = grind (arith, nat_tests) in omega (arith, decimal_short 2 n h, one (pos n))
text_short (Act (InitialSpeed n)) r = let h : n < 100000 = grind (arith, nat_tests) in omega (arith, decimal_short 4 n h, one (pos n))
text_short (Act (SlewSpeed n)) r = let h : n < 100000 = grind (arith, nat_tests) in omega (arith, decimal_short 4 n h, one (pos n))
text_short (Act (Rates a d)) r = let h : (a < 1000) × (d < 1000) = grind (arith, nat_tests) in omega (arith, decimal_short 2 a h.0, decimal_short 2 d h.1, two (pos a) (pos d))
text_short (Act (Origin (pos n))) r = let h : n < 10000000 = grind (arith, nat_tests) in omega (arith, decimal_short 6 n h, one (pos n))
text_short (Act (Origin (negsuc n))) r = let h : suc n < 10000000 = grind (arith, nat_tests) in omega (arith, decimal_short 6 (suc n) h, one (negsuc n))
text_short (Act (IndexTo (pos n))) r = let h : n < 10000000 = grind (arith, nat_tests) in omega (arith, decimal_short 6 n h, one (pos n))
text_short (Act (IndexTo (negsuc n))) r = let h : suc n < 10000000 = grind (arith, nat_tests) in omega (arith, decimal_short 6 (suc n) h, one (negsuc n))
text_short (Act (Wait n)) r = let h : n < 100000 = grind (arith, nat_tests) in omega (arith, decimal_short 4 n h, one (pos n))
text_short (Act Report) r = omega arith
text_short (Act (Index Plus n)) r = let h : n < 100000000 = grind (arith, nat_tests) in omega (arith, decimal_short 7 n h, one (pos n))
text_short (Act (Index Minus n)) r = let h : n < 100000000 = grind (arith, nat_tests) in omega (arith, decimal_short 7 n h, one (pos n))

-- the text of one instruction
found_short : (f : Found) → f.place < 10000 → in_range f.instruction ≡ true → length (found_text f) ≤ 7 * width f.instruction + cond f.opens 8 0
found_short f h r = go f.opens
  where
    line : length (instruction_line f.place f.instruction) ≤ 7 * width f.instruction
    line = omega (arith, text_short f.instruction r, decimal_short 3 f.place h, length-append (decimal f.place) (space ∷ (instruction_text f.instruction ++ (line_feed ∷ []))), length-append (instruction_text f.instruction) (line_feed ∷ []))

    go : (t : Bool) → length (cond t (at_line f.place) [] ++ instruction_line f.place f.instruction) ≤ 7 * width f.instruction + cond t 8 0
    go true = omega (arith, line, decimal_short 3 f.place h, length-append (at_line f.place) (instruction_line f.place f.instruction), length-append (decimal f.place) (line_feed ∷ []))
    go false = omega (arith, line)

abbrev owed : Bool → ℕ
owed inside = cond inside 8 0

-- a walk prints at most eight bytes a place, the mark that it still needs included
walk_short : (s : List ℕ) (p : ℕ) (inside : Bool) (k : ℕ) (fs : List Found) → p + length s ≤ 10000 → (0 < k → inside ≡ true) → walk p inside k s ≡ Ok fs → length (printed fs) + owed inside + 8 * k ≤ 8 * length s
walk_short [] p true k fs l h e = let z : ◌≡◌ {A = ℕ} 0 1 = cc in absurd (omega arith)
walk_short [] p false zero fs l h e = let q : fs ≡ [] = cc in rw q (omega arith)
walk_short [] p false (suc k) fs l h e = absurd (both_ways false refl (h (omega arith)))
walk_short (b ∷ bs) p inside (suc k) fs l h e = let i = walk_short bs (suc p) inside k fs (omega arith) (λ _. h (omega arith)) e in omega arith
walk_short (b ∷ bs) p inside zero fs l h e = go (content_at p (b ∷ bs)) refl (λ t k gs h. walk_short bs (suc p) t k gs (omega arith) h) e
  where
    go : (c : Content) → content_at p (b ∷ bs) ≡ c
        → ((t : Bool) (k : ℕ) (gs : List Found) → (0 < k → t ≡ true) → walk (suc p) t k bs ≡ Ok gs → length (printed gs) + owed t + 8 * k ≤ 8 * length bs)
        → onward p inside c (walk (suc p) (is_code c) (further c) bs) ≡ Ok fs → length (printed fs) + owed inside + 8 * 0 ≤ 8 * suc (length bs)
    go mark q ih e = let r = ih false 0 fs (λ z. absurd (omega arith)) (past (inside && not (user p)) (walk (suc p) false 0 bs) e) in let o = owes inside in omega arith
      where
        past : (t : Bool) (x : Result (List Found) ImageFault) → cond t (Err (image_fault Area p)) x ≡ Ok fs → x ≡ Ok fs
        past true x e = let z : ◌≡◌ {A = ℕ} 0 1 = cc in absurd (omega arith)
        past false x e = e

        owes : (t : Bool) → owed t ≤ 8
        owes true = omega arith
        owes false = omega arith
    go (wrong x) q ih e = let z : ◌≡◌ {A = ℕ} 0 1 = cc in absurd (omega arith)
    go (code i) q ih e = found_then (walk (suc p) true (width i - 1) bs) (λ gs. ih true (width i - 1) gs (λ _. refl)) e
      where
        either : (t : Bool) → cond (not t) 8 0 + owed t ≡ 8
        either true = refl
        either false = refl

        found_then : (x : Result (List Found) ImageFault) → ((gs : List Found) → x ≡ Ok gs → length (printed gs) + 8 + 8 * (width i - 1) ≤ 8 * length bs) → with_found (found_at p inside i) x ≡ Ok fs → length (printed fs) + owed inside + 8 * 0 ≤ 8 * suc (length bs)
        found_then (Ok gs) r e =
            let f : found_at p inside i ∷ gs ≡ fs = cc in
            let a = r gs refl in let c = found_short (found_at p inside i) (omega arith) (code_in_range p (b ∷ bs) i q) in let w = either inside in
            subst (λ y. length (printed y) + owed inside + 8 * 0 ≤ 8 * suc (length bs)) f (omega (arith, length-append (found_text (found_at p inside i)) (printed gs)))
        found_then (Err x) r e = let z : ◌≡◌ {A = ℕ} 0 1 = cc in absurd (omega arith)

aimed_all : (all fs out : List Found) → aimed all fs ≡ Ok out → all ≡ out
aimed_all all [] out e = cc
aimed_all all (f ∷ fs) out e = go (begun all (target_of f.instruction)) (aimed_all all fs out) e
  where
    go : (t : Bool) → (aimed all fs ≡ Ok out → all ≡ out) → cond t (aimed all fs) (Err (image_fault Target f.place)) ≡ Ok out → all ≡ out
    go true r e = r e
    go false r e = let z : ◌≡◌ {A = ℕ} 0 1 = cc in absurd (omega arith)

-- so the listing of an image fits the output
pub short : (im : List ℕ) → Short im
short im l text = go (walk 0 false 0 im) refl
  where
    go : (x : Result (List Found) ImageFault) → walk 0 false 0 im ≡ x → and_then (and_then x (λ fs. aimed fs fs)) (λ fs. Ok (printed fs)) ≡ Ok text → length text ≤ listing_room
    go (Ok fs) q e = deep (aimed fs fs) refl e
      where
        deep : (y : Result (List Found) ImageFault) → aimed fs fs ≡ y → and_then y (λ fs. Ok (printed fs)) ≡ Ok text → length text ≤ listing_room
        deep (Ok gs) r e =
            let f : printed gs ≡ text = cc in let g = aimed_all fs fs gs r in
            let h = walk_short im 0 false 0 fs (omega arith) (λ z. absurd (omega arith)) q in
            subst (λ t. length t ≤ listing_room) (ap printed g ∙ f) (omega arith)
        deep (Err x) r e = let z : ◌≡◌ {A = ℕ} 0 1 = cc in absurd (omega arith)
    go (Err x) q e = let z : ◌≡◌ {A = ℕ} 0 1 = cc in absurd (omega arith)
