-- The test of targets by the map of first bytes is that of the definition.
use Rattle.std.proofs.Common.{◌≡◌, ℕ, ◌<◌, ◌≤◌, Bool, true, false, cond, ◌||◌, ◌≢◌, List, [], ◌∷◌, length, get_or, set, replicate, Some, None, Ok, Err, Option, Result, sym, refl, ap, ◌∙◌, ⊎_elim, arith, length-set, get_or-set_other, get_or-set_same}
use lib.ListN.{length-replicate}
use Rattle.std.proofs.lemmas.List.{get_or-replicate}
use Rattle.std.proofs.Math.Bool.{or-false}
use Rattle.std.proofs.lemmas.Bool.{cases_eq, eq-eqb, ne_eqb, or_right}
use Rattle.std.specs.List.{AllByRecursion}
use Rattle.isa.specs.declared.refusal.Refusal.TheVariants.{Target}
use Rattle.isa.specs.Checks.{and_then}
use Rattle.isa.specs.Instructions.{target_of}
use Rattle.isa.specs.Codes.{in_range}
use Rattle.isa.proofs.RoundTrip.{target_low}
use Rattle.sequence.specs.declared.image.ImageFault.{ImageFault}
use Rattle.sequence.specs.declared.image.Found.{Found}
use Rattle.sequence.specs.Images.{image_fault, walk, begins, begun, aimed}
use Rattle.sequence.specs.Listings.{printed, listing}
use Rattle.sequence.proofs.Contents.{walk_in_range}
use Rattle.lister.specs.Targets.{marked, firsts, first, checked_all, checked}
use Rattle.lister.specs.Walks.{found_in}

marks_at : (fs : List Found) (m : List Bool) (t : ℕ) → t < length m → get_or (marked fs m) t false ≡ (begins fs t || get_or m t false)
marks_at [] m t h = refl
marks_at (f ∷ fs) m t h =
    marks_at fs (set m f.place true) t (omega (arith, length-set m f.place true))
    ∙ ⊎_elim (λ (e : f.place ≡ t).
    ap (λ b. begins fs t || b) (ap (λ q. get_or (set m q true) t false) e ∙ get_or-set_same m t true false h)
    ∙ or_right (begins fs t) true refl ∙ sym (ap (λ b. (b || begins fs t) || get_or m t false) (eq-eqb f.place t e)))
    (λ (n : f.place ≡ t → ⊥).
    let d : t ≢ f.place = λ e. n (sym e) in
    ap (λ b. begins fs t || b) (get_or-set_other m f.place t true false d) ∙ sym (ap (λ b. (b || begins fs t) || get_or m t false) (ne_eqb f.place t n)))
    (cases_eq f.place t)

abbrev blank : List Bool
blank = replicate 2048 false

first_is : (all : List Found) (o : Option ℕ) → ((t : ℕ) → o ≡ Some t → t ≤ 2047) → first (marked all blank) o ≡ begun all o
first_is all None h = refl
first_is all (Some t) h =
    let l : t < 2048 = let k = h t refl in omega arith in
    marks_at all blank t (omega (arith, length-replicate {A = Bool} 2048 false)) ∙ ap (λ b. begins all t || b) (get_or-replicate 2048 t false false l) ∙ or-false (begins all t)

checks : (all fs : List Found) → AllByRecursion (λ (f : Found). in_range f.instruction ≡ true) fs → and_then (checked_all (marked all blank) fs) (λ _. Ok all) ≡ aimed all fs
checks all [] a = refl
checks all (f ∷ fs) a =
    ap (λ b. and_then (and_then (cond b (Ok (tt {0})) (Err (image_fault Target f.place))) (λ _. checked_all (marked all blank) fs)) (λ _. Ok all)) (first_is all (target_of f.instruction) (target_low f.instruction a.0))
    ∙ go (begun all (target_of f.instruction)) (checks all fs a.1)
  where
    go : (b : Bool) → and_then (checked_all (marked all blank) fs) (λ _. Ok all) ≡ aimed all fs
        → and_then (and_then (cond b (Ok (tt {0})) (Err (image_fault Target f.place))) (λ _. checked_all (marked all blank) fs)) (λ _. Ok all) ≡ cond b (aimed all fs) (Err (image_fault Target f.place))
    go true h = h
    go false h = refl

-- the listing by way of that test
listing_checked : (im : List ℕ) (fs : List Found) → walk 0 false 0 im ≡ Ok fs → listing im ≡ and_then (checked_all (marked fs blank) fs) (λ _. Ok (printed fs))
listing_checked im fs e =
    ap (λ w. and_then (and_then w (λ fs. aimed fs fs)) (λ fs. Ok (printed fs))) e
    ∙ ap (λ w. and_then w (λ fs. Ok (printed fs))) (sym (checks fs fs (walk_in_range im 0 false 0 fs e)))
    ∙ go (checked_all (marked fs blank) fs)
  where
    go : (r : Result (Unit {0}) ImageFault) → and_then (and_then r (λ _. Ok fs)) (λ fs. Ok (printed fs)) ≡ and_then r (λ _. Ok (printed fs))
    go (Ok u) = refl
    go (Err x) = refl

-- the listing by way of the map of first bytes and that test
pub listing_tested : (im : List ℕ) (m : List Bool) → Ok m ≡ firsts (walk 0 false 0 im) blank → listing im ≡ and_then (checked m (walk 0 false 0 im)) (λ _. Ok (printed (found_in (walk 0 false 0 im))))
listing_tested im m = go (walk 0 false 0 im) refl
  where
    go : (w : Result (List Found) ImageFault) → walk 0 false 0 im ≡ w → Ok m ≡ firsts w blank → listing im ≡ and_then (checked m w) (λ _. Ok (printed (found_in w)))
    go (Ok fs) e h = listing_checked im fs e ∙ ap (λ k. and_then (checked_all k fs) (λ _. Ok (printed fs))) (let x : marked fs blank ≡ m = cc in x)
    go (Err x) e h = let z : ◌≡◌ {A = ℕ} 0 1 = cc in absurd (omega arith)
