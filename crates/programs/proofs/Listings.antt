-- What the lister answers and writes is the listing.
use Rattle.std.proofs.Common.{refl, ◌≡◌, ℕ, ◌≤◌, ◌&&◌, List, ◌++◌, length, take, drop, Ok, Err, Result, ◌==◌, nat_le, sym, ap, ◌∙◌, arith}
use Rattle.std.proofs.lemmas.Bool.{and_parts, eqb-true}
use Rattle.std.proofs.lemmas.List.Edits.{sets, sets-eq}
use Rattle.std.proofs.Math.Seq.{take-append_seam}
use Rattle.isa.specs.declared.refusal.Refusal.TheVariants.{Size}
use Rattle.isa.specs.Checks.{require}
use Rattle.isa.specs.Places.{image_size}
use Rattle.sequence.specs.declared.image.ImageFault.{ImageFault}
use Rattle.sequence.specs.Images.{image_fault}
use Rattle.sequence.specs.Listings.{listing, listing_room, listed, answered, written}
use Rattle.sequence.proofs.Lengths.{short}
use Rattle.layout.proofs.Basics.{ok_then, ok_require}

-- what is set in front of a list stands there
pub front-sets : {A : Type 0} (xs l : List A) → length xs ≤ length l → take (length xs) (sets l 0 xs) ≡ xs
front-sets xs l h = ap (take (length xs)) (sets-eq xs l 0 (omega arith)) ∙ take-append_seam xs _

-- what a lent vector holds afterwards
pub lent-take : {A : Type 0} (n : ℕ) (new old : List A) → length new ≡ n → take n (new ++ drop (length new) old) ≡ new
lent-take n new old h = rw (sym h) (take-append_seam new _)

listed_short : (im text : List ℕ) → listed im listing_room ≡ Ok text → length text ≤ listing_room
listed_short im text e =
    let u = ok_then (require (length im == image_size && nat_le listing_room listing_room) (image_fault Size 0)) (λ _. listing im) text e in
    let t = and_parts _ _ (ok_require _ _ _ u.1) in
    short im (eqb-true _ _ t.0) text u.2

module _ (before after : List ℕ) (n : ℕ) (room : length before ≡ listing_room) where
  done : (r : Result (List ℕ) ImageFault) → ((text : List ℕ) → r ≡ Ok text → length text ≤ listing_room)
      → Ok n ≡ answered r → after ≡ written before r → Ok (take n after) ≡ r
  done (Ok text) fits a o =
      let size : n ≡ length text = cc in
      rw (size, o) (ap Ok (front-sets text before (let h = fits text refl in omega arith)))
  done (Err f) fits a o = cc

  pub listing_done : (im : List ℕ) → Ok n ≡ answered (listed im (length before)) → after ≡ written before (listed im (length before))
      → Ok (take n after) ≡ listed im listing_room
  listing_done im a o = done (listed im listing_room) (listed_short im) (rw room at a) (rw room at o)

  refused : (r : Result (List ℕ) ImageFault) (f : ImageFault) → Err f ≡ answered r → Err f ≡ r
  refused (Ok text) f a = cc
  refused (Err g) f a = cc

  pub listing_refused : (im : List ℕ) (f : ImageFault) → Err f ≡ answered (listed im (length before)) → Err f ≡ listed im listing_room
  listing_refused im f a = refused (listed im listing_room) f (rw room at a)
