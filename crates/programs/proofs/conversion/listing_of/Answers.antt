use Rattle.std.proofs.Common.{◌≡◌, ℕ, List, length, take, Ok, Err, Result, IsOkAnd, MatchResult, ap, ◌∙◌, arith, rules}
use Rattle.std.specs.Global.{Vec}
use Rattle.sequence.specs.declared.image.ImageFault.{ImageFault}
use Rattle.sequence.specs.Listings.{listing_room, listed, answered, written}
use Rattle.programs.specs.Conversions.{listing_in}
use Rattle.programs.proofs.Listings.{lent-take, listing_done, listing_refused}
use Rattle.programs.proofs.conversion.listing_of.Goals as goal

mapped : {P : ℕ → Vec ℕ → Type 0} (before after : List ℕ) → length before ≡ listing_room → (im : List ℕ) (a : Result ℕ ImageFault) (r : Result (Vec ℕ) ImageFault)
    → MatchResult a (λ n. IsOkAnd r (P n)) (λ f. r ≡ Err f) → ((n : ℕ) (v : Vec ℕ) → P n v → v.items ≡ take n after)
    → a ≡ answered (listed im (length before)) → after ≡ written before (listed im (length before)) → listing_in r ≡ listed im listing_room
mapped before after room im (Ok n) (Ok v) m k a o = ap Ok (k n v m) ∙ listing_done before after n room im a o
mapped before after room im (Ok n) (Err f) m k a o = absurd m
mapped before after room im (Err f) r m k a o = ap listing_in m ∙ listing_refused before after 0 room im f a

pub returns : goal.returns
returns c =
    let kept = lent-take c.in_ok-listing.listing.len c.list-answer.new.out c.in_ok-listing.listing.items (omega arith) in
    mapped _ c.list-answer.new.out (omega (arith, c.in_ok-listing.ensures.len)) c.args.image.now _ c.map.result c.map.ensures.cases
    (λ n v m. let x : v.items ≡ take n (take c.in_ok-listing.listing.len _) = search rules in x ∙ ap (take n) kept) c.list-answer.ensures.answer c.list-answer.ensures.output
