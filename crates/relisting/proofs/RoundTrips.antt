-- Lister and translator undo each other.
use Rattle.std.proofs.Common.{◌≡◌, ℕ, ◌<◌, ◌≤◌, List, length, get_or, Ok, Err, Result, sym, ap, ◌∙◌, ⊎_elim, arith}
use Rattle.std.proofs.lemmas.List.{get_or_past, get_or_default}
use Rattle.std.proofs.lemmas.Bool.{cases_lt}
use Rattle.isa.specs.Places.{image_size}
use Rattle.sequence.specs.Translations.{Translation, translation}
use Rattle.sequence.specs.Listings.{listing}
use Rattle.sequence.specs.RoundTrips.{Relists, RefusesRightly, ListedAgain, RoundTrips}
use Rattle.layout.proofs.Laying.{lays_out}
use Rattle.relisting.proofs.Again.{reads_again}
use Rattle.relisting.proofs.Listed.{always_listed}

-- bytes stay bytes with another default
small_bytes : (im : List ℕ) → ((q : ℕ) → get_or im q 0 < 256) → (q : ℕ) → get_or im q 255 < 256
small_bytes im small q =
    ⊎_elim (λ (h : q < length im). let e = get_or_default im q 255 0 h in let s = small q in omega arith) (λ (h : length im ≤ q). let e = get_or_past im q 255 h in omega arith) (cases_lt q (length im))

pub relists : (im : List ℕ) → ((q : ℕ) → get_or im q 0 < 256) → Relists im
relists im small len out e = reads_again im out len (small_bytes im small) e

pub listed_again : (text : List ℕ) → ListedAgain text
listed_again text t e = let x = lays_out text t e in always_listed x.items t.image x.laid

not_both : {A E : Type 0} (r : Result A E) (a : A) (f : E) → r ≡ Ok a → r ≡ Err f → ⊥
not_both r a f e g = let z : ◌≡◌ {A = ℕ} 0 1 = cc in omega arith

pub refuses_rightly : (im : List ℕ) → RefusesRightly im
refuses_rightly im f e text y =
    let x = listed_again text y.0 y.1 in
    not_both (listing im) x.0 f (ap listing (sym y.2) ∙ x.1) e

pub round_trips : (text im : List ℕ) (t : Translation) → translation text ≡ Ok t → t.image ≡ im → length im ≡ image_size → ((q : ℕ) → get_or im q 0 < 256) → RoundTrips im
round_trips text im t e same len small =
    let x = listed_again text t e in
    let l : listing im ≡ Ok x.0 = ap listing (sym same) ∙ x.1 in
    (x.0, l, relists im small len x.0 l)
