-- From image to text and back, and from text to image and back.
use Rattle.std.specs.Prelude.{◌≡◌, ℕ, List, length, Ok, Err}
use Rattle.isa.specs.Places.{image_size}
use Rattle.sequence.specs.declared.image.ImageFault.{ImageFault}
use Rattle.sequence.specs.Translations.{Translation, translation}
use Rattle.sequence.specs.Listings.{listing}

-- the text is accepted, within every limit of size, and yields this image, byte for byte
abbrev pub Yields : List ℕ → List ℕ → Type 0
Yields text im = (t : Translation) × (translation text ≡ Ok t) × (t.image ≡ im)

-- if an image is listed, its listing yields it again
abbrev pub Relists : List ℕ → Type 0
Relists im = length im ≡ image_size → (out : List ℕ) → listing im ≡ Ok out → Yields out im

-- if an image is refused, no text yields it
abbrev pub RefusesRightly : List ℕ → Type 0
RefusesRightly im = (f : ImageFault) → listing im ≡ Err f → (text : List ℕ) → Yields text im → ⊥

-- the image of an accepted text is listed
abbrev pub ListedAgain : List ℕ → Type 0
ListedAgain text = (t : Translation) → translation text ≡ Ok t → (out : List ℕ) × (listing t.image ≡ Ok out)

-- an image is listed, and its listing yields it again: so text, image, listing, image, and the same listing
abbrev pub RoundTrips : List ℕ → Type 0
RoundTrips im = (out : List ℕ) × (listing im ≡ Ok out) × Yields out im
