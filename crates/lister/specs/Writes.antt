-- Bytes written one after the other into a buffer.
use Rattle.std.specs.Prelude.{◌≡◌, ℕ, ◌+◌, ◌≤◌, List, ◌∷◌, length, ℤ, flat_map}
use Rattle.std.proofs.lemmas.List.Edits.{sets}
use Rattle.sequence.specs.Listings.{space}
use Rattle.sequence.specs.Numbers.{signed}
use Rattle.lister.specs.declared.print.Listing.{Listing}

-- the text fits into the buffer, after what there is
abbrev pub HasRoom : List ℕ → Listing → Type 0
HasRoom text l = l.len + length text ≤ length l.out.now

-- the text was written after what there was, and nothing else changed
pub record Appends (text : List ℕ) (before after : Listing) : Type 0 where
  pub same : after.out.ghost_name ≡ before.out.ghost_name
  pub output : after.out.now ≡ sets before.out.now before.len text
  pub len : after.len ≡ before.len + length text

-- operands, each after a space
abbrev pub spaced : List ℤ → List ℕ
spaced = flat_map (λ z. space ∷ signed z)
