-- A token by its shape.
use Rattle.std.specs.Prelude.{◌≡◌, ℕ, Bool, true, false, cond, ◌&&◌, List, length, is_some, Some, None, Option, nat_le}
use Rattle.sequence.specs.Texts.{is_name, name_of, is_label, label_name, is_digits, number_of}
use Rattle.token.specs.declared.scanner.Spot.{Spot}
use Rattle.token.specs.declared.words.Token.{Token}
use Rattle.token.specs.declared.words.Token.TheVariants.{Place, Label, Number, Letter}

abbrev pub is_place : List ℕ → Bool
is_place bs = is_digits bs && nat_le (length bs) 8

-- each case has the token's bytes, line and column
abbrev pub Shown : Token → Spot → Type 0
Shown (Place x) p = (x ≡ p) × (is_place p.text.now ≡ true) × (is_label p.text.now ≡ false)
Shown (Label x) p = (x ≡ p) × (is_place p.text.now ≡ false) × (is_label p.text.now ≡ true)
Shown (Number x) p = (x ≡ p) × (is_place p.text.now ≡ false) × (is_label p.text.now ≡ false) × (is_some (number_of p.text.now) ≡ true)
Shown (Letter x) p = (x ≡ p) × (is_place p.text.now ≡ false) × (is_label p.text.now ≡ false) × (is_some (number_of p.text.now) ≡ false)

-- the name that a token is, and the name that it labels
abbrev pub as_name : List ℕ → Option (List ℕ)
as_name bs = cond (is_name bs) (Some (name_of bs)) None

abbrev pub as_label : List ℕ → Option (List ℕ)
as_label bs = cond (is_label bs) (Some (label_name bs)) None
