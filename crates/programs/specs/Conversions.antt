-- What the conversions answer, as the definitions see it.
use Rattle.std.specs.Prelude.{ℕ, List, Ok, Err, Result}
use Rattle.std.specs.Global.{Vec}
use Rattle.sequence.specs.declared.image.ImageFault.{ImageFault}
use Rattle.sequence.specs.declared.text.TextFault.{TextFault}
use Rattle.sequence.specs.Translations as definition
use Rattle.programs.specs.declared.conversion.Translation.{Translation}

abbrev pub listing_in : Result (Vec ℕ) ImageFault → Result (List ℕ) ImageFault
listing_in (Ok v) = Ok v.items
listing_in (Err f) = Err f

abbrev pub translation_in : Result Translation TextFault → Result definition.Translation TextFault
translation_in (Ok t) = Ok (record { image = t.image; labels = t.labels.items; count = t.lines })
translation_in (Err f) = Err f
