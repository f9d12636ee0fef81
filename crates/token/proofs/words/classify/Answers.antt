use Rattle.std.proofs.Common.{◌≡◌, true, refl, rules}
use Rattle.sequence.specs.Texts.{is_digits}
use Rattle.token.specs.Kinds.{is_place}
use Rattle.token.proofs.Names.{digits_no_label}
use Rattle.token.proofs.words.classify.Goals as goal

pub returns-then-spot-le-MOST_DIGITS : goal.returns-then-spot-le-MOST_DIGITS
returns-then-spot-le-MOST_DIGITS c =
    let s = c.args.spot.text.now in
    let d : is_digits s ≡ true = search rules in
    let p : is_place s ≡ true = search rules in
    (refl, p, digits_no_label s d)
