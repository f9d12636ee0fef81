use Rattle.std.proofs.Common.{◌≡◌, ◌∷◌, ap, arith, rules}
use Rattle.sequence.specs.Translations.{labels_in}
use Rattle.translator.proofs.Counting.{labels_fit}
use Rattle.translator.proofs.sizes.count.Goals as goal

pub overflow_add-labels : goal.overflow_add-labels
overflow_add-labels c =
    let e : c.loop-line.line-iterator ≡ c.in-Some.line.now ∷ c.next.new.self = search rules in
    omega (arith, ap labels_in e, labels_fit c.args.text.now)
