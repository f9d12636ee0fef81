use Rattle.std.proofs.Common.{◌≡◌, ◌+◌, length}
use Rattle.sequence.specs.Texts.{lines}
use Rattle.sequence.specs.Translations.{labels_in}
use Rattle.translator.proofs.sizes.count.Given as goal

abbrev pub invariant-loop-line : goal.invariant-loop-line
invariant-loop-line l =
    (l.count + length l.line-iterator ≡ length (lines l.text)) × (l.labels + labels_in l.line-iterator ≡ labels_in (lines l.text))
