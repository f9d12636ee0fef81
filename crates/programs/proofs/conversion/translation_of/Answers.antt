use Rattle.std.proofs.Common.{◌≡◌, ℕ, take, replicate, rules}
use Rattle.std.proofs.lemmas.List.{length-replicate}
use Rattle.isa.specs.Places.{image_size}
use Rattle.sequence.specs.declared.text.Label.{Label}
use Rattle.sequence.specs.Translations.{most_labels}
use Rattle.programs.proofs.Translations.{translation_done}
use Rattle.programs.proofs.conversion.translation_of.Goals as goal

pub returns : goal.returns
returns c =
    let n = c.in_ok-counts.counts in let e = c.in_ok-counts.ensures in
    let t : c.truncate.new.self.items ≡ take n.labels c.translate.new.labels = search rules in
    rw t (translation_done (replicate image_size 0) c.translate.new.image (replicate most_labels c.default-table.result) c.translate.new.labels (length-replicate {A = ℕ} image_size 0) (length-replicate {A = Label} most_labels c.default-table.result) c.args.text.now n e.answer e.image e.table)
