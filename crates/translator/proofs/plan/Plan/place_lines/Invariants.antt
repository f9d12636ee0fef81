use Rattle.std.proofs.Common.{◌≡◌, ◌+◌, ◌≤◌, length}
use Rattle.std.specs.Iterator.Adapters.{zip_first, zip_second}
use Rattle.sequence.specs.Texts.{lines}
use Rattle.sequence.specs.Translations.{labels_in, planned}
use Rattle.translator.specs.Plans.{plan_of, Rests}
use Rattle.translator.proofs.plan.Plan.place_lines.Given as goal

abbrev pub invariant-loop-number : goal.invariant-loop-number
invariant-loop-number l =
    record {
      number : (zip_first l.number-iterator).start + length (zip_second l.number-iterator) ≡ 1 + length (lines l.text);
      planned : planned (zip_first l.number-iterator).start (zip_second l.number-iterator) (plan_of l.self) ≡ planned 1 (lines l.text) (plan_of l.initial.self);
      room : l.self.filled + labels_in (zip_second l.number-iterator) ≤ length l.self.table.now;
      rests : Rests l.initial.self l.self;
      count : l.self.lines + length (zip_second l.number-iterator) ≤ length (lines l.text);
      few : length (lines l.text) ≤ length l.text;
    }
