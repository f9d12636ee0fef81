use Rattle.std.proofs.Common.{◌≡◌, ◌+◌, length, Ok}
use Rattle.std.specs.Iterator.Adapters.{zip_first, zip_second}
use Rattle.sequence.specs.Texts.{lines}
use Rattle.sequence.specs.Translations.{planned, assembled, blank}
use Rattle.sequence.specs.Placings as Placings
use Rattle.translator.specs.Plans.{plan_of}
use Rattle.translator.proofs.plan.Plan.assemble.Given as goal

abbrev pub invariant-loop-number : goal.invariant-loop-number
invariant-loop-number l =
    record {
      number : (zip_first l.number-iterator).start + length (zip_second l.number-iterator) ≡ 1 + length (lines l.text);
      under_way : (s : Placings.Plan) × (planned (zip_first l.number-iterator).start (zip_second l.number-iterator) s ≡ Ok (plan_of l.self)) × (s.next ≡ l.place);
      assembled : assembled (plan_of l.self) (zip_first l.number-iterator).start (zip_second l.number-iterator) l.place l.image ≡ assembled (plan_of l.self) 1 (lines l.text) 0 blank;
    }
