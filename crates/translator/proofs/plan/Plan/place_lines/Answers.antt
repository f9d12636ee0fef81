use Rattle.std.proofs.Common.{◌≡◌, ◌+◌, ◌∷◌, length, ap, sym, ◌∙◌, arith, rules}
use Rattle.std.specs.Iterator.Adapters.{zip_first, zip_second}
use Rattle.layout.proofs.LabelCounts.{label_counted}
use Rattle.sequence.specs.Translations.{labels_in, planned}
use Rattle.translator.specs.Plans.{plan_of}
use Rattle.translator.proofs.Passing.{step_done, rests_more}
use Rattle.translator.proofs.plan.Plan.place_lines.Goals as goal

pub place-requires : goal.place-requires
place-requires c =
    let e : zip_second c.loop-number.number-iterator ≡ c.in-Some.line.now ∷ zip_second c.next.new.self = search rules in
    let f = label_counted c.in-Some.number c.in-Some.line.now c.in_ok-parse.field-0 (sym c.in_ok-parse.ensures) in
    (omega (arith, ap labels_in e), omega (arith, ap length e))

pub loop-number-preserved : goal.loop-number-preserved
loop-number-preserved c =
    let i = c.loop-number.invariant in let x = c.in_ok-parse.field-0 in let b = c.in-Some.line.now in let k = c.in_ok-place.ensures.kept in
    let e : zip_second c.loop-number.number-iterator ≡ b ∷ zip_second c.next.new.self = search rules in
    let n : c.in-Some.number ≡ (zip_first c.loop-number.number-iterator).start = search rules in
    let m : (zip_first c.next.new.self).start ≡ c.in-Some.number + 1 = search rules in
    let f = label_counted c.in-Some.number b x (sym c.in_ok-parse.ensures) in record {
      number = omega (arith, ap length e);
      planned = ap (λ l. planned l (zip_second c.next.new.self) (plan_of c.place.new.self)) m ∙ sym (step_done c.in-Some.number b (zip_second c.next.new.self) _ (plan_of c.loop-number.self) e x c.in_ok-parse.ensures (plan_of c.place.new.self) c.in_ok-place.ensures.step) ∙ ap (λ l. planned l (zip_second c.loop-number.number-iterator) (plan_of c.loop-number.self)) n ∙ i.planned;
      room = omega (arith, ap labels_in e, k.0.size);
      rests = rests_more _ _ _ i.rests k.0;
      count = omega (arith, ap length e);
      few = i.few;
    }

pub returns-in_err-place-clause-table : goal.returns-in_err-place-clause-table
returns-in_err-place-clause-table c = rests_more _ _ _ c.loop-number.invariant.rests c.in_err-place.ensures.kept.0
