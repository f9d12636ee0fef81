use Rattle.std.proofs.Common.{length, drop, sym, ap, ◌∙◌, subst, arith, rules}
use Rattle.sequence.specs.Texts.{lines}
use Rattle.sequence.specs.Translations.{planned}
use Rattle.relisting.proofs.RoundTrips.{round_trips}
use Rattle.translator.specs.Answers.{translated, TableAfter}
use Rattle.translator.specs.Plans.{plan_of}
use Rattle.translator.proofs.Outcomes.{both_done, accepted, front_set}
use Rattle.translator.proofs.translate.Goals as goal

pub returns-clause-table : goal.returns-clause-table
returns-clause-table c =
    let s = c.args.text.now in let m = c.args.image.now in let t = c.args.labels.now in let p = c.place_lines.new.self in let u = p.table.now in
    let k = sym (ap (planned 1 (lines s)) c.new-plan.ensures.plan) ∙ c.in_ok-place_lines.ensures.planned in
    let e = both_done s (length m) (length t) (sym c.if-not-is_sized.ensures) (omega arith) (omega arith) (plan_of p) k c.in_ok-bytes.bytes (sym c.in_ok-bytes.ensures) in
    let r = c.in_ok-place_lines.ensures.table in
    subst (λ u. TableAfter t u (translated s (length m) (length t))) {x = u} (search rules)
    (subst (TableAfter t u) (sym e) (front_set p.filled t u p.within (r.size ∙ ap length c.new-plan.ensures.table) (r.rest ∙ ap (drop p.filled) c.new-plan.ensures.table)))

pub returns-clause-round : goal.returns-clause-round
returns-clause-round c =
    let s = c.args.text.now in let m = c.args.image.now in let t = c.args.labels.now in let p = c.place_lines.new.self in
    let k = sym (ap (planned 1 (lines s)) c.new-plan.ensures.plan) ∙ c.in_ok-place_lines.ensures.planned in
    let e = both_done s (length m) (length t) (sym c.if-not-is_sized.ensures) (omega arith) (omega arith) (plan_of p) k c.in_ok-bytes.bytes (sym c.in_ok-bytes.ensures) in
    round_trips s c.copy_from_slice.new.self _ (accepted s (length m) (length t) _ e) (sym c.copy_from_slice.ensures.after) (omega arith) (λ q. (c.type_inv.image q).fits)
