use Rattle.std.proofs.Common.{◌≡◌, ◌+◌, ◌∷◌, length, ap, sym, ◌∙◌, subst, arith, rules}
use Rattle.std.specs.Iterator.Adapters.{zip_first, zip_second}
use Rattle.sequence.specs.Translations.{planned, after, assembled}
use Rattle.translator.specs.Plans.{plan_of, Fits}
use Rattle.translator.proofs.Passing.{standing, painted_on}
use Rattle.translator.proofs.plan.Plan.assemble.Goals as goal

pub paint-requires : goal.paint-requires
paint-requires c =
    let u = c.loop-number.invariant.under_way in let rest = zip_second c.loop-number.number-iterator in let x = c.in_ok-parse.field-0 in
    let e : rest ≡ c.in-Some.line.now ∷ zip_second c.next.new.self = search rules in
    let n : c.in-Some.number ≡ (zip_first c.loop-number.number-iterator).start = search rules in
    let a = standing c.in-Some.number c.in-Some.line.now _ rest u.0 (plan_of c.args.self.now) e x c.in_ok-parse.ensures (ap (λ l. planned l rest u.0) n ∙ u.1) in
    subst (Fits x) u.2 a.fits

pub loop-number-preserved : goal.loop-number-preserved
loop-number-preserved c =
    let i = c.loop-number.invariant in let u = i.under_way in let rest = zip_second c.loop-number.number-iterator in let x = c.in_ok-parse.field-0 in let p = plan_of c.args.self.now in
    let more = zip_second c.next.new.self in let k = c.in_ok-place.ensures in
    let e : rest ≡ c.in-Some.line.now ∷ more = search rules in
    let n : c.in-Some.number ≡ (zip_first c.loop-number.number-iterator).start = search rules in
    let m : (zip_first c.next.new.self).start ≡ c.in-Some.number + 1 = search rules in
    let a = standing c.in-Some.number c.in-Some.line.now more rest u.0 p e x c.in_ok-parse.ensures (ap (λ l. planned l rest u.0) n ∙ u.1) in record {
      number = omega (arith, ap length e);
      under_way = (a.plan, ap (λ l. planned l more a.plan) m ∙ a.more, a.next ∙ ap (after x) u.2 ∙ sym k.1);
      assembled = ap (λ l. assembled p l more c.in_ok-place.place c.paint.new.image) m ∙ ap (λ q. assembled p (c.in-Some.number + 1) more q c.paint.new.image) k.1 ∙ sym (painted_on p c.in-Some.number c.in-Some.line.now more rest c.loop-number.place c.loop-number.image e x c.in_ok-parse.ensures c.paint.new.image k.0) ∙ ap (λ l. assembled p l rest c.loop-number.place c.loop-number.image) n ∙ i.assembled;
    }
