use Rattle.std.proofs.Common.{◌≡◌, ◌+◌, length, cond, Ok, Err, OnOk, sym, ap, ◌∙◌, subst, rules}
use Rattle.std.proofs.lemmas.List.Edits.{sets}
use Rattle.std.proofs.lemmas.Result.{MatchResult-at_ok}
use Rattle.isa.specs.declared.refusal.Refusal.TheVariants.{Range}
use Rattle.isa.specs.Checks.{and_then}
use Rattle.isa.specs.Codes.{encoded, width}
use Rattle.layout.proofs.Aiming.{Aimed, aimed_line}
use Rattle.sequence.specs.Translations.{painted, after}
use Rattle.translator.specs.Plans.{plan_of, Fits, Paints}
use Rattle.translator.proofs.plan.Plan.paint.Goals as goal

pub returns-in_ok-instruction-in-Holds : goal.returns-in_ok-instruction-in-Holds
returns-in_ok-instruction-in-Holds c =
    let s = plan_of c.args.self.now in let x = c.in-Holds.source in let n = c.args.place in let m = c.args.image.now in let i = c.in_ok-instruction-in-Holds.instruction in
    let k : length s.kinds ≡ 2048 = search rules in
    let a : Aimed s x.instruction i = aimed_line s x i k (subst (λ l. Fits l n) c.in-Holds.is c.requires).0 (sym c.in_ok-instruction-in-Holds.ensures) in
    let p : c.put.result ≡ Ok (n + width i) = c.put.ensures.place ∙ ap (λ b. cond b (Ok (n + width i)) (Err Range)) a.range in
    let r : c.map_err.result ≡ Ok (n + width i) = MatchResult-at_ok (λ e. c.map_err.result ≡ Ok e) _ (n + width i) p c.map_err.ensures.cases in
    let w : c.put.new.image ≡ sets m n (encoded i) = subst (λ r. OnOk r (c.put.new.image ≡ sets m n (encoded i))) p c.put.ensures.image in
    subst (λ r. Paints r (painted s c.args.line n m) c.put.new.image (after c.args.line n)) (sym r) (
      ap (λ l. painted s l n m) c.in-Holds.is ∙ ap (λ r. and_then r (λ i. Ok (sets m n (encoded i)))) (sym c.in_ok-instruction-in-Holds.ensures) ∙ ap Ok (sym w),
      ap (λ j. n + j) a.same_width ∙ sym (ap (λ l. after l n) c.in-Holds.is),
    )
