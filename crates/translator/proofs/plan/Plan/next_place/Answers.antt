use Rattle.std.proofs.Common.{is_some, ◌+◌, Err, sym, ap, ◌∙◌, arith}
use Rattle.std.proofs.lemmas.Bool.{both_ways}
use Rattle.isa.specs.Places.{user, all_user}
use Rattle.layout.proofs.Basics.{every_at}
use Rattle.translator.specs.Plans.{plan_of, next_of}
use Rattle.translator.proofs.Areas.{no_area}
use Rattle.translator.proofs.plan.Plan.next_place.Goals as goal
use Rattle.translator.proofs.plan.Plan.next_place.Goals.{in_default-via-in-Some+then-written_is_user+else-is_user, in_default-via-in-Some+else-written_is_user, in_default-via-in_default}

pub returns-in_default : goal.returns-in_default
returns-in_default c =
    let x = c.args.source in let s = plan_of c.args.self.now in
    no_area x s (elim c.in_default.branch [
      | in_default-via-in-Some+then-written_is_user+else-is_user w ↦ (λ o u a.
          let e = every_at user (c.args.width + 1) s.next c.args.width (ap (λ k. all_user s.next (k + 1)) c.requires.0 ∙ a) (omega arith) in
          both_ways _ (sym w.is_user.ensures ∙ w.if-is_user.false) (ap (λ p. user (p + c.args.width)) (sym (ap next_of w.in-Some.is)) ∙ e))
      | in_default-via-in-Some+else-written_is_user w ↦ (λ o u a. cc)
      | in_default-via-in_default w ↦ (λ o u a. let n = ap is_some w.in_default.is in cc)
    ]) ∙ ap Err (sym c.new.ensures)
