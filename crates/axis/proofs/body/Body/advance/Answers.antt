use Rattle.std.proofs.Common.{◌≡◌, true, Err, sym, refl, ap, ◌∙◌, zero, suc, rules}
use Rattle.isa.specs.declared.refusal.Refusal.{Refusal}
use Rattle.port.specs.Steps.{Room, unlimited, upto, answered}
use Rattle.machine.specs.Bodies.{is_full}
use Rattle.axis.proofs.body.Body.advance.Goals as goal

-- a port refuses where it is full
refused_full : (r : Room) (e : Refusal) → answered r ≡ Err e → is_full r ≡ true
refused_full unlimited e h = cc
refused_full (upto zero) e h = refl
refused_full (upto (suc n)) e h = cc

pub returns-in_err-step-clause-body : goal.returns-in_err-step-clause-body
returns-in_err-step-clause-body g c =
    let full : is_full (g.P.StepPort.meaning c.args.port.now).room ≡ true = refused_full _ _ (sym c.step.ensures.answer ∙ c.in_err-step.was) in
    search rules

pub returns-in_err-step-clause-port : goal.returns-in_err-step-clause-port
returns-in_err-step-clause-port g c =
    let kept : g.P.StepPort.meaning c.step.new.self ≡ g.P.StepPort.meaning c.args.port.now = ap g.P.StepPort.meaning c.in_err-step.ensures.kept in
    search rules
