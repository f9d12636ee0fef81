use Rattle.std.proofs.Common.{◌≡◌, suc, ◌+◌, ◌-◌, replicate, set, ap, ◌∙◌, arith, length-set}
use Rattle.std.proofs.lemmas.List.Edits.{sets}
use Rattle.sequence.specs.declared.text.Kind.TheVariants.{First, Further}
use Rattle.translator.proofs.Writes.{fill_sets}
use Rattle.translator.proofs.plan.lay_down.Goals as goal

pub returns : goal.returns
returns c =
    let p = c.args.p in let w = c.args.w in let m = set c.args.kinds.now p First in
    fill_sets (p + 1) (p + w - (p + 1)) (w - 1) m c.fill.new.self Further (c.fill.ensures.after (λ y e. e)) (omega arith) (omega (arith, length-set c.args.kinds.now p First))
    ∙ ap (λ q. sets m q (replicate (w - 1) Further)) (let x : p + 1 ≡ suc p = omega arith in x)
