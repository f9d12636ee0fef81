use Rattle.std.proofs.Common.{◌+◌, ◌<◌, refl, length, take, sym, ap, ◌∙◌, ◌∷◌, arith, rules}
use Rattle.sequence.specs.Texts.{lines}
use Rattle.token.proofs.Cuts.{front_size, cut_line, after_feed}
use Rattle.token.proofs.lines.LinesIterator.next.Goals as goal

pub returns-clause-steps : goal.returns-clause-steps
returns-clause-steps c =
    let s = c.self.inside.rest.now in
    let some : 0 < length s = search rules in
    let rest = ap (λ r. r.now) c.unwrap_or-self-inside.ensures ∙ after_feed s (c.line_len-n.result + 1) c.get.result _ refl c.get.ensures.lookup in
    sym c.self.view_is ∙ cut_line s c.line_len-n.result some (c.line_len-n.ensures.size ∙ sym (front_size s)) ∙ ap (λ l. take c.line_len-n.result s ∷ lines l) (sym rest)

pub returns-clause-goes : goal.returns-clause-goes
returns-clause-goes c = let e = returns-clause-steps c in record { on = λ _. (tt, tt, omega (arith, ap length e)); keeps = tt; rests = λ _. tt }
