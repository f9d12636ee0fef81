use Rattle.std.proofs.Common.{◌≡◌, ◌∙◌, length, arith, rules}
use Rattle.std.specs.Prelude.{not, ◌==◌}
use Rattle.sequence.specs.Texts.{front}
use Rattle.token.proofs.Cuts.{front_size}
use Rattle.token.proofs.lines.line_len.Goals as goal

pub returns-clause-size : goal.returns-clause-size
returns-clause-size c =
    let n : c.front_len.result ≡ length (front c.args.text.now) = c.front_len.ensures.size (λ b. not (b == 10)) (λ b r q. search rules) ∙ front_size c.args.text.now in
    omega (arith, n, c.front_len.ensures.within)
