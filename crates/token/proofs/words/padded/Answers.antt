use Rattle.std.proofs.Common.{drop, replicate, ap, ◌∙◌, ◌++◌}
use Rattle.token.proofs.Names.{padded}
use Rattle.token.proofs.words.padded.Goals as goal

pub returns : goal.returns
returns c = ap (λ l. l ++ drop c.min-n.result (replicate 8 0)) c.copy_from_slice.ensures.after ∙ padded c.args.name.now c.min-n.result c.min-n.ensures
