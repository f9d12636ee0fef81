use Rattle.std.proofs.Common.{◌∙◌, rules}
use Rattle.std.proofs.lemmas.Iterator.{YieldsList-from_slice}
use Rattle.std.proofs.lemmas.Iterator.Consumers.{count_from_yields_List}
use Rattle.std.proofs.lemmas.Iterator.Search.{YieldsList-from_take_while}
use Rattle.std.proofs.lemmas.List.Folds.{length-prefix_len}
use Rattle.token.proofs.scanner.front_len.Goals as goal

pub returns-clause-size : goal.returns-clause-size
returns-clause-size g c p is_p =
    count_from_yields_List c.take_while.result _ c.count.ensures.ran (YieldsList-from_take_while _ p (YieldsList-from_slice c.args.s.now cc) c.take_while.ensures.closure c.take_while.ensures.done (λ x b q k. (search rules, is_p _ _ (search rules)))) ∙ length-prefix_len p c.args.s.now
