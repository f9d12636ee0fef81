use Rattle.std.proofs.Common.{true, ap, ◌∙◌, rules}
use Rattle.std.proofs.lemmas.Iterator.Consumers.{YieldsList-from_first, YieldsList-from_filter, count_from_yields_List}
use Rattle.sequence.specs.Texts.{Token, tokens, is_label}
use Rattle.token.specs.Spots.{left, token_of}
use Rattle.translator.proofs.Counting.{labels_filtered}
use Rattle.translator.proofs.sizes.count_in_line.Goals as goal

pub returns : goal.returns
returns c =
    let ts = tokens 1 true c.args.line.now in
    count_from_yields_List c.filter.result c.count.result c.count.ensures.ran (YieldsList-from_filter _ (λ (t : Token). is_label t.bytes) (YieldsList-from_first token_of left ts (ap left c.filter.ensures.source ∙ c.new.ensures.tokens)) c.filter.ensures.closure (λ x b q k. search rules)) ∙ labels_filtered ts
