use Rattle.std.proofs.Common.{◌≡◌, suc, ap, ◌∙◌, rules}
use borrow.Author.Tests.{tests}
use Rattle.std.specs.Prelude.{not, position}
use Rattle.std.specs.Option.{option_map}
use Rattle.std.proofs.lemmas.Iterator.{YieldsList-from_slice}
use Rattle.std.proofs.lemmas.Iterator.Search.{position_from_yields_List}
use Rattle.sequence.specs.Lines.{allowed}
use Rattle.parser.proofs.line.first_bad.Goals as goal

pub returns : goal.returns
returns c =
    let s = c.args.text.now in
    let at : c.position.result ≡ position (λ b. not (allowed b)) s = position_from_yields_List (λ b. not (allowed b)) _ _ c.position.result c.position.ensures.ran (YieldsList-from_slice s cc) (λ x b q k. search (rules, tests)) in
    let m : c.map.result ≡ option_map suc c.position.result = search rules in
    m ∙ ap (option_map suc) at
