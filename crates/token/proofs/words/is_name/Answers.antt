use Rattle.std.proofs.Common.{◌≤◌, length, sym, ◌∙◌, rules, le-leb}
use borrow.Author.Tests.{tests}
use Rattle.std.specs.Prelude.{◌&&◌}
use Rattle.std.proofs.lemmas.Iterator.{YieldsList-from_slice}
use Rattle.std.proofs.lemmas.Iterator.Search.{all_from_yields_List}
use Rattle.sequence.specs.Texts.{every, small}
use Rattle.token.proofs.Names.{every_is}
use Rattle.token.proofs.words.is_name.Goals as goal

pub returns-then-contains : goal.returns-then-contains
returns-then-contains c =
    let s = c.args.s.now in
    let all = all_from_yields_List small _ _ c.all.result c.all.ensures.ran (YieldsList-from_slice s cc) (λ x b q k. search (rules, tests)) in
    let some : 1 ≤ length s = search rules in
    let few : length s ≤ 8 = search rules in
    all ∙ sym (every_is small s) ∙ (λ i. (sym (le-leb 1 (length s) some) i && sym (le-leb (length s) 8 few) i) && every small s)
