use Rattle.std.proofs.Common.{◌≤◌, length, sym, ap, ◌∙◌, rules, le-leb}
use borrow.Author.Tests.{tests}
use Rattle.std.specs.Prelude.{◌&&◌}
use Rattle.std.proofs.lemmas.Iterator.{YieldsList-from_slice}
use Rattle.std.proofs.lemmas.Iterator.Search.{all_from_yields_List}
use Rattle.sequence.specs.Texts.{every, digit}
use Rattle.token.proofs.Names.{every_is}
use Rattle.token.proofs.words.is_digits.Goals as goal

pub returns-then-not-is_empty : goal.returns-then-not-is_empty
returns-then-not-is_empty c =
    let s = c.args.s.now in
    let all = all_from_yields_List digit _ _ c.all.result c.all.ensures.ran (YieldsList-from_slice s cc) (λ x b q k. search (rules, tests)) in
    let some : 1 ≤ length s = search rules in
    all ∙ sym (every_is digit s) ∙ ap (λ t. t && every digit s) (sym (le-leb 1 (length s) some))
