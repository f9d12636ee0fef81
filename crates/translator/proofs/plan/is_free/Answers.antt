use Rattle.std.proofs.Common.{◌≡◌, ◌+◌, ◌-◌, take, drop, ap, ◌∙◌, arith, rules, tests}
use Rattle.std.specs.List.{list_all}
use Rattle.std.proofs.lemmas.Iterator.{YieldsList-from_slice}
use Rattle.std.proofs.lemmas.Iterator.Search.{all_from_yields_List}
use Rattle.sequence.specs.declared.text.Kind.TheVariants.{Free}
use Rattle.sequence.specs.Placings.{is_free}
use Rattle.translator.proofs.Searches.{every_all}
use Rattle.translator.proofs.plan.is_free.Goals as goal

pub returns : goal.returns
returns c =
    let m = c.args.kinds.now in let p = c.args.p in let n = c.args.n in
    all_from_yields_List is_free _ _ c.all.result c.all.ensures.ran (YieldsList-from_slice (take (p + n - p) (drop p m)) cc) (λ x b q k. search (rules, tests))
    ∙ ap (λ k. list_all is_free (take k (drop p m))) (let e : p + n - p ≡ n = omega arith in e) ∙ every_all is_free Free m n p (omega arith)
