use Rattle.std.proofs.Common.{◌∙◌, ap, rules, tests}
use Rattle.std.specs.Option.{option_map}
use Rattle.std.specs.Str.{bytes_eq}
use Rattle.std.proofs.lemmas.Iterator.{YieldsList-from_slice}
use Rattle.std.proofs.lemmas.Iterator.Search.{find_from_yields_List}
use Rattle.sequence.specs.declared.text.Label.{Label}
use Rattle.translator.specs.Plans.{entries}
use Rattle.translator.proofs.Searches.{mapped, place_found}
use Rattle.translator.proofs.plan.Plan.find.Goals as goal

pub returns : goal.returns
returns c =
    let ls = entries c.args.self.now in
    mapped (λ b. b.now) (λ (l : Label). l.place) _ (λ x y p. search rules) _ _ c.map.ensures.cases
    ∙ ap (option_map (λ (l : Label). l.place)) (find_from_yields_List (λ (l : Label). bytes_eq l.name c.args.name) _ _ c.find.result c.find.ensures.ran (YieldsList-from_slice ls cc) (λ x b q k. search (rules, tests)))
    ∙ place_found ls c.args.name
