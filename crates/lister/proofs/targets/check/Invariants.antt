use Rattle.std.proofs.Common.{◌≡◌, true, false, is_ok}
use Rattle.sequence.specs.Images.{walk}
use Rattle.lister.specs.Walks.{left}
use Rattle.lister.specs.Targets.{checked}
use Rattle.lister.proofs.targets.check.Given as goal

abbrev pub invariant-loop-found : goal.invariant-loop-found
invariant-loop-found l =
    goal.iterator-loop-found.can_next l.found-iterator
    × goal.iterator-loop-found.is_finite l.found-iterator
    × (is_ok (left l.found-iterator) ≡ true)
    × (checked l.firsts (left l.found-iterator) ≡ checked l.firsts (walk 0 false 0 l.image))
