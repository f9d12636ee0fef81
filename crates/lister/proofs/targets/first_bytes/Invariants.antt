use Rattle.std.proofs.Common.{◌≡◌, false, length, replicate}
use Rattle.sequence.specs.Images.{walk}
use Rattle.lister.specs.Walks.{left}
use Rattle.lister.specs.Targets.{firsts}
use Rattle.lister.proofs.targets.first_bytes.Given as goal

abbrev pub invariant-loop-found : goal.invariant-loop-found
invariant-loop-found l =
    goal.iterator-loop-found.can_next l.found-iterator
    × goal.iterator-loop-found.is_finite l.found-iterator
    × (firsts (left l.found-iterator) l.firsts ≡ firsts (walk 0 false 0 l.image) (replicate 2048 false))
    × (length l.firsts ≡ 2048)
