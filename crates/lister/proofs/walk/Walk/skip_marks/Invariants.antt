use Rattle.std.proofs.Common.{◌≡◌, ◌≤◌, length}
use Rattle.lister.specs.Walks.{left, turns}
use Rattle.lister.proofs.walk.Walk.skip_marks.Given as goal

abbrev pub invariant-loop-self : goal.invariant-loop-self
invariant-loop-self l = (left l.initial.self ≡ left l.self) × (turns l.self ≤ turns l.initial.self)

abbrev pub decreases-loop-self : goal.decreases-loop-self
decreases-loop-self l = length l.self.rest.now
