use Rattle.std.proofs.Common.{◌≡◌, ◌^◌, ◌<◌, true, drop}
use Rattle.sequence.specs.Texts.{every, digit, read_on}
use Rattle.token.proofs.words.value.Given as goal

abbrev pub invariant-loop-b : goal.invariant-loop-b
invariant-loop-b l = (read_on l.n (drop l.b-index l.digits) ≡ read_on 0 l.digits) × (every digit (drop l.b-index l.digits) ≡ true) × (l.n < 10 ^ l.b-index)
