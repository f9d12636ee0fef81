use Rattle.std.proofs.Common.{ℕ, ◌^◌, ◌≤◌, arith}
use Rattle.std.proofs.Math.Nat.{pow-le-pow_right}
use Rattle.token.proofs.words.value.Goals as goal

low : (k : ℕ) → k ≤ 8 → 10 ^ k ≤ 10 ^ 8
low k h = pow-le-pow_right (omega arith) {i = k} {j = 8} h

pub overflow_mul-n : goal.overflow_mul-n
overflow_mul-n c = omega (arith, low c.loop-b.b-index (omega arith))

pub overflow_add-n : goal.overflow_add-n
overflow_add-n c = grind (arith, low c.loop-b.b-index (omega arith))

pub returns-clause-low : goal.returns-clause-low
returns-clause-low c = omega (arith, low c.loop-b.b-index (omega arith))
