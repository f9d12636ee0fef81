-- User places of an instruction.
use Rattle.std.proofs.Common.{◌≡◌, ℕ, suc, ◌+◌, ◌-◌, true, sym, ap, ◌∙◌, arith}
use Rattle.std.proofs.lemmas.Bool.Decides.{nat_tests}
use Rattle.isa.specs.declared.shape.Shape.{Shape}
use Rattle.isa.specs.declared.shape.Shape.TheVariants.{Plain, Byte, Pair, Word, Target, TargetByte, Signed, Long}
use Rattle.isa.specs.Places.{user, all_user}
use Rattle.isa.specs.Shapes.{width_of}

-- an instruction that begins in a user place lies in user places if its last byte does
pub last_user : (h : Shape) (p : ℕ) → user p ≡ true → all_user (suc p) (width_of h - 1) ≡ user (p + (width_of h - 1))
last_user Plain p u = sym u ∙ ap user (let x : p ≡ p + 0 = omega arith in x)
last_user Byte p u = grind (arith, nat_tests)
last_user Pair p u = grind (arith, nat_tests)
last_user Word p u = grind (arith, nat_tests)
last_user Target p u = grind (arith, nat_tests)
last_user TargetByte p u = grind (arith, nat_tests)
last_user Signed p u = grind (arith, nat_tests)
last_user Long p u = grind (arith, nat_tests)
