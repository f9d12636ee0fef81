use Rattle.std.proofs.Common.{◌≡◌, [], ◌∷◌, Ok, sym, arith}
use Rattle.isa.specs.Codes.{decoded}
use Rattle.isa.proofs.RoundTrip.{stood}
use Rattle.isa.proofs.codec.decode_parts.Goals as goal

pub returns-in-Ok-clause-law : goal.returns-in-Ok-clause-law
returns-in-Ok-clause-law c =
    let i = c.in-Ok.entry.instruction in
    let v : Ok i ≡ decoded (c.args.letter ∷ c.args.low ∷ c.args.middle ∷ c.args.high ∷ []) = grind arith in
    stood c.args.letter c.args.low c.args.middle c.args.high (omega arith) (omega arith) (omega arith) i (sym v)
