use Rattle.std.proofs.Common.{◌≡◌, length, subst, rules}
use Rattle.isa.specs.Laws.{Decodes}
use Rattle.isa.proofs.RoundTrip.{four}
use Rattle.isa.proofs.codec.decode.Goals as goal

pub returns : goal.returns
returns c =
    let n : length c.args.bytes ≡ 4 = search rules in
    record {
      value = c.decode_parts.ensures.value;
      law = subst (λ bs. Decodes bs c.decode_parts.result) (four c.args.bytes n) c.decode_parts.ensures.law;
    }
