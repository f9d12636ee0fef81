use Rattle.std.proofs.Common.{◌≡◌, true, arith, rules}
use Rattle.isa.specs.Shapes.{width_of}
use Rattle.isa.specs.Codes.{in_range, width}
use Rattle.isa.proofs.RoundTrip.{reads_back, entry_width}
use Rattle.isa.proofs.codec.encode.Goals as goal

pub returns-clause-value : goal.returns-clause-value
returns-clause-value c =
    let i = c.args.instruction in
    let w : width_of c.in_ok-entry.entry.shape ≡ width i = entry_width i c.in_ok-entry.entry (search rules) in
    grind arith

pub returns-clause-law : goal.returns-clause-law
returns-clause-law c =
    let r : in_range c.args.instruction ≡ true = search rules in
    reads_back c.args.instruction r
