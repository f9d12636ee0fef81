use Rattle.std.proofs.Common.{◌≡◌, true, false, rules, arith}
use Rattle.sequence.specs.Texts.{is_label, label_name}
use Rattle.parser.proofs.Choosing.{chosen, unchosen}
use Rattle.parser.proofs.line.perhaps_label.Goals as goal

pub returns-in_default : goal.returns-in_default
returns-in_default c =
    let bs = c.args.spot.text.now in
    let t : is_label bs ≡ false = unchosen (is_label bs) (label_name bs) (search rules) in
    let e = c.instruction.ensures in
    grind arith

pub returns : goal.returns
returns c =
    let bs = c.args.spot.text.now in
    let h : (is_label bs ≡ true) × (c.in-Some.name ≡ label_name bs) = chosen (is_label bs) (label_name bs) c.in-Some.name (search rules) in
    let t = h.0 in let n = h.1 in let g = c.next.ensures in let e = c.instruction-2.ensures in
    grind arith
