use Rattle.std.proofs.Common.{get_or, pos, sym, subst, arith}
use Rattle.sequence.specs.Numbers.{signed}
use Rattle.lister.specs.Writes.{HasRoom, Appends}
use Rattle.lister.proofs.Writing.{number_is, room_rest, room_next, spaced_more, appends_more}
use Rattle.lister.proofs.print.Listing.push_operands.Goals as goal

pub push-requires : goal.push-requires
push-requires c =
    let l = c.loop-operand in
    omega (arith, room_next c.args.operands.now l.operand-index (omega arith) c.requires.room l.invariant)

pub push_number-requires : goal.push_number-requires
push_number-requires c =
    let l = c.loop-operand in let z = get_or c.args.operands.now l.operand-index (pos 0) in
    let short = c.requires.short l.operand-index (pos 0) (omega arith) in
    subst (λ s. HasRoom s c.push.new.self) (sym (number_is z short)) (room_rest (signed z) c.push.ensures (room_next c.args.operands.now l.operand-index (omega arith) c.requires.room l.invariant))

pub loop-operand-preserved : goal.loop-operand-preserved
loop-operand-preserved c =
    let l = c.loop-operand in let z = get_or c.args.operands.now l.operand-index (pos 0) in
    let short = c.requires.short l.operand-index (pos 0) (omega arith) in
    subst (λ s. Appends s c.args.self.now c.push_number.new.self) (sym (spaced_more c.args.operands.now l.operand-index (omega arith)))
    (appends_more l.invariant (appends_more c.push.ensures (subst (λ s. Appends s c.push.new.self c.push_number.new.self) (number_is z short) c.push_number.ensures)))
