use Rattle.std.proofs.Common.{◌<◌, arith}
use Rattle.store.proofs.Cuts.{writing_lent, written_lent}
use Rattle.store.proofs.eeprom.EepromStore.write.Goals as goal

pub returns-clause-answer : goal.returns-clause-answer
returns-clause-answer c =
    let low : c.args.place < 2048 = omega (arith, c.in_ok-check_page.ensures.within) in
    writing_lent c.args.place c.args.self.now.bytes.now c.in_ok-check_page.ensures.present low

pub returns-clause-after : goal.returns-clause-after
returns-clause-after c =
    let low : c.args.place < 2048 = omega (arith, c.in_ok-check_page.ensures.within) in
    simp c.from.ensures (written_lent c.args.place c.args.byte c.args.self.now.bytes.now c.in_ok-check_page.ensures.present low)
