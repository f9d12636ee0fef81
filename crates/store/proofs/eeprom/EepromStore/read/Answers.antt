use Rattle.std.proofs.Common.{◌<◌, arith}
use Rattle.store.proofs.Cuts.{reading_lent}
use Rattle.store.proofs.eeprom.EepromStore.read.Goals as goal

pub returns : goal.returns
returns c =
    let low : c.args.place < 2048 = omega (arith, c.in_ok-check_page.ensures.within) in
    simp c.from.ensures (reading_lent c.args.place c.args.self.now.bytes.now c.in_ok-check_page.ensures.present low)
