use Rattle.std.proofs.Common.{◌≡◌, ◌+◌, ◌-◌, ◌*◌, ◌<◌, length, take, drop, arith, length-take, length-drop}
use Rattle.store.proofs.Cuts.{cleared_lent}
use Rattle.store.proofs.eeprom.EepromStore.clear.Goals as goal

pub returns-clause-after : goal.returns-clause-after
returns-clause-after c =
    let xs = c.args.self.now.bytes.now in
    let q = c.args.page in
    let r = c.from-start.result in
    let long : length xs ≡ 2048 = c.in_ok-check_page.ensures.present in
    let few : q < 8 = c.in_ok-check_page.ensures.within in
    let same : r ≡ q = c.from-start.ensures in
    let count : 256 * q + 256 - 256 * q ≡ 256 = omega arith in
    let page : length (take 256 (drop (256 * q) xs)) ≡ 256 = simp (length-take, length-drop) (omega arith) in
    let filled = c.fill.ensures.after (λ y h. h) in
    simp (filled, page, count, same) (cleared_lent q xs long few)
