use Rattle.std.proofs.Common.{◌≡◌, ◌<◌, length, refl, rules}
use Rattle.std.specs.Prelude.{not}
use Rattle.sequence.specs.Texts.{gap}
use Rattle.token.proofs.Fronts.{next_some, next_none}
use Rattle.token.proofs.scanner.ScannerIterator.next.Goals as goal

pub returns-then-is_empty-2 : goal.returns-then-is_empty-2
returns-then-is_empty-2 c =
    let none : length c.split_at-2.result.0.now ≡ 0 = search rules in
    let skip = c.split_at.ensures in
    let cut = c.split_at-2.ensures in
    let e = next_none c.args.self.now.column _ _ _ _ _ _ _ (c.front_len.ensures.size gap (λ b r q. search rules)) skip.front_len skip.back (c.front_len-2.ensures.size (λ b. not (gap b)) (λ b r q. search rules)) cut.front cut.back none in
    (e.0, e.1, refl)

pub returns : goal.returns
returns c =
    let some : 0 < length c.split_at-2.result.0.now = search rules in
    let skip = c.split_at.ensures in
    let cut = c.split_at-2.ensures in
    let e = next_some c.args.self.now.column _ _ _ _ _ _ _ (c.front_len.ensures.size gap (λ b r q. search rules)) skip.front_len skip.back (c.front_len-2.ensures.size (λ b. not (gap b)) (λ b r q. search rules)) cut.front cut.back some in
    (e, refl, refl)
