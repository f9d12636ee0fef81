use Rattle.std.proofs.Common.{◌≡◌, ◌+◌, ◌-◌, true, false, drop, get_or, Some, refl, ap, ◌∙◌, subst, arith, rules}
use Rattle.std.proofs.lemmas.Result.{err_from_is_err_and}
use Rattle.isa.specs.Places.{user}
use Rattle.isa.specs.Table.{shape_of}
use Rattle.isa.specs.Codes.{padded, decoded}
use Rattle.isa.specs.Laws.{Stood}
use Rattle.lister.specs.Walks.{reached}
use Rattle.lister.proofs.Reading.{read_outside, read_refused, read_accepted}
use Rattle.lister.proofs.walk.Walk.read.Goals as goal

pub returns-then-not-is_user_place-2 : goal.returns-then-not-is_user_place-2
returns-then-not-is_user_place-2 c =
    let s = c.args.self.now.rest.now in let w = c.width-width.result in
    let u : user (reached c.args.self.now) ≡ true = search rules in
    let e : shape_of (get_or s 0 0) ≡ Some c.in_ok-shape.shape = search rules in
    let v : user (reached c.args.self.now + (w - 1)) ≡ false = search rules in
    (read_outside s _ c.requires u _ e w c.width-width.ensures v, refl)

pub returns-in_err-instruction : goal.returns-in_err-instruction
returns-in_err-instruction c =
    let s = c.args.self.now.rest.now in let w = c.width-width.result in
    let u : user (reached c.args.self.now) ≡ true = search rules in
    let e : shape_of (get_or s 0 0) ≡ Some c.in_ok-shape.shape = search rules in
    let v : user (reached c.args.self.now + (w - 1)) ≡ true = search rules in
    let x = err_from_is_err_and c.from_residual-in_err-instruction.result c.from_residual-in_err-instruction.ensures.1 in
    rw (x.1, x.2) (read_refused s _ c.requires u _ e w c.width-width.ensures v _ (c.decode_bytes.ensures.value ∙ ap decoded c.split_at.ensures.front) _ c.in_err-instruction.was, refl)

pub returns : goal.returns
returns c =
    let s = c.args.self.now.rest.now in let w = c.width-width.result in
    let u : user (reached c.args.self.now) ≡ true = search rules in
    let e : shape_of (get_or s 0 0) ≡ Some c.in_ok-shape.shape = search rules in
    let v : user (reached c.args.self.now + (w - 1)) ≡ true = search rules in
    let st = subst (λ b. Stood (padded b) c.in_ok-instruction.instruction) c.split_at.ensures.front c.in_ok-instruction.ensures.law in
    let x = read_accepted s _ c.requires u _ e w c.width-width.ensures v _ (c.decode_bytes.ensures.value ∙ ap decoded c.split_at.ensures.front) _ c.in_ok-instruction.was st in
    (x.0, omega (arith, x.1, c.split_at.ensures.back_len), c.split_at.ensures.back ∙ ap (λ k. drop k s) x.1, x.2)
