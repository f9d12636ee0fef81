use Rattle.std.proofs.Common.{◌<◌, true, length, drop, Err, sym, ap, ◌∙◌, arith, length-drop, rules}
use Rattle.std.proofs.lemmas.Result.{err_from_is_err_and}
use Rattle.isa.specs.Codes.{width}
use Rattle.sequence.specs.Images.{image_fault, found_at, with_found}
use Rattle.lister.specs.Walks.{place_of, left_in}
use Rattle.lister.proofs.Steps.{left_code, left_wrong}
use Rattle.lister.proofs.walk.Walk.step.Goals as goal

pub returns-in_err-instruction : goal.returns-in_err-instruction
returns-in_err-instruction c =
    let u = c.skip_marks.new.self in let p = c.in_ok-skip_marks.ensures in let r = c.in_err-instruction.ensures in
    let some : 0 < length u.rest.now = search rules in
    let x = err_from_is_err_and c.from_residual-in_err-instruction.result c.from_residual-in_err-instruction.ensures.1 in
    rw (x.1, x.2) (p.0 ∙ left_wrong u.rest.now u.inside some u.within (p.2 some) _ r.0 ∙ ap (λ s. Err (image_fault c.in_err-instruction.field-0.0 (place_of s))) (sym r.1))

pub returns : goal.returns
returns c =
    let u = c.skip_marks.new.self in let p = c.in_ok-skip_marks.ensures in let r = c.in_ok-instruction.ensures in let i = c.in_ok-instruction.instruction in
    let some : 0 < length u.rest.now = search rules in (
      p.0 ∙ left_code u.rest.now u.inside some u.within (p.2 some) i r.0 r.1
          ∙ ap (λ q. with_found (found_at q u.inside i) (left_in true (drop (width i) u.rest.now))) (sym c.place-place.ensures)
          ∙ ap (λ s. with_found (found_at c.place-place.result u.inside i) (left_in true s)) (sym r.2),
      omega (arith, ap length r.2, length-drop (width i) u.rest.now),
      omega arith,
      r.3,
    )
