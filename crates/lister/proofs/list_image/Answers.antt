use Rattle.std.proofs.Common.{◌≡◌, false, Ok, Err, sym, ap, ◌∙◌, arith}
use Rattle.std.proofs.lemmas.Result.{err_from_is_err_and}
use Rattle.isa.specs.Checks.{and_then}
use Rattle.sequence.specs.Images.{walk}
use Rattle.sequence.specs.Listings.{listing, answered, written, printed}
use Rattle.sequence.proofs.Lengths.{short}
use Rattle.lister.specs.Walks.{found_in}
use Rattle.lister.proofs.Tests.{listing_tested}
use Rattle.lister.proofs.list_image.Goals as goal
use Rattle.lister.proofs.list_image.Goals.{In_ok-check}

-- what was tested is listed
accepted : (c : In_ok-check) → listing c.args.image.now ≡ Ok (printed (found_in (walk 0 false 0 c.args.image.now)))
accepted c = listing_tested c.args.image.now _ c.in_ok-firsts.ensures ∙ ap (λ r. and_then r (λ _. Ok (printed (found_in (walk 0 false 0 c.args.image.now))))) (sym c.in_ok-check.ensures)

pub returns-in_err-check : goal.returns-in_err-check
returns-in_err-check c =
    let im = c.args.image.now in
    let x = err_from_is_err_and c.from_residual-in_err-check.result c.from_residual-in_err-check.ensures.1 in
    let e = listing_tested im _ c.in_ok-firsts.ensures ∙ ap (λ r. and_then r (λ _. Ok (printed (found_in (walk 0 false 0 im))))) (sym c.in_err-check.ensures) in
    record { answer = x.1 ∙ ap Err x.2 ∙ ap answered (sym e); output = ap (written c.args.out.now) (sym e) }

pub print-requires-clause-room : goal.print-requires-clause-room
print-requires-clause-room c = let s = short c.args.image.now c.told-image _ (accepted (goal.at.print-requires-clause-room c).In_ok-check) in omega arith

pub returns : goal.returns
returns c =
    let e = accepted (goal.at.returns c).In_ok-check in
    record { answer = c.print.ensures.answer ∙ ap answered (sym e); output = c.print.ensures.output ∙ ap (written c.args.out.now) (sym e) }
