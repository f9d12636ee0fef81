use Rattle.std.proofs.Common.{false, length, Some, Ok, sym, ap, ◌∙◌, arith, rules}
use lib.Seq.{sets, length-sets}
use Rattle.sequence.specs.Images.{walk}
use Rattle.sequence.specs.Listings.{printed}
use Rattle.lister.specs.Walks.{left, Gives, found_in}
use Rattle.lister.proofs.Writing.{printed_more, sets_found, length_found}
use Rattle.lister.proofs.print.print.Goals as goal
use Rattle.lister.proofs.print.print.Goals.{In_ok-found}

-- the walk gave an instruction
given : (c : In_ok-found) → Gives c.loop-found.found-iterator (Some (Ok c.in_ok-found.field-0)) c.next.new.self
given c = search rules

pub push_found-requires-clause-room : goal.push_found-requires-clause-room
push_found-requires-clause-room c =
    let f = c.in_ok-found.field-0 in let i = c.loop-found.invariant in let l = c.loop-found.listing in let after = left c.next.new.self in
    let m = printed_more f (left c.loop-found.found-iterator) after (given (goal.at.push_found-requires-clause-room c).In_ok-found).0 i.accepted in
    omega (
      arith,
      ap (λ fs. length (printed fs)) m.1,
      length_found f (found_in after),
      i.len,
      ap length i.output,
      length-sets l.out.now l.len (printed (found_in (left c.loop-found.found-iterator))),
      length-sets c.args.out.now 0 (printed (found_in (walk 0 false 0 c.args.image.now))),
      c.requires.room,
    )

pub loop-found-preserved : goal.loop-found-preserved
loop-found-preserved c =
    let f = c.in_ok-found.field-0 in let i = c.loop-found.invariant in let l = c.loop-found.listing in let after = left c.next.new.self in
    let m = printed_more f (left c.loop-found.found-iterator) after (given (goal.at.loop-found-preserved c).In_ok-found).0 i.accepted in
    record {
      can_next = tt;
      ends = tt;
      accepted = m.0;
      same = c.push_found.ensures.same ∙ i.same;
      output = sym (sets_found f (found_in after) c.push_found.ensures) ∙ ap (λ fs. sets l.out.now l.len (printed fs)) (sym m.1) ∙ i.output;
      len = omega (arith, ap (λ fs. length (printed fs)) m.1, length_found f (found_in after), c.push_found.ensures.len, i.len);
    }
