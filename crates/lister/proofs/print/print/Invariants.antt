use Rattle.std.proofs.Common.{◌≡◌, ◌+◌, true, false, length, is_ok}
use lib.Seq.{sets}
use Rattle.sequence.specs.Images.{walk}
use Rattle.sequence.specs.Listings.{printed}
use Rattle.lister.specs.Walks.{left, found_in}
use Rattle.lister.proofs.print.print.Given as goal

abbrev pub invariant-loop-found : goal.invariant-loop-found
invariant-loop-found l =
    record {
      can_next : goal.iterator-loop-found.can_next l.found-iterator;
      ends : goal.iterator-loop-found.is_finite l.found-iterator;
      accepted : is_ok (left l.found-iterator) ≡ true;
      same : l.listing.out.ghost_name ≡ l.initial.listing.out.ghost_name;
      output : sets l.listing.out.now l.listing.len (printed (found_in (left l.found-iterator))) ≡ sets l.initial.listing.out.now 0 (printed (found_in (walk 0 false 0 l.image)));
      len : l.listing.len + length (printed (found_in (left l.found-iterator))) ≡ length (printed (found_in (walk 0 false 0 l.image)));
    }
