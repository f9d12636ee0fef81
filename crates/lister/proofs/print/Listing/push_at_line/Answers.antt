use Rattle.std.proofs.Common.{[], ◌∷◌, ◌++◌, sym, subst, arith}
use Rattle.sequence.specs.Listings.{line_feed}
use Rattle.sequence.specs.Numbers.{decimal}
use Rattle.lister.specs.Writes.{HasRoom, Appends}
use Rattle.lister.proofs.Writing.{decimal_is, room_first, room_rest, appends_more}
use Rattle.lister.proofs.print.Listing.push_at_line.Goals as goal
use Rattle.lister.proofs.print.Listing.push_at_line.Goals.{After-push, After-push_number}

-- the place and the end of the line have room
rest : (c : After-push) → HasRoom (decimal c.args.place ++ (line_feed ∷ [])) c.push.new.self
rest c = room_rest _ c.push.ensures c.requires

number : (c : After-push_number) → Appends (decimal c.args.place) c.push.new.self c.push_number.new.self
number c = subst (λ s. Appends s c.push.new.self c.push_number.new.self) (decimal_is c.args.place (omega arith)) c.push_number.ensures

pub push_number-requires : goal.push_number-requires
push_number-requires c =
    subst (λ s. HasRoom s c.push.new.self) (sym (decimal_is c.args.place (omega arith))) (room_first (decimal c.args.place) _ c.push.new.self (rest (goal.at.push_number-requires c).After-push))

pub push-requires-2 : goal.push-requires-2
push-requires-2 c = room_rest (line_feed ∷ []) (number (goal.at.push-requires-2 c).After-push_number) (rest (goal.at.push-requires-2 c).After-push)

pub returns : goal.returns
returns c = appends_more c.push.ensures (appends_more (number (goal.at.returns c).After-push_number) c.push-2.ensures)
