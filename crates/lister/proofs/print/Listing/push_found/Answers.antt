use Rattle.std.proofs.Common.{ℕ, List, [], ◌∷◌, ◌++◌, sym, subst, arith}
use Rattle.sequence.specs.declared.image.Found.{Found}
use Rattle.sequence.specs.Listings.{space, line_feed, instruction_text, instruction_line}
use Rattle.sequence.specs.Numbers.{decimal}
use Rattle.lister.specs.Writes.{HasRoom, Appends}
use Rattle.lister.proofs.Writing.{decimal_is, room_first, room_rest, appends_more}
use Rattle.lister.proofs.print.Listing.push_found.Goals as goal
use Rattle.lister.proofs.print.Listing.push_found.Goals.{After-push_number}

-- what comes after the place and its space
abbrev tail : Found → List ℕ
tail f = instruction_text f.instruction ++ (line_feed ∷ [])

-- the place was written, and what comes after it has room
number : (c : After-push_number) → Appends (decimal c.args.found.place) c.push_opening.new.self c.push_number.new.self
number c = subst (λ s. Appends s c.push_opening.new.self c.push_number.new.self) (decimal_is c.args.found.place (omega arith)) c.push_number.ensures

rest : (c : After-push_number) → HasRoom (space ∷ tail c.args.found) c.push_number.new.self
rest c = room_rest (space ∷ tail c.args.found) (number c) (room_rest (instruction_line c.args.found.place c.args.found.instruction) c.push_opening.ensures c.requires.room)

pub push_number-requires : goal.push_number-requires
push_number-requires c =
    let p = c.args.found.place in
    subst (λ s. HasRoom s c.push_opening.new.self) (sym (decimal_is p (omega arith)))
    (room_first (decimal p) (space ∷ tail c.args.found) c.push_opening.new.self (room_rest (instruction_line p c.args.found.instruction) c.push_opening.ensures c.requires.room))

pub push-requires : goal.push-requires
push-requires c = room_first (space ∷ []) (tail c.args.found) c.push_number.new.self (rest (goal.at.push-requires c).After-push_number)

pub push_instruction-requires-clause-room : goal.push_instruction-requires-clause-room
push_instruction-requires-clause-room c =
    room_first (instruction_text c.args.found.instruction) (line_feed ∷ []) c.push.new.self (room_rest (tail c.args.found) c.push.ensures (rest (goal.at.push_instruction-requires-clause-room c).After-push_number))

pub push-requires-2 : goal.push-requires-2
push-requires-2 c = room_rest (line_feed ∷ []) c.push_instruction.ensures (room_rest (tail c.args.found) c.push.ensures (rest (goal.at.push-requires-2 c).After-push_number))

pub returns : goal.returns
returns c = appends_more c.push_opening.ensures (appends_more (number (goal.at.returns c).After-push_number) (appends_more c.push.ensures (appends_more c.push_instruction.ensures c.push-2.ensures)))
