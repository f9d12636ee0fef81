use Rattle.std.proofs.Common.{◌≡◌, ℤ, ◌<◌, [], ◌∷◌, take, nat_abs, to_z, of_z, sym, ap, ap₂, ◌∙◌, subst, w64, rules}
use Rattle.std.proofs.lemmas.List.Elements.{All-nil, All-cons, All-take}
use Rattle.std.proofs.lemmas.Int.{to_z-of_z}
use Rattle.std.specs.List.{All}
use mir.Val.{SFits}
use Rattle.isa.specs.Instructions.{letter_of, operands_of}
use Rattle.isa.specs.Table.{shape_of}
use Rattle.sequence.specs.Listings.{count, operand_text}
use Rattle.lister.specs.Writes.{HasRoom, Appends, spaced}
use Rattle.lister.proofs.Writing.{operands_are, short_operands, room_rest, appends_more}
use Rattle.lister.proofs.print.Listing.push_instruction.Goals as goal
use Rattle.lister.proofs.print.Listing.push_instruction.Goals.{After-operand_count}

-- the operands that the code has are those of the instruction
values : (c : After-operand_count) → (to_z w64 (of_z w64 c.operands-first.result.first) ∷ to_z w64 (of_z w64 c.operands-first.result.second) ∷ []) ≡ ((operands_of c.args.instruction).first ∷ (operands_of c.args.instruction).second ∷ [])
values c =
    let f : SFits w64 c.operands-first.result.first = search rules in
    let s : SFits w64 c.operands-first.result.second = search rules in
    ap₂ (λ x y. x ∷ y ∷ []) (to_z-of_z w64 _ f ∙ ap (λ o. o.first) c.operands-first.ensures) (to_z-of_z w64 _ s ∙ ap (λ o. o.second) c.operands-first.ensures)

-- their text
text : (c : After-operand_count) → spaced (take c.operand_count.result (to_z w64 (of_z w64 c.operands-first.result.first) ∷ to_z w64 (of_z w64 c.operands-first.result.second) ∷ [])) ≡ operand_text (count (shape_of (letter_of c.args.instruction))) (operands_of c.args.instruction).first (operands_of c.args.instruction).second
text c = ap₂ (λ n zs. spaced (take n zs)) c.operand_count.ensures (values c) ∙ sym (operands_are _ _ _)

-- the letter was written
lettered : (c : After-operand_count) → Appends (letter_of c.args.instruction ∷ []) c.args.self.now c.push.new.self
lettered c = subst (λ l. Appends (l ∷ []) c.args.self.now c.push.new.self) c.letter.ensures c.push.ensures

pub push_operands-requires-clause-short : goal.push_operands-requires-clause-short
push_operands-requires-clause-short c =
    let P = λ (z : ℤ). nat_abs z < 100000000 in
    let h = short_operands c.args.instruction c.requires.range in
    let y = (operands_of c.args.instruction).second in
    subst (λ zs. All P (take c.operand_count.result zs)) (sym (values (goal.at.push_operands-requires-clause-short c).After-operand_count))
    (All-take P c.operand_count.result _ (All-cons P _ (y ∷ []) h.0 (All-cons P y [] h.1 (All-nil P))))

pub push_operands-requires-clause-room : goal.push_operands-requires-clause-room
push_operands-requires-clause-room c =
    let b = (goal.at.push_operands-requires-clause-room c).After-operand_count in
    subst (λ s. HasRoom s c.push.new.self) (sym (text b)) (room_rest _ (lettered b) c.requires.room)

pub returns : goal.returns
returns c =
    let b = (goal.at.returns c).After-operand_count in
    appends_more (lettered b) (subst (λ s. Appends s c.push.new.self c.push_operands.new.self) (text b) c.push_operands.ensures)
