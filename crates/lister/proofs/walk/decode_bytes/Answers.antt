use Rattle.std.proofs.Common.{◌≡◌, [], ◌∷◌, ◌++◌, length, drop, ap, ◌∙◌, subst}
use Rattle.isa.specs.Codes.{padded, decoded}
use Rattle.isa.specs.Laws.{Decodes}
use Rattle.lister.proofs.Reading.{padded_is}
use Rattle.lister.proofs.walk.decode_bytes.Goals as goal
use Rattle.lister.proofs.walk.decode_bytes.Goals.{After-decode}

-- what was decoded is the bytes, with 0 after them
laid : (c : After-decode) → c.copy_from_slice.new.self ++ drop (length c.args.code.now) (0 ∷ 0 ∷ 0 ∷ 0 ∷ []) ≡ padded c.args.code.now
laid c = ap (λ s. s ++ drop (length c.args.code.now) (0 ∷ 0 ∷ 0 ∷ 0 ∷ [])) c.copy_from_slice.ensures.after ∙ padded_is c.args.code.now c.requires

pub returns : goal.returns
returns c = record { value = c.decode.ensures.value ∙ ap decoded (laid c); law = subst (λ b. Decodes b c.decode.result) (laid c) c.decode.ensures.law }
