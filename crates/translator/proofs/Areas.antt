-- When a line has no place.
use Rattle.std.proofs.Common.{◌≡◌, ◌+◌, Bool, true, false, ◌&&◌, Err, refl, ap}
use Rattle.isa.specs.declared.refusal.Refusal.TheVariants.{Area}
use Rattle.isa.specs.Checks.{require}
use Rattle.isa.specs.Places.{all_user}
use Rattle.sequence.specs.declared.text.Source.{Source}
use Rattle.sequence.specs.Lines.{text_fault}
use Rattle.sequence.specs.Placings.{Plan, written_user, width_of, in_area}

pub no_area : (x : Source) (s : Plan) → (s.opened ≡ true → written_user x.written ≡ true → all_user s.next (width_of x + 1) ≡ true → ⊥) → in_area x s ≡ Err (text_fault Area x.line 0)
no_area x s h = ap (λ b. require b (text_fault Area x.line 0)) (refused s.opened (written_user x.written) (all_user s.next (width_of x + 1)) h)
  where
    refused : (a b c : Bool) → (a ≡ true → b ≡ true → c ≡ true → ⊥) → (a && (b && c)) ≡ false
    refused false b c h = refl
    refused true false c h = refl
    refused true true false h = refl
    refused true true true h = absurd (h refl refl refl)
