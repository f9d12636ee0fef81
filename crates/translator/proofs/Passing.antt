-- One line more of a pass.
use Rattle.std.proofs.Common.{◌≡◌, ℕ, ◌+◌, ◌-◌, List, ◌∷◌, drop, Ok, sym, ap, ◌∙◌, arith}
use Rattle.std.proofs.lemmas.List.{drop-drop}
use Rattle.isa.specs.Checks.{and_then}
use Rattle.isa.specs.Places.{user}
use Rattle.layout.proofs.Basics.{ok_then, ok_ok, every_at}
use Rattle.layout.proofs.Passes.{step_holds, step_opens}
use Rattle.layout.proofs.Placing.{user_low}
use Rattle.layout.proofs.Ranges.{Sound, line_sound}
use Rattle.sequence.specs.declared.text.Line.{Line}
use Rattle.sequence.specs.declared.text.Line.TheVariants.{Blank, Opens, Holds}
use Rattle.sequence.specs.Lines.{parsed}
use Rattle.sequence.specs.Placings.{Plan, width_of, step}
use Rattle.sequence.specs.Translations.{planned, painted, after, assembled}
use Rattle.translator.specs.declared.plan.Plan as declared
use Rattle.translator.specs.Plans.{Fits, Rests}

-- one line more of the first pass
module _ (l : ℕ) (b : List ℕ) (bs rest : List (List ℕ)) (s : Plan) (e : rest ≡ b ∷ bs) (x : Line) (h : Ok x ≡ parsed l b) where
  parsed_on : planned l rest s ≡ and_then (step x s) (planned (l + 1) bs)
  parsed_on = ap (λ r. planned l r s) e ∙ ap (λ r. and_then r (λ x. and_then (step x s) (planned (l + 1) bs))) (sym h)

  pub step_done : (t : Plan) → step x s ≡ Ok t → planned l rest s ≡ planned (l + 1) bs t
  step_done t k = parsed_on ∙ ap (λ r. and_then r (planned (l + 1) bs)) k

-- a line that found its place fits there, and the next line stands at the place after it
next_after : (x : Line) (s s' : Plan) → step x s ≡ Ok s' → s'.next ≡ after x s.next
next_after Blank s s' e = ap (λ (p : Plan). p.next) (sym (ok_ok _ _ e))
next_after (Opens l p) s s' e = ap (λ (p : Plan). p.next) (sym (step_opens l p s s' e))
next_after (Holds x) s s' e = ap (λ (p : Plan). p.next) (sym (step_holds x s s' e).same)

fits_at : (x : Line) (s s' : Plan) → Sound x → step x s ≡ Ok s' → Fits x s.next
fits_at Blank s s' r e = tt
fits_at (Opens l p) s s' r e = tt
fits_at (Holds x) s s' r e =
    let u = user_low (s.next + width_of x) (every_at user (width_of x + 1) s.next (width_of x) (step_holds x s s' e).users (omega arith)) in (r, omega arith)

pub record Standing (l : ℕ) (bs : List (List ℕ)) (x : Line) (s t : Plan) : Type 0 where
  pub plan : Plan
  pub more : planned (l + 1) bs plan ≡ Ok t
  pub next : plan.next ≡ after x s.next
  pub fits : Fits x s.next

pub standing : (l : ℕ) (b : List ℕ) (bs rest : List (List ℕ)) (s t : Plan) → rest ≡ b ∷ bs → (x : Line) → Ok x ≡ parsed l b → planned l rest s ≡ Ok t → Standing l bs x s t
standing l b bs rest s t e x h k =
    let a = ok_then (step x s) (planned (l + 1) bs) t (sym (parsed_on l b bs rest s e x h) ∙ k) in
    record { plan = a.0; more = a.2; next = next_after x s a.0 a.1; fits = fits_at x s a.0 (line_sound l b x (sym h)) a.1 }

-- lists that agree past p agree past q
drop_on : {A : Type 0} (p d q : ℕ) (l m : List A) → q ≡ p + d → drop p l ≡ drop p m → drop q l ≡ drop q m
drop_on p d q l m e h = ap (λ k. drop k l) e ∙ sym (drop-drop d p l) ∙ ap (drop d) h ∙ drop-drop d p m ∙ ap (λ k. drop k m) (sym e)

-- the table, after more labels, and after more again
pub rests_more : (a b c : declared.Plan) → Rests a b → Rests b c → Rests a c
rests_more a b c r s = record {
  same = s.same ∙ r.same;
  filled = let f = r.filled in let g = s.filled in omega arith;
  rest = let g = s.filled in s.rest ∙ drop_on b.filled (c.filled - b.filled) c.filled b.table.now a.table.now (omega arith) r.rest;
  size = s.size ∙ r.size;
}

-- one line more of the second pass
pub painted_on : (t : Plan) (l : ℕ) (b : List ℕ) (bs rest : List (List ℕ)) (n : ℕ) (im : List ℕ) → rest ≡ b ∷ bs → (x : Line) → Ok x ≡ parsed l b → (im' : List ℕ) → painted t x n im ≡ Ok im' → assembled t l rest n im ≡ assembled t (l + 1) bs (after x n) im'
painted_on t l b bs rest n im e x h im' k =
    ap (λ r. assembled t l r n im) e ∙ ap (λ r. and_then r (λ x. and_then (painted t x n im) (assembled t (l + 1) bs (after x n)))) (sym h) ∙ ap (λ r. and_then r (assembled t (l + 1) bs (after x n))) k
