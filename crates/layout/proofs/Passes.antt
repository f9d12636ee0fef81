-- The two passes over a text, as passes over its lines once all are taken apart.
use Rattle.std.proofs.Common.{◌≡◌, ℕ, ◌+◌, true, List, [], ◌∷◌, Some, None, Ok, Option, Result, refl, ap, ◌∙◌}
use Rattle.std.proofs.lemmas.Bool.{and_parts, eqb-true}
use Rattle.isa.specs.declared.refusal.Refusal.TheVariants.{Area}
use Rattle.isa.specs.declared.instruction.Instruction.{Instruction}
use Rattle.isa.specs.Checks.{and_then, require}
use Rattle.isa.specs.Places.{user, every}
use Rattle.sequence.specs.declared.text.TextFault.{TextFault}
use Rattle.sequence.specs.declared.text.Label.{Label}
use Rattle.sequence.specs.declared.text.WrittenPlace.{WrittenPlace}
use Rattle.sequence.specs.declared.text.Source.{Source}
use Rattle.sequence.specs.declared.text.Line.{Line}
use Rattle.sequence.specs.declared.text.Line.TheVariants.{Blank, Opens, Holds}
use Rattle.sequence.specs.Lines.{text_fault, parsed}
use Rattle.sequence.specs.Placings.{Plan, width_of, free, defining, written_user, written_here, in_area, as_written, unshared, laid, opening, step, resolve_line}
use Rattle.sequence.specs.Translations.{planned, painted, after, assembled}
use Rattle.sequence.specs.Layouts.{parsed_all, Item, ends, WrittenHere}
use Rattle.layout.proofs.Basics.{ok_then, ok_ok, ok_require}
use Rattle.layout.proofs.Painting.{drawn}

-- the lines find their places
abbrev pub placing : List Line → Plan → Result Plan TextFault
placing [] s = Ok s
placing (l ∷ ls) s = and_then (step l s) (placing ls)

abbrev pub item_of : Source → List Line → ℕ → Instruction ℕ → Item
item_of x ls n i = record { source = x; place = n; instruction = i; last = ends ls }

-- the instruction lines, from place n on, with their targets as places
abbrev pub resolved : Plan → List Line → ℕ → Result (List Item) TextFault
resolved s [] n = Ok []
resolved s (Blank ∷ ls) n = resolved s ls n
resolved s (Opens l p ∷ ls) n = resolved s ls p
resolved s (Holds x ∷ ls) n = and_then (resolve_line s x) (λ i. and_then (resolved s ls (n + width_of x)) (λ is. Ok (item_of x ls n i ∷ is)))

parsed_more : (l : ℕ) (b : List ℕ) (bs : List (List ℕ)) (x : Line) (ls : List Line) → parsed l b ≡ Ok x → parsed_all (l + 1) bs ≡ Ok ls → parsed_all l (b ∷ bs) ≡ Ok (x ∷ ls)
parsed_more l b bs x ls e f = ap (λ r. and_then r (λ x. and_then (parsed_all (l + 1) bs) (λ xs. Ok (x ∷ xs)))) e ∙ ap (λ r. and_then r (λ xs. Ok (x ∷ xs))) f

-- the first pass: take all lines apart, and place them
pub planned_splits : (l : ℕ) (bs : List (List ℕ)) (s s' : Plan) → planned l bs s ≡ Ok s' → (ls : List Line) × (parsed_all l bs ≡ Ok ls) × (placing ls s ≡ Ok s')
planned_splits l [] s s' e = ([], refl, e)
planned_splits l (b ∷ bs) s s' e =
    let a = ok_then (parsed l b) _ s' e in
    let d = ok_then (step a.0 s) (planned (l + 1) bs) s' a.2 in
    let ih = planned_splits (l + 1) bs d.0 s' d.2 in
    (a.0 ∷ ih.0, parsed_more l b bs a.0 ih.0 a.1 ih.1, ap (λ r. and_then r (placing ih.0)) d.1 ∙ ih.2)

-- one line more
drawn_more : (s : Plan) (x : Line) (ls : List Line) (n : ℕ) (im jm im' : List ℕ) (is : List Item) → painted s x n im ≡ Ok jm → resolved s ls (after x n) ≡ Ok is → drawn is jm ≡ im'
    → (js : List Item) × (resolved s (x ∷ ls) n ≡ Ok js) × (drawn js im ≡ im')
drawn_more s Blank ls n im jm im' is e r d = (is, r, ap (drawn is) (ok_ok _ _ e) ∙ d)
drawn_more s (Opens l p) ls n im jm im' is e r d = (is, r, ap (drawn is) (ok_ok _ _ e) ∙ d)
drawn_more s (Holds x) ls n im jm im' is e r d =
    let a = ok_then (resolve_line s x) _ jm e in
    (item_of x ls n a.0 ∷ is, ap (λ y. and_then y (λ i. and_then (resolved s ls (n + width_of x)) (λ is. Ok (item_of x ls n i ∷ is)))) a.1 ∙ ap (λ y. and_then y (λ is. Ok (item_of x ls n a.0 ∷ is))) r, ap (drawn is) (ok_ok _ _ a.2) ∙ d)

-- the second pass: take all lines apart, find their targets, and paint the items
pub assembled_splits : (s : Plan) (l : ℕ) (bs : List (List ℕ)) (n : ℕ) (im im' : List ℕ) → assembled s l bs n im ≡ Ok im'
    → (ls : List Line) × (parsed_all l bs ≡ Ok ls) × ((is : List Item) × (resolved s ls n ≡ Ok is) × (drawn is im ≡ im'))
assembled_splits s l [] n im im' e = ([], refl, ([], refl, ok_ok _ _ e))
assembled_splits s l (b ∷ bs) n im im' e =
    let a = ok_then (parsed l b) _ im' e in
    let d = ok_then (painted s a.0 n im) _ im' a.2 in
    let ih = assembled_splits s (l + 1) bs (after a.0 n) d.0 im' d.2 in
    (a.0 ∷ ih.0, parsed_more l b bs a.0 ih.0 a.1 ih.1, drawn_more s a.0 ih.0 n im d.0 im' ih.2.0 d.1 ih.2.1 ih.2.2)

stands_as_written : (w : Option WrittenPlace) (n : ℕ) → written_here w n ≡ true → WrittenHere w n
stands_as_written None n e = tt
stands_as_written (Some w) n e = eqb-true w.place n e

-- what a line that found its place has passed
pub record Stepped (x : Source) (s s' : Plan) : Type 0 where
  pub labels : List Label
  pub defines : defining x x.label s ≡ Ok labels
  pub users : every user s.next (width_of x + 1) ≡ true
  pub written : WrittenHere x.written s.next
  pub frees : free s.kinds s.next (width_of x + 1) ≡ true
  pub same : laid x s labels ≡ s'

pub step_holds : (x : Source) (s s' : Plan) → step (Holds x) s ≡ Ok s' → Stepped x s s'
step_holds x s s' e =
    let b = ok_then (defining x x.label s) _ s' e in
    let c1 = ok_then (in_area x s) _ s' b.2 in
    let c2 = ok_then (as_written x s) _ s' c1.2 in
    let c3 = ok_then (unshared x s) _ s' c2.2 in
    record {
      labels = b.0;
      defines = b.1;
      users = (and_parts (written_user x.written) _ (and_parts s.opened _ (ok_require _ _ c1.0 c1.1)).1).1;
      written = stands_as_written x.written s.next (ok_require _ _ c2.0 c2.1);
      frees = ok_require _ _ c3.0 c3.1;
      same = ok_ok _ _ c3.2;
    }

pub step_opens : (l p : ℕ) (s s' : Plan) → step (Opens l p) s ≡ Ok s' → opening p s ≡ s'
step_opens l p s s' e = let c = ok_then (require (user p) (text_fault Area l 0)) _ s' e in ok_ok _ _ c.2

-- what an instruction line that found its target has become
pub record Became (t : Plan) (x : Source) (ls : List Line) (n : ℕ) (is : List Item) : Type 0 where
  pub made : Instruction ℕ
  pub rest : List Item
  pub resolves : resolve_line t x ≡ Ok made
  pub more : resolved t ls (n + width_of x) ≡ Ok rest
  pub same : item_of x ls n made ∷ rest ≡ is

pub became : (t : Plan) (x : Source) (ls : List Line) (n : ℕ) (is : List Item) → resolved t (Holds x ∷ ls) n ≡ Ok is → Became t x ls n is
became t x ls n is r =
    let a = ok_then (resolve_line t x) _ is r in
    let b = ok_then (resolved t ls (n + width_of x)) _ is a.2 in
    record { made = a.0; rest = b.0; resolves = a.1; more = b.1; same = ok_ok _ _ b.2 }
