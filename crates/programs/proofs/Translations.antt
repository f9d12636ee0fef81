-- What the translator answers and leaves is the translation.
use Rattle.std.proofs.Common.{◌≡◌, ℕ, ◌+◌, ◌≤◌, true, ◌&&◌, List, [], ◌∷◌, length, take, Some, None, Ok, Err, Option, Result, nat_le, ap, refl, arith, length-append}
use Rattle.std.proofs.lemmas.Bool.{and_parts, leb-true}
use Rattle.isa.specs.declared.refusal.Refusal.TheVariants.{Size}
use Rattle.isa.specs.Checks.{require}
use Rattle.isa.specs.Places.{image_size}
use Rattle.sequence.specs.declared.text.Definition.{Definition}
use Rattle.sequence.specs.declared.text.Label.{Label}
use Rattle.sequence.specs.declared.text.Line.{Line}
use Rattle.sequence.specs.declared.text.Line.TheVariants.{Blank, Opens, Holds}
use Rattle.sequence.specs.declared.text.Source.{Source}
use Rattle.sequence.specs.declared.text.TextFault.{TextFault}
use Rattle.sequence.specs.Texts.{lines}
use Rattle.sequence.specs.Lines.{text_fault, parsed}
use Rattle.sequence.specs.Placings.{Plan, fresh, step, defining, place_in, is_none}
use Rattle.sequence.specs.Translations.{Translation, translation, planned, assembled, blank, labels_in, most_bytes, most_lines, most_labels, sized_text}
use Rattle.layout.proofs.Basics.{ok_cond, ok_then, ok_ok, ok_require}
use Rattle.layout.proofs.LabelCounts.{defined_in, defined_by, label_counted}
use Rattle.layout.proofs.Passes.{step_holds, step_opens}
use Rattle.translator.specs.Answers.{translated, answered, image_after, TableAfter}
use Rattle.translator.specs.declared.Translated.{Translated}
use Rattle.programs.proofs.Listings.{front-sets}

defining_few : (x : Source) (d : Option Definition) (s : Plan) (ls : List Label) → defining x d s ≡ Ok ls → length ls ≤ length s.labels + defined_in d
defining_few x None s ls e = let same : s.labels ≡ ls = ok_ok _ _ e in let n = ap length same in omega arith
defining_few x (Some d) s ls e =
    let same = ok_ok _ _ (ok_cond (is_none (place_in s.labels d.name)) _ _ _ e).1 in
    let n = ap length same in
    let m = length-append s.labels ((record { name = d.name; line = x.line; place = s.next }) ∷ []) in
    omega arith

step_few : (x : Line) (s s' : Plan) → step x s ≡ Ok s' → length s'.labels ≤ length s.labels + defined_by x
step_few Blank s s' e = let n = ap (λ (p : Plan). length p.labels) (ok_ok s s' e) in omega arith
step_few (Opens l p) s s' e =
    let n = ap (λ (q : Plan). length q.labels) (step_opens l p s s' e) in omega arith
step_few (Holds x) s s' e =
    let c = step_holds x s s' e in
    let n = ap (λ (q : Plan). length q.labels) c.same in
    let m = defining_few x x.label s c.labels c.defines in
    omega arith

-- no more labels than label-shaped tokens
planned_few : (l : ℕ) (bs : List (List ℕ)) (s s' : Plan) → planned l bs s ≡ Ok s' → length s'.labels ≤ length s.labels + labels_in bs
planned_few l [] s s' e = let n = ap (λ (p : Plan). length p.labels) (ok_ok s s' e) in omega arith
planned_few l (b ∷ bs) s s' e =
    let u = ok_then (parsed l b) _ s' e in
    let v = ok_then (step u.0 s) (planned (l + 1) bs) s' u.2 in
    let few = label_counted l b u.0 u.1 in
    let here = step_few u.0 s v.0 v.1 in
    let later = planned_few (l + 1) bs v.0 s' v.2 in
    omega arith

sized_labels : (text : List ℕ) → sized_text text ≡ true → labels_in (lines text) ≤ most_labels
sized_labels text h =
    let sizes = and_parts (nat_le (length text) most_bytes) (nat_le (length (lines text)) most_lines && nat_le (labels_in (lines text)) most_labels) h in
    leb-true (labels_in (lines text)) most_labels (and_parts (nat_le (length (lines text)) most_lines) (nat_le (labels_in (lines text)) most_labels) sizes.1).1

pub few_labels : (text : List ℕ) (t : Translation) → translation text ≡ Ok t → length t.labels ≤ most_labels
few_labels text t e =
    let u = ok_then (require (sized_text text) (text_fault Size 0 0)) _ t e in
    let labels = sized_labels text (ok_require (sized_text text) (text_fault Size 0 0) u.0 u.1) in
    let v = ok_then (planned 1 (lines text) fresh) _ t u.2 in
    let w = ok_then (assembled v.0 1 (lines text) 0 blank) _ t v.2 in
    let n = ap (λ (q : Translation). length q.labels) (ok_ok (record { image = w.0; labels = v.0.labels; count = v.0.count }) t w.2) in
    let few = planned_few 1 (lines text) fresh v.0 v.1 in
    omega arith

module _ (image image' : List ℕ) (table table' : List Label) (size : length image ≡ image_size) (room : length table ≡ most_labels) where
  done : (r : Result Translation TextFault) (n : Translated) → ((t : Translation) → r ≡ Ok t → length t.labels ≤ most_labels)
      → Ok n ≡ answered r → image' ≡ image_after image r → TableAfter table table' r
      → Ok (record { image = image'; labels = take n.labels table'; count = n.lines }) ≡ r
  done (Ok t) n few a i l =
      let lines : n.lines ≡ t.count = cc in
      let labels : n.labels ≡ length t.labels = cc in
      rw (lines, labels, i, l) (ap (λ ls. Ok (record { image = t.image; labels = ls; count = t.count })) (front-sets t.labels table (let h = few t refl in omega arith)))
  done (Err f) n few a i l = cc

  pub translation_done : (text : List ℕ) (n : Translated)
      → Ok n ≡ answered (translated text (length image) (length table)) → image' ≡ image_after image (translated text (length image) (length table))
      → TableAfter table table' (translated text (length image) (length table))
      → Ok (record { image = image'; labels = take n.labels table'; count = n.lines }) ≡ translation text
  translation_done text n a i l = done (translation text) n (few_labels text) (rw (size, room) at a) (rw (size, room) at i) (rw (size, room) at l)

  refused : (r : Result Translation TextFault) (f : TextFault) → Err f ≡ answered r → Err f ≡ r
  refused (Ok t) f a = cc
  refused (Err g) f a = cc

  pub translation_refused : (text : List ℕ) (f : TextFault) → Err f ≡ answered (translated text (length image) (length table)) → Err f ≡ translation text
  translation_refused text f a = refused (translation text) f (rw (size, room) at a)
