-- Every accepted text is laid out: its lines stand in the image, and nothing else does.
use Rattle.std.proofs.Common.{◌≡◌, ℕ, ◌+◌, ◌<◌, ◌≤◌, true, List, length, get_or, Ok, sym, refl, ap, ◌∙◌, subst, ⊎_elim, arith}
use lib.ListN.{length-replicate}
use Rattle.std.proofs.lemmas.List.{get_or_past, get_or-replicate}
use Rattle.std.proofs.lemmas.Bool.{cases_lt}
use Rattle.std.specs.List.{AllByRecursion}
use Rattle.isa.specs.declared.refusal.Refusal.TheVariants.{Size}
use Rattle.isa.specs.Checks.{require}
use Rattle.isa.specs.Places.{image_size, user}
use Rattle.isa.specs.Codes.{width}
use Rattle.sequence.specs.declared.text.Target.{Target}
use Rattle.sequence.specs.declared.text.Target.TheVariants.{Place, Label as Named}
use Rattle.sequence.specs.declared.text.Line.{Line}
use Rattle.sequence.specs.declared.text.Kind.{Kind}
use Rattle.sequence.specs.declared.text.Kind.TheVariants.{Free, First}
use Rattle.sequence.specs.Texts.{lines}
use Rattle.sequence.specs.Lines.{text_fault}
use Rattle.sequence.specs.Placings.{Plan, fresh, place_in}
use Rattle.sequence.specs.Translations.{planned, assembled, blank, sized_text, Translation}
use Rattle.sequence.specs.Layouts.{Item, In, end, covers, Means, Laid, Meant, labels_of, NamesApart, LaysOut}
use Rattle.layout.proofs.Basics.{ok_then, ok_ok, all_in}
use Rattle.layout.proofs.Painting.{drawn, marks, drawn_out, drawn_in, drawn_size}
use Rattle.layout.proofs.Passes.{placing, resolved, planned_splits, assembled_splits}
use Rattle.layout.proofs.Ranges.{Sound, parsed_sound}
use Rattle.layout.proofs.Aiming.{goal, Hit, AimedItem, all_aimed}
use Rattle.layout.proofs.Placing.{user_low, placed, placing_size}
use Rattle.layout.proofs.Labels.{label_found, labels_after, names_apart, count_after}

blank_size : length blank ≡ image_size
blank_size = length-replicate {A = ℕ} image_size 255

blank_at : (q : ℕ) → get_or blank q 255 ≡ 255
blank_at q = ⊎_elim (λ (h : q < image_size). get_or-replicate image_size q 255 255 h) (λ (h : image_size ≤ q). get_or_past blank q 255 (omega (arith, blank_size))) (cases_lt q image_size)

fresh_size : length fresh.kinds ≡ image_size
fresh_size = length-replicate {A = Kind} image_size Free

none_yet : (q : ℕ) → get_or fresh.kinds q Free ≡ First → ⊥
none_yet q e =
    let g : get_or fresh.kinds q Free ≡ Free = ⊎_elim (λ (h : q < image_size). get_or-replicate {A = Kind} image_size q Free Free h) (λ (h : image_size ≤ q). get_or_past fresh.kinds q Free (omega (arith, fresh_size))) (cases_lt q image_size) in
    let z : ◌≡◌ {A = ℕ} 0 1 = cc in omega arith

-- of lines that were placed and whose targets were found
module _ (ls : List Line) (s : Plan) (is : List Item) (so : AllByRecursion Sound ls) (e : placing ls fresh ≡ Ok s) (r : resolved s ls 0 ≡ Ok is) where
  size : length s.kinds ≡ image_size
  size = placing_size ls fresh s e ∙ fresh_size

  place : (q : ℕ) → get_or s.kinds q Free ≡ First → (j : Item) × In j is × (j.place ≡ q)
  place q h = ⊎_elim (λ (g : get_or fresh.kinds q Free ≡ First). absurd (none_yet q g)) (λ g. g) ((placed ls s fresh s is size so fresh_size e r).firsts q h)

  aimed : (i : Item) → In i is → AimedItem s i
  aimed = all_in (AimedItem s) is (all_aimed ls s fresh s is size so e r).0

  labels : s.labels ≡ labels_of is
  labels = labels_after ls s fresh s is e r

  once : NamesApart (labels_of is)
  once = subst NamesApart labels (names_apart ls fresh s e tt)

  count : s.count ≡ length is
  count = let c : s.count ≡ 0 + length is = count_after ls s fresh s is e r in omega arith

  laid : Laid is (drawn is blank)
  laid =
      let p = placed ls s fresh s is size so fresh_size e r in
      let us : (i : Item) → In i is → (k : ℕ) → k ≤ width i.instruction → user (i.place + k) ≡ true = λ i m k h. (all_in _ is p.fits i m k h).0 in
      let fit : (i : Item) → In i is → end i < image_size = λ i m. user_low (end i) (us i m (width i.instruction) (omega arith)) in
      let rest : (q : ℕ) → ((i : Item) → In i is → covers i q → ⊥) → get_or (drawn is blank) q 255 ≡ 255 = λ q h. drawn_out is blank q h ∙ blank_at q in
      record {
        size = drawn_size is blank ∙ blank_size;
        stands = drawn_in is blank p.apart (λ j n. let f = fit j n in omega (arith, blank_size));
        mark = λ i m l. rest (end i) (λ j n c. marks is p.apart i j m n l c);
        apart = p.apart;
        users = us;
        rest = rest;
        targets = λ i m t h. place t ((aimed i m).first t h);
        range = λ i m. (aimed i m).range;
      }

  means : (t : Target) → Hit s t → Means is t (goal s t)
  means (Place p) h = (refl, place p h.first)
  means (Named n) h = let f = label_found is n (goal s (Named n)) (ap (λ y. place_in y n) (sym labels) ∙ h.known) in (f.item, f.one, f.defines, f.place)

  meant : Meant is
  meant = record { goal = goal s; aims = λ i m. (aimed i m).aims; means = λ i m t h. means t ((aimed i m).hits t h) }

pub lays_out : (text : List ℕ) → LaysOut text
lays_out text t e =
    let a = ok_then (require (sized_text text) (text_fault Size 0 0)) _ t e in
    let b = ok_then (planned 1 (lines text) fresh) _ t a.2 in
    let c = ok_then (assembled b.0 1 (lines text) 0 blank) _ t b.2 in
    let f = planned_splits 1 (lines text) fresh b.0 b.1 in
    let g = assembled_splits b.0 1 (lines text) 0 blank c.0 c.1 in
    let ls = f.0 in let s = b.0 in let is = g.2.0 in
    let so : AllByRecursion Sound ls = parsed_sound 1 (lines text) ls f.1 in
    let same : g.0 ≡ ls = ok_ok _ _ (sym g.1 ∙ f.1) in
    let r : resolved s ls 0 ≡ Ok is = subst (λ ls. resolved s ls 0 ≡ Ok is) same g.2.1 in
    let whole = ok_ok _ _ c.2 in
    let image : drawn is blank ≡ t.image = g.2.2 ∙ ap (λ (y : Translation). y.image) whole in
    record {
      rows = ls;
      parses = f.1;
      items = is;
      stand = (all_aimed ls s fresh s is (size ls s is so f.2 r) so f.2 r).1;
      laid = subst (Laid is) image (laid ls s is so f.2 r);
      meant = meant ls s is so f.2 r;
      labels = sym (ap (λ (y : Translation). y.labels) whole) ∙ labels ls s is so f.2 r;
      once = once ls s is so f.2 r;
      count = sym (ap (λ (y : Translation). y.count) whole) ∙ count ls s is so f.2 r;
    }
