-- The labels of a plan are those of its items, no two have one name, a label that is found is that of an item, and the count is that of the items.
use Rattle.std.proofs.Common.{◌≡◌, ℕ, suc, ◌+◌, Bool, true, false, cond, ◌≢◌, List, [], ◌∷◌, ◌++◌, length, Some, None, Ok, Option, sym, refl, ap, ◌∙◌, subst, inl, inr, arith}
use Rattle.std.proofs.lemmas.Slice.Eq.{bytes_eq-Decides}
use Rattle.std.proofs.lemmas.List.{append-nil, append_assoc}
use Rattle.std.proofs.lemmas.Bool.Decides.{not_from_Decides}
use Rattle.std.specs.Str.{bytes_eq}
use Rattle.sequence.specs.declared.text.Label.{Label}
use Rattle.sequence.specs.declared.text.Definition.{Definition}
use Rattle.sequence.specs.declared.text.Source.{Source}
use Rattle.sequence.specs.declared.text.Line.{Line}
use Rattle.sequence.specs.declared.text.Line.TheVariants.{Blank, Opens, Holds}
use Rattle.sequence.specs.Placings.{Plan, place_in, is_none, defining, laid, opening, step}
use Rattle.sequence.specs.Layouts.{Item, In, Defines, label_of, labels_of, NamesApart}
use Rattle.layout.proofs.Basics.{all_push, ok_cond, ok_then, ok_ok}
use Rattle.layout.proofs.Passes.{placing, resolved, item_of, step_holds, step_opens, became}

-- the item that a label is found at
pub record Labelled (is : List Item) (n : List ℕ) (p : ℕ) : Type 0 where
  pub item : Item
  pub one : In item is
  pub defines : Defines item n
  pub place : item.place ≡ p

later : (i : Item) (is : List Item) (n : List ℕ) (p : ℕ) → Labelled is n p → Labelled (i ∷ is) n p
later i is n p f = record { item = f.item; one = inr f.one; defines = f.defines; place = f.place }

pub label_found : (is : List Item) (n : List ℕ) (p : ℕ) → place_in (labels_of is) n ≡ Some p → Labelled is n p
label_found [] n p e = let z : ◌≡◌ {A = ℕ} 0 1 = cc in absurd (omega arith)
label_found (i ∷ is) n p e = go i.source.label refl (λ f. label_found is n p f) e
  where
    here : (d : Definition) → i.source.label ≡ Some d → (t : Bool) → bytes_eq d.name n ≡ t → (place_in (labels_of is) n ≡ Some p → Labelled is n p) → cond t (Some i.place) (place_in (labels_of is) n) ≡ Some p → Labelled (i ∷ is) n p
    here d q true s ih e = let h : i.place ≡ p = cc in record { item = i; one = inl refl; defines = (d, q, (bytes_eq-Decides d.name n).0 s); place = h }
    here d q false s ih e = later i is n p (ih e)

    go : (o : Option Definition) → i.source.label ≡ o → (place_in (labels_of is) n ≡ Some p → Labelled is n p) → place_in (label_of i o (labels_of is)) n ≡ Some p → Labelled (i ∷ is) n p
    go None q ih e = later i is n p (ih e)
    go (Some d) q ih e = here d q (bytes_eq d.name n) refl ih e

-- what a line adds
defining_is : (x : Source) (i : Item) (o : Option Definition) (s : Plan) (ls rest : List Label) → i.source ≡ x → i.place ≡ s.next → defining x o s ≡ Ok ls → ls ++ rest ≡ s.labels ++ label_of i o rest
defining_is x i None s ls rest f g e = ap (λ y. y ++ rest) (sym (ok_ok _ _ e))
defining_is x i (Some d) s ls rest f g e =
    let c = ok_cond (is_none (place_in s.labels d.name)) (Ok (s.labels ++ (record { name = d.name; line = x.line; place = s.next } ∷ []))) _ ls e in
    ap (λ y. y ++ rest) (sym (ok_ok _ _ c.1)) ∙ append_assoc s.labels (record { name = d.name; line = x.line; place = s.next } ∷ []) rest
    ∙ ap (λ (y : Source). s.labels ++ (record { name = d.name; line = y.line; place = s.next } ∷ rest)) (sym f)
    ∙ ap (λ (y : ℕ). s.labels ++ (record { name = d.name; line = i.source.line; place = y } ∷ rest)) (sym g)

pub labels_after : (ls : List Line) (t s s' : Plan) (is : List Item) → placing ls s ≡ Ok s' → resolved t ls s.next ≡ Ok is → s'.labels ≡ s.labels ++ labels_of is
labels_after [] t s s' is e r = ap (λ (y : Plan). y.labels) (sym (ok_ok _ _ e)) ∙ sym (append-nil s.labels) ∙ ap (λ js. s.labels ++ labels_of js) (ok_ok _ _ r)
labels_after (Blank ∷ ls) t s s' is e r = labels_after ls t s s' is e r
labels_after (Opens l p ∷ ls) t s s' is e r =
    let a = ok_then (step (Opens l p) s) (placing ls) s' e in
    labels_after ls t (opening p s) s' is (subst (λ y. placing ls y ≡ Ok s') (sym (step_opens l p s a.0 a.1)) a.2) r
labels_after (Holds x ∷ ls) t s s' is e r =
    let a = ok_then (step (Holds x) s) (placing ls) s' e in
    let c = step_holds x s a.0 a.1 in
    let b = became t x ls s.next is r in
    labels_after ls t (laid x s c.labels) s' b.rest (subst (λ y. placing ls y ≡ Ok s') (sym c.same) a.2) b.more
    ∙ defining_is x (item_of x ls s.next b.made) x.label s c.labels (labels_of b.rest) refl refl c.defines
    ∙ ap (λ js. s.labels ++ labels_of js) b.same

-- a name that is not found is none of theirs
name_apart : (x : Label) (xs : List Label) (n : List ℕ) → is_none (place_in (x ∷ xs) n) ≡ true → (n ≢ x.name) × (is_none (place_in xs n) ≡ true)
name_apart x xs n = go (bytes_eq x.name n) refl
  where
    go : (b : Bool) → bytes_eq x.name n ≡ b → is_none (cond b (Some x.place) (place_in xs n)) ≡ true → (n ≢ x.name) × (is_none (place_in xs n) ≡ true)
    go true s e = let z : ◌≡◌ {A = ℕ} 0 1 = cc in absurd (omega arith)
    go false s e = (λ q. not_from_Decides _ (bytes_eq-Decides x.name n) s (sym q), e)

-- such a name, put last, leaves them apart
one_more : (xs : List Label) (y : Label) → is_none (place_in xs y.name) ≡ true → NamesApart xs → NamesApart (xs ++ (y ∷ []))
one_more [] y e a = (tt, tt)
one_more (x ∷ xs) y e a = let h = name_apart x xs y.name e in (all_push (λ (z : Label). z.name ≢ x.name) xs y a.0 h.0, one_more xs y h.1 a.1)

defining_apart : (x : Source) (o : Option Definition) (s : Plan) (ls : List Label) → defining x o s ≡ Ok ls → NamesApart s.labels → NamesApart ls
defining_apart x None s ls e a = subst NamesApart (ok_ok _ _ e) a
defining_apart x (Some d) s ls e a =
    let y : Label = record { name = d.name; line = x.line; place = s.next } in
    let c = ok_cond (is_none (place_in s.labels d.name)) (Ok (s.labels ++ (y ∷ []))) _ ls e in
    subst NamesApart (ok_ok _ _ c.1) (one_more s.labels y c.0 a)

step_apart : (l : Line) (s s' : Plan) → step l s ≡ Ok s' → NamesApart s.labels → NamesApart s'.labels
step_apart Blank s s' e a = subst (λ (y : Plan). NamesApart y.labels) (ok_ok _ _ e) a
step_apart (Opens l p) s s' e a = subst (λ (y : Plan). NamesApart y.labels) (step_opens l p s s' e) a
step_apart (Holds x) s s' e a = let c = step_holds x s s' e in subst (λ (y : Plan). NamesApart y.labels) c.same (defining_apart x x.label s c.labels c.defines a)

pub names_apart : (ls : List Line) (s s' : Plan) → placing ls s ≡ Ok s' → NamesApart s.labels → NamesApart s'.labels
names_apart [] s s' e a = subst (λ (y : Plan). NamesApart y.labels) (ok_ok _ _ e) a
names_apart (l ∷ ls) s s' e a = let b = ok_then (step l s) (placing ls) s' e in names_apart ls b.0 s' b.2 (step_apart l s b.0 b.1 a)

pub count_after : (ls : List Line) (t s s' : Plan) (is : List Item) → placing ls s ≡ Ok s' → resolved t ls s.next ≡ Ok is → s'.count ≡ s.count + length is
count_after [] t s s' is e r =
    let a : s.count ≡ s'.count = ap (λ (y : Plan). y.count) (ok_ok _ _ e) in
    let b : 0 ≡ length is = ap length (ok_ok _ _ r) in
    omega arith
count_after (Blank ∷ ls) t s s' is e r = count_after ls t s s' is e r
count_after (Opens l p ∷ ls) t s s' is e r =
    let a = ok_then (step (Opens l p) s) (placing ls) s' e in
    count_after ls t (opening p s) s' is (subst (λ y. placing ls y ≡ Ok s') (sym (step_opens l p s a.0 a.1)) a.2) r
count_after (Holds x ∷ ls) t s s' is e r =
    let a = ok_then (step (Holds x) s) (placing ls) s' e in
    let c = step_holds x s a.0 a.1 in
    let b = became t x ls s.next is r in
    let h : s'.count ≡ (s.count + 1) + length b.rest = count_after ls t (laid x s c.labels) s' b.rest (subst (λ y. placing ls y ≡ Ok s') (sym c.same) a.2) b.more in
    let n : suc (length b.rest) ≡ length is = ap length b.same in
    omega arith
