-- What the second pass tells of an instruction: its width, its range, its target.
use Rattle.std.proofs.Common.{◌≡◌, ℕ, ◌+◌, ◌<◌, ◌≤◌, true, List, [], ◌∷◌, length, get_or, Some, None, Ok, Option, sym, refl, ap, ◌∙◌, subst, ⊎_elim, arith}
use Rattle.std.proofs.lemmas.List.{get_or_past}
use Rattle.std.proofs.lemmas.Bool.{cases_lt}
use Rattle.std.specs.List.{AllByRecursion}
use Rattle.isa.specs.declared.instruction.Instruction.{Instruction}
use Rattle.isa.specs.declared.instruction.Instruction.TheVariants.{Go, Jump, JumpLow, Act}
use Rattle.isa.specs.Checks.{and_then}
use Rattle.isa.specs.Places.{image_size}
use Rattle.isa.specs.Instructions.{target_of, retarget}
use Rattle.isa.specs.Codes.{width, in_range}
use Rattle.sequence.specs.declared.text.Target.{Target}
use Rattle.sequence.specs.declared.text.Target.TheVariants.{Place, Label as Named}
use Rattle.sequence.specs.declared.text.Source.{Source}
use Rattle.sequence.specs.declared.text.Line.{Line}
use Rattle.sequence.specs.declared.text.Line.TheVariants.{Blank, Opens, Holds}
use Rattle.sequence.specs.declared.text.Kind.{Kind}
use Rattle.sequence.specs.declared.text.Kind.TheVariants.{Free, First}
use Rattle.sequence.specs.Placings.{unaimed, Plan, is_first, place_in, laid, opening, step, found, aimed, resolved_target, resolve, resolve_line}
use Rattle.sequence.specs.Layouts.{Item, Stand}
use Rattle.layout.proofs.Basics.{ok_cond, ok_then, ok_ok, first_is}
use Rattle.layout.proofs.Passes.{placing, resolved, step_holds, step_opens, became}
use Rattle.layout.proofs.Ranges.{Sound, go_range, jump_range, jump_low_range}

abbrev pub or_zero : Option ℕ → ℕ
or_zero None = 0
or_zero (Some p) = p

-- the place of a target
abbrev pub goal : Plan → Target → ℕ
goal s (Place p) = p
goal s (Named n) = or_zero (place_in s.labels n)

-- the name of a target is that of a label
abbrev pub Known : Plan → Target → Type 0
Known s (Place p) = Unit {0}
Known s (Named n) = place_in s.labels n ≡ Some (goal s (Named n))

-- a target is known, and is the first byte of an instruction
pub record Hit (s : Plan) (t : Target) : Type 0 where
  pub first : get_or s.kinds (goal s t) Free ≡ First
  pub known : Known s t

pub record Aimed (s : Plan) (j : Instruction Target) (i : Instruction ℕ) : Type 0 where
  pub same_width : width i ≡ width (unaimed j)
  pub aims : i ≡ retarget (goal s) j
  pub hits : (t : Target) → target_of j ≡ Some t → Hit s t
  pub first : (q : ℕ) → target_of i ≡ Some q → get_or s.kinds q Free ≡ First
  pub range : in_range i ≡ true

first_low : (m : List Kind) (p : ℕ) → length m ≡ image_size → get_or m p Free ≡ First → p ≤ 2047
first_low m p n e =
    ⊎_elim (λ (h : p < 2048). omega arith)
    (λ (h : 2048 ≤ p). let g = get_or_past m p Free (omega arith) in let z : ◌≡◌ {A = ℕ} 0 1 = cc in absurd (omega arith))
    (cases_lt p 2048)

found_is : (l c : ℕ) (o : Option ℕ) (p : ℕ) → found l c o ≡ Ok p → (p ≡ or_zero o) × (o ≡ Some (or_zero o))
found_is l c None p e = let z : ◌≡◌ {A = ℕ} 0 1 = cc in absurd (omega arith)
found_is l c (Some q) p e = (sym (ok_ok _ _ e), refl)

aimed_is : (s : Plan) (l c : ℕ) (t : Target) (p : ℕ) → aimed s l c t ≡ Ok p → (p ≡ goal s t) × Known s t
aimed_is s l c (Place q) p e = (sym (ok_ok _ _ e), tt)
aimed_is s l c (Named n) p e = found_is l c (place_in s.labels n) p e

target_is : (s : Plan) (l c : ℕ) (t : Target) (p : ℕ) → resolved_target s l c t ≡ Ok p → (p ≡ goal s t) × Hit s t
target_is s l c t p e =
    let a = ok_then (aimed s l c t) _ p e in
    let b = ok_cond (is_first (get_or s.kinds a.0 Free)) (Ok a.0) _ p a.2 in
    let k = aimed_is s l c t a.0 a.1 in
    (sym (ok_ok _ _ b.1) ∙ k.0, record { first = subst (λ q. get_or s.kinds q Free ≡ First) k.0 (first_is _ b.0); known = k.1 })

some_some : {A : Type 0} (x y : A) → ◌≡◌ {A = Option A} (Some x) (Some y) → x ≡ y
some_some x y e = cc

module _ (s : Plan) (l c : ℕ) (n : length s.kinds ≡ image_size) where
  -- an instruction with a target
  with_target : (make : ℕ → Instruction ℕ) (j : Instruction Target) (t : Target) (i : Instruction ℕ)
      → ((p : ℕ) → width (make p) ≡ width (unaimed j)) → make (goal s t) ≡ retarget (goal s) j → target_of j ≡ Some t → ((p : ℕ) → target_of (make p) ≡ Some p)
      → ((p : ℕ) → p ≤ 2047 → in_range (make p) ≡ true)
      → and_then (resolved_target s l c t) (λ p. Ok (make p)) ≡ Ok i → Aimed s j i
  with_target make j t i w same has has' r e =
      let a = ok_then (resolved_target s l c t) _ i e in
      let h = target_is s l c t a.0 a.1 in
      let k : make (goal s t) ≡ i = ap make (sym h.0) ∙ ok_ok _ _ a.2 in
      subst (Aimed s j) k (record {
        same_width = w (goal s t);
        aims = same;
        hits = λ u q. subst (Hit s) (some_some _ _ (sym has ∙ q)) h.1;
        first = λ q f. subst (λ y. get_or s.kinds y Free ≡ First) (some_some _ _ (sym (has' (goal s t)) ∙ f)) h.1.first;
        range = r (goal s t) (first_low s.kinds (goal s t) n h.1.first);
      })

  pub aims : (j : Instruction Target) (i : Instruction ℕ) → in_range (unaimed j) ≡ true → resolve s l c j ≡ Ok i → Aimed s j i
  aims (Go t) i r e = with_target Go (Go t) t i (λ p. refl) refl refl (λ p. refl) (λ p h. go_range p h) e
  aims (Jump t k) i r e = with_target (λ p. Jump p k) (Jump t k) t i (λ p. refl) refl refl (λ p. refl) (λ p h. jump_range 0 p k r h) e
  aims (JumpLow t k) i r e = with_target (λ p. JumpLow p k) (JumpLow t k) t i (λ p. refl) refl refl (λ p. refl) (λ p h. jump_low_range 0 p k r h) e
  aims (Act a) i r e =
      subst (Aimed s (Act a)) (ok_ok _ _ e) (record {
        same_width = refl;
        aims = refl;
        hits = λ t q. let z : ◌≡◌ {A = ℕ} 0 1 = cc in absurd (omega arith);
        first = λ t q. let z : ◌≡◌ {A = ℕ} 0 1 = cc in absurd (omega arith);
        range = r;
      })

-- the items are the lines, and each is aimed
abbrev pub AimedItem : Plan → Item → Type 0
AimedItem s i = Aimed s i.source.instruction i.instruction

pub aimed_line : (s : Plan) (x : Source) (i : Instruction ℕ) → length s.kinds ≡ image_size → Sound (Holds x) → resolve_line s x ≡ Ok i → Aimed s x.instruction i
aimed_line s x i n r e = aims s x.line x.column n x.instruction i r e

pub all_aimed : (ls : List Line) (t s s' : Plan) (is : List Item) → length t.kinds ≡ image_size → AllByRecursion Sound ls → placing ls s ≡ Ok s' → resolved t ls s.next ≡ Ok is → AllByRecursion (AimedItem t) is × Stand ls s.next is
all_aimed [] t s s' is k so e r = subst (λ is. AllByRecursion (AimedItem t) is × Stand [] s.next is) (ok_ok _ _ r) (tt, refl)
all_aimed (Blank ∷ ls) t s s' is k so e r = all_aimed ls t s s' is k so.1 e r
all_aimed (Opens l p ∷ ls) t s s' is k so e r =
    let a = ok_then (step (Opens l p) s) (placing ls) s' e in
    all_aimed ls t (opening p s) s' is k so.1 (subst (λ y. placing ls y ≡ Ok s') (sym (step_opens l p s a.0 a.1)) a.2) r
all_aimed (Holds x ∷ ls) t s s' is k so e r =
    let a = ok_then (step (Holds x) s) (placing ls) s' e in
    let c = step_holds x s a.0 a.1 in
    let b = became t x ls s.next is r in
    let m = aimed_line t x b.made k so.0 b.resolves in
    let ih = all_aimed ls t (laid x s c.labels) s' b.rest k so.1 (subst (λ y. placing ls y ≡ Ok s') (sym c.same) a.2) b.more in
    subst (λ is. AllByRecursion (AimedItem t) is × Stand (Holds x ∷ ls) s.next is) b.same
    ((m, ih.0), (refl, refl, refl, c.written, subst (λ w. Stand ls (s.next + w) b.rest) (sym m.same_width) ih.1))
