-- Results, tests over places, writes to a list, and what they leave of the kinds.
use Rattle.std.proofs.Common.{◌≡◌, ℕ, zero, suc, ◌+◌, ◌-◌, ◌<◌, ◌≤◌, Bool, true, false, cond, ◌≢◌, ◌⊎◌, List, [], ◌∷◌, ◌++◌, length, get_or, set, replicate, Ok, Err, Result, sym, refl, ap, ◌∙◌, subst, inl, inr, ⊎_elim, arith, length-set, get_or-set_other, get_or-set_same}
use lib.ListN.{length-replicate}
use lib.Seq.{sets}
use Rattle.std.proofs.lemmas.Bool.{and_parts, cases_eq, cases_lt}
use Rattle.std.proofs.lemmas.List.{get_or-replicate, set_past}
use Rattle.std.specs.List.{AllByRecursion}
use Rattle.isa.specs.Checks.{and_then, require}
use Rattle.isa.specs.Places.{every}
use Rattle.sequence.specs.declared.text.Kind.{Kind}
use Rattle.sequence.specs.declared.text.Kind.TheVariants.{Free, First, Further, Mark}
use Rattle.sequence.specs.Placings.{is_free, is_first, lay}
use Rattle.sequence.specs.Layouts.{Item, In}

-- what a check that passed was
pub ok_cond : {A E : Type 0} (t : Bool) (x : Result A E) (f : E) (y : A) → cond t x (Err f) ≡ Ok y → (t ≡ true) × (x ≡ Ok y)
ok_cond true x f y e = (refl, e)
ok_cond false x f y e = let z : ◌≡◌ {A = ℕ} 0 1 = cc in absurd (omega arith)

pub ok_then : {A B E : Type 0} (r : Result A E) (k : A → Result B E) (y : B) → and_then r k ≡ Ok y → (a : A) × (r ≡ Ok a) × (k a ≡ Ok y)
ok_then (Ok a) k y e = (a, refl, e)
ok_then (Err f) k y e = let z : ◌≡◌ {A = ℕ} 0 1 = cc in absurd (omega arith)

pub ok_ok : {A E : Type 0} (x y : A) → ◌≡◌ {A = Result A E} (Ok x) (Ok y) → x ≡ y
ok_ok x y e = cc

pub ok_require : {E : Type 0} (t : Bool) (f : E) (u : Unit {0}) → require t f ≡ Ok u → t ≡ true
ok_require true f u e = refl
ok_require false f u e = let z : ◌≡◌ {A = ℕ} 0 1 = cc in absurd (omega arith)

-- a test over n places, place by place
pub every_at : (t : ℕ → Bool) (n p k : ℕ) → every t p n ≡ true → k < n → t (p + k) ≡ true
every_at t zero p k h l = absurd (omega arith)
every_at t (suc n) p zero h l = ap t (let x : p + 0 ≡ p = omega arith in x) ∙ (and_parts _ _ h).0
every_at t (suc n) p (suc k) h l = ap t (let x : p + suc k ≡ suc p + k = omega arith in x) ∙ every_at t n (suc p) k (and_parts _ _ h).1 (omega arith)

-- what follows from what holds of all, holds of all
pub all_weaker : {X : Type 0} (P Q : X → Type 0) → ((x : X) → P x → Q x) → (xs : List X) → AllByRecursion P xs → AllByRecursion Q xs
all_weaker P Q f [] h = tt
all_weaker P Q f (x ∷ xs) h = (f x h.0, all_weaker P Q f xs h.1)

-- what holds of all and of one more
pub all_push : {X : Type 0} (P : X → Type 0) (xs : List X) (y : X) → AllByRecursion P xs → P y → AllByRecursion P (xs ++ y ∷ [])
all_push P [] y h p = (p, tt)
all_push P (x ∷ xs) y h p = (h.0, all_push P xs y h.1 p)

-- what holds of all items holds of one
pub all_in : (P : Item → Type 0) (is : List Item) → AllByRecursion P is → (i : Item) → In i is → P i
all_in P [] a i m = absurd m
all_in P (j ∷ is) a i (inl e) = subst P (sym e) a.0
all_in P (j ∷ is) a i (inr m) = all_in P is a.1 i m

-- what several writes leave, off them and on them
pub sets_out : {A : Type 0} (vs l : List A) (i q : ℕ) (d : A) → (q < i) ⊎ (i + length vs ≤ q) → get_or (sets l i vs) q d ≡ get_or l q d
sets_out [] l i q d o = refl
sets_out (v ∷ vs) l i q d o =
    let n : q ≢ i = omega arith in
    sets_out vs (set l i v) (suc i) q d (⊎_elim (λ (h : q < i). inl (omega arith)) (λ (h : i + suc (length vs) ≤ q). inr (omega arith)) o) ∙ get_or-set_other l i q v d n

pub sets_in : {A : Type 0} (vs l : List A) (i k : ℕ) (d : A) → i + length vs ≤ length l → k < length vs → get_or (sets l i vs) (i + k) d ≡ get_or vs k d
sets_in [] l i k d b h = absurd (omega arith)
sets_in (v ∷ vs) l i zero d b h =
    ap (λ q. get_or (sets (set l i v) (suc i) vs) q d) (let x : i + 0 ≡ i = omega arith in x) ∙ sets_out vs (set l i v) (suc i) i d (inl (omega arith)) ∙ get_or-set_same l i v d (omega arith)
sets_in (v ∷ vs) l i (suc k) d b h =
    ap (λ q. get_or (sets (set l i v) (suc i) vs) q d) (let x : i + suc k ≡ suc i + k = omega arith in x) ∙ sets_in vs (set l i v) (suc i) k d (omega (arith, length-set l i v)) (omega arith)

-- the kinds are told apart
pub free_is : (k : Kind) → is_free k ≡ true → k ≡ Free
free_is Free e = refl
free_is First e = let z : ◌≡◌ {A = ℕ} 0 1 = cc in absurd (omega arith)
free_is Further e = let z : ◌≡◌ {A = ℕ} 0 1 = cc in absurd (omega arith)
free_is Mark e = let z : ◌≡◌ {A = ℕ} 0 1 = cc in absurd (omega arith)

pub first_is : (k : Kind) → is_first k ≡ true → k ≡ First
first_is Free e = let z : ◌≡◌ {A = ℕ} 0 1 = cc in absurd (omega arith)
first_is First e = refl
first_is Further e = let z : ◌≡◌ {A = ℕ} 0 1 = cc in absurd (omega arith)
first_is Mark e = let z : ◌≡◌ {A = ℕ} 0 1 = cc in absurd (omega arith)

-- the kinds after an instruction of w bytes took its places
module _ (m : List Kind) (p w : ℕ) (some : 1 ≤ w) (room : p + w ≤ length m) where
  size : length {A = Kind} (First ∷ replicate (w - 1) Further) ≡ w
  size = omega (arith, length-replicate {A = Kind} (w - 1) Further)

  pub lay_out : (q : ℕ) → (q < p) ⊎ (p + w ≤ q) → get_or (lay m p w) q Free ≡ get_or m q Free
  lay_out q o = let s = size in sets_out (First ∷ replicate (w - 1) Further) m p q Free (⊎_elim (λ (h : q < p). inl h) (λ (h : p + w ≤ q). inr (omega arith)) o)

  pub lay_first : get_or (lay m p w) p Free ≡ First
  lay_first = let s = size in ap (λ q. get_or (lay m p w) q Free) (let x : p ≡ p + 0 = omega arith in x) ∙ sets_in (First ∷ replicate (w - 1) Further) m p 0 Free (omega arith) (omega arith)

  lay_further : (k : ℕ) → suc k < w → get_or (lay m p w) (p + suc k) Free ≡ Further
  lay_further k h = let s = size in sets_in (First ∷ replicate (w - 1) Further) m p (suc k) Free (omega arith) (omega arith) ∙ get_or-replicate (w - 1) k Further Free (omega arith)

  pub lay_on : (k : ℕ) → k < w → (get_or (lay m p w) (p + k) Free ≡ Free → ⊥) × (get_or (lay m p w) (p + k) Free ≡ First → k ≡ 0)
  lay_on zero h = let e = ap (λ q. get_or (lay m p w) q Free) (let x : p + 0 ≡ p = omega arith in x) ∙ lay_first in (λ f. let z : ◌≡◌ {A = ℕ} 0 1 = cc in omega arith, λ f. refl)
  lay_on (suc k) h = let e = lay_further k h in (λ f. let z : ◌≡◌ {A = ℕ} 0 1 = cc in omega arith, λ f. let z : ◌≡◌ {A = ℕ} 0 1 = cc in absurd (omega arith))

-- a mark written over the kinds changes no other kind
pub mark_other : (m : List Kind) (i q : ℕ) (v : Kind) → get_or (set m i Mark) q Free ≡ v → (v ≡ Mark → ⊥) → get_or m q Free ≡ v
mark_other m i q v e n =
    ⊎_elim (λ (s : q ≡ i). ⊎_elim
    (λ (h : i < length m). absurd (n (sym e ∙ ap (λ x. get_or (set m i Mark) x Free) s ∙ get_or-set_same m i Mark Free h)))
    (λ (h : length m ≤ i). ap (λ x. get_or x q Free) (sym (set_past m i Mark h)) ∙ e) (cases_lt i (length m)))
    (λ d. sym (get_or-set_other m i q Mark Free d) ∙ e) (cases_eq q i)
