-- Every image in which items are laid out is listed.
use Rattle.std.proofs.Common.{◌≡◌, ℕ, zero, suc, ◌+◌, ◌-◌, ◌<◌, ◌≤◌, Bool, true, false, cond, not, ◌&&◌, eqb, ◌⊎◌, List, [], ◌∷◌, length, get_or, take, Some, None, Ok, Option, Result, sym, refl, ap, ◌∙◌, subst, ⊎_elim, arith}
use Rattle.std.proofs.lemmas.Bool.{cases_lt, eq-eqb, or_left, or_right, cond-true, cond-false, both_ways}
use Rattle.std.proofs.lemmas.List.{length-take-le, get_or-take, ext_get_or, take_all}
use Rattle.std.specs.List.{AllByRecursion}
use Rattle.std.specs.Option.{option_map}
use Rattle.isa.specs.declared.refusal.Refusal.TheVariants.{Area}
use Rattle.isa.specs.declared.shape.Shape.{Shape}
use Rattle.isa.specs.declared.instruction.Direction.TheVariants.{Plus, Minus}
use Rattle.isa.specs.declared.instruction.Action.TheVariants.{Outputs, Divisor, InitialSpeed, SlewSpeed, Rates, Origin, IndexTo, Wait, Report, Index}
use Rattle.isa.specs.declared.instruction.Instruction.{Instruction}
use Rattle.isa.specs.declared.instruction.Instruction.TheVariants.{Go, Jump, JumpLow, Act}
use Rattle.isa.specs.Checks.{and_then}
use Rattle.isa.specs.Places.{user, all_user}
use Rattle.isa.specs.Shapes.{width_of}
use Rattle.isa.specs.Instructions.{letter_of, target_of}
use Rattle.isa.specs.Table.{shape_of}
use Rattle.isa.specs.Codes.{encoded, width, in_range, decoded}
use Rattle.isa.proofs.RoundTrip.{reads_back, letter_width}
use Rattle.sequence.specs.declared.image.ImageFault.{ImageFault}
use Rattle.sequence.specs.declared.image.Found.{Found}
use Rattle.sequence.specs.Images.{Content, mark, code, wrong, ranged, lettered, content_at, with_found, found_at, onward, is_code, further, walk, begins, begun, aimed, contents}
use Rattle.sequence.specs.Layouts.{Item, In, end, stop, covers, Apart, Laid}
use Rattle.sequence.specs.Listings.{printed, listing}
use Rattle.layout.proofs.Painting.{end_stop, same_or_apart}
use Rattle.layout.proofs.Placing.{user_low}
use Rattle.relisting.proofs.Chains.{some_width}
use Rattle.relisting.proofs.Plans.{every_from}
use Rattle.relisting.proofs.Items.{covered}
use Rattle.relisting.proofs.Walks.{Rest, rest_on}

-- a letter is no mark
letter_unmarked : (i : Instruction ℕ) → eqb (letter_of i) 255 ≡ false
letter_unmarked (Go p) = refl
letter_unmarked (Jump p n) = refl
letter_unmarked (JumpLow p n) = refl
letter_unmarked (Act (Outputs n)) = refl
letter_unmarked (Act (Divisor n)) = refl
letter_unmarked (Act (InitialSpeed n)) = refl
letter_unmarked (Act (SlewSpeed n)) = refl
letter_unmarked (Act (Rates a d)) = refl
letter_unmarked (Act (Origin z)) = refl
letter_unmarked (Act (IndexTo z)) = refl
letter_unmarked (Act (Wait n)) = refl
letter_unmarked (Act Report) = refl
letter_unmarked (Act (Index Plus n)) = refl
letter_unmarked (Act (Index Minus n)) = refl

-- a letter has the shape of its instructions
letter_shape : (i : Instruction ℕ) → (s : Shape) × (shape_of (letter_of i) ≡ Some s) × (width_of s ≡ width i)
letter_shape i = go (shape_of (letter_of i)) refl (letter_width i)
  where
    go : (o : Option Shape) → shape_of (letter_of i) ≡ o → option_map width_of o ≡ Some (width i) → (s : Shape) × (shape_of (letter_of i) ≡ Some s) × (width_of s ≡ width i)
    go None q e = let z : ◌≡◌ {A = ℕ} 0 1 = cc in absurd (omega arith)
    go (Some s) q e = (s, q, let x : width_of s ≡ width i = cc in x)

-- an instruction whose bytes begin the list is read there
pub seen_code : (p : ℕ) (s : List ℕ) (i : Instruction ℕ) → in_range i ≡ true → take (width i) s ≡ encoded i → get_or s 0 255 ≡ letter_of i → ((k : ℕ) → k < width i → user (p + k) ≡ true) → content_at p s ≡ code i
seen_code p s i r same first us =
    let h = letter_shape i in
    let w = some_width i in
    let n : eqb (get_or s 0 255) 255 ≡ false = ap (λ b. eqb b 255) first ∙ letter_unmarked i in
    let u : user p ≡ true = ap user (let x : p ≡ p + 0 = omega arith in x) ∙ us 0 w in
    let o : shape_of (get_or s 0 255) ≡ Some h.0 = ap shape_of first ∙ h.1 in
    let l : all_user (suc p) (width i - 1) ≡ true = every_from user (width i - 1) (suc p) (λ k g. ap user (let x : suc p + k ≡ p + suc k = omega arith in x) ∙ us (suc k) (omega arith)) in
    let d : decoded (take (width i) s) ≡ Ok i = ap decoded same ∙ (reads_back i r).back (encoded i) (take_all (width i) (encoded i) (omega arith)) in
    cond-false _ _ _ n ∙ cond-true _ _ _ u ∙ ap (lettered p s) o
    ∙ ap (λ m. cond (all_user (suc p) (m - 1)) (ranged (decoded (take m s))) (wrong Area)) h.2 ∙ cond-true _ _ _ l ∙ ap ranged d

pub seen_mark : (p : ℕ) (s : List ℕ) → get_or s 0 255 ≡ 255 → content_at p s ≡ mark
seen_mark p s h = cond-true _ _ _ (eq-eqb _ _ h)

-- what the walk reads from place m on: only what is laid out, and all of it
record Reading (is : List Item) (m : ℕ) (out : Result (List Found) ImageFault) : Type 0 where
  reads : List Found
  good : out ≡ Ok reads
  sound : AllByRecursion (λ (f : Found). (i : Item) × In i is × (i.instruction ≡ f.instruction)) reads
  full : (i : Item) → In i is → m ≤ i.place → begins reads i.place ≡ true

-- an instruction that begins no earlier is the one just read, or is read after it
begun_here : (i j : Item) (f : Found) (fs : List Found) → f.place ≡ i.place → (i ≡ j) ⊎ Apart i j → i.place ≤ j.place → (end i ≤ j.place → begins fs j.place ≡ true) → begins (f ∷ fs) j.place ≡ true
begun_here i j f fs here o h more =
    ⊎_elim (λ (g : i ≡ j). or_left (eqb f.place j.place) _ (eq-eqb _ _ (here ∙ ap (λ (y : Item). y.place) g)))
    (λ (g : Apart i j). let si = end_stop i in let sj = end_stop j in let wj = some_width j.instruction in
    ⊎_elim (λ (a : stop i ≤ j.place). or_right (eqb f.place j.place) _ (more (omega arith))) (λ (a : stop j ≤ i.place). absurd (omega arith)) g)
    o

module _ (is : List Item) (im : List ℕ) (l : Laid is im) where
  -- no instruction has begun before this place and goes on past it
  abbrev Between : ℕ → Type 0
  Between q = (i : Item) → In i is → i.place < q → q < end i → ⊥

  -- the bytes of an instruction, in what is left of the image
  bytes : (i : Item) → In i is → (s : List ℕ) → Rest im i.place s → 2048 ≡ i.place + length s → take (width i.instruction) s ≡ encoded i.instruction
  bytes i m s at len =
      let u = user_low (end i) (l.users i m (width i.instruction) (omega arith)) in
      let size = length-take-le (width i.instruction) s (omega arith) in
      ext_get_or 255 _ _ size (λ k h. get_or-take (width i.instruction) s k 255 (omega arith) ∙ sym (at k) ∙ l.stands i m k (omega arith))

  accept : (s : List ℕ) (p : ℕ) (inside : Bool) (k : ℕ) → 2048 ≡ p + length s → Rest im p s → Between (p + k) → (inside ≡ true → user (p + k) ≡ true) → Reading is (p + k) (walk p inside k s)
  accept [] p true k len at out room = let u = user_low (p + k) (room refl) in absurd (omega arith)
  accept [] p false k len at out room = record { reads = []; good = refl; sound = tt; full = λ i m h. let u = user_low (i.place + 0) (l.users i m 0 (omega arith)) in absurd (omega arith) }
  accept (b ∷ bs) p inside (suc k) len at out room =
      let e : suc p + k ≡ p + suc k = omega arith in
      subst (λ x. Reading is x (walk (suc p) inside k bs)) e (accept bs (suc p) inside k (omega arith) (rest_on im p b bs at) (λ i m a z. out i m (omega arith) (omega arith)) (λ t. ap user e ∙ room t))
  accept (b ∷ bs) p inside zero len at out room =
      ⊎_elim
      (λ (f : (i : Item) × In i is × covers i p). at_code f.0 f.1 f.2 (λ k. accept bs (suc p) true k (omega arith) (rest_on im p b bs at)))
      (λ none.
      let byte : b ≡ 255 = sym (at 0) ∙ ap (λ q. get_or im q 255) (let x : p + 0 ≡ p = omega arith in x) ∙ l.rest p none in
      let ih = accept bs (suc p) false 0 (omega arith) (rest_on im p b bs at) (λ i m a z. none i m (omega arith, omega arith)) (λ t. absurd (both_ways false refl t)) in
      saw mark (seen_mark p (b ∷ bs) byte) (record {
        reads = ih.reads;
        good = cond-false _ _ _ (inside_user inside room) ∙ ih.good;
        sound = ih.sound;
        full = λ i m h. ih.full i m (let w = some_width i.instruction in ⊎_elim (λ (g : i.place < suc p). absurd (none i m (omega arith, omega arith))) (λ (g : suc p ≤ i.place). omega arith) (cases_lt i.place (suc p)));
      }))
      (covered is p)
    where
      saw : (y : Content) → content_at p (b ∷ bs) ≡ y → Reading is (p + 0) (onward p inside y (walk (suc p) (is_code y) (further y) bs)) → Reading is (p + 0) (walk p inside 0 (b ∷ bs))
      saw y e r = subst (λ x. Reading is (p + 0) (onward p inside x (walk (suc p) (is_code x) (further x) bs))) (sym e) r

      inside_user : (t : Bool) → (t ≡ true → user (p + 0) ≡ true) → (t && not (user p)) ≡ false
      inside_user false g = refl
      inside_user true g = ap not (ap user (let x : p ≡ p + 0 = omega arith in x) ∙ g refl)

      more : (i : Item) → In i is → i.place ≡ p → content_at p (b ∷ bs) ≡ code i.instruction → Reading is (suc p + (width i.instruction - 1)) (walk (suc p) true (width i.instruction - 1) bs) → Reading is (p + 0) (walk p inside 0 (b ∷ bs))
      more i m here e ih = saw (code i.instruction) e (record {
        reads = found_at p inside i.instruction ∷ ih.reads;
        good = ap (with_found (found_at p inside i.instruction)) ih.good;
        sound = ((i, m, refl), ih.sound);
        full = λ j n h. begun_here i j (found_at p inside i.instruction) ih.reads (sym here) (same_or_apart is l.apart i j m n) (omega arith) (λ g. let w = some_width i.instruction in ih.full j n (omega arith));
      })

      at_code : (i : Item) → In i is → covers i p → ((k : ℕ) → Between (suc p + k) → (◌≡◌ {A = Bool} true true → user (suc p + k) ≡ true) → Reading is (suc p + k) (walk (suc p) true k bs)) → Reading is (p + 0) (walk p inside 0 (b ∷ bs))
      at_code i m c on =
          let here : i.place ≡ p = ⊎_elim (λ (g : i.place < p). absurd (out i m (omega arith) (omega arith))) (λ (g : p ≤ i.place). omega arith) (cases_lt i.place p) in
          let w = some_width i.instruction in
          let at' : Rest im i.place (b ∷ bs) = subst (λ q. Rest im q (b ∷ bs)) (sym here) at in
          let first : b ≡ letter_of i.instruction = sym (at' 0) ∙ l.stands i m 0 w in
          let us : (k : ℕ) → k < width i.instruction → user (p + k) ≡ true = λ k h. ap user (let x : p + k ≡ i.place + k = omega arith in x) ∙ l.users i m k (omega arith) in
          let e : suc p + (width i.instruction - 1) ≡ end i = omega arith in
          more i m here (seen_code p (b ∷ bs) i.instruction (l.range i m) (bytes i m (b ∷ bs) at' (omega arith)) first us) (on (width i.instruction - 1)
          (λ j n a z. ⊎_elim (λ (g : i ≡ j). let h : end i ≡ end j = ap end g in omega arith)
          (λ (g : Apart i j). let si = end_stop i in let sj = end_stop j in ⊎_elim (λ (h : stop i ≤ j.place). omega arith) (λ (h : stop j ≤ i.place). omega arith) g)
          (same_or_apart is l.apart i j m n))
          (λ _. ap user e ∙ l.users i m (width i.instruction) (omega arith)))

  aims_pass : (all : List Found) → ((i : Item) → In i is → begins all i.place ≡ true) → (fs : List Found) → AllByRecursion (λ (f : Found). (i : Item) × In i is × (i.instruction ≡ f.instruction)) fs → aimed all fs ≡ Ok all
  aims_pass all full [] a = refl
  aims_pass all full (f ∷ fs) a = cond-true _ _ _ (go (target_of f.instruction) refl) ∙ aims_pass all full fs a.1
    where
      go : (o : Option ℕ) → target_of f.instruction ≡ o → begun all o ≡ true
      go None e = refl
      go (Some t) e =
          let g = l.targets a.0.0 a.0.1 t (ap target_of a.0.2 ∙ e) in
          ap (begins all) (sym g.2) ∙ full g.0 g.1

-- the lister finds instructions there
pub contents_found : (is : List Item) (im : List ℕ) → Laid is im → (fs : List Found) × (contents im ≡ Ok fs)
contents_found is im l =
    let r = accept is im l im 0 false 0 (let s = l.size in omega arith) (λ j. ap (λ q. get_or im q 255) (let x : 0 + j ≡ j = omega arith in x)) (λ i m a z. omega arith) (λ t. absurd (both_ways false refl t)) in
    (r.reads, ap (λ o. and_then o (λ fs. aimed fs fs)) r.good ∙ aims_pass is im l r.reads (λ i m. r.full i m (omega arith)) r.reads r.sound)

pub always_listed : (is : List Item) (im : List ℕ) → Laid is im → (out : List ℕ) × (listing im ≡ Ok out)
always_listed is im l = let c = contents_found is im l in (printed c.0, ap (λ o. and_then o (λ fs. Ok (printed fs))) c.1)
