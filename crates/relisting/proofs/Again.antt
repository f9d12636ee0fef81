-- A listing translates into its image.
use Rattle.std.proofs.Common.{◌≡◌, ℕ, ◌+◌, ◌-◌, ◌<◌, ◌≤◌, Bool, true, false, cond, eqb, leb, ◌⊎◌, List, [], ◌∷◌, length, get_or, Some, Ok, Err, sym, refl, ap, ◌∙◌, subst, inl, inr, ⊎_elim, arith}
use lib.ListN.{length-replicate}
use lib.Seq.{sets, length-sets}
use Rattle.std.proofs.lemmas.Bool.{and_from, le-leb, eqb-true, or_cases, cases_lt, both_ways}
use Rattle.std.proofs.lemmas.List.{ext_get_or, get_or-replicate}
use Rattle.std.specs.List.{AllByRecursion}
use Rattle.isa.specs.declared.refusal.Refusal.TheVariants.{Size, Target as Astray}
use Rattle.isa.specs.declared.instruction.Instruction.{Instruction}
use Rattle.isa.specs.declared.instruction.Instruction.TheVariants.{Go, Jump, JumpLow, Act}
use Rattle.isa.specs.Checks.{and_then, require}
use Rattle.isa.specs.Instructions.{target_of, retarget}
use Rattle.isa.specs.Codes.{encoded, width}
use Rattle.sequence.specs.declared.text.Target.TheVariants.{Place}
use Rattle.sequence.specs.declared.text.Kind.TheVariants.{Free, First}
use Rattle.sequence.specs.declared.image.Found.{Found}
use Rattle.sequence.specs.Texts.{lines}
use Rattle.sequence.specs.Lines.{text_fault, refused}
use Rattle.sequence.specs.Placings.{width_of, Plan, fresh, is_first, resolve}
use Rattle.sequence.specs.Translations.{planned, painted, after, assembled, blank, labels_in, sized_text, Translation, translation}
use Rattle.sequence.specs.Images.{image_fault, walk, begins, begun, aimed, contents}
use Rattle.sequence.specs.Listings.{printed, listing}
use Rattle.sequence.proofs.Lengths.{short}
use Rattle.relisting.proofs.PrintedLines.{line_bytes, at_bytes, listed_source, at_parsed, line_parsed}
use Rattle.layout.proofs.Placing.{user_low}
use Rattle.relisting.proofs.Chains.{Chain, Fine, all_fine}
use Rattle.relisting.proofs.PrintedTexts.{text_lines, printed_lines, no_labels, few_lines}
use Rattle.relisting.proofs.Walks.{Bytes, Stands, covers, Covered, Contains, whole_walk}
use Rattle.layout.proofs.Basics.{ok_then, ok_ok, sets_out, sets_in}
use Rattle.relisting.proofs.Plans.{same_width, Run, listing_planned}

-- its target, if it has one, is a first byte
abbrev Goes : Plan → Instruction ℕ → Type 0
Goes s i = (q : ℕ) → target_of i ≡ Some q → get_or s.kinds q Free ≡ First

resolves : (s : Plan) (l c : ℕ) (i : Instruction ℕ) → Goes s i → resolve s l c (retarget Place i) ≡ Ok i
resolves s l c (Go p) g = ap (λ k. and_then (cond (is_first k) (Ok p) (refused Astray l c)) (λ p. Ok (Go p))) (g p refl)
resolves s l c (Jump p n) g = ap (λ k. and_then (cond (is_first k) (Ok p) (refused Astray l c)) (λ p. Ok (Jump p n))) (g p refl)
resolves s l c (JumpLow p n) g = ap (λ k. and_then (cond (is_first k) (Ok p) (refused Astray l c)) (λ p. Ok (JumpLow p n))) (g p refl)
resolves s l c (Act a) g = refl

-- an image with the bytes of all of them
abbrev painted_all : List Found → List ℕ → List ℕ
painted_all [] im = im
painted_all (f ∷ fs) im = painted_all fs (sets im f.place (encoded f.instruction))

-- the second pass over a listing
assembles : (s : Plan) (fs : List Found) (l n : ℕ) (used : Bool) (im : List ℕ) → Chain used n fs → AllByRecursion Fine fs → AllByRecursion (λ (f : Found). Goes s f.instruction) fs → assembled s l (text_lines fs) n im ≡ Ok (painted_all fs im)
assembles s [] l n used im c a g = refl
assembles s (f ∷ fs) l n used im c a g = go f.opens refl (λ k. assembles s fs k (p + width i) true (sets im p (encoded i)) c.2 a.1 g.1)
  where
    p : ℕ
    p = f.place

    i : Instruction ℕ
    i = f.instruction

    held : (k m : ℕ) → m ≡ p → assembled s (k + 1) (text_lines fs) (p + width i) (sets im p (encoded i)) ≡ Ok (painted_all (f ∷ fs) im) → assembled s k (line_bytes p i ∷ text_lines fs) m im ≡ Ok (painted_all (f ∷ fs) im)
    held k m here ih =
        let x = listed_source k p i in
        ap (λ r. and_then r (λ y. and_then (painted s y m im) (assembled s (k + 1) (text_lines fs) (after y m)))) (line_parsed p a.0.0 i a.0.1 k)
        ∙ ap (λ y. and_then (and_then y (λ i. Ok (sets im m (encoded i)))) (assembled s (k + 1) (text_lines fs) (m + width_of x))) (resolves s k x.column i g.0)
        ∙ ap (λ v. assembled s (k + 1) (text_lines fs) (m + v) (sets im m (encoded i))) (same_width i)
        ∙ ap (λ q. assembled s (k + 1) (text_lines fs) (q + width i) (sets im q (encoded i))) here ∙ ih

    go : (t : Bool) → f.opens ≡ t → ((k : ℕ) → assembled s k (text_lines fs) (p + width i) (sets im p (encoded i)) ≡ Ok (painted_all (f ∷ fs) im))
        → assembled s l (cond t (at_bytes p ∷ line_bytes p i ∷ text_lines fs) (line_bytes p i ∷ text_lines fs)) n im ≡ Ok (painted_all (f ∷ fs) im)
    go true e ih =
        ap (λ r. and_then r (λ y. and_then (painted s y n im) (assembled s (l + 1) (line_bytes p i ∷ text_lines fs) (after y n)))) (at_parsed p a.0.0 l)
        ∙ held (l + 1) p refl (ih (l + 1 + 1))
    go false e ih = held l n (sym (c.0.follows e).1) (ih (l + 1))

-- one of them is written: where it stands, and where the image was right before, it is right
write_back : (im : List ℕ) (q : ℕ) (f : Found) (base : List ℕ) (V : Type 0) → f.place + width f.instruction ≤ length base → Stands im f
    → (get_or base q 255 ≡ get_or im q 255) ⊎ (covers f q ⊎ V) → (get_or (sets base f.place (encoded f.instruction)) q 255 ≡ get_or im q 255) ⊎ V
write_back im q f base V room stands o = ⊎_elim (λ (h : q < f.place). off (inl h)) (λ (h : f.place ≤ q). ⊎_elim (λ (l : q < past). inl (on h l)) (λ (l : past ≤ q). off (inr l)) (cases_lt q past)) (cases_lt q f.place)
  where
    bytes : List ℕ
    bytes = encoded f.instruction

    past : ℕ
    past = f.place + width f.instruction

    off : (q < f.place) ⊎ (past ≤ q) → (get_or (sets base f.place bytes) q 255 ≡ get_or im q 255) ⊎ V
    off h =
        let same = sets_out bytes base f.place q 255 h in
        ⊎_elim (λ e. inl (same ∙ e)) (λ v. ⊎_elim (λ (y : covers f q). absurd (⊎_elim (λ (x : q < f.place). omega arith) (λ (x : past ≤ q). omega arith) h)) (λ y. inr y) v) o

    on : f.place ≤ q → q < past → get_or (sets base f.place bytes) q 255 ≡ get_or im q 255
    on h l =
        let x : f.place + (q - f.place) ≡ q = omega arith in
        let e : get_or (sets base f.place bytes) (f.place + (q - f.place)) 255 ≡ get_or im (f.place + (q - f.place)) 255 =
        sets_in bytes base f.place (q - f.place) 255 (omega arith) (omega arith) ∙ sym (stands (q - f.place) (omega arith)) in
        subst (λ y. get_or (sets base f.place bytes) y 255 ≡ get_or im y 255) x e

-- all of them are written
paint_back : (im : List ℕ) (q : ℕ) (fs : List Found) (base : List ℕ) (used : Bool) (n : ℕ) → length base ≡ 2048 → Chain used n fs → AllByRecursion (Stands im) fs → (get_or base q 255 ≡ get_or im q 255) ⊎ Covered fs q → get_or (painted_all fs base) q 255 ≡ get_or im q 255
paint_back im q [] base used n len c a (inl e) = e
paint_back im q [] base used n len c a (inr v) = absurd v
paint_back im q (f ∷ fs) base used n len c a o =
    let low = user_low (f.place + width f.instruction) (c.1 (width f.instruction) (omega arith)) in
    paint_back im q fs (sets base f.place (encoded f.instruction)) true (f.place + width f.instruction) (length-sets base f.place (encoded f.instruction) ∙ len) c.2 a.1
    (write_back im q f base (Covered fs q) (omega arith) a.0 o)

painted_size : (fs : List Found) (im : List ℕ) → length (painted_all fs im) ≡ length im
painted_size [] im = refl
painted_size (f ∷ fs) im = painted_size fs (sets im f.place (encoded f.instruction)) ∙ length-sets im f.place (encoded f.instruction)

-- the test of targets
aims_tell : (all fs out : List Found) → aimed all fs ≡ Ok out → (all ≡ out) × AllByRecursion (λ (f : Found). begun all (target_of f.instruction) ≡ true) fs
aims_tell all [] out e = (ok_ok all out e, tt)
aims_tell all (f ∷ fs) out e = go (begun all (target_of f.instruction)) refl (aims_tell all fs out) e
  where
    go : (t : Bool) → begun all (target_of f.instruction) ≡ t → (aimed all fs ≡ Ok out → (all ≡ out) × AllByRecursion (λ (f : Found). begun all (target_of f.instruction) ≡ true) fs)
        → cond t (aimed all fs) (Err (image_fault Astray f.place)) ≡ Ok out → (all ≡ out) × AllByRecursion (λ (f : Found). begun all (target_of f.instruction) ≡ true) (f ∷ fs)
    go true q ih e = let d = ih e in (d.0, (q, d.1))
    go false q ih e = let z : ◌≡◌ {A = ℕ} 0 1 = cc in absurd (omega arith)

begins_first : (s : Plan) (fs : List Found) → AllByRecursion (λ (f : Found). get_or s.kinds f.place Free ≡ First) fs → (q : ℕ) → begins fs q ≡ true → get_or s.kinds q Free ≡ First
begins_first s [] a q e = absurd (both_ways false refl e)
begins_first s (f ∷ fs) a q e =
    ⊎_elim (λ (h : eqb f.place q ≡ true). ap (λ p. get_or s.kinds p Free) (sym (eqb-true _ _ h)) ∙ a.0) (λ h. begins_first s fs a.1 q h) (or_cases (eqb f.place q) (begins fs q) e)

goes_on : (s : Plan) (all : List Found) → ((q : ℕ) → begins all q ≡ true → get_or s.kinds q Free ≡ First) → (fs : List Found) → AllByRecursion (λ (f : Found). begun all (target_of f.instruction) ≡ true) fs → AllByRecursion (λ (f : Found). Goes s f.instruction) fs
goes_on s all h [] a = tt
goes_on s all h (f ∷ fs) a = (λ q e. h q (subst (λ o. begun all o ≡ true) e a.0), goes_on s all h fs a.1)

-- the passes of a translation, one after the other
passes : (text : List ℕ) (s : Plan) (im : List ℕ) → sized_text text ≡ true → planned 1 (lines text) fresh ≡ Ok s → assembled s 1 (lines text) 0 blank ≡ Ok im → translation text ≡ Ok (record { image = im; labels = s.labels; count = s.count })
passes text s im z p e =
    ap (λ t. and_then (require t (text_fault Size 0 0)) (λ _. and_then (planned 1 (lines text) fresh) (λ s. and_then (assembled s 1 (lines text) 0 blank) (λ im. Ok (record { image = im; labels = s.labels; count = s.count }))))) z
    ∙ ap (λ o. and_then o (λ s. and_then (assembled s 1 (lines text) 0 blank) (λ im. Ok (record { image = im; labels = s.labels; count = s.count })))) p
    ∙ ap (λ o. and_then o (λ im. Ok (record { image = im; labels = s.labels; count = s.count }))) e

sized : (fs : List Found) → length (printed fs) ≤ 16384 → Chain false 0 fs → AllByRecursion Fine fs → sized_text (printed fs) ≡ true
sized fs bytes c fine =
    let ls = printed_lines fs fine in
    let few = few_lines fs false 0 (omega arith) c in
    and_from _ _ (le-leb _ 16384 bytes)
    (and_from _ _ (ap (λ l. leb (length l) 2048) ls ∙ le-leb _ 2048 (omega arith)) (ap (λ l. leb (labels_in l) 64) ls ∙ ap (λ n. leb n 64) (no_labels fs fine)))

-- the bytes are those of the image
same_image : (im : List ℕ) (fs : List Found) → length im ≡ 2048 → Contains im fs → painted_all fs blank ≡ im
same_image im fs len d =
    let size : length blank ≡ 2048 = length-replicate {A = ℕ} 2048 255 in
    ext_get_or 255 (painted_all fs blank) im (painted_size fs blank ∙ size ∙ sym len) (λ q h.
    let low : q < 2048 = omega (arith, painted_size fs blank) in
    paint_back im q fs blank false 0 size d.chain d.stands (⊎_elim (λ e. inl (get_or-replicate 2048 q 255 255 low ∙ sym e)) (λ v. inr v) (d.rest q low)))

-- instructions of which every target is one of their places
abbrev pub Aims : List Found → Type 0
Aims fs = AllByRecursion (λ (f : Found). begun fs (target_of f.instruction) ≡ true) fs

translated : (im : List ℕ) (fs : List Found) → length im ≡ 2048 → length (printed fs) ≤ 16384 → Contains im fs → Aims fs → (t : Translation) × (translation (printed fs) ≡ Ok t) × (t.image ≡ im)
translated im fs len bytes d tests = go (listing_planned fs d.chain fine)
  where
    fine : AllByRecursion Fine fs
    fine = all_fine fs false 0 d.chain d.range

    ls : lines (printed fs) ≡ text_lines fs
    ls = printed_lines fs fine

    go : Run 1 (text_lines fs) fs fresh → (t : Translation) × (translation (printed fs) ≡ Ok t) × (t.image ≡ im)
    go r =
        let s = r.after in
        let p : planned 1 (lines (printed fs)) fresh ≡ Ok s = ap (λ l. planned 1 l fresh) ls ∙ r.runs in
        let e : assembled s 1 (lines (printed fs)) 0 blank ≡ Ok (painted_all fs blank) =
        ap (λ l. assembled s 1 l 0 blank) ls ∙ assembles s fs 1 0 false blank d.chain fine (goes_on s fs (begins_first s fs r.firsts) fs tests) in
        (record { image = painted_all fs blank; labels = s.labels; count = s.count }, passes (printed fs) s (painted_all fs blank) (sized fs bytes d.chain fine) p e, same_image im fs len d)

-- what the lister finds in an image
pub found_there : (im : List ℕ) (fs : List Found) → length im ≡ 2048 → Bytes im → contents im ≡ Ok fs → Contains im fs × Aims fs
found_there im fs len small e =
    let b = ok_then (walk 0 false 0 im) (λ fs. aimed fs fs) fs e in
    let tell = aims_tell b.0 b.0 fs b.2 in
    (whole_walk im fs len small (b.1 ∙ ap Ok tell.0), subst Aims tell.0 tell.1)

-- whatever is listed, its listing translates into it
pub reads_again : (im out : List ℕ) → length im ≡ 2048 → ((q : ℕ) → get_or im q 255 < 256) → listing im ≡ Ok out → (t : Translation) × (translation out ≡ Ok t) × (t.image ≡ im)
reads_again im out len small e =
    let a = ok_then (contents im) (λ fs. Ok (printed fs)) out e in
    let f = found_there im a.0 len small a.1 in
    let same : printed a.0 ≡ out = ok_ok _ _ a.2 in
    let bytes : length (printed a.0) ≤ 16384 = subst (λ t. length t ≤ 16384) (sym same) (short im len out e) in
    let t = translated im a.0 len bytes f.0 f.1 in
    (t.0, ap translation (sym same) ∙ t.1, t.2)
