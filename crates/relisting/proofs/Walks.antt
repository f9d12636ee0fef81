-- What a walk over an image reads: a chain whose bytes stand in the image, and 255 everywhere else.
use Rattle.std.proofs.Common.{◌≡◌, ℕ, zero, suc, ◌+◌, ◌-◌, ◌<◌, ◌≤◌, Bool, true, false, cond, not, ◌&&◌, eqb, ◌⊎◌, List, [], ◌∷◌, length, get_or, take, Some, None, Ok, Err, Option, Result, sym, refl, ap, ◌∙◌, subst, inl, inr, ⊎_elim, arith}
use Rattle.std.proofs.lemmas.Bool.{cases_lt, eqb-true, not-false, both_ways}
use Rattle.std.proofs.lemmas.List.{length-take-le, get_or-take}
use Rattle.std.specs.List.{AllByRecursion}
use Rattle.std.specs.Option.{option_map}
use Rattle.isa.specs.declared.refusal.Refusal.{Refusal}
use Rattle.isa.specs.declared.refusal.Refusal.TheVariants.{Area}
use Rattle.isa.specs.declared.shape.Shape.{Shape}
use Rattle.isa.specs.declared.shape.Shape.TheVariants.{Plain, Byte, Pair, Word, Target, TargetByte, Signed, Long}
use Rattle.isa.specs.declared.instruction.Instruction.{Instruction}
use Rattle.isa.specs.Places.{user, all_user}
use Rattle.isa.specs.Shapes.{width_of}
use Rattle.isa.specs.Instructions.{letter_of}
use Rattle.isa.specs.Table.{shape_of}
use Rattle.isa.specs.Codes.{encoded, width, in_range, padded, decoded}
use Rattle.isa.proofs.RoundTrip.{letter_width, stood}
use Rattle.sequence.specs.declared.image.ImageFault.{ImageFault}
use Rattle.sequence.specs.declared.image.Found.{Found}
use Rattle.sequence.specs.Images.{Content, mark, code, wrong, image_fault, ranged, lettered, read_at, content_at, with_found, found_at, onward, is_code, further, walk}
use Rattle.sequence.proofs.Contents.{seen}
use Rattle.layout.proofs.Basics.{every_at}
use Rattle.layout.proofs.Placing.{user_low}
use Rattle.relisting.proofs.Chains.{some_width, Begins, Chain, Ranged}

abbrev pub Bytes : List ℕ → Type 0
Bytes s = (j : ℕ) → get_or s j 255 < 256

-- at most four bytes, made up to four and cut again
pad : (ts : List ℕ) → length ts ≤ 4 → take (length ts) (padded ts) ≡ ts
pad [] h = refl
pad (a ∷ []) h = refl
pad (a ∷ b ∷ []) h = refl
pad (a ∷ b ∷ c ∷ []) h = refl
pad (a ∷ b ∷ c ∷ d ∷ []) h = refl
pad (a ∷ b ∷ c ∷ d ∷ e ∷ ts) h = absurd (omega arith)

take_bytes : (s : List ℕ) (w k : ℕ) → Bytes s → get_or (take w s) k 0 < 256
take_bytes s zero k h = omega arith
take_bytes [] (suc w) k h = omega arith
take_bytes (b ∷ bs) (suc w) zero h = h 0
take_bytes (b ∷ bs) (suc w) (suc k) h = take_bytes bs w k (λ j. h (suc j))

shape_width : (s : Shape) → (1 ≤ width_of s) × (width_of s ≤ 4)
shape_width Plain = (omega arith, omega arith)
shape_width Byte = (omega arith, omega arith)
shape_width Pair = (omega arith, omega arith)
shape_width Word = (omega arith, omega arith)
shape_width Target = (omega arith, omega arith)
shape_width TargetByte = (omega arith, omega arith)
shape_width Signed = (omega arith, omega arith)
shape_width Long = (omega arith, omega arith)

-- what is known where the walk reads an instruction
record Known (p : ℕ) (s : List ℕ) (i : Instruction ℕ) : Type 0 where
  bytes : take (width i) s ≡ encoded i
  users : (k : ℕ) → k < width i → user (p + k) ≡ true
  range : in_range i ≡ true

module _ (p b : ℕ) (bs : List ℕ) (i : Instruction ℕ) (len : 2048 ≡ p + length (b ∷ bs)) (small : Bytes (b ∷ bs)) where
  known : content_at p (b ∷ bs) ≡ code i → Known p (b ∷ bs) i
  known e =
      let x = seen p (b ∷ bs) i e in
      let w = width_of x.shape in
      let h = shape_width x.shape in
      let ts = take w (b ∷ bs) in
      let sm : (k : ℕ) → get_or ts k 0 < 256 = λ k. take_bytes (b ∷ bs) w k small in
      let st = stood (get_or ts 0 0) (get_or ts 1 0) (get_or ts 2 0) (get_or ts 3 0) (sm 1) (sm 2) (sm 3) i x.decodes in
      let head : get_or ts 0 0 ≡ b = get_or-take w (b ∷ bs) 0 0 (omega arith) in
      let letter : b ≡ letter_of i = sym head ∙ ap (λ l. get_or l 0 0) st.bytes in
      let same : w ≡ width i = same_width x.shape (sym x.letter ∙ ap shape_of letter) in
      let lu : (k : ℕ) → k < w - 1 → user (suc p + k) ≡ true = λ k l. every_at user (w - 1) (suc p) k x.users l in
      let room : w ≤ length (b ∷ bs) = fits w h.0 lu in
      let size : length ts ≡ w = length-take-le w (b ∷ bs) room in
      record {
        bytes = ap (λ n. take n (b ∷ bs)) (sym same) ∙ sym (pad ts (omega arith)) ∙ ap (λ n. take n (padded ts)) (size ∙ same) ∙ st.bytes;
        users = λ k l. place_user k w (omega arith) x.user lu;
        range = st.range;
      }
    where
      same_width : (s : Shape) → Some s ≡ shape_of (letter_of i) → width_of s ≡ width i
      same_width s q = let k : Some (width_of s) ≡ Some (width i) = ap (option_map width_of) q ∙ letter_width i in cc

      fits : (w : ℕ) → 1 ≤ w → ((k : ℕ) → k < w - 1 → user (suc p + k) ≡ true) → w ≤ length (b ∷ bs)
      fits zero h lu = omega arith
      fits (suc zero) h lu = omega arith
      fits (suc (suc w)) h lu = let u = user_low (suc p + w) (lu w (omega arith)) in omega arith

      place_user : (k w : ℕ) → k < w → user p ≡ true → ((k : ℕ) → k < w - 1 → user (suc p + k) ≡ true) → user (p + k) ≡ true
      place_user zero w h u lu = ap user (let x : p + 0 ≡ p = omega arith in x) ∙ u
      place_user (suc k) w h u lu = ap user (let x : p + suc k ≡ suc p + k = omega arith in x) ∙ lu k (omega arith)

-- a mark is the byte 255
see_mark : (p : ℕ) (s : List ℕ) → content_at p s ≡ mark → get_or s 0 255 ≡ 255
see_mark p s = go (eqb (get_or s 0 255) 255) refl
  where
    coded : (r : Result (Instruction ℕ) Refusal) → ranged r ≡ mark → ⊥
    coded (Ok i) e = let z : ◌≡◌ {A = ℕ} 0 1 = cc in omega arith
    coded (Err x) e = let z : ◌≡◌ {A = ℕ} 0 1 = cc in omega arith

    guarded : (t : Bool) (y : Content) → (y ≡ mark → ⊥) → cond t y (wrong Area) ≡ mark → ⊥
    guarded true y n e = n e
    guarded false y n e = let z : ◌≡◌ {A = ℕ} 0 1 = cc in omega arith

    below : (o : Option Shape) → lettered p s o ≡ mark → ⊥
    below None e = let z : ◌≡◌ {A = ℕ} 0 1 = cc in omega arith
    below (Some h) e = guarded (all_user (suc p) (width_of h - 1)) _ (coded (decoded (take (width_of h) s))) e

    go : (t : Bool) → eqb (get_or s 0 255) 255 ≡ t → cond t mark (read_at p s) ≡ mark → get_or s 0 255 ≡ 255
    go true q e = eqb-true _ _ q
    go false q e = absurd (guarded (user p) _ (below (shape_of (get_or s 0 255))) e)

-- one of them takes the place q
abbrev pub covers : Found → ℕ → Type 0
covers f q = (f.place ≤ q) × (q < f.place + width f.instruction)

abbrev pub Covered : List Found → ℕ → Type 0
Covered [] q = ⊥
Covered (f ∷ fs) q = covers f q ⊎ Covered fs q

-- its bytes stand in the image
abbrev pub Stands : List ℕ → Found → Type 0
Stands im f = (k : ℕ) → k < width f.instruction → get_or im (f.place + k) 255 ≡ get_or (encoded f.instruction) k 255

-- where the walk stands, against what came before
record Comes (inside used : Bool) (n m : ℕ) : Type 0 where
  within : inside ≡ true → (used ≡ true) × (n ≡ m)
  between : inside ≡ false → (n ≤ m) × (used ≡ true → n < m)

-- what a walk from place m on has read
record Walked (im : List ℕ) (inside : Bool) (m : ℕ) (fs : List Found) : Type 0 where
  chain : (used : Bool) (n : ℕ) → Comes inside used n m → Chain used n fs
  room : inside ≡ true → user m ≡ true
  stands : AllByRecursion (Stands im) fs
  rest : (q : ℕ) → m ≤ q → q < 2048 → (get_or im q 255 ≡ 255) ⊎ Covered fs q
  range : AllByRecursion Ranged fs

-- what is left of an image from place p on, and from the next place on
abbrev pub Rest : List ℕ → ℕ → List ℕ → Type 0
Rest im p s = (j : ℕ) → get_or im (p + j) 255 ≡ get_or s j 255

pub rest_on : (im : List ℕ) (p b : ℕ) (bs : List ℕ) → Rest im p (b ∷ bs) → Rest im (suc p) bs
rest_on im p b bs at j = ap (λ q. get_or im q 255) (let x : suc p + j ≡ p + suc j = omega arith in x) ∙ at (suc j)

module _ (im : List ℕ) (small : Bytes im) where
  after_mark : (p : ℕ) (inside : Bool) (fs : List Found) → get_or im p 255 ≡ 255 → (inside ≡ true → user p ≡ true) → Walked im false (suc p) fs → Walked im inside p fs
  after_mark p inside fs h u d = record {
    chain = λ used n c. d.chain used n (record { within = λ t. absurd (both_ways false refl t); between = λ _. past inside used n c });
    room = u;
    stands = d.stands;
    rest = λ q a z. ⊎_elim (λ (g : q < suc p). inl (ap (λ y. get_or im y 255) (let x : q ≡ p = omega arith in x) ∙ h)) (λ (g : suc p ≤ q). d.rest q g z) (cases_lt q (suc p));
    range = d.range;
  }
    where
      past : (inside used : Bool) (n : ℕ) → Comes inside used n p → (n ≤ suc p) × (used ≡ true → n < suc p)
      past true used n c = let e = (c.within refl).1 in (omega arith, λ _. omega arith)
      past false used n c = let e = (c.between refl).0 in (omega arith, λ _. omega arith)

  after_code : (p : ℕ) (inside : Bool) (i : Instruction ℕ) (b : ℕ) (bs : List ℕ) (fs : List Found) → Rest im p (b ∷ bs) → Known p (b ∷ bs) i → Walked im true (p + width i) fs → Walked im inside p (found_at p inside i ∷ fs)
  after_code p inside i b bs fs at se d = record {
    chain = λ used n c. (begin inside used n c, users_through, d.chain true (p + width i) (record { within = λ _. (refl, refl); between = λ f. absurd (both_ways true f refl) }));
    room = λ _. ap user (let x : p ≡ p + 0 = omega arith in x) ∙ se.users 0 (some_width i);
    stands = (λ k h. at k ∙ sym (get_or-take (width i) (b ∷ bs) k 255 h) ∙ ap (λ l. get_or l k 255) se.bytes, d.stands);
    rest = λ q a z. ⊎_elim (λ (g : q < p + width i). inr (inl (a, g))) (λ (g : p + width i ≤ q). ⊎_elim (λ e. inl e) (λ c. inr (inr c)) (d.rest q g z)) (cases_lt q (p + width i));
    range = (se.range, d.range);
  }
    where
      begin : (inside used : Bool) (n : ℕ) → Comes inside used n p → Begins used n (found_at p inside i)
      begin true used n c = let e = c.within refl in record { opens = λ f. absurd (both_ways false refl f); follows = λ _. (e.0, sym e.1) }
      begin false used n c = let e = c.between refl in record { opens = λ _. e; follows = λ f. absurd (both_ways true f refl) }

      users_through : (k : ℕ) → k ≤ width i → user (p + k) ≡ true
      users_through k h = ⊎_elim (λ (g : k < width i). se.users k g) (λ (g : width i ≤ k). ap user (let x : p + k ≡ p + width i = omega arith in x) ∙ d.room refl) (cases_lt k (width i))

  walked : (s : List ℕ) (p : ℕ) (inside : Bool) (k : ℕ) (fs : List Found) → 2048 ≡ p + length s → Rest im p s → walk p inside k s ≡ Ok fs → Walked im inside (p + k) fs
  walked [] p true k fs len at e = let z : ◌≡◌ {A = ℕ} 0 1 = cc in absurd (omega arith)
  walked [] p false k fs len at e = let q : [] ≡ fs = cc in subst (Walked im false (p + k)) q (record {
    chain = λ used n c. tt;
    room = λ t. absurd (both_ways false refl t);
    stands = tt;
    rest = λ q a z. absurd (omega arith);
    range = tt;
  })
  walked (b ∷ bs) p inside (suc k) fs len at e = subst (λ m. Walked im inside m fs) (let x : suc p + k ≡ p + suc k = omega arith in x) (walked bs (suc p) inside k fs (omega arith) (rest_on im p b bs at) e)
  walked (b ∷ bs) p inside zero fs len at e =
      subst (λ m. Walked im inside m fs) (let x : p ≡ p + 0 = omega arith in x) (go (content_at p (b ∷ bs)) refl e (λ t k. walked bs (suc p) t k))
    where
      here : Bytes (b ∷ bs)
      here j = subst (λ y. y < 256) (at j) (small (p + j))

      go : (y : Content) → content_at p (b ∷ bs) ≡ y → onward p inside y (walk (suc p) (is_code y) (further y) bs) ≡ Ok fs
          → ((t : Bool) (k : ℕ) (js : List Found) → 2048 ≡ suc p + length bs → Rest im (suc p) bs → walk (suc p) t k bs ≡ Ok js → Walked im t (suc p + k) js) → Walked im inside p fs
      go mark q e ih =
          let c = unmarked (inside && not (user p)) (walk (suc p) false 0 bs) e in
          after_mark p inside fs (ap (λ y. get_or im y 255) (let x : p ≡ p + 0 = omega arith in x) ∙ at 0 ∙ see_mark p (b ∷ bs) q) (λ t. safe t c.0)
          (subst (λ m. Walked im false m fs) (let x : suc p + 0 ≡ suc p = omega arith in x) (ih false 0 fs (omega arith) (rest_on im p b bs at) c.1))
        where
          unmarked : (t : Bool) (o : Result (List Found) ImageFault) → cond t (Err (image_fault Area p)) o ≡ Ok fs → (t ≡ false) × (o ≡ Ok fs)
          unmarked true o e = let z : ◌≡◌ {A = ℕ} 0 1 = cc in absurd (omega arith)
          unmarked false o e = (refl, e)

          safe : inside ≡ true → (inside && not (user p)) ≡ false → user p ≡ true
          safe t f = not-false (user p) (subst (λ y. (y && not (user p)) ≡ false) t f)
      go (wrong n) q e ih = let z : ◌≡◌ {A = ℕ} 0 1 = cc in absurd (omega arith)
      go (code i) q e ih =
          let a = added (walk (suc p) true (width i - 1) bs) e in
          let w = some_width i in
          subst (Walked im inside p) a.2 (after_code p inside i b bs a.0 at (known p b bs i len here q)
          (subst (λ m. Walked im true m a.0) (let x : suc p + (width i - 1) ≡ p + width i = omega arith in x) (ih true (width i - 1) a.0 (omega arith) (rest_on im p b bs at) a.1)))
        where
          added : (o : Result (List Found) ImageFault) → with_found (found_at p inside i) o ≡ Ok fs → (js : List Found) × (o ≡ Ok js) × (found_at p inside i ∷ js ≡ fs)
          added (Ok js) e = (js, refl, let x : found_at p inside i ∷ js ≡ fs = cc in x)
          added (Err f) e = let z : ◌≡◌ {A = ℕ} 0 1 = cc in absurd (omega arith)

-- what a walk over a whole image has read
pub record Contains (im : List ℕ) (fs : List Found) : Type 0 where
  pub chain : Chain false 0 fs
  pub stands : AllByRecursion (Stands im) fs
  pub rest : (q : ℕ) → q < 2048 → (get_or im q 255 ≡ 255) ⊎ Covered fs q
  pub range : AllByRecursion Ranged fs

pub whole_walk : (im : List ℕ) (fs : List Found) → length im ≡ 2048 → Bytes im → walk 0 false 0 im ≡ Ok fs → Contains im fs
whole_walk im fs len small e =
    let d = walked im small im 0 false 0 fs (omega arith) (λ j. ap (λ q. get_or im q 255) (let x : 0 + j ≡ j = omega arith in x)) e in
    record {
      chain = d.chain false 0 (record { within = λ t. absurd (both_ways false refl t); between = λ _. (omega arith, λ t. absurd (both_ways false refl t)) });
      stands = d.stands;
      rest = λ q h. d.rest q (omega arith) h;
      range = d.range;
    }
