-- Lines that find their places: each finds its own free, so no two share one.
use Rattle.std.proofs.Common.{◌≡◌, ℕ, suc, ◌+◌, ◌-◌, ◌<◌, ◌≤◌, Bool, true, false, cond, ◌⊎◌, List, [], ◌∷◌, length, get_or, set, replicate, Ok, sym, refl, ap, ◌∙◌, subst, inl, inr, ⊎_elim, arith, length-set, get_or-set_same}
use lib.Seq.{length-sets}
use Rattle.std.proofs.lemmas.Bool.{cases_lt}
use Rattle.std.proofs.lemmas.Bool.Decides.{nat_tests}
use Rattle.std.specs.List.{AllByRecursion}
use Rattle.isa.specs.declared.instruction.Instruction.{Instruction}
use Rattle.isa.specs.Places.{image_size, user, every}
use Rattle.isa.specs.Codes.{width}
use Rattle.sequence.specs.declared.text.Label.{Label}
use Rattle.sequence.specs.declared.text.Source.{Source}
use Rattle.sequence.specs.declared.text.Line.{Line}
use Rattle.sequence.specs.declared.text.Line.TheVariants.{Blank, Opens, Holds}
use Rattle.sequence.specs.declared.text.Kind.{Kind}
use Rattle.sequence.specs.declared.text.Kind.TheVariants.{Free, First, Further, Mark}
use Rattle.sequence.specs.Placings.{width_of, Plan, is_free, free, lay, closed, laid, opening, step}
use Rattle.sequence.specs.Layouts.{Item, In, ends, stop, Apart, ApartFrom, AllApart}
use Rattle.layout.proofs.Basics.{all_weaker, ok_then, ok_ok, every_at, free_is, lay_out, lay_on, mark_other}
use Rattle.layout.proofs.Painting.{end_stop}
use Rattle.layout.proofs.Passes.{placing, resolved, item_of, step_holds, step_opens, became}
use Rattle.layout.proofs.Ranges.{Sound}
use Rattle.layout.proofs.Aiming.{Aimed, aimed_line}

pub user_low : (q : ℕ) → user q ≡ true → q < image_size
user_low q h = grind (arith, nat_tests)

-- an instruction and the place after it are user places, and free
abbrev pub Fits : List Kind → Item → Type 0
Fits m i = (k : ℕ) → k ≤ width i.instruction → (user (i.place + k) ≡ true) × (get_or m (i.place + k) Free ≡ Free)

-- no place of an instruction, its mark included, is free
abbrev Claims : List Kind → Item → Type 0
Claims m i = (q : ℕ) → i.place ≤ q → q < stop i → get_or m q Free ≡ Free → ⊥

-- the kinds as the lines that follow find them
abbrev met : List Line → Plan → List Kind
met ls s = cond (ends ls) (closed s) s.kinds

-- what placing tells of the items, from the kinds that they meet, those before, and those after
pub record Placed (m before after : List Kind) (is : List Item) : Type 0 where
  pub fits : AllByRecursion (Fits m) is
  pub apart : AllApart is
  pub firsts : (q : ℕ) → get_or after q Free ≡ First → (get_or before q Free ≡ First) ⊎ ((j : Item) × In j is × (j.place ≡ q))

-- an instruction with its mark, and one that found free places, are apart
apart_by : (m : List Kind) (i j : Item) → Claims m i → Fits m j → Apart i j
apart_by m i j claims fits =
    let si = end_stop i in let sj = end_stop j in
    ⊎_elim
    (λ (h : j.place < i.place).
    ⊎_elim (λ (g : i.place < stop j).
    let f = (fits (i.place - j.place) (omega arith)).1 in
    let e : j.place + (i.place - j.place) ≡ i.place = omega arith in
    absurd (claims i.place (omega arith) (omega arith) (ap (λ q. get_or m q Free) (sym e) ∙ f)))
    (λ (g : stop j ≤ i.place). inr g) (cases_lt i.place (stop j)))
    (λ (h : i.place ≤ j.place).
    ⊎_elim (λ (g : j.place < stop i).
    let f = (fits 0 (omega arith)).1 in
    let e : j.place + 0 ≡ j.place = omega arith in
    absurd (claims j.place h g (ap (λ q. get_or m q Free) (sym e) ∙ f)))
    (λ (g : stop i ≤ j.place). inl g) (cases_lt j.place (stop i)))
    (cases_lt j.place i.place)

apart_all : (m : List Kind) (i : Item) → Claims m i → (is : List Item) → AllByRecursion (Fits m) is → ApartFrom i is
apart_all m i claims [] f = tt
apart_all m i claims (j ∷ is) f = (apart_by m i j claims f.0, apart_all m i claims is f.1)

same_arms : {A : Type 0} (t : Bool) (x : A) → cond t x x ≡ x
same_arms true x = refl
same_arms false x = refl

pub closed_size : (s : Plan) → length (closed s) ≡ length s.kinds
closed_size s = go s.used
  where
    go : (b : Bool) → length (cond b (set s.kinds s.next Mark) s.kinds) ≡ length s.kinds
    go true = length-set s.kinds s.next Mark
    go false = refl

first_no_mark : First ≡ Mark → ⊥
first_no_mark e = let z : ◌≡◌ {A = ℕ} 0 1 = cc in omega arith

free_no_mark : Free ≡ Mark → ⊥
free_no_mark e = let z : ◌≡◌ {A = ℕ} 0 1 = cc in omega arith

closed_first : (s : Plan) (q : ℕ) → get_or (closed s) q Free ≡ First → get_or s.kinds q Free ≡ First
closed_first s q = go s.used
  where
    go : (b : Bool) → get_or (cond b (set s.kinds s.next Mark) s.kinds) q Free ≡ First → get_or s.kinds q Free ≡ First
    go true e = mark_other s.kinds s.next q First e first_no_mark
    go false e = e

-- one line more
module _ (t s : Plan) (x : Source) (lab : List Label) (i : Instruction ℕ) (len : length s.kinds ≡ image_size)
    (u : every user s.next (width_of x + 1) ≡ true) (f : free s.kinds s.next (width_of x + 1) ≡ true) (a : Aimed t x.instruction i) where
  abbrev item : List Line → Item
  item ls = item_of x ls s.next i

  abbrev w : ℕ
  w = width_of x

  abbrev m : List Kind
  m = lay s.kinds s.next w

  head_fits : (ls : List Line) → Fits s.kinds (item ls)
  head_fits ls k h = let v = a.same_width in (every_at user (w + 1) s.next k u (omega arith), free_is _ (every_at (λ q. is_free (get_or s.kinds q Free)) (w + 1) s.next k f (omega arith)))

  room : s.next + w < image_size
  room = user_low (s.next + w) (every_at user (w + 1) s.next w u (omega arith))

  some : 1 ≤ w
  some = omega arith

  m_size : length m ≡ image_size
  m_size = length-sets s.kinds s.next (First ∷ replicate (w - 1) Further) ∙ len

  on : (q : ℕ) → s.next ≤ q → q < s.next + w → (get_or m q Free ≡ Free → ⊥) × (get_or m q Free ≡ First → q ≡ s.next)
  on q lo hi =
      let r = room in
      let e : s.next + (q - s.next) ≡ q = omega arith in
      let o = lay_on s.kinds s.next w some (omega arith) (q - s.next) (omega arith) in
      (λ z. o.0 (ap (λ y. get_or m y Free) e ∙ z), λ z. let k = o.1 (ap (λ y. get_or m y Free) e ∙ z) in omega arith)

  off : (q : ℕ) → (q < s.next) ⊎ (s.next + w ≤ q) → get_or m q Free ≡ get_or s.kinds q Free
  off q o = let r = room in lay_out s.kinds s.next w some (omega arith) q o

  -- a place lies among those taken, or its kind is as it was
  where_is : (q : ℕ) → ((s.next ≤ q) × (q < s.next + w)) ⊎ (get_or m q Free ≡ get_or s.kinds q Free)
  where_is q =
      ⊎_elim (λ (h : q < s.next). inr (off q (inl h))) (λ (h : s.next ≤ q). ⊎_elim (λ (g : q < s.next + w). inl (h, g)) (λ (g : s.next + w ≤ q). inr (off q (inr g))) (cases_lt q (s.next + w))) (cases_lt q s.next)

  was_free : (ls : List Line) (q : ℕ) → get_or (met ls (laid x s lab)) q Free ≡ Free → get_or s.kinds q Free ≡ Free
  was_free ls q = go (ends ls)
    where
      plain : get_or m q Free ≡ Free → get_or s.kinds q Free ≡ Free
      plain e = ⊎_elim (λ (h : (s.next ≤ q) × (q < s.next + w)). absurd ((on q h.0 h.1).0 e)) (λ h. sym h ∙ e) (where_is q)

      go : (b : Bool) → get_or (cond b (set m (s.next + w) Mark) m) q Free ≡ Free → get_or s.kinds q Free ≡ Free
      go true e = plain (mark_other m (s.next + w) q Free e free_no_mark)
      go false e = plain e

  claims : (ls : List Line) → Claims (met ls (laid x s lab)) (item ls)
  claims ls q lo = go (ends ls)
    where
      go : (b : Bool) → q < cond b (suc (s.next + width i)) (s.next + width i) → get_or (cond b (set m (s.next + w) Mark) m) q Free ≡ Free → ⊥
      go false hi e = let v = a.same_width in (on q lo (omega arith)).0 e
      go true hi e =
          let v = a.same_width in let r = room in let z = m_size in
          ⊎_elim (λ (h : q < s.next + w). (on q lo h).0 (mark_other m (s.next + w) q Free e free_no_mark))
          (λ (h : s.next + w ≤ q).
          let y : q ≡ s.next + w = omega arith in
          let g = get_or-set_same m (s.next + w) Mark Free (omega arith) in
          free_no_mark (sym e ∙ ap (λ p. get_or (set m (s.next + w) Mark) p Free) y ∙ g))
          (cases_lt q (s.next + w))

  more : (ls : List Line) (after : List Kind) (js : List Item) → Placed (met ls (laid x s lab)) m after js → Placed s.kinds s.kinds after (item ls ∷ js)
  more ls after js p = record {
    fits = (head_fits ls, all_weaker (Fits (met ls (laid x s lab))) (Fits s.kinds) (λ j h k l. ((h k l).0, was_free ls (j.place + k) (h k l).1)) js p.fits);
    apart = (apart_all (met ls (laid x s lab)) (item ls) (claims ls) js p.fits, p.apart);
    firsts = λ q h. ⊎_elim
        (λ (g : get_or m q Free ≡ First). ⊎_elim (λ (k : (s.next ≤ q) × (q < s.next + w)). inr (item ls, inl refl, sym ((on q k.0 k.1).1 g))) (λ k. inl (sym k ∙ g)) (where_is q))
        (λ (g : (j : Item) × In j js × (j.place ≡ q)). inr (g.0, inr g.1, g.2))
        (p.firsts q h);
  }

pub placed : (ls : List Line) (t s s' : Plan) (is : List Item) → length t.kinds ≡ image_size → AllByRecursion Sound ls → length s.kinds ≡ image_size → placing ls s ≡ Ok s' → resolved t ls s.next ≡ Ok is → Placed (met ls s) s.kinds s'.kinds is
placed [] t s s' is lt so len e r =
    subst (λ (y : Plan). Placed (closed s) s.kinds y.kinds is) (ok_ok _ _ e)
    (subst (λ y. Placed (closed s) s.kinds s.kinds y) (ok_ok _ _ r)
    (record { fits = tt; apart = tt; firsts = λ q h. inl h }))
placed (Blank ∷ ls) t s s' is lt so len e r = placed ls t s s' is lt so.1 len e r
placed (Opens l p ∷ ls) t s s' is lt so len e r =
    let a = ok_then (step (Opens l p) s) (placing ls) s' e in
    let c = step_opens l p s a.0 a.1 in
    let ih = placed ls t (opening p s) s' is lt so.1 (closed_size s ∙ len) (subst (λ y. placing ls y ≡ Ok s') (sym c) a.2) r in
    record {
      fits = subst (λ y. AllByRecursion (Fits y) is) (same_arms (ends ls) (closed s)) ih.fits;
      apart = ih.apart;
      firsts = λ q h. ⊎_elim (λ (g : get_or (closed s) q Free ≡ First). inl (closed_first s q g)) (λ g. inr g) (ih.firsts q h);
    }
placed (Holds x ∷ ls) t s s' is lt so len e r =
    let a = ok_then (step (Holds x) s) (placing ls) s' e in
    let c = step_holds x s a.0 a.1 in
    let b = became t x ls s.next is r in
    let m = aimed_line t x b.made lt so.0 b.resolves in
    let ih = placed ls t (laid x s c.labels) s' b.rest lt so.1 (m_size t s x c.labels b.made len c.users c.frees m) (subst (λ y. placing ls y ≡ Ok s') (sym c.same) a.2) b.more in
    subst (λ y. Placed s.kinds s.kinds s'.kinds y) b.same (more t s x c.labels b.made len c.users c.frees m ls s'.kinds b.rest ih)

-- the plan keeps its size
step_size : (l : Line) (s s' : Plan) → step l s ≡ Ok s' → length s'.kinds ≡ length s.kinds
step_size Blank s s' e = ap (λ (y : Plan). length y.kinds) (sym (ok_ok _ _ e))
step_size (Opens l p) s s' e = ap (λ (y : Plan). length y.kinds) (sym (step_opens l p s s' e)) ∙ closed_size s
step_size (Holds x) s s' e = ap (λ (y : Plan). length y.kinds) (sym (step_holds x s s' e).same) ∙ length-sets s.kinds s.next (First ∷ replicate (width_of x - 1) Further)

pub placing_size : (ls : List Line) (s s' : Plan) → placing ls s ≡ Ok s' → length s'.kinds ≡ length s.kinds
placing_size [] s s' e = ap (λ (y : Plan). length y.kinds) (sym (ok_ok _ _ e))
placing_size (l ∷ ls) s s' e = let a = ok_then (step l s) (placing ls) s' e in placing_size ls a.0 s' a.2 ∙ step_size l s a.0 a.1
