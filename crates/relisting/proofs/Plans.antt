-- The lines of a listing find their places.
use Rattle.std.proofs.Common.{◌≡◌, ℕ, zero, suc, ◌+◌, ◌-◌, ◌<◌, ◌≤◌, Bool, true, false, cond, ◌≢◌, List, [], ◌∷◌, length, get_or, set, replicate, Ok, Result, sym, refl, ap, ◌∙◌, subst, inl, inr, ⊎_elim, arith, get_or-set_other}
use lib.ListN.{length-replicate}
use lib.Seq.{length-sets}
use Rattle.std.proofs.lemmas.Bool.{and_from, eq-eqb, both_ways, cases_lt}
use Rattle.std.proofs.lemmas.List.{get_or-replicate, get_or_past}
use Rattle.std.specs.List.{AllByRecursion}
use Rattle.isa.specs.declared.refusal.Refusal.TheVariants.{Stale, Area, Overlap}
use Rattle.isa.specs.declared.instruction.Instruction.{Instruction}
use Rattle.isa.specs.declared.instruction.Instruction.TheVariants.{Go, Jump, JumpLow, Act}
use Rattle.isa.specs.Checks.{and_then, require}
use Rattle.isa.specs.Places.{user, every, all_user}
use Rattle.isa.specs.Instructions.{retarget}
use Rattle.isa.specs.Codes.{width}
use Rattle.sequence.specs.declared.text.TextFault.{TextFault}
use Rattle.sequence.specs.declared.text.Target.TheVariants.{Place}
use Rattle.sequence.specs.declared.text.Source.{Source}
use Rattle.sequence.specs.declared.text.Line.TheVariants.{Holds}
use Rattle.sequence.specs.declared.text.Kind.{Kind}
use Rattle.sequence.specs.declared.text.Kind.TheVariants.{Free, First, Further, Mark}
use Rattle.sequence.specs.declared.image.Found.{Found}
use Rattle.sequence.specs.Lines.{text_fault}
use Rattle.sequence.specs.Placings.{unaimed, width_of, Plan, fresh, is_free, free, closed, in_area, as_written, unshared, laid, opening, step}
use Rattle.sequence.specs.Translations.{planned}
use Rattle.layout.proofs.Basics.{lay_out, lay_first}
use Rattle.layout.proofs.Placing.{user_low, closed_size}
use Rattle.relisting.proofs.PrintedLines.{line_bytes, at_bytes, listed_source, at_parsed, line_parsed}
use Rattle.relisting.proofs.Chains.{some_width, Users, Chain, Fine}
use Rattle.relisting.proofs.PrintedTexts.{text_lines}

pub every_from : (t : ℕ → Bool) (n p : ℕ) → ((k : ℕ) → k < n → t (p + k) ≡ true) → every t p n ≡ true
every_from t zero p h = refl
every_from t (suc n) p h =
    and_from _ _ (ap t (let x : p ≡ p + 0 = omega arith in x) ∙ h 0 (omega arith))
    (every_from t n (suc p) (λ k l. ap t (let x : suc p + k ≡ p + suc k = omega arith in x) ∙ h (suc k) (omega arith)))

-- a line is as wide as its instruction
pub same_width : (i : Instruction ℕ) → width (unaimed (retarget Place i)) ≡ width i
same_width (Go p) = refl
same_width (Jump p n) = refl
same_width (JumpLow p n) = refl
same_width (Act a) = refl

then_ok : {B : Type 0} (r : Result (Unit {0}) TextFault) (k : Unit {0} → Result B TextFault) → r ≡ Ok tt → and_then r k ≡ k tt
then_ok r k e = ap (λ o. and_then o k) e

-- a plan in which nothing is taken from the next place on
record Ready (st : Plan) : Type 0 where
  size : length st.kinds ≡ 2048
  empty : (q : ℕ) → st.next ≤ q → get_or st.kinds q Free ≡ Free
  going : st.used ≡ true → st.opened ≡ true

-- lines that were placed: nothing before them changes, and each begins at its place
pub record Run (n : ℕ) (ls : List (List ℕ)) (fs : List Found) (st : Plan) : Type 0 where
  pub after : Plan
  pub runs : planned n ls st ≡ Ok after
  pub below : (q : ℕ) → q < st.next → get_or after.kinds q Free ≡ get_or st.kinds q Free
  pub firsts : AllByRecursion (λ (f : Found). get_or after.kinds f.place Free ≡ First) fs

closed_off : (s : Plan) (q : ℕ) → (s.used ≡ true → q ≢ s.next) → get_or (closed s) q Free ≡ get_or s.kinds q Free
closed_off s q h = go s.used refl
  where
    go : (t : Bool) → s.used ≡ t → get_or (cond t (set s.kinds s.next Mark) s.kinds) q Free ≡ get_or s.kinds q Free
    go true e = get_or-set_other s.kinds s.next q Mark Free (h e)
    go false e = refl

module _ (n : ℕ) (f : Found) (us : Users f) where
  abbrev source : Source
  source = listed_source n f.place f.instruction

  abbrev wide : ℕ
  wide = width_of source

  -- it finds its place free
  line_placed : (st : Plan) → st.opened ≡ true → st.next ≡ f.place → ((q : ℕ) → st.next ≤ q → get_or st.kinds q Free ≡ Free) → step (Holds source) st ≡ Ok (laid source st st.labels)
  line_placed st o here empty =
      let sw = same_width f.instruction in
      let u0 : user f.place ≡ true = ap user (let x : f.place ≡ f.place + 0 = omega arith in x) ∙ us 0 (omega arith) in
      let ua : all_user st.next (wide + 1) ≡ true = every_from user (wide + 1) st.next (λ k h. ap (λ p. user (p + k)) here ∙ us k (omega arith)) in
      let fr : free st.kinds st.next (wide + 1) ≡ true = every_from (λ q. is_free (get_or st.kinds q Free)) (wide + 1) st.next (λ k h. ap is_free (empty (st.next + k) (omega arith))) in
      let a : in_area source st ≡ Ok tt = ap (λ t. require t (text_fault Area n 0)) (and_from _ _ o (and_from _ _ u0 ua)) in
      let g : as_written source st ≡ Ok tt = ap (λ t. require t (text_fault Stale n 1)) (eq-eqb _ _ (sym here)) in
      let h : unshared source st ≡ Ok tt = ap (λ t. require t (text_fault Overlap n 0)) fr in
      then_ok (in_area source st) _ a ∙ then_ok (as_written source st) _ g ∙ then_ok (unshared source st) _ h

module _ (f : Found) (fs : List Found) (ls : List (List ℕ)) (us : Users f) (fine : Fine f) where
  abbrev Others : ℕ → Type 0
  Others n = (s : Plan) → Ready s → s.used ≡ true → s.next ≡ f.place + width f.instruction → Run n ls fs s

  -- one line, and then the others
  run_line : (n : ℕ) (st : Plan) → Ready st → st.opened ≡ true → st.next ≡ f.place → Others (n + 1) → Run n (line_bytes f.place f.instruction ∷ ls) (f ∷ fs) st
  run_line n st ok o here ih =
      let x = source n f us in
      let sw = same_width f.instruction in
      let w = some_width (unaimed (retarget Place f.instruction)) in
      let low = user_low (f.place + width f.instruction) (us (width f.instruction) (omega arith)) in
      let sz = ok.size in
      let room : st.next + width_of x ≤ length st.kinds = omega arith in
      let s2 = laid x st st.labels in
      let d = ih s2 (record {
        size = length-sets st.kinds st.next (First ∷ replicate (width_of x - 1) Further) ∙ ok.size;
        empty = λ q h. lay_out st.kinds st.next (width_of x) w room q (inr h) ∙ ok.empty q (omega arith);
        going = λ _. refl;
      }) refl (ap (λ p. p + width_of x) here ∙ ap (λ v. f.place + v) sw) in
      record {
        after = d.after;
        runs =
            ap (λ r. and_then r (λ y. and_then (step y st) (planned (n + 1) ls))) (line_parsed f.place fine.0 f.instruction fine.1 n)
            ∙ ap (λ y. and_then y (planned (n + 1) ls)) (line_placed n f us st o here ok.empty) ∙ d.runs;
        below = λ q h. d.below q (omega arith) ∙ lay_out st.kinds st.next (width_of x) w room q (inl h);
        firsts = (d.below f.place (omega arith) ∙ ap (λ q. get_or s2.kinds q Free) (sym here) ∙ lay_first st.kinds st.next (width_of x) w room, d.firsts);
      }

  -- the same after the line that opens the stretch
  run_opened : (n : ℕ) (st : Plan) → Ready st → st.next ≤ f.place → (st.used ≡ true → st.next < f.place) → Others (n + 1 + 1) → Run n (at_bytes f.place ∷ line_bytes f.place f.instruction ∷ ls) (f ∷ fs) st
  run_opened n st ok le lt ih =
      let s1 = opening f.place st in
      let u0 : user f.place ≡ true = ap user (let x : f.place ≡ f.place + 0 = omega arith in x) ∙ us 0 (omega arith) in
      let d = run_line (n + 1) s1 (record {
        size = closed_size st ∙ ok.size;
        empty = λ q h. closed_off st q (λ t. let g = lt t in let x : q ≢ st.next = omega arith in x) ∙ ok.empty q (omega arith);
        going = λ _. refl;
      }) refl refl ih in
      record {
        after = d.after;
        runs =
            ap (λ r. and_then r (λ y. and_then (step y st) (planned (n + 1) (line_bytes f.place f.instruction ∷ ls)))) (at_parsed f.place fine.0 n)
            ∙ ap (λ (y : Bool). and_then (and_then (require y (text_fault Area n 0)) (λ _. Ok s1)) (planned (n + 1) (line_bytes f.place f.instruction ∷ ls))) u0 ∙ d.runs;
        below = λ q h. d.below q (omega arith) ∙ closed_off st q (λ t. let x : q ≢ st.next = omega arith in x);
        firsts = d.firsts;
      }

runs : (fs : List Found) (n : ℕ) (st : Plan) → Ready st → Chain st.used st.next fs → AllByRecursion Fine fs → Run n (text_lines fs) fs st
runs [] n st ok c a = record { after = st; runs = refl; below = λ q h. refl; firsts = tt }
runs (f ∷ fs) n st ok c a = go f.opens refl (λ m s k u e. runs fs m s k (subst (λ t. Chain t s.next fs) (sym u) (subst (λ p. Chain true p fs) (sym e) c.2)) a.1)
  where
    go : (t : Bool) → f.opens ≡ t → ((m : ℕ) (s : Plan) → Ready s → s.used ≡ true → s.next ≡ f.place + width f.instruction → Run m (text_lines fs) fs s)
        → Run n (cond t (at_bytes f.place ∷ line_bytes f.place f.instruction ∷ text_lines fs) (line_bytes f.place f.instruction ∷ text_lines fs)) (f ∷ fs) st
    go true e ih = let b = c.0.opens e in run_opened f fs (text_lines fs) c.1 a.0 n st ok b.0 b.1 (ih (n + 1 + 1))
    go false e ih = let b = c.0.follows e in run_line f fs (text_lines fs) c.1 a.0 n st ok (ok.going b.0) (sym b.1) (ih (n + 1))

-- the first pass over a listing
pub listing_planned : (fs : List Found) → Chain false 0 fs → AllByRecursion Fine fs → Run 1 (text_lines fs) fs fresh
listing_planned fs c a = runs fs 1 fresh (record { size = length-replicate {A = Kind} 2048 Free; empty = λ q h. frees q; going = λ t. absurd (both_ways false refl t) }) c a
  where
    frees : (q : ℕ) → get_or fresh.kinds q Free ≡ Free
    frees q = ⊎_elim (λ (h : q < 2048). get_or-replicate 2048 q Free Free h) (λ (h : 2048 ≤ q). get_or_past fresh.kinds q Free (omega (arith, length-replicate {A = Kind} 2048 Free))) (cases_lt q 2048)
