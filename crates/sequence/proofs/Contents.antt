-- What a content and a walk tell.
use Rattle.std.proofs.Common.{◌≡◌, ℕ, zero, suc, ◌-◌, Bool, true, false, cond, not, ◌&&◌, eqb, List, [], ◌∷◌, get_or, take, Some, None, Ok, Err, Option, Result, refl, ap, subst, arith}
use Rattle.isa.specs.declared.refusal.Refusal.{Refusal}
use Rattle.isa.specs.declared.refusal.Refusal.TheVariants.{Area}
use Rattle.isa.specs.declared.shape.Shape.{Shape}
use Rattle.isa.specs.declared.instruction.Instruction.{Instruction}
use Rattle.isa.specs.Places.{user, all_user}
use Rattle.isa.specs.Shapes.{width_of}
use Rattle.isa.specs.Table.{shape_of}
use Rattle.isa.specs.Codes.{width, in_range, decoded}
use Rattle.isa.proofs.RoundTrip.{decoded_in_range}
use Rattle.std.specs.List.{AllByRecursion}
use Rattle.sequence.specs.declared.image.ImageFault.{ImageFault}
use Rattle.sequence.specs.declared.image.Found.{Found}
use Rattle.sequence.specs.Images.{Content, mark, code, wrong, mark_byte, ranged, lettered, image_fault, read_at, content_at, found_at, onward, is_code, further, with_found, walk}

-- what made an instruction of a result
see_ranged : (r : Result (Instruction ℕ) Refusal) (i : Instruction ℕ) → ranged r ≡ code i → r ≡ Ok i
see_ranged (Ok j) i e = let z : j ≡ i = cc in ap Ok z
see_ranged (Err x) i e = let z : ◌≡◌ {A = ℕ} 0 1 = cc in absurd (omega arith)

see_if : (t : Bool) (y : Content) (r : Refusal) (i : Instruction ℕ) → cond t y (wrong r) ≡ code i → (t ≡ true) × (y ≡ code i)
see_if true y r i e = (refl, e)
see_if false y r i e = let z : ◌≡◌ {A = ℕ} 0 1 = cc in absurd (omega arith)

see_unmarked : (t : Bool) (y : Content) (i : Instruction ℕ) → cond t mark y ≡ code i → (t ≡ false) × (y ≡ code i)
see_unmarked true y i e = let z : ◌≡◌ {A = ℕ} 0 1 = cc in absurd (omega arith)
see_unmarked false y i e = (refl, e)

-- what is known where an instruction is read
pub record Seen (p : ℕ) (s : List ℕ) (i : Instruction ℕ) : Type 0 where
  pub unmarked : eqb (get_or s 0 mark_byte) mark_byte ≡ false
  pub user : user p ≡ true
  pub shape : Shape
  pub letter : shape_of (get_or s 0 mark_byte) ≡ Some shape
  pub users : all_user (suc p) (width_of shape - 1) ≡ true
  pub decodes : decoded (take (width_of shape) s) ≡ Ok i

pub seen : (p : ℕ) (s : List ℕ) (i : Instruction ℕ) → content_at p s ≡ code i → Seen p s i
seen p s i e =
    let a = see_unmarked (eqb (get_or s 0 mark_byte) mark_byte) (read_at p s) i e in
    let b = see_if (user p) (lettered p s (shape_of (get_or s 0 mark_byte))) Area i a.1 in
    go (shape_of (get_or s 0 mark_byte)) refl a.0 b.0 b.1
  where
    go : (o : Option Shape) → shape_of (get_or s 0 mark_byte) ≡ o → eqb (get_or s 0 mark_byte) mark_byte ≡ false → user p ≡ true → lettered p s o ≡ code i → Seen p s i
    go None q t u e = let z : ◌≡◌ {A = ℕ} 0 1 = cc in absurd (omega arith)
    go (Some h) q t u e =
        let c = see_if (all_user (suc p) (width_of h - 1)) (ranged (decoded (take (width_of h) s))) Area i e in
        record { unmarked = t; user = u; shape = h; letter = q; users = c.0; decodes = see_ranged _ i c.1 }

-- what is read is in range
pub code_in_range : (p : ℕ) (s : List ℕ) (i : Instruction ℕ) → content_at p s ≡ code i → in_range i ≡ true
code_in_range p s i e = let x = seen p s i e in decoded_in_range (take (width_of x.shape) s) i x.decodes

-- every instruction of a walk is in range
pub walk_in_range : (s : List ℕ) (p : ℕ) (inside : Bool) (k : ℕ) (fs : List Found) → walk p inside k s ≡ Ok fs → AllByRecursion (λ (f : Found). in_range f.instruction ≡ true) fs
walk_in_range [] p true k fs e = let z : ◌≡◌ {A = ℕ} 0 1 = cc in absurd (omega arith)
walk_in_range [] p false k fs e = let q : [] ≡ fs = cc in subst (AllByRecursion (λ (f : Found). in_range f.instruction ≡ true)) q tt
walk_in_range (b ∷ bs) p inside (suc k) fs e = walk_in_range bs (suc p) inside k fs e
walk_in_range (b ∷ bs) p inside zero fs e = go (content_at p (b ∷ bs)) refl (λ t k gs. walk_in_range bs (suc p) t k gs) e
  where
    go : (c : Content) → content_at p (b ∷ bs) ≡ c
        → ((t : Bool) (k : ℕ) (gs : List Found) → walk (suc p) t k bs ≡ Ok gs → AllByRecursion (λ (f : Found). in_range f.instruction ≡ true) gs)
        → onward p inside c (walk (suc p) (is_code c) (further c) bs) ≡ Ok fs → AllByRecursion (λ (f : Found). in_range f.instruction ≡ true) fs
    go mark q ih e = ih false 0 fs (past (inside && not (user p)) (walk (suc p) false 0 bs) e)
      where
        past : (t : Bool) (x : Result (List Found) ImageFault) → cond t (Err (image_fault Area p)) x ≡ Ok fs → x ≡ Ok fs
        past true x e = let z : ◌≡◌ {A = ℕ} 0 1 = cc in absurd (omega arith)
        past false x e = e
    go (wrong x) q ih e = let z : ◌≡◌ {A = ℕ} 0 1 = cc in absurd (omega arith)
    go (code i) q ih e = found_then (walk (suc p) true (width i - 1) bs) (ih true (width i - 1)) e
      where
        found_then : (x : Result (List Found) ImageFault) → ((gs : List Found) → x ≡ Ok gs → AllByRecursion (λ (f : Found). in_range f.instruction ≡ true) gs) → with_found (found_at p inside i) x ≡ Ok fs → AllByRecursion (λ (f : Found). in_range f.instruction ≡ true) fs
        found_then (Ok gs) r e = let f : found_at p inside i ∷ gs ≡ fs = cc in subst (AllByRecursion (λ (f : Found). in_range f.instruction ≡ true)) f (code_in_range p (b ∷ bs) i q, r gs refl)
        found_then (Err x) r e = let z : ◌≡◌ {A = ℕ} 0 1 = cc in absurd (omega arith)
