-- The instruction in front of some bytes.
use Rattle.std.proofs.Common.{◌≡◌, ℕ, ◌+◌, ◌-◌, ◌<◌, ◌≤◌, true, false, cond, List, [], ◌∷◌, ◌++◌, length, get_or, take, drop, Some, Ok, Err, Result, sym, refl, ap, ◌∙◌, arith}
use Rattle.std.proofs.lemmas.List.{get_or-take, get_or_default}
use Rattle.std.specs.Option.{option_map}
use Rattle.isa.specs.declared.refusal.Refusal.{Refusal}
use Rattle.isa.specs.declared.refusal.Refusal.TheVariants.{Area}
use Rattle.isa.specs.declared.shape.Shape.{Shape}
use Rattle.isa.specs.declared.shape.Shape.TheVariants.{Plain, Byte, Pair, Word, Target, TargetByte, Signed, Long}
use Rattle.isa.specs.declared.instruction.Instruction.{Instruction}
use Rattle.isa.specs.Places.{user}
use Rattle.isa.specs.Shapes.{width_of}
use Rattle.isa.specs.Instructions.{letter_of}
use Rattle.isa.specs.Table.{shape_of}
use Rattle.isa.specs.Codes.{width, padded, decoded}
use Rattle.isa.specs.Laws.{Stood}
use Rattle.isa.proofs.Areas.{last_user}
use Rattle.isa.proofs.RoundTrip.{letter_width, target_low}
use Rattle.sequence.specs.Images.{code, wrong, mark_byte, ranged, lettered, read_at}
use Rattle.lister.specs.Walks.{Sound}

-- up to four bytes, with 0 after them
pub padded_is : (s : List ℕ) → length s ≤ 4 → s ++ drop (length s) (0 ∷ 0 ∷ 0 ∷ 0 ∷ []) ≡ padded s
padded_is [] h = refl
padded_is (a ∷ []) h = refl
padded_is (a ∷ b ∷ []) h = refl
padded_is (a ∷ b ∷ c ∷ []) h = refl
padded_is (a ∷ b ∷ c ∷ d ∷ []) h = refl
padded_is (a ∷ b ∷ c ∷ d ∷ e ∷ s) h = absurd (omega arith)

-- a letter's width is that of the instruction decoded
same_width : (bs : List ℕ) (h : Shape) (i : Instruction ℕ) → shape_of (get_or bs 0 0) ≡ Some h → Stood bs i → width_of h ≡ width i
same_width bs h i e s =
    let f : get_or bs 0 0 ≡ letter_of i = sym (get_or-take (width i) bs 0 0 (omega arith)) ∙ ap (λ l. get_or l 0 0) s.bytes in
    let g : Some (width_of h) ≡ Some (width i) = ap (option_map width_of) (sym e ∙ ap shape_of f) ∙ letter_width i in
    cc

some : (h : Shape) → 1 ≤ width_of h
some Plain = omega arith
some Byte = omega arith
some Pair = omega arith
some Word = omega arith
some Target = omega arith
some TargetByte = omega arith
some Signed = omega arith
some Long = omega arith

-- bytes from a user place on, whose letter has a shape; w is its width
module _ (s : List ℕ) (p : ℕ) (lt : 0 < length s) (u : user p ≡ true) (h : Shape) (e : shape_of (get_or s 0 0) ≡ Some h) (w : ℕ) (n : w ≡ width_of h) where
  read_letter : read_at p s ≡ cond (user (p + (w - 1))) (ranged (decoded (take w s))) (wrong Area)
  read_letter =
      ap (λ t. cond t (lettered p s (shape_of (get_or s 0 mark_byte))) (wrong Area)) u
      ∙ ap (lettered p s) (ap shape_of (get_or_default s 0 mark_byte 0 lt) ∙ e)
      ∙ ap (λ t. cond t (ranged (decoded (take (width_of h) s))) (wrong Area)) (last_user h p u)
      ∙ ap (λ k. cond (user (p + (k - 1))) (ranged (decoded (take k s))) (wrong Area)) (sym n)

  pub read_outside : user (p + (w - 1)) ≡ false → read_at p s ≡ wrong Area
  read_outside v = read_letter ∙ ap (λ t. cond t (ranged (decoded (take w s))) (wrong Area)) v

  module _ (v : user (p + (w - 1)) ≡ true) (r : Result (Instruction ℕ) Refusal) (d : r ≡ decoded (take w s)) where
    read_decoded : read_at p s ≡ ranged r
    read_decoded = read_letter ∙ ap (λ t. cond t (ranged (decoded (take w s))) (wrong Area)) v ∙ ap ranged (sym d)

    pub read_refused : (x : Refusal) → r ≡ Err x → read_at p s ≡ wrong x
    read_refused x q = read_decoded ∙ ap ranged q

    pub read_accepted : (i : Instruction ℕ) → r ≡ Ok i → Stood (padded (take w s)) i → (read_at p s ≡ code i) × (w ≡ width i) × Sound i
    read_accepted i q st =
        let b : get_or (take w s) 0 0 ≡ get_or s 0 0 = get_or-take w s 0 0 (omega (arith, n, some h)) in
        (read_decoded ∙ ap ranged q, n ∙ same_width (padded (take w s)) h i (ap shape_of b ∙ e) st, record { range = st.range; low = target_low i st.range })
