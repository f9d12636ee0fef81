-- What is yet to come of a walk, step by step.
use Rattle.std.proofs.Common.{◌≡◌, ℕ, zero, suc, ◌+◌, ◌-◌, ◌<◌, ◌≤◌, Bool, true, cond, not, List, [], ◌∷◌, length, get_or, drop, Err, ap, ◌∙◌, arith}
use Rattle.std.proofs.lemmas.List.{length-drop}
use Rattle.std.proofs.lemmas.Bool.{ne_eqb}
use Rattle.isa.specs.declared.refusal.Refusal.{Refusal}
use Rattle.isa.specs.declared.instruction.Instruction.{Instruction}
use Rattle.isa.specs.Codes.{operand_bytes, width}
use Rattle.sequence.specs.Images.{Content, mark, code, wrong, mark_byte, image_fault, read_at, onward, is_code, further, with_found, walk}
use Rattle.lister.specs.Walks.{place_of, left_in}

-- bytes of the instruction before are passed
walk_past : (k : ℕ) (p : ℕ) (inside : Bool) (s : List ℕ) → k ≤ length s → walk p inside k s ≡ walk (p + k) inside 0 (drop k s)
walk_past zero p inside s h = ap (λ q. walk q inside 0 s) (let x : p ≡ p + 0 = omega arith in x)
walk_past (suc k) p inside [] h = absurd (omega arith)
walk_past (suc k) p inside (b ∷ bs) h = walk_past k (suc p) inside bs (omega arith) ∙ ap (λ q. walk q inside 0 (drop k bs)) (let x : suc p + k ≡ p + suc k = omega arith in x)

-- where no mark is in front
module _ (s : List ℕ) (inside : Bool) (some : 0 < length s) (h : length s ≤ 2048) (n : get_or s 0 0 ≡ mark_byte → ⊥) where
  left_read : (c : Content) → read_at (place_of s) s ≡ c → left_in inside s ≡ onward (place_of s) inside c (walk (suc (place_of s)) (is_code c) (further c) (drop 1 s))
  left_read c e = go s some n e
    where
      go : (t : List ℕ) → 0 < length t → (get_or t 0 0 ≡ mark_byte → ⊥) → read_at (place_of t) t ≡ c → left_in inside t ≡ onward (place_of t) inside c (walk (suc (place_of t)) (is_code c) (further c) (drop 1 t))
      go [] l m k = absurd (omega arith)
      go (b ∷ bs) l m k =
          let p = place_of (b ∷ bs) in
          ap (λ y. onward p inside y (walk (suc p) (is_code y) (further y) bs)) (ap (λ v. cond v mark (read_at p (b ∷ bs))) (ne_eqb _ _ m) ∙ k)

  pub left_code : (i : Instruction ℕ) → read_at (place_of s) s ≡ code i → width i ≤ length s → left_in inside s ≡ with_found (record { place = place_of s; instruction = i; opens = not inside }) (left_in true (drop (width i) s))
  left_code i e r =
      left_read (code i) e
      ∙ ap (with_found (record { place = place_of s; instruction = i; opens = not inside }))
      (walk_past (width i - 1) (suc (place_of s)) true (drop 1 s) (omega (arith, length-drop 1 s))
      ∙ ap (λ q. walk q true 0 (drop (width i - 1) (drop 1 s))) (let x : suc (place_of s) + (width i - 1) ≡ place_of (drop (width i) s) = omega (arith, length-drop (width i) s) in x)
      ∙ ap (walk (place_of (drop (width i) s)) true 0) (dropped s some))
    where
      dropped : (t : List ℕ) → 0 < length t → drop (width i - 1) (drop 1 t) ≡ drop (width i) t
      dropped [] l = absurd (omega arith)
      dropped (b ∷ bs) l = ap (λ k. drop k bs) (let x : width i - 1 ≡ length (operand_bytes i) = omega arith in x)

  pub left_wrong : (r : Refusal) → read_at (place_of s) s ≡ wrong r → left_in inside s ≡ Err (image_fault r (place_of s))
  left_wrong r e = left_read (wrong r) e
