-- What a search of the table and a test of the kinds come to.
use Rattle.std.proofs.Common.{◌≡◌, ℕ, zero, suc, ◌+◌, ◌≤◌, Bool, true, false, cond, ◌&&◌, List, [], ◌∷◌, length, get_or, take, drop, Some, None, Option, refl, ap, ◌∙◌, arith, drop-cons}
use Rattle.std.specs.List.{find, list_all}
use Rattle.std.specs.Option.{option_map, MatchOption, IsSomeAnd}
use Rattle.std.specs.Str.{bytes_eq}
use Rattle.isa.specs.Places.{every}
use Rattle.sequence.specs.declared.text.Label.{Label}
use Rattle.sequence.specs.Placings.{place_in}

-- the first label of a name, and its place
pub place_found : (ls : List Label) (n : List ℕ) → option_map (λ (l : Label). l.place) (find (λ (l : Label). bytes_eq l.name n) ls) ≡ place_in ls n
place_found [] n = refl
place_found (l ∷ ls) n = go (bytes_eq l.name n) (place_found ls n)
  where
    go : (t : Bool) → option_map (λ (l : Label). l.place) (find (λ (l : Label). bytes_eq l.name n) ls) ≡ place_in ls n → option_map (λ (l : Label). l.place) (cond t (Some l) (find (λ (l : Label). bytes_eq l.name n) ls)) ≡ cond t (Some l.place) (place_in ls n)
    go true h = refl
    go false h = h

-- a test of n elements from p on
pub every_all : {A : Type 0} (f : A → Bool) (d : A) (xs : List A) (n p : ℕ) → p + n ≤ length xs → list_all f (take n (drop p xs)) ≡ every (λ q. f (get_or xs q d)) p n
every_all f d xs zero p h = refl
every_all f d xs (suc n) p h =
    ap (λ ys. list_all f (take (suc n) ys)) (drop-cons xs p d (omega arith)) ∙ ap (λ b. f (get_or xs p d) && b) (every_all f d xs n (suc p) (omega arith))

-- a value that is there, mapped twice
pub mapped : {A B C : Type 0} (v : A → B) (f : B → C) (P : A → C → Type 0) → ((x : A) (y : C) → P x y → y ≡ f (v x)) → (o : Option A) (r : Option C) → MatchOption o (r ≡ None) (λ x. IsSomeAnd r (P x)) → r ≡ option_map f (option_map v o)
mapped v f P h None r m = m
mapped v f P h (Some x) None m = absurd m
mapped v f P h (Some x) (Some y) m = ap Some (h x y m)
