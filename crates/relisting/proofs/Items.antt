-- Items over a place.
use Rattle.std.proofs.Common.{ℕ, ◌<◌, ◌≤◌, ◌⊎◌, List, [], ◌∷◌, refl, subst, inl, inr, ⊎_elim, arith}
use Rattle.std.proofs.lemmas.Bool.{cases_lt}
use Rattle.sequence.specs.Layouts.{Item, In, end, covers}

-- some of them covers the place, or none does
pub covered : (is : List Item) (q : ℕ) → ((i : Item) × In i is × covers i q) ⊎ ((i : Item) → In i is → covers i q → ⊥)
covered [] q = inr (λ i m c. m)
covered (j ∷ is) q =
    ⊎_elim (λ (f : (i : Item) × In i is × covers i q). inl (f.0, inr f.1, f.2))
    (λ none. ⊎_elim (λ (a : q < j.place). inr (without none (λ c. omega arith)))
    (λ (a : j.place ≤ q). ⊎_elim (λ (b : q < end j). inl (j, inl refl, (a, b))) (λ (b : end j ≤ q). inr (without none (λ c. omega arith))) (cases_lt q (end j)))
    (cases_lt q j.place))
    (covered is q)
  where
    without : ((i : Item) → In i is → covers i q → ⊥) → (covers j q → ⊥) → (i : Item) → In i (j ∷ is) → covers i q → ⊥
    without none off i (inl e) c = off (subst (λ x. covers x q) e c)
    without none off i (inr m) c = none i m c
