-- What an optional answer tells of the test that made it.
use Rattle.std.proofs.Common.{◌≡◌, Bool, true, false, cond, Some, None, refl}

pub chosen : {A : Type 0} (t : Bool) (x y : A) → Some y ≡ cond t (Some x) None → (t ≡ true) × (y ≡ x)
chosen true x y e = (refl, cc)
chosen false x y e = cc

pub unchosen : {A : Type 0} (t : Bool) (x : A) → None ≡ cond t (Some x) None → t ≡ false
unchosen true x e = cc
unchosen false x e = refl
