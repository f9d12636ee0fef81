-- What the passes make of a text.
use Rattle.std.proofs.Common.{◌≡◌, ℕ, ◌+◌, ◌≤◌, Bool, true, ◌&&◌, eqb, leb, List, ◌++◌, length, take, drop, Ok, Result, sym, ap, ◌∙◌, arith, length-take-le}
use lib.Seq.{sets, sets-eq}
use Rattle.std.proofs.lemmas.List.{take-append-drop}
use Rattle.std.proofs.lemmas.Bool.{eq-eqb, le-leb, and_from}
use Rattle.isa.specs.declared.refusal.Refusal.TheVariants.{Size}
use Rattle.isa.specs.Checks.{and_then, require}
use Rattle.layout.proofs.Basics.{ok_then}
use Rattle.sequence.specs.declared.text.TextFault.{TextFault}
use Rattle.sequence.specs.Texts.{lines}
use Rattle.sequence.specs.Lines.{text_fault}
use Rattle.sequence.specs.Placings.{Plan, fresh}
use Rattle.sequence.specs.Translations.{planned, assembled, blank, sized_text, Translation, translation}
use Rattle.translator.specs.Answers.{translated}

abbrev done : Plan → List ℕ → Result Translation TextFault
done s im = Ok (record { image = im; labels = s.labels; count = s.count })

module _ (text : List ℕ) where
  abbrev second : Plan → Result Translation TextFault
  second s = and_then (assembled s 1 (lines text) 0 blank) (done s)

  abbrev passes : Result Translation TextFault
  passes = and_then (planned 1 (lines text) fresh) second

  module _ (image table : ℕ) where
    abbrev lent : Bool → Result Translation TextFault
    lent b = and_then (require b (text_fault Size 0 0)) (λ _. translation text)

    module _ (whole : sized_text text ≡ true) (exact : image ≡ 2048) (room : 64 ≤ table) where
      sized : translated text image table ≡ passes
      sized = ap lent (and_from _ _ (eq-eqb image 2048 exact) (le-leb 64 table room)) ∙ ap (λ b. and_then (require b (text_fault Size 0 0)) (λ _. passes)) whole

      module _ (s : Plan) (e : planned 1 (lines text) fresh ≡ Ok s) where
        first_done : translated text image table ≡ second s
        first_done = sized ∙ ap (λ r. and_then r second) e

        pub both_done : (im : List ℕ) → assembled s 1 (lines text) 0 blank ≡ Ok im → translated text image table ≡ Ok (record { image = im; labels = s.labels; count = s.count })
        both_done im k = first_done ∙ ap (λ r. and_then r (done s)) k

pub accepted : (text : List ℕ) (image table : ℕ) (t : Translation) → translated text image table ≡ Ok t → translation text ≡ Ok t
accepted text image table t e = (ok_then (require (eqb image 2048 && leb 64 table) (text_fault Size 0 0)) (λ _. translation text) t e).2

-- a table that past its front is as before has that front set in it
pub front_set : {A : Type 0} (n : ℕ) (before after : List A) → n ≤ length after → length after ≡ length before → drop n after ≡ drop n before → after ≡ sets before 0 (take n after)
front_set n before after h l e =
    let k = length-take-le n after h in
    sym (take-append-drop n after) ∙ ap (λ r. take n after ++ r) (e ∙ ap (λ m. drop m before) (let x : n ≡ 0 + length (take n after) = omega arith in x))
    ∙ sym (sets-eq (take n after) before 0 (omega arith))
