-- Every message that is read fits.
use Rattle.std.proofs.Common.{◌≡◌, ℕ, Bool, true, false, cond, eqb, List, [], ◌∷◌, ℤ, Some, None, IsNone, Ok, Err, IfOk, Option, Result, sym, refl, ap, ◌∙◌, arith}
use Rattle.isa.specs.declared.refusal.Refusal.{Refusal}
use Rattle.isa.specs.declared.refusal.Refusal.TheVariants.{Letter}
use Rattle.isa.specs.declared.shape.Shape.{Shape}
use Rattle.isa.specs.declared.instruction.Action.{Action}
use Rattle.isa.specs.declared.instruction.Action.TheVariants.{Outputs, Divisor, InitialSpeed, SlewSpeed, Rates, Origin, IndexTo, Wait, Report, Index}
use Rattle.isa.specs.declared.instruction.Instruction.{Instruction}
use Rattle.isa.specs.declared.instruction.Instruction.TheVariants.{Go, Jump, JumpLow, Act}
use Rattle.isa.specs.declared.table.Entry.{Entry}
use Rattle.isa.specs.declared.table.Mismatch.{Mismatch}
use Rattle.isa.specs.declared.table.Mismatch.TheVariants.{UnknownLetter, OutOfRange}
use Rattle.isa.specs.Codes.{in_range, instruction_in}
use Rattle.isa.specs.Instructions.{letter_of}
use Rattle.isa.specs.Shapes.{operands}
use Rattle.isa.specs.Table.{entry, shape_of}
use Rattle.isa.proofs.RoundTrip.{by_letter, target_low, entry_in_range}
use Rattle.sequence.specs.Texts.{Token}
use Rattle.sequence.specs.Lines.{Operand, number, named, Pair, pair_of, value_of, aimed_at, ranged, formed, touching, coded}
use Rattle.sequence.specs.Lines as Lines
use Rattle.machine.specs.declared.message.Message.{Message}
use Rattle.machine.specs.Messages.{soft_stop_letter, barred, asked, asked_by, soft_stop, bare, lettered, worded}
use Rattle.machine.specs.Effects.{wait_of}
use Rattle.protocol.specs.Fits.{Fits}

abbrev pub FitsRead : Result Message Refusal → Type 0
FitsRead r = IfOk r Fits

-- what the table gives has the letter that was asked for
entry_letter : (x y : ℤ) (l : ℕ) (e : Entry) → entry l (operands x y) ≡ Ok e → letter_of e.instruction ≡ l
entry_letter x y =
    by_letter (λ l. (e : Entry) → entry l (operands x y) ≡ Ok e → letter_of e.instruction ≡ l)
    (λ e h. grind arith) (λ e h. grind arith) (λ e h. grind arith) (λ e h. grind arith) (λ e h. grind arith) (λ e h. grind arith) (λ e h. grind arith)
    (λ e h. grind arith) (λ e h. grind arith) (λ e h. grind arith) (λ e h. grind arith) (λ e h. cc) (λ e h. grind arith) (λ e h. grind arith)
    (λ l n e h. let z : Err UnknownLetter ≡ Ok e = sym (n x y) ∙ h in cc)

no_wait : (a : Action) → (letter_of {X = ℕ} (Act a) ≡ 87 → ⊥) → IsNone (wait_of a)
no_wait (Outputs n) h = refl
no_wait (Divisor n) h = refl
no_wait (InitialSpeed n) h = refl
no_wait (SlewSpeed n) h = refl
no_wait (Rates a d) h = refl
no_wait (Origin z) h = refl
no_wait (IndexTo z) h = refl
no_wait (Wait n) h = absurd (h refl)
no_wait Report h = refl
no_wait (Index d n) h = refl

asked_fits : (o : Operand) (i : Instruction ℕ) → in_range i ≡ true → (letter_of i ≡ 87 → ⊥) → FitsRead (asked (aimed_at o i))
asked_fits (number z) (Go p) r n = target_low (Go p) r p refl
asked_fits (named m) (Go p) r n = tt
asked_fits o (Jump p k) r n = tt
asked_fits o (JumpLow p k) r n = tt
asked_fits o (Act a) r n = (r, no_wait a n)

module _ (c b : ℕ) (n : b ≡ 87 → ⊥) where
  ranged_fits : (p : Pair) (x y : ℤ) (k : Result Entry Mismatch) → entry b (operands x y) ≡ k → FitsRead (asked_by (ranged bare p c k))
  ranged_fits p x y (Ok e) h = asked_fits p.first e.instruction (entry_in_range x y b e.instruction (ap instruction_in h)) (λ w. n (sym (entry_letter x y b e h) ∙ w))
  ranged_fits p x y (Err (OutOfRange s o)) h = tt
  ranged_fits p x y (Err UnknownLetter) h = tt

  formed_fits : (o : Option Pair) → FitsRead (asked_by (formed bare b c o))
  formed_fits None = tt
  formed_fits (Some p) = ranged_fits p (value_of p.first) (value_of p.second) _ refl

  shaped_fits : (ts : List Token) (o : Option Shape) → FitsRead (asked_by (Lines.lettered bare b c ts o))
  shaped_fits ts None = tt
  shaped_fits ts (Some s) = formed_fits (pair_of s ts)

-- of two results the first where a test holds, and where it doesn't the second
unless : (t : Bool) (r r' : Result Message Refusal) → FitsRead r → (t ≡ false → FitsRead r') → FitsRead (cond t r r')
unless true r r' h k = h
unless false r r' h k = k refl

no_bar : (b : ℕ) → barred b ≡ false → b ≡ 87 → ⊥
no_bar b h e = let t : barred b ≡ true = ap barred e in cc

soft_fits : (bs : List ℕ) (ts : List Token) → FitsRead (soft_stop bs ts)
soft_fits [] [] = tt
soft_fits [] (t ∷ ts) = tt
soft_fits (b ∷ bs) ts = tt

lettered_fits : (c : ℕ) (bs : List ℕ) (ts : List Token) → FitsRead (lettered c bs ts)
lettered_fits c [] ts = tt
lettered_fits c (b ∷ bs) ts =
    unless (eqb b soft_stop_letter) (soft_stop bs ts) _ (soft_fits bs ts) (λ _.
    unless (barred b) (Err Letter) (asked_by (coded bare c (b ∷ bs) ts)) tt (λ h. shaped_fits c b (no_bar b h) (touching c bs ts) (shape_of b)))

pub worded_fits : (ts : List Token) → FitsRead (worded ts)
worded_fits [] = tt
worded_fits (t ∷ ts) = lettered_fits t.column t.bytes ts
