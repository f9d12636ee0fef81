use Rattle.std.proofs.Common.{◌≡◌, ◌+◌, ◌-◌, Ok, sym, ap, ◌∙◌, length, take, arith, rules}
use Rattle.isa.specs.declared.codec.Code.{Code}
use Rattle.isa.specs.declared.refusal.Refusal.TheVariants.{Range}
use Rattle.isa.specs.Codes.{encoded, in_range, code_of}
use Rattle.isa.proofs.RoundTrip.{code_bytes}
use Rattle.layout.proofs.Basics.{ok_cond, ok_ok}
use Rattle.translator.proofs.Writes.{put_sets}
use Rattle.translator.proofs.resolve.put.Goals as goal

pub returns-clause-image : goal.returns-clause-image
returns-clause-image c =
    let n = c.args.place in let i = c.args.instruction in let code = c.in_ok-bytes.field-0 in
    let s : code ≡ code_of i = sym (ok_ok _ _ (ok_cond (in_range i) (Ok (code_of i)) Range code (sym c.in_ok-bytes.ensures.value)).1) in
    let e : take code.len code.bytes ≡ encoded i = ap (λ (k : Code). take k.len k.bytes) s ∙ code_bytes i in
    let w : code.len ≡ length (encoded i) = ap (λ (k : Code). k.len) s in
    put_sets n (n + code.len - n) c.args.image.now c.copy_from_slice.new.self (encoded i) (c.copy_from_slice.ensures.after ∙ e) (omega (arith, w)) (omega (arith, w))
