use Rattle.std.proofs.Common.{refl, ap, ◌∙◌, arith}
use borrow.Rule.Slice.PartMut.{put_mid}
use Rattle.lister.proofs.Writing.{put_is}
use Rattle.lister.proofs.print.Listing.push.Goals as goal

pub returns : goal.returns
returns c =
    let l = c.args.self.now in
    record { same = refl; output = ap (put_mid l.len _ l.out.now) c.copy_from_slice.ensures.after ∙ put_is c.args.text.now l.out.now l.len _ (omega arith) c.requires; len = refl }
