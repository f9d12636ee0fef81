use Rattle.relisting.proofs.RoundTrips.{relists, refuses_rightly}
use Rattle.lister.proofs.list.Goals as goal

pub returns-in_err-image-clause-exact : goal.returns-in_err-image-clause-exact
returns-in_err-image-clause-exact c = refuses_rightly c.args.image.now

pub returns-then-out-lt-LISTING_ROOM-clause-relisted : goal.returns-then-out-lt-LISTING_ROOM-clause-relisted
returns-then-out-lt-LISTING_ROOM-clause-relisted c = relists c.args.image.now (λ q. (c.type_inv.image q).fits)

pub returns-then-out-lt-LISTING_ROOM-clause-exact : goal.returns-then-out-lt-LISTING_ROOM-clause-exact
returns-then-out-lt-LISTING_ROOM-clause-exact c = refuses_rightly c.args.image.now

pub returns-clause-relisted : goal.returns-clause-relisted
returns-clause-relisted c = relists c.args.image.now (λ q. (c.type_inv.image q).fits)

pub returns-clause-exact : goal.returns-clause-exact
returns-clause-exact c = refuses_rightly c.args.image.now
