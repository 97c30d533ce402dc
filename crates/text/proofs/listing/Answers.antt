use Rattle.text.specs.Listing.{too_long, refused}
use Rattle.text.proofs.listing.Goals as goal

pub returns-then-is_long : goal.returns-then-is_long
returns-then-is_long c = record { listing_of = too_long c.if-is_long.true (rw c.new-text.ensures at c.push.ensures) }

pub returns-in-Err : goal.returns-in-Err
returns-in-Err c =
    let refusal = c.in-Err.ensures in
    record { listing_of = refused c.if-is_long.false _ _ refusal.err (rw refusal.same at c.push_refusal.ensures) }
