use Rattle.safety.proofs.Testing.{tells_both}
use Rattle.safety.proofs.tests.both_hold.Goals as goal

pub returns-then-posts_zero : goal.returns-then-posts_zero
returns-then-posts_zero c =
    let posts = rw c.sizes.ensures.value at c.posts_zero.ensures in
    let edges = rw (c.after.ensures.value, c.before-then-posts_zero.ensures.value) at c.edges_bounded.ensures in
    tells_both posts c.if-posts_zero.true edges
