use Rattle.std.proofs.Common.{refl}
use Rattle.listed.proofs.source.Source.list_block.Goals as goal

pub returns-clause-still_listed : goal.returns-clause-still_listed
returns-clause-still_listed g c =
    c.list-4.ensures.more _ refl (c.list-3.ensures.more _ refl (c.list-2.ensures.more _ refl (c.list.ensures.more _ refl c.requires.listed)))
