use Rattle.subpage.proofs.Keys.{items_kept, key_at, last_is}
use Rattle.subpage.proofs.laws.keys.Goals as goal

pub returns-clause-kept : goal.returns-clause-kept
returns-clause-kept c = λ cpu items. items_kept cpu 0 items

pub returns-clause-greatest : goal.returns-clause-greatest
returns-clause-greatest c = λ cpu items i lt. key_at cpu 0 items i lt

pub returns-clause-last : goal.returns-clause-last
returns-clause-last c = last_is
