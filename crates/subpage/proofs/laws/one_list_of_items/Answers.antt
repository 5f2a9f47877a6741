use Rattle.subpage.proofs.PageItems.{items_are, are_items}
use Rattle.subpage.proofs.laws.one_list_of_items.Goals as goal

pub returns : goal.returns
returns c = λ layout page xs. (are_items layout page xs, items_are layout page xs)
