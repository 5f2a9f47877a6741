-- An item that borrows its payload, as plain data.
use Rattle.subpage.specs.declared.item.Item.{Item}
use Rattle.subpage.specs.declared.item.Item.TheVariants as code
use Rattle.subpage.specs.ItemData.{ItemData, EventAt, LossAt}

abbrev pub item_view : Item → ItemData
item_view (code.Event time payload) = EventAt time payload.now
item_view (code.Loss time count) = LossAt time count
