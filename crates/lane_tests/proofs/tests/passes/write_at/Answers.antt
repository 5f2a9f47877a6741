use Rattle.lane_tests.proofs.tests.passes.write_at.Goals as goal

pub add-requires-clause-packable : goal.add-requires-clause-packable
add-requires-clause-packable c = c.event-item.ensures c.layout-layout.result

pub write_item-requires : goal.write_item-requires
write_item-requires c = record { packable = c.event-item.ensures c.loop-time.packer.layout }
