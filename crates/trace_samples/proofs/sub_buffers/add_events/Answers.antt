use Rattle.std.proofs.Common.{◌∙◌, arith}
use Rattle.trace_samples.proofs.Samples.{event_packable, goes_on}
use Rattle.trace_samples.proofs.sub_buffers.add_events.Goals as goal

pub add-requires : goal.add-requires
add-requires c = record { packable = event_packable c.loop-time.packer.layout _ _ c.loop-time.invariant.layout (omega (arith, (c.type_inv.times c.loop-time.time-index).fits)) c.payload_of-payload.ensures }

pub loop-time-preserved : goal.loop-time-preserved
loop-time-preserved c = record {
  layout = c.add.ensures.layout ∙ c.loop-time.invariant.layout;
  held = λ one. goes_on c.loop-time.packer.layout c.args.packer.now.held c.loop-time.packer.held c.add.new.self.held c.args.times.now c.payload_of-payload.result c.loop-time.time-index c.add.result
      c.loop-time.invariant.layout c.loop-time-test.true c.payload_of-payload.ensures (c.loop-time.invariant.held one) c.add.ensures.adds one;
}
