use Rattle.std.proofs.Common.{◌≡◌, ◌++◌, true, drop, map}
use Rattle.page_write.specs.PageBytes.{one_page}
use Rattle.trace_samples.specs.SampleLayout.{sample_layout}
use Rattle.trace_samples.specs.Told.{sample_event}
use Rattle.trace_samples.proofs.sub_buffers.add_events.Given as goal

abbrev pub invariant-loop-time : goal.invariant-loop-time
invariant-loop-time l = record {
  layout : l.packer.layout ≡ sample_layout;
  held : one_page sample_layout (l.fn.packer.held ++ map sample_event l.times) ≡ true
      → l.packer.held ++ map sample_event (drop l.time-index l.times) ≡ l.fn.packer.held ++ map sample_event l.times;
}
