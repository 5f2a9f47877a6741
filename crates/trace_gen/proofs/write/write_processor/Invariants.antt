use Rattle.std.proofs.Common.{◌≡◌}
use Rattle.page_write.specs.Passes.{HasPages}
use Rattle.trace_gen.specs.Generated.{events_of}
use Rattle.trace_gen.specs.GeneratedHeader.{generated_layout}
use Rattle.trace_gen.specs.At.{IsAt}
use Rattle.trace_gen.proofs.write.write_processor.Given as goal

abbrev pub invariant-loop-number : goal.invariant-loop-number
invariant-loop-number g l = record {
  layout : l.packer.layout ≡ generated_layout;
  at : IsAt l.seed l.generator l._number;
  pages : HasPages generated_layout (g.O.Sink.written l.initial.out) (g.O.Sink.written l.out) (events_of l.seed l.cpu l._number) l.packer.held;
}
