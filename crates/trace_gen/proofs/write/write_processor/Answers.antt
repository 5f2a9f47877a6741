use Rattle.std.proofs.Common.{◌≡◌, ◌+◌, ◌++◌, ◌∷◌, [], subst, sym, ap, ◌∙◌, arith, List}
use Rattle.subpage.specs.ItemData.{ItemData, EventAt}
use Rattle.page_write.specs.Passes.{HasPages}
use Rattle.trace_gen.specs.Generated.{cpu_at, events_of}
use Rattle.trace_gen.specs.GeneratedHeader.{generated_layout}
use Rattle.trace_gen.proofs.Drawn.{times_small, events_more, events_same}
use Rattle.trace_gen.proofs.Written.{no_events, packable_as, more_pages, all_written}
use Rattle.trace_gen.proofs.Laid.{is_layout}
use Rattle.trace_gen.proofs.write.write_processor.Goals as goal

pub loop-number-init : goal.loop-number-init
loop-number-init g c = record {
  layout = c.requires.layout;
  at = c.new-generator.ensures;
  pages = no_events generated_layout (g.O.Sink.written c.args.out.now) c.args.seed c.args.cpu c.args.packer.now.held c.requires.empty;
}

pub make-event-requires-clause-times : goal.make-event-requires-clause-times
make-event-requires-clause-times g c = times_small c.args.seed c.loop-number._number c.loop-number.generator (omega (arith, c.ranges.events.fits)) c.loop-number.invariant.at

pub write_item-requires : goal.write_item-requires
write_item-requires g c = record {
  packable = packable_as generated_layout c.loop-number.packer.layout c.args.seed c.loop-number._number _ is_layout c.loop-number.invariant.layout (omega (arith, c.ranges.events.fits)) (c.make-event.ensures.event c.args.seed c.loop-number._number c.loop-number.invariant.at);
}

pub loop-number-preserved-then-event-cpu : goal.loop-number-preserved-then-event-cpu
loop-number-preserved-then-event-cpu g c =
    let seed = c.args.seed in
    let n = c.loop-number._number in
    let before = c.loop-number.invariant in
    let is : c.make-event.result.cpu ≡ cpu_at seed n = c.make-event.ensures.cpu seed n before.at in
    let other = events_same seed c.args.cpu n (λ e. c.if-event-cpu.true (is ∙ e)) in
    record {
      layout = before.layout;
      at = c.make-event.ensures.at seed n before.at;
      pages = subst (λ (xs : List ItemData). HasPages generated_layout (g.O.Sink.written c.args.out.now) (g.O.Sink.written c.loop-number.out) xs c.loop-number.packer.held) (sym other) before.pages;
    }

pub loop-number-preserved : goal.loop-number-preserved
loop-number-preserved g c =
    let seed = c.args.seed in
    let n = c.loop-number._number in
    let before = c.loop-number.invariant in
    let is : c.make-event.result.cpu ≡ cpu_at seed n = c.make-event.ensures.cpu seed n before.at in
    let more = events_more seed c.args.cpu n (sym is ∙ c.if-event-cpu.false) in
    let event = c.make-event.ensures.event seed n before.at in
    let now = c.in_ok-write_item.ensures in
    record {
      layout = c.write_item.ensures.layout ∙ before.layout;
      at = c.make-event.ensures.at seed n before.at;
      pages = more_pages generated_layout c.loop-number.packer.layout (g.O.Sink.written c.args.out.now) (g.O.Sink.written c.loop-number.out) (g.O.Sink.written c.write_item.new.out)
          (events_of seed c.args.cpu n) (events_of seed c.args.cpu (n + 1)) c.loop-number.packer.held c.write_item.new.packer.held (EventAt c.make-event.result.time c.make-event.result.payload)
          before.layout (more ∙ ap (λ x. events_of seed c.args.cpu n ++ x ∷ []) (sym event)) now.goes_on before.pages;
    }

pub returns-clause-gained : goal.returns-clause-gained
returns-clause-gained g c =
    let n : c.loop-number._number ≡ c.args.events = omega arith in
    all_written c.write_last.result generated_layout c.loop-number.packer.layout (g.O.Sink.written c.args.out.now) (g.O.Sink.written c.loop-number.out) (g.O.Sink.written c.write_last.new.out)
    (events_of c.args.seed c.args.cpu c.loop-number._number) (events_of c.args.seed c.args.cpu c.args.events) c.loop-number.packer.held c.loop-number.invariant.layout (ap (events_of c.args.seed c.args.cpu) n) c.write_last.ensures.ends c.loop-number.invariant.pages
