use Rattle.std.proofs.Common.{ap, Some, arith}
use Rattle.trace_gen.proofs.Laid.{AreAppended, some_is, data_laid, parts_laid}
use Rattle.trace_gen.proofs.write.write_data.Goals as goal

pub returns-clause-written : goal.returns-clause-written
returns-clause-written c =
    let appended : AreAppended c.args.seed c.args.events c.args.sub_buffers.now.kept.items c.append_processor.new.sub_buffers.kept.items c.append_processor-2.new.sub_buffers.kept.items c.append_processor-3.new.sub_buffers.kept.items c.append_processor-4.new.sub_buffers.kept.items = record {
      none = some_is _ _ c.requires;
      first = c.in_ok-first.ensures.gained;
      second = c.in_ok-second.ensures.gained;
      third = c.in_ok-third.ensures.gained;
      fourth = c.in_ok-fourth.ensures.gained;
    } in
    ap Some (data_laid c.args.seed c.args.events _ _ _ _ _ appended)

pub returns-clause-parts : goal.returns-clause-parts
returns-clause-parts c =
    let appended : AreAppended c.args.seed c.args.events c.args.sub_buffers.now.kept.items c.append_processor.new.sub_buffers.kept.items c.append_processor-2.new.sub_buffers.kept.items c.append_processor-3.new.sub_buffers.kept.items c.append_processor-4.new.sub_buffers.kept.items = record {
      none = some_is _ _ c.requires;
      first = c.in_ok-first.ensures.gained;
      second = c.in_ok-second.ensures.gained;
      third = c.in_ok-third.ensures.gained;
      fourth = c.in_ok-fourth.ensures.gained;
    } in
    parts_laid c.args.seed c.args.events _ _ _ _ _ c.in_ok-first.first c.in_ok-second.second c.in_ok-third.third c.in_ok-fourth.fourth (omega (arith, c.ranges.events.fits)) appended
    (c.in_ok-first.ensures.offset, c.in_ok-first.ensures.size) (c.in_ok-second.ensures.offset, c.in_ok-second.ensures.size)
    (c.in_ok-third.ensures.offset, c.in_ok-third.ensures.size) (c.in_ok-fourth.ensures.offset, c.in_ok-fourth.ensures.size)
