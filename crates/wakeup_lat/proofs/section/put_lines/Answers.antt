use Rattle.std.proofs.Common.{rules, ◌<◌, length, arith}
use Rattle.trace_outside.proofs.PendingLemmas.{parts_stopped}
use Rattle.wakeup_lat.specs.Section.{pair_line}
use Rattle.wakeup_lat.proofs.section.put_lines.Goals as goal

pub returns-in_err-put_line : goal.returns-in_err-put_line
returns-in_err-put_line g c =
    let inside : c.loop-pair.pair-index < length c.args.pairs.now = omega arith in
    record {
      puts = parts_stopped (pair_line c.args.context.now) c.args.pairs.now c.loop-pair.pair-index _ _ _ _ _ _ _ c.from_residual.result inside c.from_residual.ensures.0
          c.loop-pair.invariant.held c.in_err-put_line.ensures.puts.puts;
      name = search rules;
      cause = search rules;
    }
