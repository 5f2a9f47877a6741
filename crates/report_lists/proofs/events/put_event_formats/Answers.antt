use Rattle.std.proofs.Common.{rules, ◌<◌, length, arith, ap}
use Rattle.report_lists.specs.Lists.{entry, format_lines}
use Rattle.report_lists.proofs.Putting.{entry_put, entry_stopped}
use Rattle.report_lists.proofs.events.put_event_formats.Goals as goal

pub returns-in_err-put_format-clause-puts : goal.returns-in_err-put_format-clause-puts
returns-in_err-put_format-clause-puts g c =
    let inside : c.loop-i.i < length c.args.formats.now = omega (arith, c.loop-i-test.true, c.len-i-end.ensures.count) in
    entry_stopped format_lines c.args.formats.now c.loop-i.i _ _ _ _ _ _ _ c.from_residual.result inside c.from_residual.ensures.0 c.loop-i.invariant.held c.in_err-put_format.ensures.puts (ap (entry format_lines) c.get.ensures)

pub loop-i-preserved : goal.loop-i-preserved
loop-i-preserved g c = record {
  held = entry_put format_lines c.args.formats.now c.loop-i.i _ _ _ _ _ _ _ c.loop-i.invariant.held c.in_ok-put_format.ensures.puts (ap (entry format_lines) c.get.ensures);
  name = search rules;
  faults = search rules;
}
