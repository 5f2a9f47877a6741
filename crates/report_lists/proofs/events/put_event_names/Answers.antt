use Rattle.std.proofs.Common.{rules, ◌<◌, length, arith, ap}
use Rattle.report_lists.specs.Lists.{entry, name_line}
use Rattle.report_lists.proofs.Putting.{entry_put, entry_stopped}
use Rattle.report_lists.proofs.events.put_event_names.Goals as goal

pub returns-in_err-put_name-clause-puts : goal.returns-in_err-put_name-clause-puts
returns-in_err-put_name-clause-puts g c =
    let inside : c.loop-i.i < length c.args.formats.now = omega (arith, c.loop-i-test.true, c.len-i-end.ensures.count) in
    entry_stopped name_line c.args.formats.now c.loop-i.i _ _ _ _ _ _ _ c.from_residual.result inside c.from_residual.ensures.0 c.loop-i.invariant.held c.in_err-put_name.ensures.puts (ap (entry name_line) c.get.ensures)

pub loop-i-preserved : goal.loop-i-preserved
loop-i-preserved g c = record {
  held = entry_put name_line c.args.formats.now c.loop-i.i _ _ _ _ _ _ _ c.loop-i.invariant.held c.in_ok-put_name.ensures.puts (ap (entry name_line) c.get.ensures);
  name = search rules;
  faults = search rules;
}
