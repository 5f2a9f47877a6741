use Rattle.std.proofs.Common.{rules, ◌<◌, length, arith, ap}
use Rattle.report_lists.specs.Lists.{entry, printk_line}
use Rattle.report_lists.proofs.Putting.{entry_put, entry_stopped}
use Rattle.report_lists.proofs.names.put_printk_formats.Goals as goal

pub returns-in_err-put_row-clause-puts : goal.returns-in_err-put_row-clause-puts
returns-in_err-put_row-clause-puts g c =
    let inside : c.loop-i.i < length c.args.symbols.now.printk = omega (arith, c.loop-i-test.true, c.printk_count-i-end.ensures) in
    entry_stopped printk_line c.args.symbols.now.printk c.loop-i.i _ _ _ _ _ _ _ c.from_residual.result inside c.from_residual.ensures.0 c.loop-i.invariant.held c.in_err-put_row.ensures.puts (ap (entry printk_line) c.printk.ensures)

pub loop-i-preserved : goal.loop-i-preserved
loop-i-preserved g c = record {
  held = entry_put printk_line c.args.symbols.now.printk c.loop-i.i _ _ _ _ _ _ _ c.loop-i.invariant.held c.in_ok-put_row.ensures.puts (ap (entry printk_line) c.printk.ensures);
  name = search rules;
  faults = search rules;
}
