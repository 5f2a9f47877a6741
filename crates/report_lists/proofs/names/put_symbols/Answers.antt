use Rattle.std.proofs.Common.{rules, ◌<◌, length, arith, ap}
use Rattle.report_lists.specs.Lists.{entry, symbol_line}
use Rattle.report_lists.proofs.Putting.{entry_put, entry_stopped}
use Rattle.report_lists.proofs.names.put_symbols.Goals as goal

pub returns-in_err-put_row-clause-puts : goal.returns-in_err-put_row-clause-puts
returns-in_err-put_row-clause-puts g c =
    let inside : c.loop-i.i < length c.args.symbols.now.symbols = omega (arith, c.loop-i-test.true, c.symbol_count-i-end.ensures) in
    entry_stopped symbol_line c.args.symbols.now.symbols c.loop-i.i _ _ _ _ _ _ _ c.from_residual.result inside c.from_residual.ensures.0 c.loop-i.invariant.held c.in_err-put_row.ensures.puts (ap (entry symbol_line) c.symbol.ensures)

pub loop-i-preserved : goal.loop-i-preserved
loop-i-preserved g c = record {
  held = entry_put symbol_line c.args.symbols.now.symbols c.loop-i.i _ _ _ _ _ _ _ c.loop-i.invariant.held c.in_ok-put_row.ensures.puts (ap (entry symbol_line) c.symbol.ensures);
  name = search rules;
  faults = search rules;
}
