use Rattle.symbols.proofs.Forms.{when_found, when_none, symbol_is, symbol_again}
use Rattle.symbols.specs.LineForms.{IsSymbolLine}
use Rattle.symbols.specs.Forms.{symbol_line}
use Rattle.symbols.proofs.lines.symbol_line.Goals as goal

pub returns-clause-found : goal.returns-clause-found
returns-clause-found c = when_found IsSymbolLine symbol_line symbol_is c.args.line.now c.read_symbol.result c.read_symbol.ensures.exact

pub returns-clause-none : goal.returns-clause-none
returns-clause-none c = when_none IsSymbolLine symbol_line symbol_again c.args.line.now c.read_symbol.result c.read_symbol.ensures.exact
