use Rattle.std.proofs.Common.{arith}
use Rattle.text_lines.specs.Lines.{lines_left}
use Rattle.symbols.specs.Names.{spots_view}
use Rattle.symbols.proofs.ReadLines.{ends_behind, symbol_put}
use Rattle.symbols.proofs.read.put_first.Goals as goal

pub put-requires-clause-stands : goal.put-requires-clause-stands
put-requires-clause-stands c =
    let first = c.in-Some.ensures.first in
    record { ends = ends_behind c.args.text.now c.args.lines.now c.in-Some.symbol.found.from.now c.requires.ends first.ends; inside = omega (arith, first.inside) }

pub returns-in_ok-put-in-Some-clause-put : goal.returns-in_ok-put-in-Some-clause-put
returns-in_ok-put-in-Some-clause-put c =
    let symbol = c.in-Some.symbol in
    symbol_put c.args.form c.args.lines.now symbol.found.key symbol.found.from.now symbol.found.len (lines_left symbol.behind) (spots_view c.args.text.now c.args.spots.now.items)
    (spots_view c.args.text.now c.put.new.spots.items) c.in-Some.ensures.form c.in-Some.ensures.first c.in_ok-put-in-Some.ensures.value
