use Rattle.std.proofs.Common.{rules, ◌++◌, codes, false}
use Rattle.std.specs.Fmt.{decimal}
use Rattle.line_columns.specs.Columns.{zeros, time_text}
use Rattle.line_fronts.proofs.UsualFronts.{joined}
use Rattle.line_fronts.proofs.usual.write_when.Goals as goal

pub returns : goal.returns
returns c =
    joined c.args.text.now c.put_copy.new.text c.put_at.new.text c.put_time.new.text c.put_place.new.text
    (codes " [" ++ (zeros 3 (decimal c.args.cpu) ++ codes "] ")) (time_text false c.args.time) c.args.label.now
    (search rules) c.put_copy.ensures c.put_at.ensures c.put_time.ensures c.put_place.ensures
