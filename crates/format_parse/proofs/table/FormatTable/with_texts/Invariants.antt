use Rattle.std.proofs.Common.{◌≡◌, drop}
use Rattle.format_parse.specs.Table.{with_formats, formats_in}
use Rattle.format_parse.proofs.table.FormatTable.with_texts.Given as goal

abbrev pub invariant-loop-text : goal.invariant-loop-text
invariant-loop-text l = with_formats l.table (formats_in l.fn.system (drop l.text-index l.fn.texts)) ≡ with_formats l.fn.self (formats_in l.fn.system l.fn.texts)
