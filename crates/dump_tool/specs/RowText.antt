-- The line that a row of the summary stands for.
use Rattle.std.specs.Prelude.{ℕ, List}
use Rattle.dump_tool.specs.declared.summary.Row.{Row}
use Rattle.dump_tool.specs.declared.summary.Row.TheVariants.{Text, Count}
use Rattle.dump_tool.specs.Texts.{value_line, count_line}

abbrev pub row_text : Row → List ℕ
row_text (Text name value) = value_line name.now value.now
row_text (Count name count) = count_line name.now count
