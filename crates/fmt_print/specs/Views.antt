-- Values of the code as plain data.
use Rattle.std.specs.Prelude.{map}
use Rattle.fmt_print.specs.ArgumentView.{argument_tree}
use Rattle.fmt_print.specs.declared.arguments.Conversion.{Conversion}
use Rattle.fmt_print.specs.Arguments as plain

abbrev pub taken_view : Conversion → plain.Taken
taken_view c = (c.form, argument_tree c.argument.now, map argument_tree c.rest.now)
