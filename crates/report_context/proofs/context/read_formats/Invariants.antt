use Rattle.std.proofs.Common.{◌≡◌, drop}
use Rattle.std.specs.List.{flat_map}
use Rattle.format_parse.specs.Table.{with_formats}
use Rattle.report_context.specs.Context.{formats_of}
use Rattle.report_context.proofs.Formats.{system_formats}
use Rattle.report_context.proofs.context.read_formats.Given as goal

abbrev pub invariant-loop-system : goal.invariant-loop-system
invariant-loop-system l = with_formats l.table (flat_map system_formats (drop l.system-index l.systems)) ≡ formats_of l.header
