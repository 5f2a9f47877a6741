use Rattle.std.proofs.Common.{◌∙◌, ap, List}
use Rattle.format_parse.specs.declared.format.EventFormat.{EventFormat}
use Rattle.symbols.specs.Maps.{Maps}
use Rattle.report_context.specs.Context.{formats_of, symbols_of}
use Rattle.file_report.specs.Lists.{list_text}
use Rattle.run_endings.proofs.Printed.{piece_unprinted}
use Rattle.file_report.proofs.list.print_list.Goals as goal

pub returns : goal.returns
returns g c =
    piece_unprinted _ (list_text (formats_of c.args.header) (symbols_of c.args.header) c.args.list) _ _ _ c.in-Err.ensures.prefix c.in-Err.ensures.cause.failed
    (ap (λ (formats : List EventFormat). list_text formats c.in-Ok-read_symbols.symbols c.args.list) c.in-Ok.ensures
    ∙ ap (λ (symbols : Maps). list_text (formats_of c.args.header) symbols c.args.list) c.in-Ok-read_symbols.ensures)
