use Rattle.std.proofs.Common.{◌∙◌}
use Rattle.trace_args.specs.Command.{self_view}
use Rattle.trace_run.specs.Selftest.{self_test_line}
use Rattle.run_endings.proofs.Printed.{piece_printed, piece_unprinted}
use Rattle.trace_run.proofs.selftest.print_self_test.Goals as goal

pub returns-in-Ok-write_all : goal.returns-in-Ok-write_all
returns-in-Ok-write_all g c =
    piece_printed _ (self_test_line (self_view c.args.words.now)) _ _ _ c.in-Ok-write_all.ensures.gained (c.as_bytes.ensures ∙ c.in-Ok.ensures)

pub returns : goal.returns
returns g c =
    piece_unprinted _ (self_test_line (self_view c.args.words.now)) _ _ _ c.in-Err.ensures.prefix c.in-Err.ensures.cause.failed (c.as_bytes.ensures ∙ c.in-Ok.ensures)
