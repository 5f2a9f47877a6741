use Rattle.std.proofs.Common.{refl}
use Rattle.dump_tool.specs.Dump.{dump_text}
use Rattle.run_endings.proofs.Printed.{piece_unprinted}
use Rattle.trace_run.proofs.dump.print_dump.Goals as goal

pub returns : goal.returns
returns g c =
    piece_unprinted _ (dump_text c.args.words.now.input.now c.args.words.now.sections c.args.header.now) _ _ _ c.in-Err.ensures.prefix c.in-Err.ensures.cause.failed refl
