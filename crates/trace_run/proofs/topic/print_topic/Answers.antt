use Rattle.std.proofs.Common.{◌∙◌}
use Rattle.trace_args.specs.Topics.{topic_text}
use Rattle.run_endings.proofs.Printed.{piece_printed, piece_unprinted}
use Rattle.trace_run.proofs.topic.print_topic.Goals as goal

pub returns-in-Ok : goal.returns-in-Ok
returns-in-Ok g c =
    piece_printed _ (topic_text c.args.topic) _ _ _ c.in-Ok.ensures.gained (c.as_bytes.ensures.value ∙ c.text.ensures)

pub returns-in-Err : goal.returns-in-Err
returns-in-Err g c =
    piece_unprinted _ (topic_text c.args.topic) _ _ _ c.in-Err.ensures.prefix c.in-Err.ensures.cause.failed (c.as_bytes.ensures.value ∙ c.text.ensures)
