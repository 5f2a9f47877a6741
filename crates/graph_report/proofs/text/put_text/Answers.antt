use Rattle.std.specs.Prelude.{codes}
use Rattle.graph_report.specs.CallText.{indent_text, duration_column}
use Rattle.graph_report.proofs.Spaces.{in_parts}
use Rattle.graph_report.proofs.text.put_text.Goals as goal

pub returns-in-Entry-clause-value : goal.returns-in-Entry-clause-value
returns-in-Entry-clause-value c =
    rw c.in-Entry.is
    (in_parts _ _ _ _ _ (duration_column c.in-Entry.duration) (codes " | ") (indent_text c.in-Entry.depth) _ c.prefix.ensures.value c.put_middle.ensures.value c.put_entry_word.ensures.value)

pub returns-in-Exit-clause-value : goal.returns-in-Exit-clause-value
returns-in-Exit-clause-value c =
    rw c.in-Exit.is
    (in_parts _ _ _ _ _ (duration_column c.in-Exit.duration) (codes " | ") (indent_text c.in-Exit.depth) _ c.prefix-in-Exit.ensures.value c.put_middle-in-Exit.ensures.value c.put_exit_word.ensures.value)
