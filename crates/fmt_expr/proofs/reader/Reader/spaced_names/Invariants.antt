use Rattle.std.proofs.Common.{◌≡◌, ◌+◌, ◌-◌, ◌++◌}
use Rattle.fmt_expr.specs.Types.{spaced_names}
use Rattle.fmt_expr.specs.SourceView.{source}
use Rattle.fmt_expr.proofs.reader.Reader.spaced_names.Given as goal

abbrev pub invariant-loop-place : goal.invariant-loop-place
invariant-loop-place l =
    let s = source l.self in
    l.words.items ++ spaced_names s (l.at + l.names - l.place) l.place ≡ spaced_names s l.names l.at
