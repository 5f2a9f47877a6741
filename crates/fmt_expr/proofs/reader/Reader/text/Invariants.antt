use Rattle.std.proofs.Common.{◌≡◌, ◌+◌, ◌-◌, ◌≤◌, ◌++◌, length}
use Rattle.fmt_expr.specs.Texts.{texts, texts_from}
use Rattle.fmt_expr.specs.SourceView.{source}
use Rattle.fmt_expr.proofs.reader.Reader.text.Given as goal

-- What was read, with the texts after it, is all texts.
abbrev pub invariant-loop-spelling : goal.invariant-loop-spelling
invariant-loop-spelling l =
    let s = source l.self in
    (texts (l.bytes.items ++ (texts_from s l.next).bytes) (l.next + (texts_from s l.next).len) ≡ texts (texts_from s l.at).bytes (l.at + (texts_from s l.at).len))
    × (l.at ≤ l.next) × (l.next ≤ length l.self.tokens.now)

abbrev pub decreases-loop-spelling : goal.decreases-loop-spelling
decreases-loop-spelling l = length l.self.tokens.now - l.next
