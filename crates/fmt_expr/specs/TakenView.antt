-- What was read, as plain data.
use Rattle.fmt_expr.specs.Parsing.{Found, found, Valued, valued, Listed, listed}
use Rattle.std.specs.Prelude.{ℕ}
use Rattle.fmt_expr.specs.Source.{Source}
use Rattle.fmt_expr.specs.Texts.{Joined, joined_text}
use Rattle.fmt_expr.specs.Types.{TypeName, type_name, words_at}
use Rattle.fmt_expr.specs.TreeView.{tree_of, entries_of}
use Rattle.fmt_expr.specs.declared.taken.Taken.{Taken}
use Rattle.fmt_expr.specs.declared.taken.TakenText.{TakenText}
use Rattle.fmt_expr.specs.declared.taken.ParsedType.{ParsedType}
use Rattle.fmt_expr.specs.declared.taken.TakenEntry.{TakenEntry}
use Rattle.fmt_expr.specs.declared.taken.TakenEntries.{TakenEntries}

abbrev pub taken : Taken → Found
taken t = found (tree_of t.expr.value) t.nest t.next

abbrev pub taken_entry : TakenEntry → Valued
taken_entry e = valued (tree_of e.value.value) e.text e.nest e.next

abbrev pub taken_entries : TakenEntries → Listed
taken_entries r = listed (entries_of r.entries.items) r.nest r.next

abbrev pub taken_text : TakenText → Joined
taken_text t = joined_text t.text t.next

-- the type whose names begin at a place
abbrev pub type_seen : Source → ℕ → ParsedType → TypeName
type_seen s i t = type_name (words_at s i t.names) t.stars t.next
