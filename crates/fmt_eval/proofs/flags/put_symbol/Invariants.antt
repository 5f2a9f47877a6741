use Rattle.std.proofs.Common.{◌≡◌, drop}
use Rattle.trace_base.specs.TailView.{kept, lent}
use Rattle.fmt_eval.specs.Values.{given}
use Rattle.fmt_eval.specs.Entered.{rows_in}
use Rattle.fmt_eval.specs.Flags.{symbol_text}
use Rattle.fmt_eval.proofs.flags.put_symbol.Given as goal

abbrev pub invariant-loop-entry : goal.invariant-loop-entry
invariant-loop-entry l =
    (lent l.into ≡ lent l.fn.into) × (kept l.into ≡ kept l.fn.into)
    × (symbol_text l.value (rows_in (given l.rec) (drop l.entry-index l.entries)) ≡ symbol_text l.value (rows_in (given l.rec) l.entries))
