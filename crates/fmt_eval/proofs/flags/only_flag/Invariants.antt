use Rattle.std.proofs.Common.{◌≡◌, drop}
use Rattle.std.specs.Prelude.{false}
use Rattle.fmt_eval.specs.Values.{given}
use Rattle.fmt_eval.specs.Entered.{rows_in}
use Rattle.fmt_eval.specs.Flags.{flag_pieces}
use Rattle.fmt_eval.proofs.flags.only_flag.Given as goal

abbrev pub invariant-loop-entry : goal.invariant-loop-entry
invariant-loop-entry l =
    flag_pieces l.bits l.bits false (rows_in (given l.rec) (drop l.entry-index l.entries)) ≡ flag_pieces l.bits l.bits false (rows_in (given l.rec) l.entries)
