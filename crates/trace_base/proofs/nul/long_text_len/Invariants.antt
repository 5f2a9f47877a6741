use Rattle.std.proofs.Common.{◌≡◌, ◌≤◌, ◌-◌}
use Rattle.std.specs.List.{prefix_len}
use Rattle.trace_base.specs.Kept.{is_letter}
use Rattle.trace_base.proofs.NulLemmas.{len_from}
use Rattle.trace_base.proofs.nul.long_text_len.Given as goal

abbrev pub invariant-loop-len : goal.invariant-loop-len
invariant-loop-len l = (l.len ≤ 16) × (prefix_len is_letter l.fn.bytes ≡ len_from l.fn.bytes l.len)

abbrev pub decreases-loop-len : goal.decreases-loop-len
decreases-loop-len l = 16 - l.len
