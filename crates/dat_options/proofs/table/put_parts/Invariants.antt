use Rattle.std.proofs.Common.{take, ◌≡◌, ◌*◌}
use Rattle.dat_options.specs.Table.{table_text}
use Rattle.dat_options.proofs.table.put_parts.Given as goal

abbrev pub invariant-loop-i : goal.invariant-loop-i
invariant-loop-i l = take (16 * l.i) l.into ≡ table_text l.order (take l.i l.parts)
